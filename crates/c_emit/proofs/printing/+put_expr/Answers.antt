use Rattle.std.proofs.Common.{◌≡◌, ◌++◌, ℕ, List, ap, sym, ◌∙◌, codes}
use Rattle.c_run.specs.declared.tree.CExpr.{CExpr}
use Rattle.c_emit.specs.Text.{expr_text, op_text, cmp_text, byte_text}
use Rattle.c_emit.proofs.Chain.{chain}
use Rattle.c_emit.proofs.Texts.{text_two, text_test, text_choose, text_byte}
use Rattle.c_emit.proofs.printing.+put_expr.Goals as goal

grown : (o n t : List ℕ) (e x : CExpr) → e ≡ x → expr_text x ≡ t → n ≡ o ++ t → n ≡ o ++ expr_text e
grown o n t e x is text h = h ∙ ap (λ (s : List ℕ). o ++ s) (sym text ∙ sym (ap expr_text is))

-- a piece that is told by what it is
told : (o p x : List ℕ) {n : List ℕ} → n ≡ o ++ p → p ≡ x → n ≡ o ++ x
told o p x h e = h ∙ ap (λ (s : List ℕ). o ++ s) e

pub returns-in_ok-extend_from_slice-in-Two-5-clause-text : goal.returns-in_ok-extend_from_slice-in-Two-5-clause-text
returns-in_ok-extend_from_slice-in-Two-5-clause-text t c =
    let o = c.args.out.now.items in
    let op = op_text c.in-Two.op in
    let a = expr_text c.in-Two.a in
    let b = expr_text c.in-Two.b in
    let s = codes " " in
    let end = codes ")" in
    grown o _ (codes "(" ++ (a ++ (s ++ (op ++ (s ++ (b ++ end)))))) c.args.e.now _ c.in-Two.is (text_two c.in-Two.op c.in-Two.a c.in-Two.b)
    (chain o (codes "(") (a ++ (s ++ (op ++ (s ++ (b ++ end))))) c.in_ok-extend_from_slice-in-Two.ensures.items
    (chain c.extend_from_slice-in-Two.new.self.items a (s ++ (op ++ (s ++ (b ++ end)))) (c.in_ok-put_expr-in-Two.ensures.text ∙ ap (λ (x : CExpr). c.extend_from_slice-in-Two.new.self.items ++ expr_text x) c.get.ensures)
    (chain c.put_expr.new.out.items s (op ++ (s ++ (b ++ end))) c.in_ok-extend_from_slice-in-Two-2.ensures.items
    (chain c.extend_from_slice-in-Two-2.new.self.items op (s ++ (b ++ end)) (told c.extend_from_slice-in-Two-2.new.self.items c.op_text.result.now op c.in_ok-extend_from_slice-in-Two-3.ensures.items c.op_text.ensures)
    (chain c.extend_from_slice-in-Two-3.new.self.items s (b ++ end) c.in_ok-extend_from_slice-in-Two-4.ensures.items
    (chain c.extend_from_slice-in-Two-4.new.self.items b end (c.in_ok-put_expr-in-Two-2.ensures.text ∙ ap (λ (x : CExpr). c.extend_from_slice-in-Two-4.new.self.items ++ expr_text x) c.get-in-Two.ensures) c.in_ok-extend_from_slice-in-Two-5.ensures.items))))))

pub returns-in_ok-extend_from_slice-in-Test-5-clause-text : goal.returns-in_ok-extend_from_slice-in-Test-5-clause-text
returns-in_ok-extend_from_slice-in-Test-5-clause-text t c =
    let o = c.args.out.now.items in
    let op = cmp_text c.in-Test.cmp in
    let a = expr_text c.in-Test.a in
    let b = expr_text c.in-Test.b in
    let s = codes " " in
    let end = codes ")" in
    grown o _ (codes "(uint64_t)(" ++ (a ++ (s ++ (op ++ (s ++ (b ++ end)))))) c.args.e.now _ c.in-Test.is (text_test c.in-Test.cmp c.in-Test.a c.in-Test.b)
    (chain o (codes "(uint64_t)(") (a ++ (s ++ (op ++ (s ++ (b ++ end))))) c.in_ok-extend_from_slice-in-Test.ensures.items
    (chain c.extend_from_slice-in-Test.new.self.items a (s ++ (op ++ (s ++ (b ++ end)))) (c.in_ok-put_expr-in-Test.ensures.text ∙ ap (λ (x : CExpr). c.extend_from_slice-in-Test.new.self.items ++ expr_text x) c.get-in-Test.ensures)
    (chain c.put_expr-in-Test.new.out.items s (op ++ (s ++ (b ++ end))) c.in_ok-extend_from_slice-in-Test-2.ensures.items
    (chain c.extend_from_slice-in-Test-2.new.self.items op (s ++ (b ++ end)) (told c.extend_from_slice-in-Test-2.new.self.items c.cmp_text.result.now op c.in_ok-extend_from_slice-in-Test-3.ensures.items c.cmp_text.ensures)
    (chain c.extend_from_slice-in-Test-3.new.self.items s (b ++ end) c.in_ok-extend_from_slice-in-Test-4.ensures.items
    (chain c.extend_from_slice-in-Test-4.new.self.items b end (c.in_ok-put_expr-in-Test-2.ensures.text ∙ ap (λ (x : CExpr). c.extend_from_slice-in-Test-4.new.self.items ++ expr_text x) c.get-in-Test-2.ensures) c.in_ok-extend_from_slice-in-Test-5.ensures.items))))))

pub returns-in_ok-put_byte-in-Byte-clause-text : goal.returns-in_ok-put_byte-in-Byte-clause-text
returns-in_ok-put_byte-in-Byte-clause-text t c =
    let o = c.args.out.now.items in
    let cast = codes "(uint64_t)" in
    let byte = byte_text c.in-Byte.d c.in-Byte.x in
    grown o _ (cast ++ byte) c.args.e.now _ c.in-Byte.is (text_byte c.in-Byte.d c.in-Byte.x)
    (chain o cast byte c.in_ok-extend_from_slice-in-Byte.ensures.items c.in_ok-put_byte-in-Byte.ensures.text)

pub returns-in_ok-extend_from_slice-in-Choose-4-clause-text : goal.returns-in_ok-extend_from_slice-in-Choose-4-clause-text
returns-in_ok-extend_from_slice-in-Choose-4-clause-text t c =
    let o = c.args.out.now.items in
    let x = expr_text c.in-Choose.c in
    let a = expr_text c.in-Choose.a in
    let b = expr_text c.in-Choose.b in
    let s = codes " ? " in
    let r = codes " : " in
    let end = codes ")" in
    grown o _ (codes "(" ++ (x ++ (s ++ (a ++ (r ++ (b ++ end)))))) c.args.e.now _ c.in-Choose.is (text_choose c.in-Choose.c c.in-Choose.a c.in-Choose.b)
    (chain o (codes "(") (x ++ (s ++ (a ++ (r ++ (b ++ end))))) c.in_ok-extend_from_slice-in-Choose.ensures.items
    (chain c.extend_from_slice-in-Choose.new.self.items x (s ++ (a ++ (r ++ (b ++ end)))) (c.in_ok-put_expr-in-Choose.ensures.text ∙ ap (λ (x : CExpr). c.extend_from_slice-in-Choose.new.self.items ++ expr_text x) c.get-in-Choose.ensures)
    (chain c.put_expr-in-Choose.new.out.items s (a ++ (r ++ (b ++ end))) c.in_ok-extend_from_slice-in-Choose-2.ensures.items
    (chain c.extend_from_slice-in-Choose-2.new.self.items a (r ++ (b ++ end)) (c.in_ok-put_expr-in-Choose-2.ensures.text ∙ ap (λ (x : CExpr). c.extend_from_slice-in-Choose-2.new.self.items ++ expr_text x) c.get-in-Choose-2.ensures)
    (chain c.put_expr-in-Choose-2.new.out.items r (b ++ end) c.in_ok-extend_from_slice-in-Choose-3.ensures.items
    (chain c.extend_from_slice-in-Choose-3.new.self.items b end (c.in_ok-put_expr-in-Choose-3.ensures.text ∙ ap (λ (x : CExpr). c.extend_from_slice-in-Choose-3.new.self.items ++ expr_text x) c.get-in-Choose-3.ensures) c.in_ok-extend_from_slice-in-Choose-4.ensures.items))))))
