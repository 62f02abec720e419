use Rattle.std.proofs.Common.{◌≡◌, ◌++◌, sym, subst, codes}
use Rattle.c_run.specs.declared.tree.CStmt.{CStmt}
use Rattle.c_emit.specs.Text.{expr_text, byte_text, stmt_text}
use Rattle.c_emit.proofs.Chain.{chain}
use Rattle.c_emit.proofs.printing.put_stmt.Goals as goal

pub returns-in_ok-extend_from_slice-in-SetByte-2-clause-text : goal.returns-in_ok-extend_from_slice-in-SetByte-2-clause-text
returns-in_ok-extend_from_slice-in-SetByte-2-clause-text c =
    let o = c.args.out.now.items in
    let b = byte_text c.in-SetByte.d c.in-SetByte.x in
    let s = codes " = (unsigned char)(" in
    let e = expr_text c.in-SetByte.e in
    let end = codes " & 255ull);\n" in
    subst (λ (t : CStmt). c.extend_from_slice-in-SetByte-2.new.self.items ≡ o ++ stmt_text t) (sym c.in-SetByte.is)
    (chain o b (s ++ (e ++ end)) c.in_ok-put_byte-in-SetByte.ensures.text
    (chain c.put_byte.new.out.items s (e ++ end) c.in_ok-extend_from_slice-in-SetByte.ensures.items
    (chain c.extend_from_slice-in-SetByte.new.self.items e end c.in_ok-put_expr-in-SetByte.ensures.text c.in_ok-extend_from_slice-in-SetByte-2.ensures.items)))
