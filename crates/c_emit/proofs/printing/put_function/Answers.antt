use Rattle.std.proofs.Common.{◌≡◌, ◌++◌, ℕ, List, ap, subst, ◌∙◌}
use Rattle.c_run.specs.Tree.{CFunctionValue}
use Rattle.c_emit.specs.Text.{signature_text, declarations_text, loops_text, body_text, ends_text, function_text}
use Rattle.c_emit.proofs.Chain.{chain}
use Rattle.c_emit.proofs.printing.put_function.Goals as goal

pub returns-clause-text : goal.returns-clause-text
unfolding function_text
returns-clause-text c =
    let i = c.f.inside in
    let o = c.args.out.now.items in
    subst (λ (f : CFunctionValue). c.put_ends.new.out.items ≡ o ++ function_text f) c.f.view_is
    (chain o (signature_text i.name i.arrays i.params i.accs) (declarations_text i.temps i.accs ++ (loops_text i.two_d ++ (body_text i.body ++ ends_text i.accs))) (c.in_ok-put_signature.ensures ∙ ap (λ (n : List ℕ). o ++ signature_text n i.arrays i.params i.accs) c.as_slice.ensures.bytes)
    (chain c.put_signature.new.out.items (declarations_text i.temps i.accs) (loops_text i.two_d ++ (body_text i.body ++ ends_text i.accs)) c.in_ok-put_declarations.ensures
    (chain c.put_declarations.new.out.items (loops_text i.two_d) (body_text i.body ++ ends_text i.accs) (c.in_ok-extend_from_slice.ensures.items ∙ ap (λ (t : List ℕ). c.put_declarations.new.out.items ++ t) c.loops_text.ensures)
    (chain c.extend_from_slice.new.self.items (body_text i.body) (ends_text i.accs) (c.in_ok-put_body.ensures.text ∙ ap (λ t. c.extend_from_slice.new.self.items ++ body_text t) c.as_slice-2.ensures) c.in_ok-put_ends.ensures))))
