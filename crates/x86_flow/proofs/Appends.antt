-- Bytes that are appended one list after another.
use Rattle.std.proofs.Common.{◌≡◌, ℕ, ◌+◌, ◌<◌, List, [], ◌∷◌, ◌++◌, length, take, get_or, sym, ap, ◌∙◌, append-nil, append_assoc}
use Rattle.std.proofs.lemmas.List.{take_more}
use Rattle.x86_ins.specs.declared.ins.Ins.{Ins}
use Rattle.x86_ins.specs.Spelling.{spelling}
use Rattle.x86_flow.specs.Flow.{spell_all}
use Rattle.x86_flow.proofs.Ways.{spell_append}

-- one more instruction
pub one_more : (is : List Ins) (i : Ins) → spell_all (is ++ i ∷ []) ≡ spell_all is ++ spelling i
one_more is i = spell_append is (i ∷ []) ∙ ap (λ l. spell_all is ++ l) (append-nil (spelling i))

-- the bytes behind the first k instructions and one more
pub put_more : (base c d : List ℕ) (list : List Ins) (k : ℕ) (i : Ins) → k < length list → i ≡ get_or list k i → c ≡ base ++ spell_all (take k list) → d ≡ c ++ spelling i → d ≡ base ++ spell_all (take (k + 1) list)
put_more base c d list k i l is p q =
    q ∙ ap (λ b. b ++ spelling i) p ∙ append_assoc base (spell_all (take k list)) (spelling i)
    ∙ ap (λ b. base ++ b) (sym (one_more (take k list) i) ∙ ap spell_all (ap (λ x. take k list ++ x ∷ []) is ∙ sym (take_more list k i l)))
