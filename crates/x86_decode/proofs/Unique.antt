-- Bytes decode in one way at most.
use Rattle.std.proofs.Common.{◌≡◌, ℕ, List, [], ◌++◌, length, sym, ap, ◌∙◌, append-nil}
use Rattle.x86_ins.specs.declared.ins.Ins.{Ins}
use Rattle.x86_ins.specs.Spelling.{Decode, Begins, IsIns, spelling}
use Rattle.x86_decode.proofs.Decoding.{one}

pub one_decoding : (bytes : List ℕ) (i j : Ins) (n m : ℕ) → Decode bytes i n → Decode bytes j m → (i ≡ j) × (n ≡ m)
one_decoding bytes i j n m a b =
    let e : spelling i ++ a.begins.0 ≡ spelling j ++ b.begins.0 = sym a.begins.1 ∙ b.begins.1 in
    let s : i ≡ j = one i j a.begins.0 b.begins.0 a.allowed.0 b.allowed.0 e in
    (s, sym a.size ∙ ap (λ k. length (spelling k)) s ∙ b.size)

pub one_beginning : (i j : Ins) → IsIns i → IsIns j → Begins (spelling i) (spelling j) → i ≡ j
one_beginning i j h k b = one i j b.0 [] h k (sym b.1 ∙ sym (append-nil (spelling j)))

pub one_spelled : (i j : Ins) → IsIns i → IsIns j → spelling i ≡ spelling j → i ≡ j
one_spelled i j h k e = one i j [] [] h k (ap (λ (t : List ℕ). t ++ []) e)
