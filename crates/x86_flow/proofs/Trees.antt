-- The bytes of a tree of structured code, from those of its parts.
use Rattle.std.proofs.Common.{◌≡◌, ℕ, zero, suc, ◌+◌, ◌<◌, ◌≤◌, pos, List, [], ◌∷◌, ◌++◌, length, map, take, get_or, OnOk, Result, Ok, Err, sym, ap, ◌∙◌, arith, refl, ap₂, append_assoc, append-nil}
use Rattle.std.proofs.lemmas.List.{take_more}
use Rattle.x86_ins.specs.declared.ins.Ins.{Ins}
use Rattle.x86_ins.specs.declared.ins.Ins.TheVariants.{Jump, JumpIf}
use Rattle.x86_ins.specs.declared.ins.Cond.{Cond}
use Rattle.x86_ins.specs.Spelling.{spelling}
use Rattle.x86_flow.specs.declared.block.Block.{Block}
use Rattle.x86_flow.specs.declared.tree.Flow.{Flow}
use Rattle.x86_flow.specs.declared.tree.Flow.TheVariants as tree
use Rattle.x86_flow.specs.declared.tree.Flow.TheFolds.{fold-roll-Flow}
use Rattle.x86_flow.specs.declared.tree.Flow.TheOpen.{Flow-F}
use Rattle.x86_flow.specs.Flow.{spell_all, size, enter_jump, again_jump, choice_code, loop_code}
use Rattle.x86_flow.specs.Tree.{flat_at, flat_of, all_behind}
use Rattle.x86_flow.proofs.Ways.{spell_append}
use Rattle.x86_flow.proofs.Appends.{one_more}

-- ---- one level

flat_chain : (parts : List Flow) → flat_of (tree.Chain parts) ≡ all_behind (map flat_of parts)
flat_chain parts = ap flat_of (sym (tree.rolls-Chain parts)) ∙ fold-roll-Flow (List Ins) flat_at (Flow-F.Chain parts)

flat_choice : (q : Cond) (one two : Flow) → flat_of (tree.Choice q one two) ≡ choice_code q (flat_of one) (flat_of two)
flat_choice q one two = ap flat_of (sym (tree.rolls-Choice q one two)) ∙ fold-roll-Flow (List Ins) flat_at (Flow-F.Choice q one two)

flat_repeat : (q : Cond) (body : Flow) → flat_of (tree.Repeat q body) ≡ loop_code q (flat_of body)
flat_repeat q body = ap flat_of (sym (tree.rolls-Repeat q body)) ∙ fold-roll-Flow (List Ins) flat_at (Flow-F.Repeat q body)

-- ---- bytes

take_past : (items : List Flow) (k : ℕ) → length items ≤ k → take k items ≡ items
take_past [] zero l = refl
take_past [] (suc k) l = refl
take_past (x ∷ items) zero l = absurd (omega (arith, l))
take_past (x ∷ items) (suc k) l = ap (λ r. x ∷ r) (take_past items k (omega (arith, l)))

behind_more : (lists : List (List Ins)) (list : List Ins) → all_behind (lists ++ list ∷ []) ≡ all_behind lists ++ list
behind_more [] list = append-nil list
behind_more (l ∷ lists) list = ap (λ r. l ++ r) (behind_more lists list) ∙ sym (append_assoc l (all_behind lists) list)

map_more : (parts : List Flow) (part : Flow) → map flat_of (parts ++ part ∷ []) ≡ map flat_of parts ++ flat_of part ∷ []
map_more [] part = refl
map_more (p ∷ parts) part = ap (λ l. flat_of p ∷ l) (map_more parts part)

pub chain_more : (base c d : List ℕ) (parts : List Flow) (part z : Flow) (k : ℕ) → k < length parts → part ≡ get_or parts k z → c ≡ base ++ spell_all (all_behind (map flat_of (take k parts))) → d ≡ c ++ spell_all (flat_of part) → d ≡ base ++ spell_all (all_behind (map flat_of (take (k + 1) parts)))
chain_more base c d parts part z k l is p q =
    let before = all_behind (map flat_of (take k parts)) in
    q ∙ ap (λ b. b ++ spell_all (flat_of part)) p ∙ append_assoc base (spell_all before) (spell_all (flat_of part))
    ∙ ap (λ b. base ++ b)
    (sym (spell_append before (flat_of part)) ∙ ap spell_all (sym (behind_more (map flat_of (take k parts)) (flat_of part)) ∙ ap all_behind (sym (map_more (take k parts) part) ∙ ap (map flat_of) (ap (λ x. take k parts ++ x ∷ []) is ∙ sym (take_more parts k z l)))))

pub chain_whole : (flow : Flow) (parts items : List Flow) (base c : List ℕ) (k : ℕ) → flow ≡ tree.Chain parts → items ≡ parts → length items ≤ k → c ≡ base ++ spell_all (all_behind (map flat_of (take k items))) → c ≡ base ++ spell_all (flat_of flow)
chain_whole flow parts items base c k e i l h = h ∙ ap (λ ps. base ++ spell_all (all_behind (map flat_of ps))) (take_past items k l) ∙ ap (λ ps. base ++ spell_all (all_behind (map flat_of ps))) i ∙ ap (λ f. base ++ spell_all f) (sym (ap flat_of e ∙ flat_chain parts))

-- what was appended to nothing
pub part_bytes : (part : Flow) (bytes code old : List ℕ) → bytes ≡ code → code ≡ old ++ spell_all (flat_of part) → old ≡ [] → bytes ≡ spell_all (flat_of part)
part_bytes part bytes code old a b e = a ∙ b ∙ ap (λ o. o ++ spell_all (flat_of part)) e

choice_spelled : (q : Cond) (one two : List Ins) → spell_all (choice_code q one two) ≡ spelling (JumpIf q (pos (size two + 5))) ++ (spell_all two ++ (spelling (Jump (pos (size one))) ++ spell_all one))
choice_spelled q one two = ap (λ l. spelling (JumpIf q (pos (size two + 5))) ++ l) (spell_append two (Jump (pos (size one)) ∷ one))

-- the bytes of a loop around bytes
abbrev pub loop_bytes : Cond → List ℕ → List ℕ
loop_bytes q turn = spelling (enter_jump q (length turn)) ++ (turn ++ spelling (again_jump q (length turn)))

pub loop_spelled : (q : Cond) (body : List Ins) → spell_all (loop_code q body) ≡ loop_bytes q (spell_all body)
loop_spelled q body = ap (λ l. spelling (enter_jump q (size body)) ++ l) (one_more body (again_jump q (size body)))

on_ok : {A E : Type 0} (r : Result A E) (P Q : Type 0) → (P → Q) → OnOk r P → OnOk r Q
on_ok (Ok x) P Q f h = f h
on_ok (Err e) P Q f h = h

pub choice_whole : {E : Type 0} (r : Result Unit E) (flow one two : Flow) (q : Cond) (base code a b : List ℕ) → flow ≡ tree.Choice q one two → a ≡ spell_all (flat_of one) → b ≡ spell_all (flat_of two)
    → OnOk r (code ≡ base ++ (spelling (JumpIf q (pos (length b + 5))) ++ (b ++ (spelling (Jump (pos (length a))) ++ a)))) → OnOk r (code ≡ base ++ spell_all (flat_of flow))
choice_whole r flow one two q base code a b e y n h = on_ok r _ _ whole h
  where
    whole : code ≡ base ++ (spelling (JumpIf q (pos (length b + 5))) ++ (b ++ (spelling (Jump (pos (length a))) ++ a))) → code ≡ base ++ spell_all (flat_of flow)
    whole w = w ∙ ap (λ l. base ++ (spelling (JumpIf q (pos (length l + 5))) ++ (l ++ (spelling (Jump (pos (length a))) ++ a)))) n
        ∙ ap (λ l. base ++ (spelling (JumpIf q (pos (size (flat_of two) + 5))) ++ (spell_all (flat_of two) ++ (spelling (Jump (pos (length l))) ++ l)))) y
        ∙ ap (λ l. base ++ l) (sym (choice_spelled q (flat_of one) (flat_of two))) ∙ ap (λ f. base ++ spell_all f) (sym (ap flat_of e ∙ flat_choice q one two))

pub loop_whole : {E : Type 0} (r : Result Unit E) (flow body : Flow) (q : Cond) (base code turn : List ℕ) → flow ≡ tree.Repeat q body → turn ≡ spell_all (flat_of body)
    → OnOk r (code ≡ base ++ loop_bytes q turn) → OnOk r (code ≡ base ++ spell_all (flat_of flow))
loop_whole r flow body q base code turn e t h = on_ok r _ _ whole h
  where
    whole : code ≡ base ++ loop_bytes q turn → code ≡ base ++ spell_all (flat_of flow)
    whole w = w ∙ ap (λ l. base ++ loop_bytes q l) t
        ∙ ap (λ l. base ++ l) (sym (loop_spelled q (flat_of body))) ∙ ap (λ f. base ++ spell_all f) (sym (ap flat_of e ∙ flat_repeat q body))

-- ---- trees that are made

pub plain_is : (flow : Flow) (block : Block) (list : List Ins) → flow ≡ tree.Plain block → list ≡ block.list → flat_of flow ≡ list
plain_is flow block list e l = ap flat_of e ∙ (ap flat_of (sym (tree.rolls-Plain block)) ∙ fold-roll-Flow (List Ins) flat_at (Flow-F.Plain block)) ∙ sym l

pub chain_is : (flow a b : Flow) (none one two : List Flow) → none ≡ [] → one ≡ none ++ a ∷ [] → two ≡ one ++ b ∷ [] → flow ≡ tree.Chain two → flat_of flow ≡ flat_of a ++ flat_of b
chain_is flow a b none one two n o t e =
    let list : two ≡ a ∷ b ∷ [] = t ∙ ap (λ l. l ++ b ∷ []) (o ∙ ap (λ l. l ++ a ∷ []) n) in
    ap flat_of e ∙ flat_chain two ∙ ap (λ l. all_behind (map flat_of l)) list ∙ ap (λ l. flat_of a ++ l) (append-nil (flat_of b))

pub choice_is : (flow one two a b : Flow) (q : Cond) → a ≡ one → b ≡ two → flow ≡ tree.Choice q a b → flat_of flow ≡ choice_code q (flat_of one) (flat_of two)
choice_is flow one two a b q x y e = ap flat_of e ∙ flat_choice q a b ∙ ap₂ (λ u v. choice_code q (flat_of u) (flat_of v)) x y

pub repeat_is : (flow body a : Flow) (q : Cond) → a ≡ body → flow ≡ tree.Repeat q a → flat_of flow ≡ loop_code q (flat_of body)
repeat_is flow body a q x e = ap flat_of e ∙ flat_repeat q a ∙ ap (λ u. loop_code q (flat_of u)) x
