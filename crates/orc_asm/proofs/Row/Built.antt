-- The lists around rows, built one instruction or one slot after another.
use Rattle.std.proofs.Common.{◌≡◌, ℕ, suc, ◌+◌, ◌<◌, ◌≤◌, pos, length, All, IsTrue, subst, List, [], ◌∷◌, ◌++◌, sym, ap, ap₂, ◌∙◌, arith, append-nil, append_assoc}
use Rattle.x86_ins.specs.declared.ins.AluOp.TheVariants.{Sub}
use Rattle.x86_ins.specs.declared.ins.Ins.{Ins}
use Rattle.x86_ins.specs.declared.ins.Cond.TheVariants.{Ne}
use Rattle.x86_ins.specs.declared.ins.Ins.TheVariants.{Load, Store, AluImm, Test, Ret}
use Rattle.x86_ins.specs.Spelling.{has_spelling, spelling}
use Rattle.x86_flow.specs.Flow.{Plain, flat, size, spell_all, loop_code}
use Rattle.x86_flow.proofs.Ways.{spell_append}
use Rattle.x86_flow.proofs.Trees.{loop_bytes, loop_spelled}
use Rattle.x86_flow.proofs.Spelled.{all_spelled}
use Rattle.x86_flow.specs.Moves.{away}
use Rattle.orc_asm.specs.declared.rows.SlotCode.{SlotCode}
use Rattle.orc_asm.specs.declared.rows.SlotCode.TheVariants as for_slot
use Rattle.orc_frame.specs.Layout.{rows_slot}
use Rattle.orc_frame.specs.Parts.{elements_word, rows_word}
use Rattle.orc_asm.specs.Rows.{slot_code, slots_code, arrays_code, counter_code, rows_code, row_entry_code, one_row_code, row_step_code, row_flow}
use Rattle.orc_asm.proofs.Row.Counts.{fine_rows, fine_row_entry, fine_one_row, fine_row_step, row_bytes}

pub slots_none : (base : List Ins) (what : SlotCode) (first : ℕ) → base ≡ base ++ slots_code (slot_code what) first 0
slots_none base what first = sym (append-nil base)

pub slots_more : (base c d : List Ins) (what : SlotCode) (first n : ℕ) → c ≡ base ++ slots_code (slot_code what) first n → d ≡ c ++ slot_code what (first + n) → d ≡ base ++ slots_code (slot_code what) first (n + 1)
slots_more base c d what first n p q =
    q ∙ ap (λ a. a ++ slot_code what (first + n)) p ∙ append_assoc base (slots_code (slot_code what) first n) (slot_code what (first + n)) ∙ ap (λ k. base ++ slots_code (slot_code what) first k) (let z : suc n ≡ n + 1 = omega arith in z)

pub arrays_both : (base c d : List Ins) (what : SlotCode) (dests sources : ℕ) → c ≡ base ++ slots_code (slot_code what) 0 dests → d ≡ c ++ slots_code (slot_code what) 4 sources → d ≡ base ++ arrays_code (slot_code what) dests sources
arrays_both base c d what dests sources p q = q ∙ ap (λ a. a ++ slots_code (slot_code what) 4 sources) p ∙ append_assoc base (slots_code (slot_code what) 0 dests) (slots_code (slot_code what) 4 sources)

-- two or three at the end
two : (a b c : List Ins) (i j : Ins) → b ≡ a ++ i ∷ [] → c ≡ b ++ j ∷ [] → c ≡ a ++ i ∷ j ∷ []
two a b c i j p q = q ∙ ap (λ l. l ++ j ∷ []) p ∙ append_assoc a (i ∷ []) (j ∷ [])

three : (a b c d : List Ins) (i j k : Ins) → b ≡ a ++ i ∷ [] → c ≡ b ++ j ∷ [] → d ≡ c ++ k ∷ [] → d ≡ a ++ i ∷ j ∷ k ∷ []
three a b c d i j k p q r = r ∙ ap (λ l. l ++ k ∷ []) (two a b c i j p q) ∙ append_assoc a (i ∷ j ∷ []) (k ∷ [])

pub rows_whole : (base a b c d : List Ins) (dests sources : ℕ) → base ≡ [] → a ≡ base ++ arrays_code (slot_code for_slot.Base) dests sources → b ≡ a ++ Load 0 (away 7 rows_word) ∷ [] → c ≡ b ++ Store 0 (away 4 rows_slot) ∷ [] → d ≡ c ++ Test 0 0 ∷ [] → d ≡ rows_code dests sources
rows_whole base a b c d dests sources n p q r s =
    three a b c d (Load 0 (away 7 rows_word)) (Store 0 (away 4 rows_slot)) (Test 0 0) q r s ∙ ap (λ l. l ++ Load 0 (away 7 rows_word) ∷ Store 0 (away 4 rows_slot) ∷ Test 0 0 ∷ []) (p ∙ ap (λ l. l ++ arrays_code (slot_code for_slot.Base) dests sources) n)

pub entry_whole : (what : SlotCode) (base a b c : List Ins) (dests sources : ℕ) → base ≡ [] → a ≡ base ++ arrays_code (slot_code what) dests sources → b ≡ a ++ Load 1 (away 7 elements_word) ∷ [] → c ≡ b ++ Test 1 1 ∷ [] → c ≡ arrays_code (slot_code what) dests sources ++ counter_code
entry_whole what base a b c dests sources n p q r = two a b c (Load 1 (away 7 elements_word)) (Test 1 1) q r ∙ ap (λ l. l ++ counter_code) (p ∙ ap (λ l. l ++ arrays_code (slot_code what) dests sources) n)

pub step_whole : (base a b c d : List Ins) (dests sources : ℕ) → base ≡ [] → a ≡ base ++ arrays_code (slot_code for_slot.Stride) dests sources → b ≡ a ++ Load 0 (away 4 rows_slot) ∷ [] → c ≡ b ++ AluImm Sub 0 (pos 1) ∷ [] → d ≡ c ++ Store 0 (away 4 rows_slot) ∷ [] → d ≡ row_step_code dests sources
step_whole base a b c d dests sources n p q r s =
    three a b c d (Load 0 (away 4 rows_slot)) (AluImm Sub 0 (pos 1)) (Store 0 (away 4 rows_slot)) q r s ∙ ap (λ l. l ++ Load 0 (away 4 rows_slot) ∷ AluImm Sub 0 (pos 1) ∷ Store 0 (away 4 rows_slot) ∷ []) (p ∙ ap (λ l. l ++ arrays_code (slot_code for_slot.Stride) dests sources) n)

-- ---- bytes

pub one_more : (a : List Ins) (i : Ins) → spell_all (a ++ i ∷ []) ≡ spell_all a ++ spelling i
one_more a i = spell_append a (i ∷ []) ∙ ap (λ l. spell_all a ++ l) (append-nil (spelling i))

-- a list and then a loop, behind other bytes
pub loop_assembled : (starts body : List Ins) (t c0 c1 c2 : List ℕ) → t ≡ spell_all body → c1 ≡ c0 ++ spell_all starts → c2 ≡ c1 ++ loop_bytes Ne t → c2 ≡ c0 ++ spell_all (starts ++ loop_code Ne body)
loop_assembled starts body t c0 c1 c2 ht h1 h2 =
    let a = spell_all starts in
    let b = spell_all (loop_code Ne body) in
    h2 ∙ ap₂ (λ l m. l ++ m) h1 (ap (loop_bytes Ne) ht ∙ sym (loop_spelled Ne body)) ∙ append_assoc c0 a b ∙ ap (λ l. c0 ++ l) (sym (spell_append starts (loop_code Ne body)))

-- two or three lists, behind other bytes
pub two_assembled : (first second : List Ins) (c0 c1 c2 : List ℕ) → c1 ≡ c0 ++ spell_all first → c2 ≡ c1 ++ spell_all second → c2 ≡ c0 ++ spell_all (first ++ second)
two_assembled first second c0 c1 c2 h1 h2 = h2 ∙ ap (λ l. l ++ spell_all second) h1 ∙ append_assoc c0 (spell_all first) (spell_all second) ∙ ap (λ l. c0 ++ l) (sym (spell_append first second))

pub three_assembled : (first second third : List Ins) (c0 c1 c2 c3 : List ℕ) → c1 ≡ c0 ++ spell_all first → c2 ≡ c1 ++ spell_all second → c3 ≡ c2 ++ spell_all third → c3 ≡ c0 ++ spell_all (first ++ (second ++ third))
three_assembled first second third c0 c1 c2 c3 h1 h2 h3 = two_assembled first (second ++ third) c0 c1 c3 h1 (two_assembled second third c1 c2 c3 h2 h3)

pub row_assembled : (enter elements leave : List Ins) (c0 c1 c2 c3 : List ℕ) → c0 ≡ [] → c1 ≡ c0 ++ spell_all enter → c2 ≡ c1 ++ spell_all elements → c3 ≡ c2 ++ spell_all leave → c3 ≡ spell_all (enter ++ (elements ++ leave))
row_assembled enter elements leave c0 c1 c2 c3 h0 h1 h2 h3 = three_assembled enter elements leave c0 c1 c2 c3 h1 h2 h3 ∙ ap (λ l. l ++ spell_all (enter ++ (elements ++ leave))) h0

-- lists around rows, and a return
pub whole_assembled : (first rows last : List Ins) (c0 c1 c2 c3 c4 : List ℕ) → c0 ≡ [] → c1 ≡ c0 ++ spell_all first → c2 ≡ c1 ++ spell_all rows → c3 ≡ c2 ++ spell_all last → c4 ≡ c3 ++ spelling Ret → c4 ≡ spell_all ((first ++ (rows ++ last)) ++ Ret ∷ [])
whole_assembled first rows last c0 c1 c2 c3 c4 h0 h1 h2 h3 h4 = h4 ∙ ap (λ l. l ++ spelling Ret) (row_assembled first rows last c0 c1 c2 c3 h0 h1 h2 h3) ∙ sym (one_more (first ++ (rows ++ last)) Ret)

-- ---- what is asked of the lists

abbrev AllSpelled : List Ins → Type 0
AllSpelled is = All (λ i. IsTrue (has_spelling i)) is

pub spelled_one_row : (list : List Ins) (dests sources : ℕ) → dests ≤ 4 → sources ≤ 8 → list ≡ one_row_code dests sources → All (λ i. IsTrue (has_spelling i)) list
spelled_one_row list dests sources h g e = subst AllSpelled (sym e) (all_spelled (one_row_code dests sources) (fine_one_row dests sources h g))

pub spelled_rows : (list : List Ins) (dests sources : ℕ) → dests ≤ 4 → sources ≤ 8 → list ≡ rows_code dests sources → All (λ i. IsTrue (has_spelling i)) list
spelled_rows list dests sources h g e = subst AllSpelled (sym e) (all_spelled (rows_code dests sources) (fine_rows dests sources h g))

pub spelled_entry : (list : List Ins) (dests sources : ℕ) → dests ≤ 4 → sources ≤ 8 → list ≡ row_entry_code dests sources → All (λ i. IsTrue (has_spelling i)) list
spelled_entry list dests sources h g e = subst AllSpelled (sym e) (all_spelled (row_entry_code dests sources) (fine_row_entry dests sources h g))

pub spelled_step : (list : List Ins) (dests sources : ℕ) → dests ≤ 4 → sources ≤ 8 → list ≡ row_step_code dests sources → All (λ i. IsTrue (has_spelling i)) list
spelled_step list dests sources h g e = subst AllSpelled (sym e) (all_spelled (row_step_code dests sources) (fine_row_step dests sources h g))

pub row_fits : (t : List ℕ) (elements : List Ins) (dests sources : ℕ) → dests ≤ 4 → sources ≤ 8 → size elements ≤ 960000 → t ≡ spell_all (flat (row_flow (Plain elements) dests sources)) → length t < 2000000000
row_fits t elements dests sources h g few e = omega (arith, ap length e, row_bytes dests sources h g (Plain elements), few)
