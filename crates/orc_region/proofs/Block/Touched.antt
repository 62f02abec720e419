-- What the instructions of a block touch: slots of the frame, and cells by the pointers of their arrays.
use Rattle.std.proofs.Common.{◌≡◌, ℕ, ◌+◌, ◌*◌, ◌-◌, ◌%◌, ◌^◌, ◌<◌, ◌≤◌, ◌==◌, ◌&&◌, Bool, true, false, true≢false, if◌then◌else◌, negsuc, List, [], ◌∷◌, ◌++◌, Some, None, refl, sym, ap, ap₂, ◌∙◌, subst, arith, ◌⊎◌, inl, inr, ⊎_elim}
use Rattle.x86_ins.specs.declared.ins.Ins.{Ins}
use Rattle.x86_ins.specs.declared.ins.Ins.TheVariants.{Vec, VecImm, Shuffle, VecLoad, VecStore, FromGpr, ToGpr, Move, Load, Store, Store8, Store16, Load8, Load16, MovImm, Alu, AluImm, Test, Shift, Imul, Lea, Push, Pop, Jump, JumpIf, Ret}
use Rattle.x86_ins.specs.declared.ins.MoveOp.TheVariants as move
use Rattle.x86_ins.specs.declared.ins.VecOp.TheVariants.{Movdqa}
use Rattle.x86_ins.specs.Machine.{Core, Touches, address, moved, move_size, span}
use Rattle.x86_ins.specs.Renaming.{renamed}
use Rattle.x86_ins.specs.Vectors.{simd, is_simd, all_simd}
use Rattle.x86_ins.specs.Way.{Each}
use Rattle.x86_ins.proofs.Renamed.{simd_renamed}
use Rattle.x86_flow.specs.Does.{Line}
use Rattle.x86_flow.specs.Moves.{IsWidth, away, load_far_code, store_far_code, store_either_code}
use Rattle.x86_flow.specs.Touching.{base_of, weight_by, touch_weight}
use Rattle.x86_flow.proofs.Moves.{each_width}
use Rattle.x86_flow.proofs.Spelled.{each_both}
use Rattle.x86_flow.proofs.Touching.{touches_none, touches_in}
use Rattle.x86_flow.proofs.Words.{at_away}
use Rattle.orc_frame.specs.Layout.{pattern_slot, sum_slot, frame_size, spill_slot}
use Rattle.orc_ops.specs.declared.opcode.Op.{Op}
use Rattle.orc_ops.specs.Table.{size_of_result, size_of_source}
use Rattle.orc_region.specs.Stores.{IsMovdquStore}
use Rattle.orc_region.specs.Code.{Action, spares_second, IsRule, Source, FromArray, FromPattern, FromResident, FromPlace, FromSlot, FromFar, Target, ToArray, ToSum, ToResident, ToPlace, ToSlot, pointer, first_register, second_register, rule_register, rule_code, from_zero_code, source_far_code, brought, sources_far_code, sum_code, result_far_code, results_far_code, action_far_code}
use Rattle.orc_region.proofs.Arithmetic.Digits.{byte_split, byte_further}
use Rattle.orc_resample.specs.Bring.{is_array, is_vector_store}
use Rattle.orc_region.proofs.Block.Cells.{Numbers, Low, IsFrom, AreFrom, IsMade, AreTo, IsKnown, AllKnown, live_act}
use Rattle.orc_region.proofs.Block.Fars.{TouchesFar}
use Rattle.orc_region.proofs.Block.Taken.{IsNear, AreNear}
use Rattle.orc_region.proofs.Sizes.Bytes.{vectors_of, each_brought}
use Rattle.orc_region.proofs.Block.Actions.{IsMovedFrom, IsMovedTo, IsFit}

-- ---- lines

-- with a fact on each instruction of a list, at each step of its line more is known
pub line_with : (A B : Core → Ins → Type 0) (R : Ins → Type 0) → ((u : Core) (i : Ins) → A u i → R i → B u i) → (is : List Ins) → Each R is → (c d : Core) → Line A is c d → Line B is c d
line_with A B R f [] e c d h = h
line_with A B R f (i ∷ is) e c d h = (f c i h.0 e.0, (h.1.0, h.1.1, line_with A B R f is e.1 h.1.0 d h.1.2))

each_map : (A B : Ins → Type 0) → ((i : Ins) → A i → B i) → (is : List Ins) → Each A is → Each B is
each_map A B f [] h = tt
each_map A B f (i ∷ is) h = (f i h.0, each_map A B f is h.1)

-- ---- by which register one instruction goes

-- to so many bytes, so far from the address in a register
abbrev pub GoesBy : ℕ → ℕ → ℕ → Ins → Type 0
GoesBy r d width i = (base_of i ≡ Some r) × ((u : Core) → span i u ≡ (address u (away r d), width))

-- to no bytes
abbrev pub GoesNowhere : Ins → Type 0
GoesNowhere i = (base_of i ≡ None) × ((u : Core) → (span i u).1 ≡ 0)

-- under other names it goes by the same register to the same bytes
pub base_renamed : (f : ℕ → ℕ) (i : Ins) → base_of (renamed f i) ≡ base_of i
base_renamed f (Vec op d s) = refl
base_renamed f (VecImm op d n) = refl
base_renamed f (Shuffle op d s n) = refl
base_renamed f (VecLoad op d a) = refl
base_renamed f (VecStore op s a) = refl
base_renamed f (FromGpr wide d s) = refl
base_renamed f (ToGpr wide d s) = refl
base_renamed f _ = refl

span_renamed : (f : ℕ → ℕ) (i : Ins) (u : Core) → span (renamed f i) u ≡ span i u
span_renamed f (Vec op d s) u = refl
span_renamed f (VecImm op d n) u = refl
span_renamed f (Shuffle op d s n) u = refl
span_renamed f (VecLoad op d a) u = refl
span_renamed f (VecStore op s a) u = refl
span_renamed f (FromGpr wide d s) u = refl
span_renamed f (ToGpr wide d s) u = refl
span_renamed f _ u = refl

store_renamed : (f : ℕ → ℕ) (i : Ins) → IsMovdquStore (renamed f i) → IsMovdquStore i
store_renamed f (VecStore move.Movdqu s a) h = h
store_renamed f (VecStore move.Movdqa s a) h = h
store_renamed f (VecStore move.Movq s a) h = h
store_renamed f (VecStore move.Movd s a) h = h
store_renamed f (Vec op d s) h = h
store_renamed f (VecImm op d n) h = h
store_renamed f (Shuffle op d s n) h = h
store_renamed f (VecLoad op d a) h = h
store_renamed f (FromGpr wide d s) h = h
store_renamed f (ToGpr wide d s) h = h
store_renamed f _ h = h

nowhere_renamed : (f : ℕ → ℕ) (i : Ins) → GoesNowhere i → GoesNowhere (renamed f i)
nowhere_renamed f i h = (base_renamed f i ∙ h.0, λ u. ap (λ (z : ℕ × ℕ). z.1) (span_renamed f i u) ∙ h.1 u)

by_renamed : (f : ℕ → ℕ) (r d width : ℕ) (i : Ins) → GoesBy r d width i → GoesBy r d width (renamed f i)
by_renamed f r d width i h = (base_renamed f i ∙ h.0, λ u. span_renamed f i u ∙ h.1 u)

-- an instruction on vector registers alone
simd_nowhere : (i : Ins) → is_simd (simd i) ≡ true → GoesNowhere i
simd_nowhere (Vec op d s) h = (refl, λ u. refl)
simd_nowhere (VecImm op d n) h = (refl, λ u. refl)
simd_nowhere (Shuffle op d s o) h = (refl, λ u. refl)
simd_nowhere (VecLoad op d a) h = absurd (true≢false (sym h))
simd_nowhere (VecStore op s a) h = absurd (true≢false (sym h))
simd_nowhere (FromGpr wide d s) h = (refl, λ u. refl)
simd_nowhere (ToGpr wide d s) h = (refl, λ u. refl)
simd_nowhere (Move d s) h = (refl, λ u. refl)
simd_nowhere (Load d a) h = absurd (true≢false (sym h))
simd_nowhere (Store s a) h = absurd (true≢false (sym h))
simd_nowhere (Store8 s a) h = absurd (true≢false (sym h))
simd_nowhere (Store16 s a) h = absurd (true≢false (sym h))
simd_nowhere (Load8 d a) h = absurd (true≢false (sym h))
simd_nowhere (Load16 d a) h = absurd (true≢false (sym h))
simd_nowhere (MovImm d n) h = (refl, λ u. refl)
simd_nowhere (Alu op d s) h = (refl, λ u. refl)
simd_nowhere (AluImm op d n) h = (refl, λ u. refl)
simd_nowhere (Test a b) h = (refl, λ u. refl)
simd_nowhere (Shift op d n) h = (refl, λ u. refl)
simd_nowhere (Imul d s) h = (refl, λ u. refl)
simd_nowhere (Lea d a) h = (refl, λ u. refl)
simd_nowhere (Push s) h = absurd (true≢false (sym h))
simd_nowhere (Pop d) h = absurd (true≢false (sym h))
simd_nowhere (Jump rel) h = (refl, λ u. refl)
simd_nowhere (JumpIf q rel) h = (refl, λ u. refl)
simd_nowhere Ret h = absurd (true≢false (sym h))

both : (s t : Bool) → (s && t) ≡ true → (s ≡ true) × (t ≡ true)
both true t h = (refl, h)
both false t h = absurd (true≢false (sym h))

all_nowhere : (is : List Ins) → all_simd is ≡ true → Each GoesNowhere is
all_nowhere [] h = tt
all_nowhere (i ∷ is) h = (let x = both (is_simd (simd i)) (all_simd is) h in (simd_nowhere i x.0, all_nowhere is x.1))

-- so does a rule
pub rule_nowhere : (count : ℕ) (a : Action) → IsRule count a.op a.by a.rule → Each GoesNowhere (rule_code a)
rule_nowhere count a is = all_nowhere (rule_code a) (simd_renamed (rule_register a.to) a.rule ∙ vectors_of count a.op a.by a.rule is)

-- and so do values that go on from XMM0
from_zero_nowhere : (x : ℕ) → Each GoesNowhere (from_zero_code x)
from_zero_nowhere x = go (x == 0)
  where
    go : (t : Bool) → Each GoesNowhere (if t then [] else Vec Movdqa x 0 ∷ [])
    go true = tt
    go false = ((refl, λ u. refl), tt)

-- an instruction of a move of cells; Unaligned is what is known where it's a movdqu store
abbrev IsMove : ℕ → ℕ → ℕ → Type 0 → Ins → Type 0
IsMove r d width Unaligned i = GoesNowhere i ⊎ (GoesBy r d width i × (IsMovdquStore i → Unaligned))

load_moves : (width x r d : ℕ) → IsWidth width → Each (IsMove r d width ⊥) (load_far_code width x r d)
load_moves width x r d is = each_width (λ w. Each (IsMove r d w ⊥) (load_far_code w x r d))
    (inr ((refl, λ u. refl), λ m. m), (inl ((refl, λ u. refl)), tt))
    (inr ((refl, λ u. refl), λ m. m), (inl ((refl, λ u. refl)), tt))
    (inr ((refl, λ u. refl), λ m. m), tt)
    (inr ((refl, λ u. refl), λ m. m), tt)
    (inr ((refl, λ u. refl), λ m. m), tt)
    width is

store_moves : (width x r d : ℕ) → IsWidth width → Each (IsMove r d width (width ≡ 16)) (store_far_code width x r d)
store_moves width x r d is = each_width (λ w. Each (IsMove r d w (w ≡ 16)) (store_far_code w x r d))
    (inl ((refl, λ u. refl)), (inr ((refl, λ u. refl), λ m. absurd m), tt))
    (inl ((refl, λ u. refl)), (inr ((refl, λ u. refl), λ m. absurd m), tt))
    (inr ((refl, λ u. refl), λ m. absurd m), tt)
    (inr ((refl, λ u. refl), λ m. absurd m), tt)
    (inr ((refl, λ u. refl), λ m. refl), tt)
    width is

either_moves : (aligned : Bool) (width x r d : ℕ) → (aligned ≡ true → width ≡ 16) → IsWidth width → Each (IsMove r d width ((aligned ≡ false) × (width ≡ 16))) (store_either_code aligned width x r d)
either_moves true width x r d whole is = subst (λ w. Each (IsMove r d w ((true ≡ false) × (w ≡ 16))) (store_either_code true w x r d)) (sym (whole refl)) (inr ((refl, λ u. refl), λ m. absurd m), tt)
either_moves false width x r d whole is = each_map (IsMove r d width (width ≡ 16)) (IsMove r d width ((false ≡ false) × (width ≡ 16))) weaker (store_far_code width x r d) (store_moves width x r d is)
  where
    weaker : (i : Ins) → IsMove r d width (width ≡ 16) i → IsMove r d width ((false ≡ false) × (width ≡ 16)) i
    weaker i (inl h) = inl h
    weaker i (inr h) = inr (h.0, λ m. (refl, h.1 m))

pub width_few : (width : ℕ) → IsWidth width → width ≤ 16
width_few = each_width (λ w. w ≤ 16) (omega arith) (omega arith) (omega arith) (omega arith) (omega arith)

-- ---- an action's code but for what goes to far loads' elements

-- a source's code, without what brings a far load's values to XMM0
abbrev pub near_source_code : ℕ → (ℕ → ℕ) → (ℕ → ℕ) → ℕ → Source → List Ins
near_source_code count size far x (FromArray k) = source_far_code count size far x (FromArray k)
near_source_code count size far x (FromPattern j) = source_far_code count size far x (FromPattern j)
near_source_code count size far x (FromResident j g) = source_far_code count size far x (FromResident j g)
near_source_code count size far x (FromPlace p) = source_far_code count size far x (FromPlace p)
near_source_code count size far x (FromFar load array js) = from_zero_code x
near_source_code count size far x (FromSlot k) = source_far_code count size far x (FromSlot k)

abbrev pub near_sources_code : Bool → Bool → ℕ → (ℕ → ℕ) → (ℕ → ℕ) → ℕ → ℕ → List Source → List Ins
near_sources_code one two count size far x y [] = []
near_sources_code one two count size far x y (s ∷ []) = brought one (near_source_code count size far x s)
near_sources_code one two count size far x y (s ∷ t ∷ more) = brought one (near_source_code count size far x s) ++ brought two (near_source_code count size far y t)

abbrev pub near_action_code : ℕ → (ℕ → ℕ) → (ℕ → ℕ) → (ℕ → Bool) → Action → List Ins
near_action_code count size far aligned a =
    near_sources_code a.takes_first (spares_second a) count size far (first_register a.to) (second_register a.to) a.sources ++ (sum_code a.to ++ (rule_code a ++ results_far_code count size far aligned a.to))

-- it is all of the code where no source is far loads' values
near_source_same : (count : ℕ) (size far : ℕ → ℕ) (x : ℕ) (s : Source) → IsNear s → near_source_code count size far x s ≡ source_far_code count size far x s
near_source_same count size far x (FromArray k) h = refl
near_source_same count size far x (FromPattern j) h = refl
near_source_same count size far x (FromResident j g) h = refl
near_source_same count size far x (FromPlace p) h = refl
near_source_same count size far x (FromFar load array js) h = absurd h
near_source_same count size far x (FromSlot k) h = refl

near_sources_same : (one two : Bool) (count : ℕ) (size far : ℕ → ℕ) (x y : ℕ) (ss : List Source) → AreNear ss → near_sources_code one two count size far x y ss ≡ sources_far_code one two count size far x y ss
near_sources_same one two count size far x y [] h = refl
near_sources_same one two count size far x y (s ∷ []) h = ap (brought one) (near_source_same count size far x s h)
near_sources_same one two count size far x y (s ∷ t ∷ more) h = ap₂ (λ a b. brought one a ++ brought two b) (near_source_same count size far x s h.0) (near_source_same count size far y t h.1)

pub near_same : (count : ℕ) (size far : ℕ → ℕ) (aligned : ℕ → Bool) (a : Action) → AreNear a.sources → near_action_code count size far aligned a ≡ action_far_code count size far aligned a
near_same count size far aligned a h =
    ap (λ list. list ++ (sum_code a.to ++ (rule_code a ++ results_far_code count size far aligned a.to)))
    (near_sources_same a.takes_first (spares_second a) count size far (first_register a.to) (second_register a.to) a.sources h)

-- ---- what an instruction of a turn touches

-- the address is that of a byte of an element of the slot
abbrev pub InSlot : ℕ → (ℕ → ℕ) → (ℕ → ℕ) → ℕ → ℕ → Type 0
InSlot n base size k a = (i : ℕ) × (i < n) × (r : ℕ) × (r < size k) × (a ≡ base k + i * size k + r)

-- bytes of the frame alone, or cells of one array, by its pointer; a movdqu store goes to a dest, and to the first one only where Free holds
abbrev pub TouchesPart : ℕ → (ℕ → ℕ) → (ℕ → ℕ) → (ℕ → Type 0) → ℕ → Type 0 → Core → Ins → Type 0
TouchesPart n base size P rsp Free u ins =
    ((a : ℕ) → Touches ins u a → (rsp ≤ a) × (a < rsp + frame_size))
    ⊎ ((k : ℕ) × P k × (base_of ins ≡ Some (pointer k)) × ((a : ℕ) → Touches ins u a → InSlot n base size k a) × (IsMovdquStore ins → (k < 4) × (k ≡ 0 → Free)))

-- or what far loads' code does, for so many elements from one on
abbrev pub TouchesTurn : ℕ → (ℕ → ℕ) → (ℕ → ℕ) → (ℕ → Type 0) → ℕ → Type 0 → (ℕ → ℕ) → Numbers → ℕ → ℕ → Core → Ins → Type 0
TouchesTurn n base size P rsp Free origin numbers first count u ins = TouchesPart n base size P rsp Free u ins ⊎ TouchesFar origin numbers rsp first count u ins

-- what is touched depends on the general registers alone
span_same : (i : Ins) (u t : Core) → t.gpr ≡ u.gpr → span i t ≡ span i u
span_same (VecLoad op d a) u t e = ap (λ g. (moved (g a.base) a.disp, move_size op)) e
span_same (VecStore op s a) u t e = ap (λ g. (moved (g a.base) a.disp, move_size op)) e
span_same (Load d a) u t e = ap (λ g. (moved (g a.base) a.disp, 8)) e
span_same (Store s a) u t e = ap (λ g. (moved (g a.base) a.disp, 8)) e
span_same (Store8 s a) u t e = ap (λ g. (moved (g a.base) a.disp, 1)) e
span_same (Store16 s a) u t e = ap (λ g. (moved (g a.base) a.disp, 2)) e
span_same (Load8 d a) u t e = ap (λ g. (moved (g a.base) a.disp, 1)) e
span_same (Load16 d a) u t e = ap (λ g. (moved (g a.base) a.disp, 2)) e
span_same (Push s) u t e = ap (λ g. (moved (g 4) (negsuc 7), 8)) e
span_same (Pop d) u t e = ap (λ g. (g 4, 8)) e
span_same Ret u t e = ap (λ g. (g 4, 8)) e
span_same _ u t e = refl

vector_store_renamed : (f : ℕ → ℕ) (i : Ins) → is_vector_store (renamed f i) ≡ is_vector_store i
vector_store_renamed f (Vec op d s) = refl
vector_store_renamed f (VecImm op d n) = refl
vector_store_renamed f (Shuffle op d s n) = refl
vector_store_renamed f (VecLoad op d a) = refl
vector_store_renamed f (VecStore op s a) = refl
vector_store_renamed f (FromGpr wide d s) = refl
vector_store_renamed f (ToGpr wide d s) = refl
vector_store_renamed f _ = refl

-- under other names of the vector registers far loads' code touches the same
pub far_renamed : (origin : ℕ → ℕ) (numbers : Numbers) (rsp first count : ℕ) (f : ℕ → ℕ) (u t : Core) (i : Ins) → t.gpr ≡ u.gpr → TouchesFar origin numbers rsp first count u i → TouchesFar origin numbers rsp first count t (renamed f i)
far_renamed origin numbers rsp first count f u t i e h = (
  λ x w. ⊎_elim (λ a. inl (weight ∙ a.0, a.1, a.2)) (λ a. inr (weight ∙ a.0, a.1)) (h.0 x (w.0, subst (λ (s : ℕ × ℕ). w.0 < s.1) same w.1, w.2 ∙ ap (λ (s : ℕ × ℕ). (s.0 + w.0) % 2 ^ 64) same)),
  vector_store_renamed f i ∙ h.1,
)
  where
    same : span (renamed f i) t ≡ span i u
    same = span_renamed f i t ∙ span_same i u t e

    weight : touch_weight is_array (renamed f i) ≡ touch_weight is_array i
    weight = ap (weight_by is_array) (base_renamed f i)

-- ---- a block

-- cells of arrays with P, so many elements at once, `far` behind the pointers, and with aligned stores for some slots
module _ (n : ℕ) (base size : ℕ → ℕ) (P : ℕ → Type 0) (numbers : Numbers) (few_patterns : numbers.patterns ≤ 48) (few_sums : numbers.sums ≤ 4) (far : ℕ → ℕ) (aligned : ℕ → Bool) (count : ℕ) (whole : (k : ℕ) → P k → aligned k ≡ true → count * size k ≡ 16) where
  -- an instruction that goes to cells of a slot by its pointer
  pub record GoesToCells (k : ℕ) (i : Ins) : Type 0 where
    pub array : P k
    pub some : 0 < size k
    pub few : count * size k ≤ 16
    pub by : GoesBy (pointer k) (far k) (count * size k) i
    pub stores : IsMovdquStore i → (k < 4) × (aligned k ≡ false) × (count * size k ≡ 16)

  -- to nothing, to a slot of the frame by RSP, or to cells
  abbrev pub Goes : Ins → Type 0
  Goes i = GoesNowhere i ⊎ (((d : ℕ) × (d + 16 ≤ frame_size) × GoesBy 4 d 16 i) ⊎ ((k : ℕ) × GoesToCells k i))

  nowhere_goes : (list : List Ins) → Each GoesNowhere list → Each Goes list
  nowhere_goes list h = each_map GoesNowhere Goes (λ i x. inl x) list h

  source_goes : (live : ℕ → ℕ) (w prefix x : ℕ) (s : Source) → IsFrom n base size P numbers live w prefix s → IsMovedFrom count size s → Each Goes (near_source_code count size far x s)
  source_goes live w prefix x (FromArray k) o wide = each_map (IsMove (pointer k) (far k) (count * size k) ⊥) Goes to_cells (load_far_code (count * size k) x (pointer k) (far k)) (load_moves (count * size k) x (pointer k) (far k) wide)
    where
      to_cells : (i : Ins) → IsMove (pointer k) (far k) (count * size k) ⊥ i → Goes i
      to_cells i (inl h) = inl h
      to_cells i (inr h) = inr (inr (k, record { array = o.array; some = o.some; few = width_few (count * size k) wide; by = h.0; stores = λ m. absurd (h.1 m) }))
  source_goes live w prefix x (FromPattern j) o wide = (inr (inl (pattern_slot j, omega (arith, o.0, few_patterns), (refl, λ u. refl))), tt)
  source_goes live w prefix x (FromResident j g) o wide = (inl ((refl, λ u. refl)), tt)
  source_goes live w prefix x (FromPlace p) o wide = (inl ((refl, λ u. refl)), tt)
  source_goes live w prefix x (FromFar load array js) o wide = nowhere_goes (from_zero_code x) (from_zero_nowhere x)
  source_goes live w prefix x (FromSlot k) o wide = (inr (inl (spill_slot k, (let l = o.0 in omega (arith, l)), (refl, λ u. refl))), tt)

  sources_go : (one two : Bool) (live : ℕ → ℕ) (op : Op) (prefix x y : ℕ) (ss : List Source) → AreFrom n base size P numbers live op prefix ss → Each (IsMovedFrom count size) ss → Each Goes (near_sources_code one two count size far x y ss)
  sources_go one two live op prefix x y [] o wide = tt
  sources_go one two live op prefix x y (s ∷ []) o wide = each_brought Goes one (near_source_code count size far x s) (source_goes live (size_of_source op 0) prefix x s o.0 wide.0)
  sources_go one two live op prefix x y (s ∷ t ∷ more) o wide =
      let front = near_source_code count size far x s in
      let back = near_source_code count size far y t in
      each_both Goes (brought one front) (brought two back) (each_brought Goes one front (source_goes live (size_of_source op 0) prefix x s o.0 wide.0)) (each_brought Goes two back (source_goes live (size_of_source op 1) prefix y t o.1 wide.1.0))

  result_goes : (bytes x : ℕ) (t : Target) → IsMade n base size P numbers bytes t → IsMovedTo count size t → Each Goes (result_far_code count size far aligned x t)
  result_goes bytes x (ToArray k) o wide = each_map (IsMove (pointer k) (far k) (count * size k) ((aligned k ≡ false) × (count * size k ≡ 16))) Goes to_cells (store_either_code (aligned k) (count * size k) x (pointer k) (far k)) (either_moves (aligned k) (count * size k) x (pointer k) (far k) (whole k o.of.array) wide)
    where
      to_cells : (i : Ins) → IsMove (pointer k) (far k) (count * size k) ((aligned k ≡ false) × (count * size k ≡ 16)) i → Goes i
      to_cells i (inl h) = inl h
      to_cells i (inr h) = inr (inr (k, record { array = o.of.array; some = o.of.some; few = width_few (count * size k) wide; by = h.0; stores = λ m. (o.dest, (h.1 m).0, (h.1 m).1) }))
  result_goes bytes x (ToSum g) o wide = absurd o
  result_goes bytes x (ToResident g) o wide = absurd o
  result_goes bytes x (ToPlace p) o wide = tt
  result_goes bytes x (ToSlot k) o wide = (inr (inl (spill_slot k, omega (arith, o), (refl, λ u. refl))), tt)

  -- a running sum is in the frame
  in_sum : (g : ℕ) → g < numbers.sums → sum_slot g + 16 ≤ frame_size
  in_sum g l = omega (arith, l, few_sums)

  two_finish : (op : Op) (prefix : ℕ) (rule : List Ins) (t u : Target) → IsMade n base size P numbers (size_of_result op 0 * prefix) t → IsMade n base size P numbers (size_of_result op 1 * prefix) u → IsMovedTo count size t → IsMovedTo count size u → Each Goes rule
      → Each Goes (rule ++ (result_far_code count size far aligned 0 t ++ result_far_code count size far aligned 1 u))
  two_finish op prefix rule t u o o' wide wide' h =
      let one = result_far_code count size far aligned 0 t in
      let two = result_far_code count size far aligned 1 u in
      each_both Goes rule (one ++ two) h (each_both Goes one two (result_goes (size_of_result op 0 * prefix) 0 t o wide) (result_goes (size_of_result op 1 * prefix) 1 u o' wide'))

  -- the sum's load, the rule and the results
  finish_goes : (op : Op) (prefix : ℕ) (rule : List Ins) (ts : List Target) → AreTo n base size P numbers op prefix ts → Each (IsMovedTo count size) ts → Each Goes rule → Each Goes (sum_code ts ++ (rule ++ results_far_code count size far aligned ts))
  finish_goes op prefix rule [] o wide h = absurd o
  finish_goes op prefix rule (ToSum g ∷ []) o wide h = (inr (inl (sum_slot g, in_sum g o.0, (refl, λ u. refl))), each_both Goes rule (result_far_code count size far aligned 0 (ToSum g)) h (inr (inl (sum_slot g, in_sum g o.0, (refl, λ u. refl))), tt))
  finish_goes op prefix rule (ToResident g ∷ []) o wide h = each_both Goes rule [] h tt
  finish_goes op prefix rule (ToArray k ∷ []) o wide h = each_both Goes rule (result_far_code count size far aligned 0 (ToArray k)) h (result_goes (size_of_result op 0 * prefix) 0 (ToArray k) o.0 wide.0)
  finish_goes op prefix rule (ToPlace p ∷ []) o wide h = each_both Goes rule (result_far_code count size far aligned 0 (ToPlace p)) h (result_goes (size_of_result op 0 * prefix) 0 (ToPlace p) o.0 wide.0)
  finish_goes op prefix rule (ToSlot k ∷ []) o wide h = each_both Goes rule (result_far_code count size far aligned 0 (ToSlot k)) h (result_goes (size_of_result op 0 * prefix) 0 (ToSlot k) o.0 wide.0)
  finish_goes op prefix rule (ToSum g ∷ u ∷ more) o wide h = absurd o.0
  finish_goes op prefix rule (ToResident g ∷ u ∷ more) o wide h = absurd o.0
  finish_goes op prefix rule (ToArray k ∷ u ∷ more) o wide h = two_finish op prefix rule (ToArray k) u o.0 o.2 wide.0 wide.1.0 h
  finish_goes op prefix rule (ToPlace p ∷ u ∷ more) o wide h = two_finish op prefix rule (ToPlace p) u o.0 o.2 wide.0 wide.1.0 h
  finish_goes op prefix rule (ToSlot k ∷ u ∷ more) o wide h = two_finish op prefix rule (ToSlot k) u o.0 o.2 wide.0 wide.1.0 h

  action_goes : (live : ℕ → ℕ) (a : Action) → IsKnown n base size P numbers live a → IsFit count size a → Each Goes (near_action_code count size far aligned a)
  action_goes live a known fit =
      each_both Goes (near_sources_code a.takes_first (spares_second a) count size far (first_register a.to) (second_register a.to) a.sources) (sum_code a.to ++ (rule_code a ++ results_far_code count size far aligned a.to))
      (sources_go a.takes_first (spares_second a) live a.op a.prefix (first_register a.to) (second_register a.to) a.sources known.sources fit.sources)
      (finish_goes a.op a.prefix (rule_code a) a.to known.to fit.to (nowhere_goes (rule_code a) (rule_nowhere count a fit.rule)))

  pub goes_renamed : (f : ℕ → ℕ) (i : Ins) → Goes i → Goes (renamed f i)
  goes_renamed f i (inl g) = inl (nowhere_renamed f i g)
  goes_renamed f i (inr (inl g)) = inr (inl (g.0, g.1, by_renamed f 4 g.0 16 i g.2))
  goes_renamed f i (inr (inr g)) =
      let k = g.0 in
      inr (inr (k, record { array = g.1.array; some = g.1.some; few = g.1.few; by = by_renamed f (pointer k) (far k) (count * size k) i g.1.by; stores = λ m. g.1.stores (store_renamed f i m) }))

  -- each action of a block
  pub actions_go : (live : ℕ → ℕ) (actions : List Action) → AllKnown n base size P numbers live actions → Each (IsFit count size) actions → Each (λ a. Each Goes (near_action_code count size far aligned a)) actions
  actions_go live [] known fit = tt
  actions_go live (a ∷ rest) known fit = (action_goes live a known.0 fit.0, actions_go (live_act live a) rest known.1 fit.1)

  -- ---- what that touches in a core

  module _ (rsp : ℕ) (stack_low : rsp + frame_size ≤ 2 ^ 47) (low : Low n base size P) (some : 0 < count) where
    -- where the pointers of arrays are at element i, the block's instructions touch the frame or cells of one array
    pub goes_touch : (Free : Type 0) → (aligned 0 ≡ false → count * size 0 ≡ 16 → Free) → (i : ℕ) → i + count ≤ n → (u : Core) → u.gpr 4 ≡ rsp → ((k : ℕ) → P k → 0 < size k → u.gpr (pointer k) + far k ≡ base k + i * size k) → (ins : Ins) → Goes ins → TouchesPart n base size P rsp Free u ins
    goes_touch Free free i within u stack at ins (inl h) = inl (λ a t. absurd (touches_none ins u (h.1 u) a t))
    goes_touch Free free i within u stack at ins (inr (inl h)) =
        let here : address u (away 4 h.0) ≡ rsp + h.0 = at_away u 4 rsp h.0 stack (omega (arith, stack_low, h.1)) in
        inl (λ a t. let x = touches_in 4 (rsp + h.0) 16 ins u (omega (arith, stack_low, h.1)) (inr (h.2.0, h.2.1 u ∙ ap (λ a. (a, 16)) here)) a t in (omega (arith, x.0), omega (arith, x.1, h.1)))
    goes_touch Free free i within u stack at ins (inr (inr h)) =
        let k = h.0 in
        let g = h.1 in
        let p = base k + i * size k in
        let near : p < 2 ^ 47 = (let l = low k g.array i (omega (arith, within, some)) 0 g.some in omega (arith, l)) in
        let sum : u.gpr (pointer k) + far k ≡ p = at k g.array g.some in
        let here : address u (away (pointer k) (far k)) ≡ p = at_away u (pointer k) (u.gpr (pointer k)) (far k) refl (omega (arith, near, sum)) ∙ sum in
        let bytes : span ins u ≡ (p, count * size k) = g.by.1 u ∙ ap (λ a. (a, count * size k)) here in
        inr (
          k,
          g.array,
          g.by.0,
          λ a t.
              let x = touches_in (pointer k) p (count * size k) ins u (omega (arith, near, g.few)) (inr (g.by.0, bytes)) a t in
              let j : a - p < count * size k = omega (arith, x.0, x.1) in
              let y = byte_split (size k) count (a - p) j in
              (i + y.0, omega (arith, y.2, within), y.1, y.3, (let e : a ≡ p + (y.0 * size k + y.1) = omega (arith, x.0, y.4) in e) ∙ sym (byte_further (base k) i y.0 (size k) y.1)),
          λ m. let z = g.stores m in (z.0, λ first. free (subst (λ k. aligned k ≡ false) first z.1) (subst (λ k. count * size k ≡ 16) first z.2)),
        )
