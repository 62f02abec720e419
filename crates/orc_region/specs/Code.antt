-- The code of a function: the compiler's plan.
use Rattle.std.specs.Prelude.{◌≡◌, ℕ, zero, suc, ◌+◌, ◌-◌, ◌*◌, ◌/◌, ◌^◌, ◌<◌, ◌≤◌, ◌==◌, ◌&&◌, ◌||◌, not, nat_lt, Bool, true, false, if◌then◌else◌, pos, List, [], ◌∷◌, ◌++◌, length, map, slice_index, slice_get, max, Option, Some, None, is_some}
use Rattle.std.specs.List.{range_with_len}
use Rattle.x86_ins.specs.declared.ins.AluOp.TheVariants.{Add, Sub}
use Rattle.x86_ins.specs.declared.ins.Ins.{Ins}
use Rattle.x86_ins.specs.declared.ins.Ins.TheVariants.{AluImm, Vec, VecLoad, VecStore}
use Rattle.x86_ins.specs.declared.ins.MoveOp.TheVariants.{Movdqu}
use Rattle.x86_ins.specs.declared.ins.VecOp.TheVariants.{Movdqa, Pxor}
use Rattle.x86_ins.specs.Renaming.{renamed, renaming}
use Rattle.x86_ins.specs.Spelling.{IsIns}
use Rattle.x86_ins.specs.Way.{Each}
use Rattle.orc_ops.specs.declared.far.Far.{Far}
use Rattle.orc_ops.specs.declared.opcode.Op.{Op}
use Rattle.orc_ops.specs.declared.opcode.Op.TheVariants as opcode
use Rattle.orc_ops.specs.Far.{far_of, far_size, far_scalars}
use Rattle.orc_resample.specs.declared.turn.FarSource.{FarSource}
use Rattle.orc_resample.specs.Code.{bring_code}
use Rattle.orc_ops.specs.declared.target.Target.{Target as CodeTarget}
use Rattle.orc_ops.specs.Table.{row, size_of_result}
use Rattle.orc_ops.specs.Targets.{class_for}
use Rattle.orc_program.specs.declared.program.VarKind.TheVariants as kind
use Rattle.orc_program.specs.declared.program.Operand.{Operand}
use Rattle.orc_program.specs.declared.program.Operand.TheVariants as operand
use Rattle.orc_program.specs.declared.program.Pattern.{Pattern}
use Rattle.orc_program.specs.Program.{FunctionValue, count_of}
use Rattle.orc_program.specs.Checks.{patterns_of}
use Rattle.orc_program.specs.Need.{lanes, registers, has_whole_turns, begins_aligned}
use Rattle.orc_program.specs.Slots.{size_of_slot}
use Rattle.orc_plan.specs.declared.steps.Item.{Item}
use Rattle.orc_plan.specs.declared.steps.Item.TheVariants as item
use Rattle.orc_plan.specs.declared.steps.Step.{Step}
use Rattle.orc_plan.specs.Places.{GoodPlaces}
use Rattle.orc_plan.specs.Lowered.{steps_of}
use Rattle.orc_region.specs.declared.residents.Seats.{Seats as Standing}
use Rattle.orc_region.specs.declared.span.Span.{Span}
use Rattle.orc_region.specs.Regions.{TurnParts, parts_flow, aligned_row, plain_row, whole_row, tested_row, wide_loop, wide_loops}
use Rattle.x86_flow.specs.declared.tree.Flow.{Flow as Tree}
use Rattle.x86_flow.specs.Flow.{Flow, Plain, flat}
use Rattle.x86_flow.specs.Moves.{IsWidth, away, load_far_code, store_either_code}
use Rattle.x86_flow.specs.Tree.{flat_of}
use Rattle.orc_frame.specs.declared.frame.Layout.{Layout}
use Rattle.orc_frame.specs.Layout.{pattern_slot, sum_slot, row_slot, block_slot, index_slot, work_slot, spill_slots, spill_slot}
use Rattle.sse_laws.specs.Meets.{Meets, is_sum}
use Rattle.sse_laws.specs.Targets.{IsCodeFor}
use Rattle.sse_acc.specs.Sums.{AddsUp}
use Rattle.sse_shift.specs.Meets.{MeetsAt}
use Rattle.sse_shift.specs.Shifts.{has_shift}

-- where a source comes from: the elements of an array's slot, a pattern, from the frame or from the register of the resident with a number, a value, from the register of its place or from a spill slot, or a far load's values, from an array's slot and by the patterns of its scalars
pub data Source : Type 0 where
  FromArray : ℕ → Source
  FromPattern : ℕ → Source
  FromResident : ℕ → ℕ → Source
  FromPlace : ℕ → Source
  FromSlot : ℕ → Source
  FromFar : Far → ℕ → List ℕ → Source

-- where a result goes: the elements of an array's slot, a running sum that stands in the frame or in a register, or a value, to the register of its place or to a spill slot
pub data Target : Type 0 where
  ToArray : ℕ → Target
  ToSum : ℕ → Target
  ToResident : ℕ → Target
  ToPlace : ℕ → Target
  ToSlot : ℕ → Target

-- what an instruction's code does
pub record Action : Type 0 where
  pub op : Op
  -- how many adjacent sub-lanes of an element it works on
  pub prefix : ℕ
  -- one or two arrays, places or spill slots, or one sum
  pub to : List Target
  -- one or two
  pub sources : List Source
  -- the count that the rule has in itself, if it has one
  pub by : Option ℕ
  -- computes the opcode in XMM0 to XMM5
  pub rule : List Ins
  -- whether the register of its first source is taken over, and that of its second: nothing reads again what stands there
  pub takes_first : Bool
  pub takes_second : Bool

-- the opcode has a rule for so many elements: those that a running sum takes at once, where it adds to one
abbrev pub HasRule : ℕ → Op → Type 0
HasRule count op = is_sum (row op).kind ≡ true → (1 ≤ count) × (count ≤ 16) × (count ≤ 16 / size_of_result op 0)

-- the list computes the opcode, by a count that it has in itself or by what XMM1 holds
abbrev pub MeetsBy : Option ℕ → Op → List Ins → Type 0
MeetsBy None op rule = Meets op rule
MeetsBy (Some n) op rule = MeetsAt op n rule

-- the list does so, or adds the opcode's numbers of so many elements to a running sum
pub record IsRule (count : ℕ) (op : Op) (by : Option ℕ) (rule : List Ins) : Type 0 where
  pub meets : is_sum (row op).kind ≡ false → MeetsBy by op rule
  pub adds : is_sum (row op).kind ≡ true → (by ≡ None) × AddsUp op count rule
  pub short : length rule ≤ 100
  pub known : Each IsIns rule

-- what the code of a function depends on
pub record Plan : Type 0 where
  pub dests : ℕ
  pub sources : ℕ
  -- the bytes of an element of an array slot
  pub size : ℕ → ℕ
  pub actions : List Action

-- ---- registers: RAX is scratch, RCX counts the elements that are left, RDI points at the block

-- the register that points at the next element of an array slot: RDX, RBX, RBP, RSI, R8 to R15
abbrev pub pointer : ℕ → ℕ
pointer zero = 2
pointer (suc zero) = 3
pointer (suc (suc zero)) = 5
pointer (suc (suc (suc zero))) = 6
pointer (suc (suc (suc (suc k)))) = 8 + k

-- the vector register of a place: XMM6 to XMM15
abbrev pub place_register : ℕ → ℕ
place_register p = 6 + p

-- the vector register of a resident, a running sum or a pattern that stands in one through all rows: that of the last place, XMM15, for the first, and so on downwards
abbrev pub resident_register : ℕ → ℕ
resident_register g = place_register (registers - (g + 1))

-- the place of a spill slot
abbrev pub slot_place : ℕ → ℕ
slot_place k = registers + k

-- the register in which a result is made that the rule makes in register x: the place's own, where it goes to one
abbrev pub made_in : ℕ → Target → ℕ
made_in x (ToArray k) = x
made_in x (ToSum g) = x
made_in x (ToResident g) = x
made_in x (ToPlace p) = place_register p
made_in x (ToSlot k) = x

-- the register of the first source and of the first result
abbrev pub first_register : List Target → ℕ
first_register [] = 0
first_register (t ∷ more) = made_in 0 t

-- that of a second source and of a second result
abbrev pub second_register : List Target → ℕ
second_register [] = 1
second_register (t ∷ []) = 1
second_register (t ∷ u ∷ more) = made_in 1 u

-- the register in which the rule adds to a running sum: XMM2, or the sum's own
abbrev pub sum_home : Target → ℕ
sum_home (ToArray k) = 2
sum_home (ToSum g) = 2
sum_home (ToResident g) = resident_register g
sum_home (ToPlace p) = 2
sum_home (ToSlot k) = 2

abbrev pub third_register : List Target → ℕ
third_register [] = 2
third_register (t ∷ more) = sum_home t

-- a and b change places
abbrev pub exchange : ℕ → ℕ → ℕ → ℕ
exchange a b r = if r == a then b else (if r == b then a else r)

-- the register that stands for register r of a rule: results are made where they go, and a running sum grows where it stands
abbrev pub rule_register : List Target → ℕ → ℕ
rule_register ts r = exchange 0 (first_register ts) (exchange 1 (second_register ts) (exchange 2 (third_register ts) r))

-- ---- so many elements at once

-- where a far load's code finds its numbers in the frame, and the array's elements, so many bytes behind the pointer
abbrev pub far_source : ℕ → Far → ℕ → List ℕ → FarSource
far_source ahead load array js = record {
  far = load;
  array = pos (row_slot array);
  scalars = record { items = map (λ j. pos (pattern_slot j)) js };
  index = pos index_slot;
  work = pos work_slot;
  block = pos block_slot;
  pointer = pointer array;
  ahead = pos ahead;
}

-- its values stand in XMM0, and go on to register x
abbrev pub from_zero_code : ℕ → List Ins
from_zero_code x = if x == 0 then [] else Vec Movdqa x 0 ∷ []

-- a source goes to a vector register; the cells of slot k are `far k` bytes behind its pointer
abbrev pub source_far_code : ℕ → (ℕ → ℕ) → (ℕ → ℕ) → ℕ → Source → List Ins
source_far_code count size far x (FromArray k) = load_far_code (count * size k) x (pointer k) (far k)
source_far_code count size far x (FromPattern j) = VecLoad Movdqu x (away 4 (pattern_slot j)) ∷ []
source_far_code count size far x (FromResident j g) = Vec Movdqa x (resident_register g) ∷ []
source_far_code count size far x (FromPlace p) = Vec Movdqa x (place_register p) ∷ []
source_far_code count size far x (FromFar load array js) = bring_code (far_source (far array) load array js) count ++ from_zero_code x
source_far_code count size far x (FromSlot k) = VecLoad Movdqu x (away 4 (spill_slot k)) ∷ []

-- or nothing, where it is there already or isn't needed
abbrev pub brought : Bool → List Ins → List Ins
brought true code = []
brought false code = code

-- the first source goes to register x, and the second to register y, but for those that nothing has to bring
abbrev pub sources_far_code : Bool → Bool → ℕ → (ℕ → ℕ) → (ℕ → ℕ) → ℕ → ℕ → List Source → List Ins
sources_far_code one two count size far x y [] = []
sources_far_code one two count size far x y (s ∷ []) = brought one (source_far_code count size far x s)
sources_far_code one two count size far x y (s ∷ t ∷ more) = brought one (source_far_code count size far x s) ++ brought two (source_far_code count size far y t)

-- a running sum that stands in the frame goes to XMM2
abbrev pub sum_code : List Target → List Ins
sum_code (ToSum g ∷ more) = VecLoad Movdqu 2 (away 4 (sum_slot g)) ∷ []
sum_code other = []

-- the rule, in the registers that its results go to
abbrev pub rule_code : Action → List Ins
rule_code a = map (renamed (rule_register a.to)) a.rule

-- a result comes from a vector register, for some slots by aligned stores, and a running sum of the frame from XMM2; what goes to a register of its own is there
abbrev pub result_far_code : ℕ → (ℕ → ℕ) → (ℕ → ℕ) → (ℕ → Bool) → ℕ → Target → List Ins
result_far_code count size far aligned x (ToArray k) = store_either_code (aligned k) (count * size k) x (pointer k) (far k)
result_far_code count size far aligned x (ToSum g) = VecStore Movdqu 2 (away 4 (sum_slot g)) ∷ []
result_far_code count size far aligned x (ToResident g) = []
result_far_code count size far aligned x (ToPlace p) = []
result_far_code count size far aligned x (ToSlot k) = VecStore Movdqu x (away 4 (spill_slot k)) ∷ []

-- the first result comes from XMM0, and after it a second one from XMM1
abbrev pub results_far_code : ℕ → (ℕ → ℕ) → (ℕ → ℕ) → (ℕ → Bool) → List Target → List Ins
results_far_code count size far aligned [] = []
results_far_code count size far aligned (t ∷ []) = result_far_code count size far aligned 0 t
results_far_code count size far aligned (t ∷ u ∷ more) = result_far_code count size far aligned 0 t ++ result_far_code count size far aligned 1 u

-- nothing has to bring the second source: its register is taken over, or the rule has it in itself
abbrev pub spares_second : Action → Bool
spares_second a = is_some a.by || a.takes_second

abbrev pub action_far_code : ℕ → (ℕ → ℕ) → (ℕ → ℕ) → (ℕ → Bool) → Action → List Ins
action_far_code count size far aligned a =
    sources_far_code a.takes_first (spares_second a) count size far (first_register a.to) (second_register a.to) a.sources ++ (sum_code a.to ++ (rule_code a ++ results_far_code count size far aligned a.to))

-- ---- the names of the vector registers, each by the register's number

abbrev pub own_names : List ℕ
own_names = map (λ r. r) (range_with_len 0 16)

-- registers x and y change names
abbrev pub exchanged : ℕ → ℕ → List ℕ → List ℕ
exchanged x y names = map (λ r. renaming names (exchange x y r)) (range_with_len 0 16)

-- a source that is taken over: its register changes names with the one that the source would go to
abbrev pub take_names : Bool → ℕ → Source → List ℕ → List ℕ
take_names one x (FromPlace p) names = if one then exchanged x (place_register p) names else names
take_names one x (FromArray k) names = names
take_names one x (FromPattern j) names = names
take_names one x (FromResident j g) names = names
take_names one x (FromFar load array js) names = names
take_names one x (FromSlot k) names = names

abbrev pub source_names : Bool → Bool → ℕ → ℕ → List Source → List ℕ → List ℕ
source_names one two x y [] names = names
source_names one two x y (s ∷ []) names = take_names one x s names
source_names one two x y (s ∷ t ∷ more) names = take_names two y t (take_names one x s names)

-- the names in an action, and behind it, after these
abbrev pub action_names : Action → List ℕ → List ℕ
action_names a = source_names a.takes_first a.takes_second (first_register a.to) (second_register a.to) a.sources

abbrev pub named_code : List ℕ → ℕ → (ℕ → ℕ) → (ℕ → ℕ) → (ℕ → Bool) → List Action → List Ins
named_code names count size far aligned [] = []
named_code names count size far aligned (a ∷ rest) =
    map (renamed (renaming (action_names a names))) (action_far_code count size far aligned a) ++ named_code (action_names a names) count size far aligned rest

abbrev pub actions_far_code : ℕ → (ℕ → ℕ) → (ℕ → ℕ) → (ℕ → Bool) → List Action → List Ins
actions_far_code = named_code own_names

-- the same where the cells are at the pointers
abbrev pub at_pointer : ℕ → ℕ
at_pointer k = 0

abbrev pub unaligned : ℕ → Bool
unaligned k = false

-- where they are so many elements behind the pointers
abbrev pub far_by : ℕ → (ℕ → ℕ) → ℕ → ℕ
far_by first size k = first * size k

-- aligned stores for the first dest alone, or for none
abbrev pub aligned_first : Bool → ℕ → Bool
aligned_first false = unaligned
aligned_first true = λ k. k == 0

abbrev pub action_code : ℕ → (ℕ → ℕ) → Action → List Ins
action_code count size = action_far_code count size at_pointer unaligned

-- ---- a turn

-- the pointers of so many slots from a first one go on by so many elements
abbrev pub advance_code : (ℕ → ℕ) → ℕ → ℕ → ℕ → List Ins
advance_code size count first zero = []
advance_code size count first (suc n) = advance_code size count first n ++ AluImm Add (pointer (first + n)) (pos (count * size (first + n))) ∷ []

-- ---- from steps with places to a plan

-- where a value at a place comes from, and where it goes: to the place's register, or to a spill slot
abbrev pub from_place : ℕ → Source
from_place p = if nat_lt p registers then FromPlace p else FromSlot (p - registers)

abbrev pub to_place : ℕ → Target
to_place p = if nat_lt p registers then ToPlace p else ToSlot (p - registers)

-- the last place of these, 0 where there is none
abbrev pub last_place : List ℕ → ℕ
last_place [] = 0
last_place (p ∷ ps) = max p (last_place ps)

-- the resident with a number stands in its register where no value has the register's place or one past it; values have places up to the last one
abbrev pub is_resident : ℕ → ℕ → Bool
is_resident last g = nat_lt (last + g + 1) registers

-- where values stand, by their places, and these patterns: behind so many running sums
pub record Seats : Type 0 where
  pub places : List ℕ
  pub sums : ℕ
  pub patterns : List Pattern

abbrev pub seats_in : Standing → Seats
seats_in s = record { places = s.places.now; sums = s.sums; patterns = s.patterns.now }

-- those by places of values and by a layout
abbrev pub seats_with : Layout → List ℕ → Seats
seats_with l at = record { places = at; sums = length l.acc_sizes.items; patterns = l.patterns.items }

-- a function's patterns
abbrev pub patterns_in : FunctionValue → List Pattern
patterns_in f = patterns_of f.vars f.insns

-- those of a function whose values have these places
abbrev pub seats_of : FunctionValue → List ℕ → Seats
seats_of f at = record { places = at; sums = count_of kind.Accumulator f.vars; patterns = patterns_in f }

abbrev pub to_sum : List ℕ → ℕ → Target
to_sum at g = if is_resident (last_place at) g then ToResident g else ToSum g

-- patterns are residents behind the running sums
abbrev pub from_pattern : Seats → ℕ → Source
from_pattern seats j = if is_resident (last_place seats.places) (seats.sums + j) then FromResident j (seats.sums + j) else FromPattern j

-- where an item of a step comes from as a source; no source is a sum
abbrev pub source_of : Seats → Item → Source
source_of seats (item.Value v) = from_place (slice_index seats.places v)
source_of seats (item.Array slot) = FromArray slot
source_of seats (item.Acc slot size) = FromArray slot
source_of seats (item.Pattern j) = from_pattern seats j

-- where it goes as a result; no result is a pattern
abbrev pub target_of : List ℕ → Item → Target
target_of at (item.Value v) = to_place (slice_index at v)
target_of at (item.Array slot) = ToArray slot
target_of at (item.Acc slot size) = to_sum at slot
target_of at (item.Pattern j) = ToArray j

-- the number of the pattern that an item is
abbrev pub scalar_pattern : Item → ℕ
scalar_pattern (item.Pattern j) = j
scalar_pattern other = 0

-- where a far load's values come from: its array, and the patterns of the scalars behind it
abbrev pub far_sources : Far → List Item → List Source
far_sources load (item.Array slot ∷ scalars) = FromFar load slot (map scalar_pattern scalars) ∷ []
far_sources load items = []

-- where a step's sources come from; a far load is one source
abbrev pub sources_of : Seats → Option Far → List Item → List Source
sources_of seats None items = map (source_of seats) items
sources_of seats (Some load) items = far_sources load items

-- the opcode that is computed from these sources: of a far load, whose source is the value, it is the copy of its size
abbrev pub copy_of : ℕ → Op
copy_of size = if size == 1 then opcode.Copyb else (if size == 2 then opcode.Copyw else opcode.Copyl)

abbrev pub computed_by : Op → Option Far → Op
computed_by o None = o
computed_by o (Some load) = copy_of (far_size load)

abbrev pub computed_op : Op → Op
computed_op o = computed_by o (far_of o)

-- the number that an operand is itself
abbrev pub plain_number : Operand → Option ℕ
plain_number (operand.Number n) = Some n
plain_number (operand.Var p) = None

-- the number of a pattern, where it is none of a parameter
abbrev pub known_number : Option Pattern → Option ℕ
known_number None = None
known_number (Some p) = plain_number p.number

-- that of a second source of two, where it is a pattern of these
abbrev pub known_second : List Pattern → List Item → Option ℕ
known_second patterns (s ∷ item.Pattern j ∷ []) = known_number (slice_get patterns j)
known_second patterns items = None

-- the count of a shift that is one instruction by it
abbrev pub count_by : Seats → Op → List Item → Option ℕ
count_by seats op items = if has_shift op then known_second seats.patterns items else None

-- the action is the step's, by some list of the target's instructions that computes its opcode, in at most as many as its class for the target says; a far load's class is 0: its value is the source
pub record IsAction (target : CodeTarget) (seats : Seats) (count : ℕ) (step : Step) (a : Action) : Type 0 where
  pub op : a.op ≡ computed_op step.op
  pub prefix : a.prefix ≡ step.prefix
  pub to : a.to ≡ map (target_of seats.places) step.results.items
  pub sources : a.sources ≡ sources_of seats (far_of step.op) step.sources.items
  pub by : a.by ≡ count_by seats step.op step.sources.items
  pub rule : IsRule count a.op a.by a.rule
  pub few : length a.rule ≤ class_for step.op target
  pub for_target : IsCodeFor target a.rule

-- ---- which registers are taken over

-- a source from this place, and a result to it
abbrev pub is_from : ℕ → Source → Bool
is_from p (FromArray k) = false
is_from p (FromPattern j) = false
is_from p (FromResident j g) = false
is_from p (FromPlace q) = q == p
is_from p (FromFar load array js) = false
is_from p (FromSlot k) = slot_place k == p

abbrev pub is_to : ℕ → Target → Bool
is_to p (ToArray k) = false
is_to p (ToSum g) = false
is_to p (ToResident g) = false
is_to p (ToPlace q) = q == p
is_to p (ToSlot k) = slot_place k == p

-- one of the first two
abbrev pub some_from : ℕ → List Source → Bool
some_from p [] = false
some_from p (s ∷ []) = is_from p s
some_from p (s ∷ t ∷ more) = is_from p s || is_from p t

abbrev pub some_to : ℕ → List Target → Bool
some_to p [] = false
some_to p (t ∷ []) = is_to p t
some_to p (t ∷ u ∷ more) = is_to p t || is_to p u

-- of these steps none reads what stands at the place: before one does, one makes a value there
abbrev pub is_free : Seats → ℕ → List Step → Bool
is_free seats p [] = true
is_free seats p (s ∷ later) = not (some_from p (map (source_of seats) s.sources.items)) && (some_to p (map (target_of seats.places) s.results.items) || is_free seats p later)

-- no later step reads what is in the source's register
abbrev pub is_last : Seats → List Step → Source → Bool
is_last seats later (FromArray k) = false
is_last seats later (FromPattern j) = false
is_last seats later (FromResident j g) = false
is_last seats later (FromPlace p) = is_free seats p later
is_last seats later (FromFar load array js) = false
is_last seats later (FromSlot k) = false

-- the other source is in this one's register
abbrev pub is_beside : Source → Source → Bool
is_beside (FromArray k) t = false
is_beside (FromPattern j) t = false
is_beside (FromResident j g) t = false
is_beside (FromPlace p) t = is_from p t
is_beside (FromFar load array js) t = false
is_beside (FromSlot k) t = false

abbrev pub is_first_taken : Seats → List Step → List Source → Bool
is_first_taken seats later [] = false
is_first_taken seats later (s ∷ []) = is_last seats later s
is_first_taken seats later (s ∷ t ∷ more) = is_last seats later s && not (is_beside s t)

abbrev pub is_second_taken : Seats → List Step → List Source → Bool
is_second_taken seats later [] = false
is_second_taken seats later (s ∷ []) = false
is_second_taken seats later (s ∷ t ∷ more) = is_last seats later t && not (is_beside t s)

pub record IsTaking (seats : Seats) (later : List Step) (a : Action) : Type 0 where
  pub first : a.takes_first ≡ is_first_taken seats later a.sources
  pub second : a.takes_second ≡ is_second_taken seats later a.sources

-- the actions are those of the steps
abbrev pub AreActions : CodeTarget → Seats → ℕ → List Step → List Action → Type 0
AreActions target seats count [] [] = Unit {0}
AreActions target seats count (s ∷ steps) (a ∷ rest) = (IsAction target seats count s a × IsTaking seats steps a) × AreActions target seats count steps rest
AreActions target seats count [] (a ∷ rest) = ⊥
AreActions target seats count (s ∷ steps) [] = ⊥

abbrev pub plan_with : FunctionValue → List Action → Plan
plan_with f actions = record {
  dests = count_of kind.Dest f.vars;
  sources = count_of kind.Source f.vars;
  size = size_of_slot f.vars;
  actions = actions;
}

-- ---- around the rows of a call

-- a resident that stands in its register is brought there by an instruction, and a running sum goes back to 16 bytes of the frame
abbrev pub resident_code : List ℕ → ℕ → Ins → List Ins
resident_code at g begins = if is_resident (last_place at) g then begins ∷ [] else []

abbrev pub sum_store_code : List ℕ → ℕ → List Ins
sum_store_code at g = if is_resident (last_place at) g then VecStore Movdqu (resident_register g) (away 4 (sum_slot g)) ∷ [] else []

-- so many residents with these numbers, each by its instruction
abbrev pub residents_code : List ℕ → (ℕ → ℕ) → (ℕ → Ins) → ℕ → List Ins
residents_code at number begins zero = []
residents_code at number begins (suc n) = residents_code at number begins n ++ resident_code at (number n) (begins n)

-- a running sum's register becomes 0
abbrev pub cleared : ℕ → Ins
cleared g = Vec Pxor (resident_register g) (resident_register g)

-- pattern j, behind so many running sums, is loaded from its slot
abbrev pub loaded : ℕ → ℕ → Ins
loaded sums j = VecLoad Movdqu (resident_register (sums + j)) (away 4 (pattern_slot j))

-- the running sums that stand in registers begin at 0, and the patterns that do go there from their slots
abbrev pub resident_loads_code : List ℕ → ℕ → ℕ → List Ins
resident_loads_code at sums patterns = residents_code at (λ g. g) cleared sums ++ residents_code at (λ j. sums + j) (loaded sums) patterns

abbrev pub sum_stores_code : List ℕ → ℕ → List Ins
sum_stores_code at zero = []
sum_stores_code at (suc n) = sum_stores_code at n ++ sum_store_code at n

-- ---- code by some lists that compute the opcodes

abbrev pub AddsRule : CodeTarget → ℕ → Op → Option ℕ → List Target → List Ins → List Ins → Type 0
AddsRule target count op by to old new = (rule : List Ins) × IsRule count (computed_op op) by rule × (length rule ≤ class_for op target) × IsCodeFor target rule × (new ≡ old ++ map (renamed (rule_register to)) rule)

-- `size` has the bytes of an element of each array slot
abbrev pub AddsAction : Seats → (ℕ → ℕ) → Span → Step → Bool → Bool → List Ins → List Ins → Type 0
AddsAction seats size span step one two old new =
    (a : Action) × IsAction span.target seats span.count step a × (a.takes_first ≡ one) × (a.takes_second ≡ two) × (new ≡ old ++ action_far_code span.count size (far_by span.first size) (aligned_first span.aligned) a)

-- under these names of the vector registers
abbrev pub AddsNamed : List ℕ → Seats → (ℕ → ℕ) → Span → List Step → List Ins → List Ins → Type 0
AddsNamed names seats size span steps old new =
    (actions : List Action) × AreActions span.target seats span.count steps actions × (new ≡ old ++ named_code names span.count size (far_by span.first size) (aligned_first span.aligned) actions)

abbrev pub AddsActions : Seats → (ℕ → ℕ) → Span → List Step → List Ins → List Ins → Type 0
AddsActions = AddsNamed own_names

-- a block of steps with these seats, by the sizes of array slots
abbrev pub IsBlockBy : Seats → List ℕ → List Step → Span → List Ins → Type 0
IsBlockBy seats sizes steps span list = AddsActions seats (slice_index sizes) span steps [] list

-- so many blocks of `count` elements each, one behind another, with the pointers at the first; each is of actions of which Are holds
abbrev pub AreBlocks : (List Action → Type 0) → ℕ → (ℕ → ℕ) → (ℕ → Bool) → ℕ → List Ins → Type 0
AreBlocks Are count size aligned zero list = list ≡ []
AreBlocks Are count size aligned (suc b) list =
    (before : List Ins) × (actions : List Action) × AreBlocks Are count size aligned b before × Are actions × (list ≡ before ++ actions_far_code count size (far_by (b * count) size) aligned actions)

-- a turn of so many blocks: the pointers of dests and of sources and the counter go on once
abbrev pub IsBlocksTurn : (List Action → Type 0) → ℕ → (ℕ → ℕ) → (ℕ → Bool) → ℕ → ℕ → ℕ → List Ins → Type 0
IsBlocksTurn Are count size aligned dests sources b list =
    (blocks : List Ins) × AreBlocks Are count size aligned b blocks × (list ≡ blocks ++ (advance_code size (b * count) 0 dests ++ (advance_code size (b * count) 4 sources ++ AluImm Sub 1 (pos (b * count)) ∷ [])))

-- a turn of blocks of steps with these seats, by the sizes of array slots
abbrev pub IsTurnBy : Seats → List ℕ → List Step → ℕ → ℕ → Span → ℕ → List Ins → Type 0
IsTurnBy seats sizes steps dests sources span = IsBlocksTurn (AreActions span.target seats span.count steps) span.count (slice_index sizes) (aligned_first span.aligned) dests sources

-- so many elements from the one that the pointers are at, by rules for the target, with aligned stores to the first dest or without
abbrev pub span_of : CodeTarget → ℕ → Bool → Span
span_of target count aligned = record { first = 0; count = count; aligned = aligned; target = target }

-- a block for so many elements of a function's code for the target, by these places of its values, with aligned stores to the first dest or without
abbrev pub IsBlock : FunctionValue → CodeTarget → List ℕ → ℕ → Bool → List Ins → Type 0
IsBlock f target at count aligned list =
    (actions : List Action) × AreActions target (seats_of f at) count (steps_of f) actions × (list ≡ actions_far_code count (size_of_slot f.vars) (far_by 0 (size_of_slot f.vars)) (aligned_first aligned) actions)

-- a turn of so many blocks of a function's code, each of `count` elements, with aligned stores to the first dest or without
abbrev pub IsTurnOf : FunctionValue → CodeTarget → List ℕ → ℕ → Bool → ℕ → List Ins → Type 0
IsTurnOf f target at count aligned = IsBlocksTurn (AreActions target (seats_of f at) count (steps_of f)) count (size_of_slot f.vars) (aligned_first aligned) (count_of kind.Dest f.vars) (count_of kind.Source f.vars)

-- ---- the elements of a row

-- how many of so many slots from a first one on are in use: their elements have bytes
abbrev pub used_from : (ℕ → ℕ) → ℕ → ℕ → ℕ
used_from size first zero = 0
used_from size first (suc n) = used_from size first n + (if size (first + n) == 0 then 0 else 1)

-- so many elements halved some times, or not at all
abbrev pub IsShare : ℕ → ℕ → Type 0
IsShare lanes count = (j : ℕ) × (count * 2 ^ j ≡ lanes)

-- the size of an element as a power of two
abbrev pub shift_of : ℕ → ℕ
shift_of size = if size == 8 then 3 else (if size == 4 then 2 else (if size == 2 then 1 else 0))

-- there is a first dest, of which so many elements fill a register
abbrev pub is_filled : ℕ → ℕ → ℕ → Bool
is_filled dests lanes size = nat_lt 0 dests && lanes * size == 16

-- the blocks of a large turn, where a turn of one block has so many instructions: the fewer those are, the more a turn's jump and counting weigh
abbrev pub blocks_of : ℕ → ℕ
blocks_of n = if nat_lt n 15 then 4 else (if nat_lt n 31 then 2 else 1)

-- turns of `lanes` elements, after large ones of so many blocks
abbrev pub turns_flow : ℕ → ℕ → List Ins → List Ins → Flow
turns_flow lanes b large turn = if nat_lt 1 b then wide_loops lanes (b * lanes) (Plain large) (Plain turn) else wide_loop (Plain turn)

-- so they are in a function's code, by large turns where these have several blocks
abbrev pub AreWholeTurns : FunctionValue → CodeTarget → List ℕ → Bool → ℕ → List Ins → List Ins → Type 0
AreWholeTurns f target at aligned b turn list = (large : List Ins) × (1 < b → IsTurnOf f target at (lanes f) aligned b large) × (list ≡ flat (turns_flow (lanes f) b large turn))

-- turns from the first element on, and parts of one where the turns may leave some elements
abbrev pub from_first : Bool → ℕ → TurnParts → Flow → Flow
from_first true lanes parts turns = whole_row lanes turns
from_first false lanes parts turns = plain_row lanes parts turns

-- turns with aligned stores from where the first dest is at a multiple of 16, if it is somewhere: behind parts of one, or, where a row is whole turns, from the first element on
abbrev pub from_boundary : Bool → ℕ → ℕ → TurnParts → List Ins → Flow → Flow
from_boundary true shift lanes parts wide turns = tested_row lanes (wide_loop (Plain wide)) turns
from_boundary false shift lanes parts wide turns = aligned_row shift lanes parts (wide_loop (Plain wide)) turns

-- the loops over a row's elements, by turns of fewer elements than `lanes`, of `lanes`, of `lanes` with aligned stores, and large ones of so many blocks; and by what is known: that the first dest fills a register, that it begins at a multiple of 16, and that the elements are whole turns
abbrev pub elements_flow : Bool → Bool → Bool → ℕ → ℕ → ℕ → TurnParts → List Ins → List Ins → List Ins → Flow
elements_flow true true whole shift lanes b parts wide aligned large = from_first whole lanes parts (turns_flow lanes b large aligned)
elements_flow true false whole shift lanes b parts wide aligned large = from_boundary whole shift lanes parts wide (turns_flow lanes b large aligned)
elements_flow false begins whole shift lanes b parts wide aligned large = from_first whole lanes parts (turns_flow lanes b large wide)

-- a register of the first dest is filled by as many elements as a block does
abbrev pub fills : FunctionValue → Bool
fills f = is_filled (count_of kind.Dest f.vars) (lanes f) (size_of_slot f.vars 0)

-- a turn of so many elements is such a part: its elements are a share of L, and where they are several it has at most 100 instructions
pub record IsPart (f : FunctionValue) (target : CodeTarget) (at : List ℕ) (count : ℕ) (turn : List Ins) : Type 0 where
  pub share : IsShare (lanes f) count
  pub is : IsTurnOf f target at count false 1 turn
  pub short : 1 < count → length turn ≤ 100

-- turns of at most half as many elements each as the one before, and the first of at most half as many as this, down to one element
abbrev pub AreParts : (ℕ → List Ins → Type 0) → ℕ → TurnParts → Type 0
AreParts Is from [] = from ≡ 1
AreParts Is from (part ∷ parts) = AreParts Is part.0 parts × (2 * part.0 ≤ from) × Is part.0 part.1

-- the parts of a turn, where a row may have elements besides whole turns
abbrev pub ArePartsOf : FunctionValue → CodeTarget → List ℕ → TurnParts → Type 0
ArePartsOf f target at parts = has_whole_turns f ≡ false → AreParts (IsPart f target at) (lanes f) parts

-- these instructions do fewer elements than so many by parts of a turn
abbrev pub AreByParts : FunctionValue → CodeTarget → List ℕ → ℕ → List Ins → Type 0
AreByParts f target at from list = (parts : TurnParts) × AreParts (IsPart f target at) from parts × (list ≡ flat (parts_flow from parts))

-- the turns of a function's code by good places of its values
pub record Turns (f : FunctionValue) (target : CodeTarget) (at : List ℕ) (parts : TurnParts) (wide aligned large : List Ins) : Type 0 where
  pub good : GoodPlaces (steps_of f) at
  pub fewer : ArePartsOf f target at parts
  pub more : IsTurnOf f target at (lanes f) false 1 wide
  pub stored : fills f ≡ true → IsTurnOf f target at (lanes f) true 1 aligned
  -- where they have several blocks
  pub many : 1 < blocks_of (length wide) → IsTurnOf f target at (lanes f) (fills f) (blocks_of (length wide)) large

abbrev pub elements_of : FunctionValue → TurnParts → List Ins → List Ins → List Ins → Flow
elements_of f parts wide aligned large = elements_flow (fills f) (begins_aligned f) (has_whole_turns f) (shift_of (size_of_slot f.vars 0)) (lanes f) (blocks_of (length wide)) parts wide aligned large

-- in a function's code these turns are from the first element on
abbrev pub AreFromFirst : FunctionValue → CodeTarget → List ℕ → List Ins → List Ins → Type 0
AreFromFirst f target at turns list = (parts : TurnParts) × ArePartsOf f target at parts × (list ≡ flat (from_first (has_whole_turns f) (lanes f) parts (Plain turns)))

-- or from where the first dest is at a multiple of 16, and where it is nowhere by the turn `wide`
abbrev pub AreFromBoundary : FunctionValue → CodeTarget → List ℕ → List Ins → List Ins → List Ins → Type 0
AreFromBoundary f target at wide turns list = (parts : TurnParts) × ArePartsOf f target at parts
    × (list ≡ flat (from_boundary (has_whole_turns f) (shift_of (size_of_slot f.vars 0)) (lanes f) parts wide (Plain turns)))

-- the tree does the elements of a row, by these places of values
abbrev pub IsElements : FunctionValue → CodeTarget → List ℕ → Tree → Type 0
IsElements f target at tree =
    (parts : TurnParts) × (wide : List Ins) × (aligned : List Ins) × (large : List Ins) × Turns f target at parts wide aligned large × (flat_of tree ≡ flat (elements_of f parts wide aligned large))

-- ---- steps whose code can be given for so many elements

-- a slot's elements can be moved
abbrev pub IsMoved : (ℕ → ℕ) → ℕ → ℕ → Type 0
IsMoved size count k = (k < 12) × IsWidth (count * size k)

-- a result that goes to a place's register goes to one that there is
abbrev pub InPlaces : Target → Type 0
InPlaces (ToArray k) = Unit {0}
InPlaces (ToSum g) = Unit {0}
InPlaces (ToResident g) = Unit {0}
InPlaces (ToPlace p) = p < registers
InPlaces (ToSlot k) = Unit {0}

-- a source can be loaded, where the function has this layout
abbrev pub IsLoaded : Layout → (ℕ → ℕ) → ℕ → Source → Type 0
IsLoaded l size count (FromArray k) = IsMoved size count k
IsLoaded l size count (FromPattern j) = j < length l.patterns.items
IsLoaded l size count (FromResident j g) = g < registers
IsLoaded l size count (FromPlace p) = p < registers
IsLoaded l size count (FromFar load array js) = (array < 12) × IsWidth (count * far_size load) × (size array ≡ far_size load) × (length js ≡ far_scalars load) × Each (λ j. j < length l.patterns.items) js
IsLoaded l size count (FromSlot k) = k < spill_slots

-- a result can be stored
abbrev pub IsStored : Layout → (ℕ → ℕ) → ℕ → Target → Type 0
IsStored l size count (ToArray k) = IsMoved size count k
IsStored l size count (ToSum g) = g < length l.acc_sizes.items
IsStored l size count (ToResident g) = g < length l.acc_sizes.items
IsStored l size count (ToPlace p) = p < registers
IsStored l size count (ToSlot k) = k < spill_slots

pub record IsReady (l : Layout) (seats : Seats) (size : ℕ → ℕ) (count : ℕ) (step : Step) : Type 0 where
  pub has_rule : HasRule count step.op
  pub sources : Each (IsLoaded l size count) (sources_of seats (far_of step.op) step.sources.items)
  pub to : Each (IsStored l size count) (map (target_of seats.places) step.results.items)
