-- What emulation does at several elements, said of their cells.
use Rattle.std.proofs.Common.{◌≡◌, ℕ, zero, suc, ◌+◌, ◌*◌, ◌%◌, ◌^◌, ◌≢◌, length, ◌<◌, ◌≤◌, List, [], ◌∷◌, Option, None, Some, is_some, ℤ, Result, Ok, slice_index, if◌then◌else◌, refl, sym, ap, ap₂, ◌∙◌, subst, arith, ◌⊎◌, ⊎_elim, false}
use Rattle.std.proofs.lemmas.Bool.{cases_lt, cases_eq}
use Rattle.std.proofs.Math.Nat.{mod-add-mod}
use Rattle.orc_bits.specs.Lanes.{change}
use Rattle.orc_bits.proofs.LaneLaws.{eq_false, change_other, change_same}
use Rattle.sse_acc.specs.Sums.{sum_below}
use Rattle.sse_acc.proofs.Totals.{sum_below-zero, sum_below-suc}
use Rattle.orc_bits.specs.Memory.{Memory}
use Rattle.orc_ops.specs.declared.far.Far.{Far}
use Rattle.orc_ops.specs.Far.{far_of, far_size}
use Rattle.orc_ops.specs.Table.{size_of_result, size_of_source}
use Rattle.orc_ops.specs.declared.opcode.Op.{Op}
use Rattle.orc_program.specs.declared.program.VarKind.TheVariants as kind
use Rattle.orc_program.specs.declared.program.Operand.{Operand}
use Rattle.orc_program.specs.declared.program.Operand.TheVariants as operand
use Rattle.orc_program.specs.declared.program.Insn.{Insn}
use Rattle.orc_program.specs.declared.call.Call.{Call}
use Rattle.orc_program.specs.Program.{FunctionValue, var_at, same_kind, count_before, places_of, is_far, far_array}
use Rattle.orc_program.specs.Slots.{slot_of}
use Rattle.orc_program.specs.Meaning.{State, Gap, cell, cell_at, sub_lane, go_on, write_result, write_results, act, element, row_of}
use Rattle.orc_program.specs.Checks.{number_in}
use Rattle.x86_flow.proofs.Moves.{IsFill}
use Rattle.orc_resample.specs.Ready.{AmongCells, value_at}
use Rattle.orc_resample.specs.Ready.{IsRead as ReadsElement}
use Rattle.orc_resample.specs.Ready.{cell as far_cell}
use Rattle.orc_region.specs.Code.{computed_by, computed_op, copy_of, Action, Source, FromArray, FromPattern, FromResident, FromPlace, FromSlot, FromFar, Target, ToArray, ToSum, ToResident, ToPlace, ToSlot, slot_place}
use Rattle.orc_region.proofs.Arithmetic.Digits.{digit}
use Rattle.orc_region.proofs.Block.Cells.{Numbers, Local, given_by, given, computed, adds_to, results_add, eq_yes, Lanes, AtElements, Others, OfDests, IsOf, Separate, Low, set_local, set_target, set_results, value_of, local_act, local, adds, store_lanes, store_others, others_more, cell_apart}
use Rattle.orc_region.proofs.Block.Fars.{IsFarOf, behind_array, AreScalars, far_at, InFars, HasByte, FarValues}
use Rattle.orc_region.proofs.Block.FarReads.{ReadsBytes, small_value, copy_is, value_alike}
use Rattle.orc_region.proofs.Block.Emulated.{IsCells, IsDest, IsSum, IsTemp, state, meant, Holds, IsLow, Gives, array_gives, temp_gives, number_gives, array_takes, sum_takes, temp_takes, Writes, act_one, act_two, act_far, reach_is}
use Rattle.orc_program.proofs.Nth.{place_again}

-- ---- what an instruction's operands and an action's say alike; `patterns` are the patterns' numbers

-- which temp's value stands at which place, `V x p` of the temp at place x of the variables and of the place p, before and after an instruction
abbrev pub IsRead : FunctionValue → (ℕ → Operand) → (ℕ → ℕ → Type 0) → ℕ → ℕ → Operand → Source → Type 0
IsRead f patterns V w prefix o (FromArray k) = (p : ℕ) × (o ≡ operand.Var p) × IsCells f p (w * prefix) × (slot_of f.vars p ≡ k)
IsRead f patterns V w prefix o (FromPattern j) = number_in f.vars o ≡ Some (patterns j)
IsRead f patterns V w prefix o (FromResident j g) = number_in f.vars o ≡ Some (patterns j)
IsRead f patterns V w prefix o (FromPlace p) = (x : ℕ) × (o ≡ operand.Var x) × IsTemp f x × V x p
IsRead f patterns V w prefix o (FromFar load array js) = ⊥
IsRead f patterns V w prefix o (FromSlot k) = (x : ℕ) × (o ≡ operand.Var x) × IsTemp f x × V x (slot_place k)

abbrev pub AreRead : FunctionValue → (ℕ → Operand) → (ℕ → ℕ → Type 0) → Op → ℕ → List Operand → List Source → Type 0
AreRead f patterns V op prefix (x ∷ []) (s ∷ []) = IsRead f patterns V (size_of_source op 0) prefix x s
AreRead f patterns V op prefix (x ∷ y ∷ []) (s ∷ t ∷ []) = IsRead f patterns V (size_of_source op 0) prefix x s × IsRead f patterns V (size_of_source op 1) prefix y t
AreRead f patterns V op prefix os ss = ⊥

-- what an instruction reads and what an action's sources are: operands one by one, or, of a far load, its value; D has the far loads that there are
abbrev pub AreBrought : FunctionValue → (ℕ → Operand) → (Far → ℕ → List ℕ → Type 0) → (ℕ → ℕ → Type 0) → Insn → List Source → Option Far → Type 0
AreBrought f patterns D V insn ss None = AreRead f patterns V insn.op insn.prefix insn.sources.items ss
AreBrought f patterns D V insn ss (Some load) = (k : ℕ) × (js : List ℕ) × (ss ≡ FromFar load k js ∷ []) × D load k js × (insn.prefix ≡ 1) × (x : IsFarOf f patterns load k js) × (x.insn ≡ insn)

-- what stands where after one write did so before it, or is what was written
abbrev pub Follows : (ℕ → ℕ → Type 0) → Operand → Target → (ℕ → ℕ → Type 0) → Type 0
Follows V o (ToArray k) W = (x p : ℕ) → W x p → V x p
Follows V o (ToSum g) W = (x p : ℕ) → W x p → V x p
Follows V o (ToResident g) W = (x p : ℕ) → W x p → V x p
Follows V o (ToPlace a) W = (x p : ℕ) → W x p → ((o ≡ operand.Var x) × (p ≡ a)) ⊎ (V x p × ((o ≡ operand.Var x) → ⊥) × (p ≢ a))
Follows V o (ToSlot k) W = (x p : ℕ) → W x p → ((o ≡ operand.Var x) × (p ≡ slot_place k)) ⊎ (V x p × ((o ≡ operand.Var x) → ⊥) × (p ≢ slot_place k))

abbrev pub IsWritten : FunctionValue → ℕ → ℕ → Operand → Target → Type 0
IsWritten f w prefix o (ToArray k) = (p : ℕ) × (o ≡ operand.Var p) × IsCells f p (w * prefix) × IsDest f p × (slot_of f.vars p ≡ k)
IsWritten f w prefix o (ToSum g) = (p : ℕ) × (o ≡ operand.Var p) × IsSum f p w × (count_before kind.Accumulator f.vars p ≡ g)
IsWritten f w prefix o (ToResident g) = (p : ℕ) × (o ≡ operand.Var p) × IsSum f p w × (count_before kind.Accumulator f.vars p ≡ g)
IsWritten f w prefix o (ToPlace a) = (x : ℕ) × (o ≡ operand.Var x) × IsTemp f x
IsWritten f w prefix o (ToSlot k) = (x : ℕ) × (o ≡ operand.Var x) × IsTemp f x

-- by what is seen of places: `At v` is the relation in view v
module _ {View : Type 0} (At : View → ℕ → ℕ → Type 0) where
  abbrev pub AreWritten : FunctionValue → Op → ℕ → List Operand → List Target → View → View → Type 0
  AreWritten f op prefix (x ∷ []) (t ∷ []) v w = IsWritten f (size_of_result op 0) prefix x t × Follows (At v) x t (At w)
  AreWritten f op prefix (x ∷ y ∷ []) (t ∷ u ∷ []) v w =
      IsWritten f (size_of_result op 0) prefix x t × IsWritten f (size_of_result op 1) prefix y u × ((between : View) × Follows (At v) x t (At between) × Follows (At between) y u (At w))
  AreWritten f op prefix os ts v w = ⊥

  -- the action does what the instruction does, and takes view v to view w
  pub record IsMeant (f : FunctionValue) (patterns : ℕ → Operand) (D : Far → ℕ → List ℕ → Type 0) (v w : View) (insn : Insn) (a : Action) : Type 0 where
    pub op : a.op ≡ computed_op insn.op
    pub prefix : a.prefix ≡ insn.prefix
    pub to : AreWritten f a.op insn.prefix insn.results.items a.to v w
    pub sources : AreBrought f patterns D (At v) insn a.sources (far_of insn.op)

  abbrev pub AreMeant : FunctionValue → (ℕ → Operand) → (Far → ℕ → List ℕ → Type 0) → View → List Insn → List Action → Type 0
  AreMeant f patterns D v [] [] = Unit {0}
  AreMeant f patterns D v (insn ∷ insns) (a ∷ rest) = (w : View) × IsMeant f patterns D v w insn a × AreMeant f patterns D w insns rest
  AreMeant f patterns D v [] (a ∷ rest) = ⊥
  AreMeant f patterns D v (insn ∷ insns) [] = ⊥

-- the place of a variable
abbrev number_of_var : Operand → ℕ
number_of_var (operand.Var x) = x
number_of_var (operand.Number n) = 0

-- emulation's temps have the values that stand at places
abbrev pub Carries : (ℕ → ℕ → Type 0) → (ℕ → ℕ) → Local → Type 0
Carries V temps l = (x p : ℕ) → V x p → temps x ≡ l.values p

-- ---- sums

-- emulation's sums, by the variables' places, are these totals, each modulo what its bytes hold
abbrev pub Agrees : FunctionValue → (ℕ → ℕ) → (ℕ → ℕ) → Type 0
Agrees f sums totals = (p : ℕ) → p < length f.vars → (var_at f.vars p).kind ≡ kind.Accumulator → sums p ≡ totals (count_before kind.Accumulator f.vars p) % 2 ^ (8 * (var_at f.vars p).size)

pub agrees_same : (f : FunctionValue) (sums a b : ℕ → ℕ) → ((g : ℕ) → a g ≡ b g) → Agrees f sums a → Agrees f sums b
agrees_same f sums a b e h p l k = h p l k ∙ ap (λ t. t % 2 ^ (8 * (var_at f.vars p).size)) (e (count_before kind.Accumulator f.vars p))

-- two accumulators have two numbers
one_sum : (f : FunctionValue) (p q : ℕ) → p < length f.vars → q < length f.vars → (var_at f.vars p).kind ≡ kind.Accumulator → (var_at f.vars q).kind ≡ kind.Accumulator
    → count_before kind.Accumulator f.vars p ≡ count_before kind.Accumulator f.vars q → p ≡ q
one_sum f p q lp lq kp kq e =
    sym (place_again kind.Accumulator f.vars p lp (ap (same_kind kind.Accumulator) kp)) ∙ ap (slice_index (places_of kind.Accumulator f.vars)) e
    ∙ place_again kind.Accumulator f.vars q lq (ap (same_kind kind.Accumulator) kq)

sum_more : (t v m : ℕ) → (t % m + v) % m ≡ (t + v) % m
sum_more t v m = mod-add-mod t m v

-- a number is added to one sum
module _ (f : FunctionValue) (sums totals : ℕ → ℕ) (p n v : ℕ) (h : Agrees f sums totals) (is : IsSum f p n) where
  abbrev bytes : ℕ → ℕ
  bytes x = (var_at f.vars x).size

  abbrev number : ℕ → ℕ
  number x = count_before kind.Accumulator f.vars x

  abbrev more : ℕ
  more = (sums p + v) % 2 ^ (8 * n)

  abbrev Agree : ℕ → Type 0
  Agree q = change sums p more q ≡ (totals (number q) + adds_to (ToSum (number p)) v (number q)) % 2 ^ (8 * bytes q)

  at_sum : Agree p
  at_sum =
      change_same sums p more
      ∙ ap (λ m. (sums p + v) % 2 ^ (8 * m)) (sym is.size)
      ∙ ap (λ s. (s + v) % 2 ^ (8 * bytes p)) (h p is.inside is.sum)
      ∙ sum_more (totals (number p)) v (2 ^ (8 * bytes p))
      ∙ ap (λ b. (totals (number p) + (if b then v else 0)) % 2 ^ (8 * bytes p)) (sym (eq_yes (number p) (number p) refl))

  at_other : (q : ℕ) → q < length f.vars → (var_at f.vars q).kind ≡ kind.Accumulator → q ≢ p → Agree q
  at_other q lq kq ne =
      change_other sums p more q ne ∙ h q lq kq
      ∙ ap (λ t. t % 2 ^ (8 * bytes q)) (let z : totals (number q) ≡ totals (number q) + 0 = omega arith in z)
      ∙ ap (λ b. (totals (number q) + (if b then v else 0)) % 2 ^ (8 * bytes q)) (sym (eq_false (number p) (number q) (λ e. ne (sym (one_sum f p q is.inside lq is.sum kq e)))))

  agrees_more : Agrees f (change sums p more) (λ g. totals g + adds_to (ToSum (number p)) v g)
  agrees_more q lq kq = ⊎_elim (λ e. subst Agree (sym e) at_sum) (λ ne. at_other q lq kq ne) (cases_eq q p)

-- emulation of row r has come from a first state to element i, with this memory and sums of these totals
pub record Reached (f : FunctionValue) (call : Call) (r : ℕ) (first : State) (i : ℕ) (mem : Memory) (totals : ℕ → ℕ) : Type 0 where
  pub temps : ℕ → ℕ
  pub sums : ℕ → ℕ
  pub is : row_of f call r i first ≡ Ok (state mem temps sums)
  pub agrees : Agrees f sums totals

module _ (f : FunctionValue) (call : Call) (r : ℕ) (base size : ℕ → ℕ) (P : ℕ → Type 0) (separate : Separate call.n base size P) (low : Low call.n base size P)
    (has : (p b : ℕ) → IsCells f p b → IsOf call.n base size P (slot_of f.vars p) b)
    (cell_is : (p b : ℕ) → IsCells f p b → (i : ℕ) → i < call.n → cell f call p r i ≡ base (slot_of f.vars p) + i * size (slot_of f.vars p))
    (dest_few : (p b : ℕ) → IsCells f p b → IsDest f p → slot_of f.vars p < 4)
    (numbers : Numbers) (patterns : ℕ → Operand) (number_is : (j : ℕ) → numbers.number j ≡ meant f call (patterns j))
    (far_apart : (x : ℕ) → InFars base numbers 0 call.n x → (d : ℕ) → OfDests P d → (i : ℕ) → i < call.n → (j : ℕ) → j < size d → x ≢ base d + i * size d + j)
    (far_is : (load : Far) (k : ℕ) (js : List ℕ) (x : IsFarOf f patterns load k js) (z : ℤ) → cell_at f call x.place r z ≡ far_cell load (base k) z)
    {View : Type 0} (At : View → ℕ → ℕ → Type 0) where
  abbrev Cells : ℕ → ℕ → Memory → (ℕ → Local) → Type 0
  Cells = Lanes call.n base size P

  -- outside dests' cells memory stays
  abbrev Rest : ℕ → ℕ → Memory → Memory → Type 0
  Rest = Others call.n base size (OfDests P)

  abbrev AtDests : ℕ → ℕ → ℕ → Type 0
  AtDests = AtElements call.n base size (OfDests P)

  low_cell : (e p b : ℕ) → IsCells f p b → e < call.n → IsLow f call r e p b
  low_cell e p b is le =
      let h = has p b is in
      let l = low (slot_of f.vars p) h.array e le 0 h.some in
      let few = low (slot_of f.vars p) h.array e le in
      omega (arith, cell_is p b is e le, h.bytes_are, at_end (slot_of f.vars p) b h.bytes_are h.some few)
    where
      at_end : (k b : ℕ) → size k ≡ b → 0 < size k → ((r : ℕ) → r < size k → base k + e * size k + r < 2 ^ 47) → base k + e * size k + b ≤ 2 ^ 47
      at_end k zero s some few = omega (arith, few 0 some)
      at_end k (suc b) s some few = omega (arith, few b (omega (arith, s)))

  holds : (e p b : ℕ) (mem : Memory) (l : Local) → IsCells f p b → e < call.n → Cells e 1 mem (λ q. l) → Holds f call r e p b mem (l.cells (slot_of f.vars p))
  holds e p b mem l is le h j lj =
      let o = has p b is in
      let k = slot_of f.vars p in
      ap mem (ap (λ a. a + j) (cell_is p b is e le) ∙ ap (λ x. base k + x * size k + j) (let q : e ≡ e + 0 = omega arith in q))
      ∙ h k o.array 0 (omega arith) j (subst (λ s. j < s) (sym o.bytes_are) lj)

  -- what an instruction leaves, said of the cells
  filled_lanes : (e d b v : ℕ) (mem end : Memory) (l : Local) → IsCells f d b → IsDest f d → e < call.n → Cells e 1 mem (λ q. l) → IsFill b mem (cell f call d r e) (digit v) end
      → Cells e 1 end (λ q. set_local call.n base size P l (slot_of f.vars d) v) × Rest e 1 mem end
  filled_lanes e d b v mem end l is dest le h f' =
      let o = has d b is in
      let k = slot_of f.vars d in
      let filled : IsFill (1 * size k) mem (base k + e * size k) (digit v) end =
      subst (λ a. IsFill (1 * size k) mem a (digit v) end) (cell_is d b is e le) (subst (λ s. IsFill s mem (cell f call d r e) (digit v) end) (let q : b ≡ 1 * size k = omega (arith, o.bytes_are) in q) f') in (
        store_lanes call.n base size P separate low e 1 mem end (λ q. l) k (digit v) (λ q. v) o.array o.some (omega (arith, le)) h filled (λ q r lq lr. ap (digit v) (let w : q * size k + r ≡ r = ap (λ x. x * size k + r) (let z : q ≡ 0 = omega (arith, lq) in z) ∙ (let z : 0 * size k + r ≡ r = omega arith in z) in w)),
        store_others call.n base size (OfDests P) e 1 mem end k (digit v) (o.array, dest_few d b is dest) filled,
      )

  -- ---- results

  -- what an instruction on element e leaves, whose outcome is o, where W says what stands at places
  pub record Leaves (e : ℕ) (o : Result State Gap) (mem : Memory) (W : ℕ → ℕ → Type 0) (l : Local) (totals : ℕ → ℕ) : Type 0 where
    pub end : Memory
    pub temps : ℕ → ℕ
    pub sums : ℕ → ℕ
    pub is : o ≡ Ok (state end temps sums)
    pub lanes : Cells e 1 end (λ q. l)
    pub others : Rest e 1 mem end
    pub carries : Carries W temps l
    pub agrees : Agrees f sums totals

  -- a temp's new value stands at the place that it goes to, and what else stands somewhere does so as before
  carries_more : (V W : ℕ → ℕ → Type 0) (x a v : ℕ) (o : Operand) (temps : ℕ → ℕ) (l : Local) → o ≡ operand.Var x → Follows V o (ToPlace a) W → Carries V temps l
      → Carries W (change temps x v) (set_target call.n base size P l (ToPlace a) v)
  carries_more V W x a v o temps l is follows c y p s = ⊎_elim new old (follows y p s)
    where
      new : (o ≡ operand.Var y) × (p ≡ a) → change temps x v y ≡ change l.values a v p
      new w =
          let same : y ≡ x = ap number_of_var (sym w.0 ∙ is) in
          ap (change temps x v) same ∙ change_same temps x v ∙ sym (ap (change l.values a v) w.1 ∙ change_same l.values a v)

      old : V y p × ((o ≡ operand.Var y) → ⊥) × (p ≢ a) → change temps x v y ≡ change l.values a v p
      old w =
          let other : y ≢ x = λ e. w.1 (is ∙ ap operand.Var (sym e)) in
          change_other temps x v y other ∙ c y p w.0 ∙ sym (change_other l.values a v p w.2)

  -- a write of a temp
  write_temp : (e w prefix v : ℕ) (o : Operand) (p : ℕ) (V W : ℕ → ℕ → Type 0) (mem : Memory) (temps sums totals : ℕ → ℕ) (l : Local) → IsWritten f w prefix o (ToPlace p) → Follows V o (ToPlace p) W → e < call.n
      → Cells e 1 mem (λ q. l) → Carries V temps l → Agrees f sums totals → Leaves e (write_result f call r e v (state mem temps sums) o) mem W (set_target call.n base size P l (ToPlace p) v) (λ g. totals g + 0)
  write_temp e w prefix v o p V W mem temps sums totals l is follows le h c a = record {
    end = mem;
    temps = change temps is.0 v;
    sums = sums;
    is = ap (write_result f call r e v (state mem temps sums)) is.1 ∙ temp_takes f call r e is.0 v mem temps sums is.2;
    lanes = h;
    others = λ x m. refl;
    carries = carries_more V W is.0 p v o temps l is.1 follows c;
    agrees = agrees_same f sums totals (λ g. totals g + 0) (λ g. omega arith) a;
  }

  -- a number is added to a running sum
  write_sum : (e w prefix v : ℕ) (o : Operand) (g : ℕ) (V W : ℕ → ℕ → Type 0) (mem : Memory) (temps sums totals : ℕ → ℕ) (l : Local) → IsWritten f w prefix o (ToSum g) → Follows V o (ToSum g) W → e < call.n
      → Cells e 1 mem (λ q. l) → Carries V temps l → Agrees f sums totals → Leaves e (write_result f call r e v (state mem temps sums) o) mem W (set_target call.n base size P l (ToSum g) v) (λ x. totals x + adds_to (ToSum g) v x)
  write_sum e w prefix v o g V W mem temps sums totals l is follows le h c a =
      let p = is.0 in
      record {
        end = mem;
        temps = temps;
        sums = change sums p ((sums p + v) % 2 ^ (8 * w));
        is = ap (write_result f call r e v (state mem temps sums)) is.1 ∙ sum_takes f call r e p w v mem temps sums is.2;
        lanes = h;
        others = λ x m. refl;
        carries = λ x p s. c x p (follows x p s);
        agrees = subst (λ g. Agrees f (change sums p ((sums p + v) % 2 ^ (8 * w))) (λ x. totals x + adds_to (ToSum g) v x)) is.3 (agrees_more f sums totals p w v a is.2);
      }

  -- one write
  write_one : (e w prefix v : ℕ) (o : Operand) (t : Target) (V W : ℕ → ℕ → Type 0) (mem : Memory) (temps sums totals : ℕ → ℕ) (l : Local) → IsWritten f w prefix o t → Follows V o t W → e < call.n
      → Cells e 1 mem (λ q. l) → Carries V temps l → Agrees f sums totals → Leaves e (write_result f call r e v (state mem temps sums) o) mem W (set_target call.n base size P l t v) (λ g. totals g + adds_to t v g)
  write_one e w prefix v o (ToArray k) V W mem temps sums totals l is follows le h c a =
      let d = is.0 in
      let b = w * prefix in
      let x = array_takes f call r e d b v mem temps sums is.2 is.3 (low_cell e d b is.2 le) (λ j lj. ap is_some (holds e d b mem l is.2 le h j lj)) in
      let y = filled_lanes e d b v mem x.0 l is.2 is.3 le h x.2 in
      record {
        end = x.0;
        temps = temps;
        sums = sums;
        is = ap (write_result f call r e v (state mem temps sums)) is.1 ∙ x.1;
        lanes = subst (λ k. Cells e 1 x.0 (λ q. set_local call.n base size P l k v)) is.4 y.0;
        others = y.1;
        carries = λ x p s. c x p (follows x p s);
        agrees = agrees_same f sums totals (λ g. totals g + 0) (λ g. omega arith) a;
      }
  write_one e w prefix v o (ToSum g) V W mem temps sums totals l is follows le h c a = write_sum e w prefix v o g V W mem temps sums totals l is follows le h c a
  write_one e w prefix v o (ToResident g) V W mem temps sums totals l is follows le h c a = write_sum e w prefix v o g V W mem temps sums totals l is follows le h c a
  write_one e w prefix v o (ToPlace p) V W mem temps sums totals l is follows le h c a = write_temp e w prefix v o p V W mem temps sums totals l is follows le h c a
  write_one e w prefix v o (ToSlot k) V W mem temps sums totals l is follows le h c a = write_temp e w prefix v o (slot_place k) V W mem temps sums totals l is follows le h c a

  -- the first result before the second
  write_all : (e : ℕ) (op : Op) (prefix : ℕ) (os : List Operand) (ts : List Target) (x : ℕ × ℕ) (v w : View) (mem : Memory) (temps sums totals : ℕ → ℕ) (l : Local) → AreWritten At f op prefix os ts v w → e < call.n
      → Cells e 1 mem (λ q. l) → Carries (At v) temps l → Agrees f sums totals
      → Leaves e (write_results f call r e x (state mem temps sums) os) mem (At w) (set_results call.n base size P l ts x) (λ g. totals g + results_add ts x g)
  write_all e op prefix [] ts x v w mem temps sums totals l is le h c a = absurd is
  write_all e op prefix (o ∷ []) [] x v w mem temps sums totals l is le h c a = absurd is
  write_all e op prefix (o ∷ []) (t ∷ []) x v w mem temps sums totals l is le h c a = write_one e (size_of_result op 0) prefix x.0 o t (At v) (At w) mem temps sums totals l is.0 is.1 le h c a
  write_all e op prefix (o ∷ []) (t ∷ u ∷ more) x v w mem temps sums totals l is le h c a = absurd is
  write_all e op prefix (o ∷ y ∷ []) [] x v w mem temps sums totals l is le h c a = absurd is
  write_all e op prefix (o ∷ y ∷ []) (t ∷ []) x v w mem temps sums totals l is le h c a = absurd is
  write_all e op prefix (o ∷ y ∷ []) (t ∷ u ∷ []) x v w mem temps sums totals l is le h c a =
      let between = is.2.0 in
      let first : ℕ → ℕ = λ g. totals g + adds_to t x.0 g in
      let one = write_one e (size_of_result op 0) prefix x.0 o t (At v) (At between) mem temps sums totals l is.0 is.2.1 le h c a in
      let two =
      write_one e (size_of_result op 1) prefix x.1 y u (At between) (At w) one.end one.temps one.sums first (set_target call.n base size P l t x.0) is.1 is.2.2 le one.lanes one.carries one.agrees in
      record {
        end = two.end;
        temps = two.temps;
        sums = two.sums;
        is = ap (λ o. go_on o (λ s. write_result f call r e x.1 s y)) one.is ∙ two.is;
        lanes = two.lanes;
        others = others_more call.n base size (OfDests P) e 1 mem one.end two.end one.others two.others;
        carries = two.carries;
        agrees = agrees_same f two.sums (λ g. totals g + adds_to t x.0 g + adds_to u x.1 g) (λ g. totals g + (adds_to t x.0 g + adds_to u x.1 g)) (λ g. omega arith) two.agrees;
      }
  write_all e op prefix (o ∷ y ∷ []) (t ∷ u ∷ z ∷ more) x v w mem temps sums totals l is le h c a = absurd is
  write_all e op prefix (o ∷ y ∷ z ∷ rest) ts x v w mem temps sums totals l is le h c a = absurd is

  -- ---- sources

  gives_temp : (e w prefix : ℕ) (o : Operand) (p : ℕ) (V : ℕ → ℕ → Type 0) (mem : Memory) (temps sums : ℕ → ℕ) (l : Local) → IsRead f patterns V w prefix o (FromPlace p) → Carries V temps l → Gives f call r e w prefix (state mem temps sums) o (sub_lane (8 * w) (l.values p))
  gives_temp e w prefix o p V mem temps sums l is c =
      subst (λ o. Gives f call r e w prefix (state mem temps sums) o (sub_lane (8 * w) (l.values p))) (sym is.1)
      (temp_gives f call r e is.0 w prefix (l.values p) (state mem temps sums) is.2 (c is.0 p is.3))

  gives_pattern : (e w prefix : ℕ) (o : Operand) (j : ℕ) (V : ℕ → ℕ → Type 0) (mem : Memory) (temps sums : ℕ → ℕ) → IsRead f patterns V w prefix o (FromPattern j) → Gives f call r e w prefix (state mem temps sums) o (λ q. numbers.number j)
  gives_pattern e w prefix o j V mem temps sums is =
      subst (λ n. Gives f call r e w prefix (state mem temps sums) o (λ q. n)) (sym (number_is j)) (number_gives f call r e w prefix (state mem temps sums) o (patterns j) is)

  gives : (e w prefix : ℕ) (o : Operand) (s : Source) (V : ℕ → ℕ → Type 0) (mem : Memory) (temps sums : ℕ → ℕ) (l : Local) → IsRead f patterns V w prefix o s → e < call.n → Cells e 1 mem (λ q. l) → Carries V temps l
      → Gives f call r e w prefix (state mem temps sums) o (given_by numbers.number w l s)
  gives e w prefix o (FromArray k) V mem temps sums l is le h c =
      let p = is.0 in
      let b = w * prefix in
      subst (λ k. Gives f call r e w prefix (state mem temps sums) o (sub_lane (8 * w) (l.cells k))) is.3
      (subst (λ o. Gives f call r e w prefix (state mem temps sums) o (sub_lane (8 * w) (l.cells (slot_of f.vars p)))) (sym is.1)
      (array_gives f call r e p w prefix (l.cells (slot_of f.vars p)) (state mem temps sums) is.2 (low_cell e p b is.2 le) (holds e p b mem l is.2 le h)))
  gives e w prefix o (FromPattern j) V mem temps sums l is le h c = gives_pattern e w prefix o j V mem temps sums is
  gives e w prefix o (FromResident j g) V mem temps sums l is le h c = gives_pattern e w prefix o j V mem temps sums is
  gives e w prefix o (FromPlace p) V mem temps sums l is le h c = gives_temp e w prefix o p V mem temps sums l is c
  gives e w prefix o (FromFar load array js) V mem temps sums l is le h c = absurd is
  gives e w prefix o (FromSlot k) V mem temps sums l is le h c = gives_temp e w prefix o (slot_place k) V mem temps sums l is c

  abbrev WritesGiven : ℕ → Insn → State → Local → List Source → Type 0
  WritesGiven e insn s l ss = Writes f call r e insn s (given numbers.number insn.op l ss).0 (given numbers.number insn.op l ss).1

  reads_all : (e : ℕ) (insn : Insn) (ss : List Source) (V : ℕ → ℕ → Type 0) (mem : Memory) (temps sums : ℕ → ℕ) (l : Local) → is_far insn ≡ false → AreRead f patterns V insn.op insn.prefix insn.sources.items ss → e < call.n → Cells e 1 mem (λ q. l)
      → Carries V temps l → WritesGiven e insn (state mem temps sums) l ss
  reads_all e insn ss V mem temps sums l near is le h c = go insn.sources.items refl ss is
    where
      first : (o : Operand) (s : Source) → IsRead f patterns V (size_of_source insn.op 0) insn.prefix o s
          → Gives f call r e (size_of_source insn.op 0) insn.prefix (state mem temps sums) o (given_by numbers.number (size_of_source insn.op 0) l s)
      first o s is = gives e (size_of_source insn.op 0) insn.prefix o s V mem temps sums l is le h c

      second : (o : Operand) (s : Source) → IsRead f patterns V (size_of_source insn.op 1) insn.prefix o s
          → Gives f call r e (size_of_source insn.op 1) insn.prefix (state mem temps sums) o (given_by numbers.number (size_of_source insn.op 1) l s)
      second o s is = gives e (size_of_source insn.op 1) insn.prefix o s V mem temps sums l is le h c

      go : (os : List Operand) → insn.sources.items ≡ os → (ss : List Source) → AreRead f patterns V insn.op insn.prefix os ss → WritesGiven e insn (state mem temps sums) l ss
      go [] are ss is = absurd is
      go (x ∷ []) are [] is = absurd is
      go (x ∷ []) are (s ∷ []) is = act_one f call r e insn (state mem temps sums) x _ near are (first x s is)
      go (x ∷ []) are (s ∷ t ∷ further) is = absurd is
      go (x ∷ y ∷ []) are [] is = absurd is
      go (x ∷ y ∷ []) are (s ∷ []) is = absurd is
      go (x ∷ y ∷ []) are (s ∷ t ∷ []) is = act_two f call r e insn (state mem temps sums) x y _ _ near are (first x s is.0) (second y t is.1)
      go (x ∷ y ∷ []) are (s ∷ t ∷ u ∷ further) is = absurd is
      go (x ∷ y ∷ z ∷ rest) are ss is = absurd is

  -- ---- instructions

  abbrev Act : Action → Local → Local
  Act = local_act call.n base size P numbers

  abbrev All : List Action → Local → Local
  All = local call.n base size P numbers

  abbrev Adds : List Action → Local → ℕ → ℕ
  Adds = adds call.n base size P numbers

  -- ---- far loads' values

  -- no write reaches them
  fars_target : (l : Local) (t : Target) (v : ℕ) → (set_target call.n base size P l t v).fars ≡ l.fars
  fars_target l (ToArray d) v = refl
  fars_target l (ToSum g) v = refl
  fars_target l (ToResident g) v = refl
  fars_target l (ToPlace p) v = refl
  fars_target l (ToSlot k) v = refl

  fars_results : (l : Local) (ts : List Target) (v : ℕ × ℕ) → (set_results call.n base size P l ts v).fars ≡ l.fars
  fars_results l [] v = refl
  fars_results l (t ∷ []) v = fars_target l t v.0
  fars_results l (t ∷ u ∷ further) v = fars_target (set_target call.n base size P l t v.0) u v.1 ∙ fars_target l t v.0

  pub fars_act : (a : Action) (l : Local) → (Act a l).fars ≡ l.fars
  fars_act a l = fars_results l a.to (value_of call.n base size P numbers a l)

  -- the values of element e are those of this memory
  abbrev pub FarsAt : ℕ → Memory → Local → Type 0
  FarsAt e mem l = (load : Far) (k : ℕ) (js : List ℕ) → numbers.far load k js
      → ((x : ℕ) → AmongCells load 1 (far_at numbers base k js e) x → HasByte mem x) × (l.fars load k js ≡ value_at load (far_at numbers base k js e) mem e)

  -- what they read lies in no dest's cell
  far_outside : (load : Far) (k : ℕ) (js : List ℕ) → numbers.far load k js → (e i c : ℕ) → e < call.n → i + c ≤ call.n → (x : ℕ) → AmongCells load 1 (far_at numbers base k js e) x → AtDests i c x → ⊥
  far_outside load k js h e i c le w x among at =
      let same : e + among.0 ≡ 0 + e = (let one = among.1 in omega (arith, one)) in
      let element = among.2.0 in
      far_apart x (load, k, js, h, (e, le, (element, subst (λ m. ReadsElement load (far_at numbers base k js 0) m element) same among.2.1, among.2.2))) at.0 at.1 (i + at.2) (let m = at.3 in omega (arith, m, w)) at.4 at.5 at.6

  -- so they stand
  fars_stand : (e i c : ℕ) (mem end : Memory) (l k : Local) → e < call.n → i + c ≤ call.n → Rest i c mem end → k.fars ≡ l.fars → FarsAt e mem l → FarsAt e end k
  fars_stand e i c mem end l l' le w o same h load k js d =
      let x = h load k js d in
      let stays : (a : ℕ) → AmongCells load 1 (far_at numbers base k js e) a → end a ≡ mem a = λ a m. o a (far_outside load k js d e i c le w a m) in
      let none : e ≡ e + 0 = omega arith in (
        (λ a m. let b = x.0 a m in (b.0, stays a m ∙ b.1, b.2)),
        ap (λ fars. fars load k js) same ∙ x.1
            ∙ sym (value_alike load (far_at numbers base k js e) e end mem (λ z is j lj. stays _ (0, omega arith, (z, subst (λ m. ReadsElement load (far_at numbers base k js e) m z) none is, (j, lj, refl))))),
      )

  -- ---- one instruction

  abbrev ActsAs : ℕ → Insn → Action → Memory → (ℕ → ℕ) → (ℕ → ℕ) → Local → Type 0
  ActsAs e insn a mem temps sums l = act f call r e insn (state mem temps sums) ≡ write_results f call r e (value_of call.n base size P numbers a l) (state mem temps sums) insn.results.items

  acts_near : (e : ℕ) (insn : Insn) (a : Action) (v w : View) (mem : Memory) (temps sums : ℕ → ℕ) (l : Local) → IsMeant At f patterns numbers.far v w insn a → far_of insn.op ≡ None → AreRead f patterns (At v) insn.op insn.prefix insn.sources.items a.sources
      → e < call.n → Cells e 1 mem (λ q. l) → Carries (At v) temps l → ActsAs e insn a mem temps sums l
  acts_near e insn a v w mem temps sums l is near read le h c =
      let op : a.op ≡ insn.op = is.op ∙ ap (computed_by insn.op) near in
      reads_all e insn a.sources (At v) mem temps sums l (ap is_some near) read le h c
      ∙ ap₂ (λ op k. write_results f call r e (computed numbers.number op k l a.sources) (state mem temps sums) insn.results.items) (sym op) (sym is.prefix)

  acts_far : (e : ℕ) (insn : Insn) (a : Action) (v w : View) (mem : Memory) (temps sums : ℕ → ℕ) (l : Local) (load : Far) → IsMeant At f patterns numbers.far v w insn a → far_of insn.op ≡ Some load → AreBrought f patterns numbers.far (At v) insn a.sources (Some load)
      → FarsAt e mem l → ActsAs e insn a mem temps sums l
  acts_far e insn a v w mem temps sums l load is loads from fars =
      let k = from.0 in
      let js = from.1 in
      let x = from.5 in
      let s = far_at numbers base k js e in
      let there = fars load k js from.3 in
      let none : e ≡ e + 0 = omega arith in
      let bytes : ReadsBytes load s e mem = λ z h j lj. there.0 _ (0, omega arith, (z, subst (λ m. ReadsElement load s m z) none h, (j, lj, refl))) in
      let array : far_array f.vars insn.sources.items ≡ Some x.place = ap (λ (i : Insn). far_array f.vars i.sources.items) (sym from.6) ∙ x.array in
      let scalars : AreScalars f patterns (behind_array insn.sources.items) js = subst (λ (i : Insn). AreScalars f patterns (behind_array i.sources.items) js) from.6 x.scalars in
      let number : ℕ = value_at load s mem e in
      let op : a.op ≡ copy_of (far_size load) = is.op ∙ ap (computed_by insn.op) loads in
      let value : value_of call.n base size P numbers a l ≡ (number, 0) =
      ap₂ (λ o p. computed numbers.number o p l a.sources) op (is.prefix ∙ from.4) ∙ ap (computed numbers.number (copy_of (far_size load)) 1 l) from.2
      ∙ copy_is load (l.fars load k js) (subst (λ n. n < 256 ^ far_size load) (sym there.1) (small_value load s e mem bytes)) ∙ ap (λ n. (n, 0)) there.1 in
      act_far f call r e load x.place s x.size (far_is load k js x) (state mem temps sums) bytes insn loads array (reach_is f call numbers patterns number_is load insn.sources.items x.place js array scalars e)
      ∙ ap (λ v. write_results f call r e v (state mem temps sums) insn.results.items) (sym value)

  acts : (e : ℕ) (insn : Insn) (a : Action) (v w : View) (mem : Memory) (temps sums : ℕ → ℕ) (l : Local) → IsMeant At f patterns numbers.far v w insn a → e < call.n → Cells e 1 mem (λ q. l) → Carries (At v) temps l → FarsAt e mem l
      → ActsAs e insn a mem temps sums l
  acts e insn a v w mem temps sums l is le h c fars = go (far_of insn.op) refl is.sources
    where
      go : (o : Option Far) → far_of insn.op ≡ o → AreBrought f patterns numbers.far (At v) insn a.sources o → ActsAs e insn a mem temps sums l
      go None near read = acts_near e insn a v w mem temps sums l is near read le h c
      go (Some load) loads from = acts_far e insn a v w mem temps sums l load is loads from fars

  -- one instruction on one element
  action_lanes : (e : ℕ) (insn : Insn) (a : Action) (v w : View) (mem : Memory) (temps sums totals : ℕ → ℕ) (l : Local) → IsMeant At f patterns numbers.far v w insn a → e < call.n → Cells e 1 mem (λ q. l)
      → Carries (At v) temps l → Agrees f sums totals → FarsAt e mem l
      → Leaves e (act f call r e insn (state mem temps sums)) mem (At w) (Act a l) (λ g. totals g + results_add a.to (value_of call.n base size P numbers a l) g)
  action_lanes e insn a v w mem temps sums totals l is le h c agrees fars =
      let x = write_all e a.op insn.prefix insn.results.items a.to (value_of call.n base size P numbers a l) v w mem temps sums totals l is.to le h c agrees in
      record {
        end = x.end;
        temps = x.temps;
        sums = x.sums;
        is = acts e insn a v w mem temps sums l is le h c fars ∙ x.is;
        lanes = x.lanes;
        others = x.others;
        carries = x.carries;
        agrees = x.agrees;
      }

  -- at the end of an element nothing is said of places
  abbrev nowhere : ℕ → ℕ → Type 0
  nowhere x p = ⊥

  element_lanes : (e : ℕ) (insns : List Insn) (actions : List Action) (v : View) (mem : Memory) (temps sums totals : ℕ → ℕ) (l : Local) → AreMeant At f patterns numbers.far v insns actions → e < call.n → Cells e 1 mem (λ q. l)
      → Carries (At v) temps l → Agrees f sums totals → FarsAt e mem l → Leaves e (element f call r e insns (state mem temps sums)) mem nowhere (All actions l) (λ g. totals g + Adds actions l g)
  element_lanes e [] [] v mem temps sums totals l is le h c agrees fars = record {
    end = mem;
    temps = temps;
    sums = sums;
    is = refl;
    lanes = h;
    others = λ a m. refl;
    carries = λ x p s. absurd s;
    agrees = agrees_same f sums totals (λ g. totals g + 0) (λ g. omega arith) agrees;
  }
  element_lanes e [] (a ∷ rest) v mem temps sums totals l is le h c agrees fars = absurd is
  element_lanes e (insn ∷ insns) [] v mem temps sums totals l is le h c agrees fars = absurd is
  element_lanes e (insn ∷ insns) (a ∷ rest) v mem temps sums totals l is le h c agrees fars =
      let w = is.0 in
      let x = action_lanes e insn a v w mem temps sums totals l is.1 le h c agrees fars in
      let one : ℕ → ℕ = results_add a.to (value_of call.n base size P numbers a l) in
      let y = element_lanes e insns rest w x.end x.temps x.sums (λ g. totals g + one g) (Act a l) is.2 le x.lanes x.carries x.agrees (fars_stand e e 1 mem x.end l (Act a l) le (omega (arith, le)) x.others (fars_act a l) fars) in
      record {
        end = y.end;
        temps = y.temps;
        sums = y.sums;
        is = ap (λ o. go_on o (element f call r e insns)) x.is ∙ y.is;
        lanes = y.lanes;
        others = others_more call.n base size (OfDests P) e 1 mem x.end y.end x.others y.others;
        carries = y.carries;
        agrees = agrees_same f y.sums (λ g. totals g + one g + Adds rest (Act a l) g) (λ g. totals g + (one g + Adds rest (Act a l) g)) (λ g. omega arith) y.agrees;
      }

  -- what so many elements from i on leave, on the way from a first state
  pub record Rows (first : State) (i c : ℕ) (mem : Memory) (sig : ℕ → Local) (totals : ℕ → ℕ) (actions : List Action) : Type 0 where
    pub end : Memory
    pub temps : ℕ → ℕ
    pub sums : ℕ → ℕ
    pub is : row_of f call r (c + i) first ≡ Ok (state end temps sums)
    pub lanes : Cells i c end (λ q. All actions (sig q))
    pub others : Rest i c mem end
    pub agrees : Agrees f sums (λ g. totals g + sum_below c (λ q. Adds actions (sig q) g))

  -- several elements, one after another; at the start of each nothing stands at places
  pub row_lanes : (actions : List Action) (v0 : View) → ((x p : ℕ) → At v0 x p → ⊥) → AreMeant At f patterns numbers.far v0 f.insns actions → (first : State) (i : ℕ) (mem : Memory) (temps sums totals : ℕ → ℕ) (sig : ℕ → Local)
      → row_of f call r i first ≡ Ok (state mem temps sums) → Agrees f sums totals → (c : ℕ) → i + c ≤ call.n → Cells i c mem sig → FarValues base numbers i c mem sig → Rows first i c mem sig totals actions
  row_lanes actions v0 none is first i mem temps sums totals sig em agrees zero w h fars = record {
    end = mem;
    temps = temps;
    sums = sums;
    is = ap (λ n. row_of f call r n first) (let e : 0 + i ≡ i = omega arith in e) ∙ em;
    lanes = λ k hk q l. absurd (omega (arith, l));
    others = λ a m. refl;
    agrees = agrees_same f sums totals (λ g. totals g + sum_below 0 (λ q. Adds actions (sig q) g)) (λ g. let z = sum_below-zero (λ q. Adds actions (sig q) g) in omega (arith, z)) agrees;
  }
  row_lanes actions v0 none is first i mem temps sums totals sig em agrees (suc c) w h fars =
      let before = row_lanes actions v0 none is first i mem temps sums totals sig em agrees c (omega (arith, w)) (λ k hk q l. h k hk q (omega (arith, l))) (λ load k js d q l. fars load k js d q (omega (arith, l))) in
      let e = i + c in
      let le : e < call.n = omega (arith, w) in
      let here : Cells e 1 before.end (λ q. sig c) = λ k hk q l r lr.
      ap before.end (ap (λ x. base k + x * size k + r) (let p : e + q ≡ i + c = omega (arith, l) in p))
      ∙ before.others (base k + (i + c) * size k + r) (λ at. cell_apart call.n base size P separate low k at.0 (i + c) (i + at.2) r at.4 hk at.1.0 le (omega (arith, at.3, w)) lr at.5 (λ s. omega (arith, s, at.3)) at.6)
      ∙ h k hk c (omega arith) r lr in
      let so_far : ℕ → ℕ = λ g. totals g + sum_below c (λ q. Adds actions (sig q) g) in
      let one = element_lanes e f.insns actions v0 before.end before.temps before.sums so_far (sig c) is le here (λ x p s. absurd (none x p s)) before.agrees (fars_stand e i c mem before.end (sig c) (sig c) le (omega (arith, le)) before.others refl (λ load k js d. fars load k js d c (omega arith))) in
      let step : row_of f call r (suc c + i) first ≡ Ok (state one.end one.temps one.sums) =
      ap (λ n. row_of f call r n first) (let p : suc c + i ≡ suc (c + i) = omega arith in p)
      ∙ ap (λ o. go_on o (element f call r (c + i) f.insns)) before.is
      ∙ ap (λ n. element f call r n f.insns (state before.end before.temps before.sums)) (let p : c + i ≡ i + c = omega arith in p) ∙ one.is in
      let lanes : Cells i (suc c) one.end (λ q. All actions (sig q)) = λ k hk q l r lr.
      ⊎_elim
      (λ s. one.others (base k + (i + q) * size k + r) (λ at. cell_apart call.n base size P separate low k at.0 (i + q) (e + at.2) r at.4 hk at.1.0 (omega (arith, l, w)) (omega (arith, at.3, le)) lr at.5 (λ t. omega (arith, t, s)) at.6) ∙ before.lanes k hk q s r lr)
      (λ g. let p : q ≡ c = omega (arith, g, l) in
      ap one.end (ap (λ x. base k + x * size k + r) (let t : i + q ≡ e + 0 = omega (arith, p) in t)) ∙ one.lanes k hk 0 (omega arith) r lr
      ∙ ap (λ x. Some (digit ((All actions (sig x)).cells k) r)) (sym p))
      (cases_lt q c) in
      let others : Rest i (suc c) mem one.end = λ a m.
      one.others a (λ at. m (at.0, at.1, c, omega arith, at.4, at.5, at.6 ∙ ap (λ x. base at.0 + x * size at.0 + at.4) (let t : e + at.2 ≡ i + c = omega (arith, at.3) in t)))
      ∙ before.others a (λ at. m (at.0, at.1, at.2, omega (arith, at.3), at.4, at.5, at.6)) in
      record {
        end = one.end;
        temps = one.temps;
        sums = one.sums;
        is = step;
        lanes = lanes;
        others = others;
        agrees = agrees_same f one.sums (λ g. so_far g + Adds actions (sig c) g) (λ g. totals g + sum_below (suc c) (λ q. Adds actions (sig q) g)) (λ g. let z = sum_below-suc c (λ q. Adds actions (sig q) g) in omega (arith, z)) one.agrees;
      }

  -- cells of dests are cells
  rest_of : (i c : ℕ) (mem end : Memory) → Rest i c mem end → Others call.n base size P i c mem end
  rest_of i c mem end o a m = o a (λ at. m (at.0, at.1.0, at.2, at.3, at.4, at.5, at.6))

  -- the same, as a turn's setting asks for it
  pub reaches : (actions : List Action) (v0 : View) → ((x p : ℕ) → At v0 x p → ⊥) → AreMeant At f patterns numbers.far v0 f.insns actions → (first : State) (i : ℕ) (mem : Memory) (totals : ℕ → ℕ) (sig : ℕ → Local)
      → Reached f call r first i mem totals → (c : ℕ) → i + c ≤ call.n → Cells i c mem sig → FarValues base numbers i c mem sig
      → (end : Memory) × Reached f call r first (c + i) end (λ g. totals g + sum_below c (λ q. Adds actions (sig q) g)) × Cells i c end (λ q. All actions (sig q)) × Others call.n base size P i c mem end
  reaches actions v0 none is first i mem totals sig h c w lanes fars =
      let x = row_lanes actions v0 none is first i mem h.temps h.sums totals sig h.is h.agrees c w lanes fars in
      (x.end, record { temps = x.temps; sums = x.sums; is = x.is; agrees = x.agrees }, x.lanes, rest_of i c mem x.end x.others)
