-- Several elements at once: what is done to whole registers is what is done element by element.
use Rattle.std.proofs.Common.{◌≡◌, ◌≢◌, ℕ, zero, suc, ◌+◌, ◌-◌, ◌*◌, ◌^◌, ◌<◌, ◌≤◌, ◌==◌, true, false, if◌then◌else◌, List, [], ◌∷◌, Option, None, Some, sym, ap, ◌∙◌, subst, arith, ◌⊎◌, inl, inr, ⊎_elim}
use Rattle.std.proofs.lemmas.Bool.{cases_lt}
use Rattle.orc_bits.specs.Lanes.{change}
use Rattle.orc_bits.specs.Memory.{Memory}
use Rattle.orc_bits.proofs.LaneLaws.{eq_false}
use Rattle.orc_ops.specs.declared.opcode.Op.{Op}
use Rattle.orc_ops.specs.declared.far.Far.{Far}
use Rattle.orc_ops.specs.Far.{far_size}
use Rattle.orc_ops.specs.Table.{row, size_of_result, size_of_source}
use Rattle.orc_program.specs.Meaning.{sub_lane, lanewise}
use Rattle.x86_flow.proofs.Moves.{IsFill}
use Rattle.sse_laws.specs.Meets.{is_shift, is_sum}
use Rattle.x86_ins.specs.Way.{Each}
use Rattle.orc_program.specs.Need.{registers}
use Rattle.orc_frame.specs.Layout.{spill_slots}
use Rattle.orc_region.specs.Code.{Action, Source, FromArray, FromPattern, FromResident, FromPlace, FromSlot, FromFar, Target, ToArray, ToSum, ToResident, ToPlace, ToSlot, place_register, slot_place, first_register, second_register}
use Rattle.orc_region.proofs.Arithmetic.Digits.{digit, byte_within, byte_further, byte_split, byte_apart}
use Rattle.orc_region.proofs.Block.Sums.{IsResident, SourceWithin, TargetWithin}

pub eq_yes : (x y : ℕ) → x ≡ y → (x == y) ≡ true
eq_yes x y e = grind (arith, e)

-- the numbers of one element: of its cells by the array's slot, of its values by place, and of its far loads' values by the array's slot and the patterns of the scalars
pub record Local : Type 0 where
  pub cells : ℕ → ℕ
  pub values : ℕ → ℕ
  pub fars : Far → ℕ → List ℕ → ℕ

-- the patterns and the running sums of a function, and the last place of its values
pub record Numbers : Type 1 where
  pub patterns : ℕ
  -- the number of a pattern, and after how many bytes it repeats
  pub number : ℕ → ℕ
  pub period : ℕ → ℕ
  pub sums : ℕ
  -- the bytes of a sum
  pub width : ℕ → ℕ
  pub last : ℕ
  -- the far loads that there are, by the array's slot and the patterns of the scalars
  pub far : Far → ℕ → List ℕ → Type 0

-- what a source of so many bytes gives to each sub-lane
abbrev pub given_by : (ℕ → ℕ) → ℕ → Local → Source → ℕ → ℕ
given_by number w l (FromArray k) = sub_lane (8 * w) (l.cells k)
given_by number w l (FromPattern j) = λ q. number j
given_by number w l (FromResident j g) = λ q. number j
given_by number w l (FromPlace p) = sub_lane (8 * w) (l.values p)
given_by number w l (FromFar load array js) = sub_lane (8 * w) (l.fars load array js)
given_by number w l (FromSlot k) = sub_lane (8 * w) (l.values (slot_place k))

-- what each sub-lane of an opcode's sources holds
abbrev pub given : (ℕ → ℕ) → Op → Local → List Source → (ℕ → ℕ) × (ℕ → ℕ)
given number op l [] = ((λ p. 0), (λ p. 0))
given number op l (s ∷ []) = (given_by number (size_of_source op 0) l s, (λ p. 0))
given number op l (s ∷ t ∷ more) = (given_by number (size_of_source op 0) l s, given_by number (size_of_source op 1) l t)

-- both results of an opcode under a prefix
abbrev pub computed : (ℕ → ℕ) → Op → ℕ → Local → List Source → ℕ × ℕ
computed number op prefix l ss = lanewise op prefix (given number op l ss).0 (given number op l ss).1

-- what a result adds to running sum g
abbrev pub adds_to : Target → ℕ → ℕ → ℕ
adds_to (ToArray d) v g = 0
adds_to (ToSum h) v g = if h == g then v else 0
adds_to (ToResident h) v g = if h == g then v else 0
adds_to (ToPlace p) v g = 0
adds_to (ToSlot k) v g = 0

abbrev pub results_add : List Target → ℕ × ℕ → ℕ → ℕ
results_add [] v g = 0
results_add (t ∷ []) v g = adds_to t v.0 g
results_add (t ∷ u ∷ more) v g = adds_to t v.0 g + adds_to u v.1 g

-- ---- what stands at places

-- the bytes of the value at a place, after a result of so many bytes that goes there; 0 where none is known
abbrev pub live_target : (ℕ → ℕ) → Target → ℕ → ℕ → ℕ
live_target live (ToArray k) bytes = live
live_target live (ToSum g) bytes = live
live_target live (ToResident g) bytes = live
live_target live (ToPlace p) bytes = change live p bytes
live_target live (ToSlot k) bytes = change live (slot_place k) bytes

abbrev pub live_targets : (ℕ → ℕ) → Op → ℕ → List Target → ℕ → ℕ
live_targets live op prefix [] = live
live_targets live op prefix (t ∷ []) = live_target live t (size_of_result op 0 * prefix)
live_targets live op prefix (t ∷ u ∷ more) = live_target (live_target live t (size_of_result op 0 * prefix)) u (size_of_result op 1 * prefix)

abbrev pub live_act : (ℕ → ℕ) → Action → ℕ → ℕ
live_act live a = live_targets live a.op a.prefix a.to

-- before the first instruction of an element nothing is known of places
abbrev pub no_values : ℕ → ℕ
no_values p = 0

-- of arrays' slots those of dests: they are the first four
abbrev pub OfDests : (ℕ → Type 0) → ℕ → Type 0
OfDests P k = P k × (k < 4)

-- n elements of arrays: their slots are those with P, `base` are their first addresses, and `size` the bytes of their elements
module _ (n : ℕ) (base size : ℕ → ℕ) (P : ℕ → Type 0) where
  -- the address of byte r of element i
  abbrev pub place : ℕ → ℕ → ℕ → ℕ
  place k i r = base k + i * size k + r

  -- a write reaches each array that is the very same one
  abbrev pub set_local : Local → ℕ → ℕ → Local
  set_local l d v = record { cells = λ k. if base k == base d then v else l.cells k; values = l.values; fars = l.fars }

  abbrev pub set_target : Local → Target → ℕ → Local
  set_target l (ToArray d) v = set_local l d v
  set_target l (ToSum g) v = l
  set_target l (ToResident g) v = l
  set_target l (ToPlace p) v = record { cells = l.cells; values = change l.values p v; fars = l.fars }
  set_target l (ToSlot k) v = record { cells = l.cells; values = change l.values (slot_place k) v; fars = l.fars }

  -- the first result before the second
  abbrev pub set_results : Local → List Target → ℕ × ℕ → Local
  set_results l [] v = l
  set_results l (t ∷ []) v = set_target l t v.0
  set_results l (t ∷ u ∷ more) v = set_target (set_target l t v.0) u v.1

  -- the memory holds these numbers in the cells of so many elements from i on
  abbrev pub Lanes : ℕ → ℕ → Memory → (ℕ → Local) → Type 0
  Lanes i c mem sig = (k : ℕ) → P k → (q : ℕ) → q < c → (r : ℕ) → r < size k → mem (place k (i + q) r) ≡ Some (digit ((sig q).cells k) r)

  -- an address is a byte of a cell of one of these elements
  abbrev pub AtElements : ℕ → ℕ → ℕ → Type 0
  AtElements i c a = (k : ℕ) × P k × (q : ℕ) × (q < c) × (r : ℕ) × (r < size k) × (a ≡ place k (i + q) r)

  abbrev pub Others : ℕ → ℕ → Memory → Memory → Type 0
  Others i c mem end = (a : ℕ) → (AtElements i c a → ⊥) → end a ≡ mem a

  pub others_more : (i c : ℕ) (m u e : Memory) → Others i c m u → Others i c u e → Others i c m e
  others_more i c m u e a b x k = b x k ∙ a x k

  -- a store to cells leaves the others
  pub store_others : (i c : ℕ) (mem end : Memory) (d : ℕ) (z : ℕ → ℕ) → P d → IsFill (c * size d) mem (base d + i * size d) z end → Others i c mem end
  store_others i c mem end d z hd f a m = f.outside a (λ j l e. let x = byte_split (size d) c j l in m (d, hd, x.0, x.2, x.1, x.3, e ∙ ap (λ t. base d + i * size d + t) x.4 ∙ sym (byte_further (base d) i x.0 (size d) x.1)))

  -- an array whose elements have so many bytes
  pub record IsOf (k bytes : ℕ) : Type 0 where
    pub array : P k
    pub bytes_are : size k ≡ bytes
    pub some : 0 < size k

  -- one that is written
  pub record IsTo (k bytes : ℕ) : Type 0 where
    pub of : IsOf k bytes
    pub dest : k < 4

  module _ (numbers : Numbers) where
    abbrev pub value_of : Action → Local → ℕ × ℕ
    value_of a l = computed numbers.number a.op a.prefix l a.sources

    abbrev pub local_act : Action → Local → Local
    local_act a l = set_results l a.to (value_of a l)

    abbrev pub local : List Action → Local → Local
    local [] l = l
    local (a ∷ rest) l = local rest (local_act a l)

    -- what one element adds to running sum g
    abbrev pub adds : List Action → Local → ℕ → ℕ
    adds [] l g = 0
    adds (a ∷ rest) l g = results_add a.to (value_of a l) g + adds rest (local_act a l) g

    -- a source of so many sub-lanes of this size, where values of so many bytes stand at places
    abbrev pub IsFrom : (ℕ → ℕ) → ℕ → ℕ → Source → Type 0
    IsFrom live w prefix (FromArray k) = IsOf k (w * prefix)
    IsFrom live w prefix (FromPattern j) = (j < numbers.patterns) × (numbers.period j ≡ w)
    IsFrom live w prefix (FromResident j g) = (j < numbers.patterns) × (numbers.period j ≡ w) × (g ≡ numbers.sums + j) × IsResident numbers.last g
    IsFrom live w prefix (FromPlace p) = (p < registers) × (live p ≡ w * prefix)
    IsFrom live w prefix (FromFar load array js) = numbers.far load array js × (w ≡ far_size load) × (prefix ≡ 1)
    IsFrom live w prefix (FromSlot k) = (k < spill_slots) × (live (slot_place k) ≡ w * prefix)

    -- a count is a pattern
    abbrev pub IsBeside : Op → Source → Type 0
    IsBeside op (FromArray k) = is_shift (row op).kind ≡ false
    IsBeside op (FromPattern j) = Unit {0}
    IsBeside op (FromResident j g) = Unit {0}
    IsBeside op (FromPlace p) = is_shift (row op).kind ≡ false
    IsBeside op (FromFar load array js) = ⊥
    IsBeside op (FromSlot k) = is_shift (row op).kind ≡ false

    -- a second source is the count that the rule has in itself
    abbrev pub IsNumber : ℕ → Source → Type 0
    IsNumber m (FromArray k) = ⊥
    IsNumber m (FromPattern j) = numbers.number j ≡ m
    IsNumber m (FromResident j g) = numbers.number j ≡ m
    IsNumber m (FromPlace p) = ⊥
    IsNumber m (FromFar load array js) = ⊥
    IsNumber m (FromSlot k) = ⊥

    abbrev pub IsCounted : Option ℕ → List Source → Type 0
    IsCounted None ss = Unit {0}
    IsCounted (Some m) [] = ⊥
    IsCounted (Some m) (s ∷ []) = ⊥
    IsCounted (Some m) (s ∷ t ∷ more) = IsNumber m t

    -- one or two sources of the opcode's sizes
    abbrev pub AreFrom : (ℕ → ℕ) → Op → ℕ → List Source → Type 0
    AreFrom live op prefix [] = ⊥
    AreFrom live op prefix (s ∷ []) = IsFrom live (size_of_source op 0) prefix s × (size_of_source op 1 ≡ 0)
    AreFrom live op prefix (s ∷ t ∷ more) = IsFrom live (size_of_source op 0) prefix s × IsFrom live (size_of_source op 1) prefix t × IsBeside op t

    -- a result that is no running sum: a dest, a place or a spill slot
    abbrev pub IsMade : ℕ → Target → Type 0
    IsMade bytes (ToArray k) = IsTo k bytes
    IsMade bytes (ToSum g) = ⊥
    IsMade bytes (ToResident g) = ⊥
    IsMade bytes (ToPlace p) = p < registers
    IsMade bytes (ToSlot k) = k < spill_slots

    -- one running sum
    abbrev pub IsAdded : Op → ℕ → ℕ → Type 0
    IsAdded op prefix g = (g < numbers.sums) × (is_sum (row op).kind ≡ true) × (numbers.width g ≡ size_of_result op 0) × (prefix ≡ 1)

    -- one or two results that are none
    abbrev pub AreMade : Op → ℕ → List Target → Type 0
    AreMade op prefix [] = ⊥
    AreMade op prefix (t ∷ []) = IsMade (size_of_result op 0 * prefix) t × (is_sum (row op).kind ≡ false)
    AreMade op prefix (t ∷ u ∷ more) = IsMade (size_of_result op 0 * prefix) t × (is_sum (row op).kind ≡ false) × IsMade (size_of_result op 1 * prefix) u

    -- one or two dests, places or spill slots, or one running sum
    abbrev pub AreTo : Op → ℕ → List Target → Type 0
    AreTo op prefix (ToSum g ∷ []) = IsAdded op prefix g
    AreTo op prefix (ToResident g ∷ []) = IsAdded op prefix g
    AreTo op prefix ts = AreMade op prefix ts

    -- a source doesn't stand in a register where a result is made
    abbrev pub IsKept : List Target → Source → Type 0
    IsKept ts (FromArray k) = Unit {0}
    IsKept ts (FromPattern j) = Unit {0}
    IsKept ts (FromResident j g) = Unit {0}
    IsKept ts (FromPlace p) = (first_register ts ≢ place_register p) × (second_register ts ≢ place_register p)
    IsKept ts (FromFar load array js) = Unit {0}
    IsKept ts (FromSlot k) = Unit {0}

    -- its operands are of the opcode's sizes, its sources stand elsewhere than its results, its results in two registers, and all of them where places end
    pub record IsKnown (live : ℕ → ℕ) (a : Action) : Type 0 where
      pub to : AreTo a.op a.prefix a.to
      pub sources : AreFrom live a.op a.prefix a.sources
      pub kept : Each (IsKept a.to) a.sources
      pub apart : first_register a.to ≢ second_register a.to
      pub to_within : Each (TargetWithin numbers.last) a.to
      pub from_within : Each (SourceWithin numbers.last) a.sources
      pub counted : IsCounted a.by a.sources

    abbrev pub AllKnown : (ℕ → ℕ) → List Action → Type 0
    AllKnown live [] = Unit {0}
    AllKnown live (a ∷ rest) = IsKnown live a × AllKnown (live_act live a) rest

  -- two arrays share no byte, or have one base and one size
  abbrev pub Separate : Type 0
  Separate = (k l : ℕ) → P k → P l → ((base k ≡ base l) × (size k ≡ size l)) ⊎ ((i j r s : ℕ) → i < n → j < n → r < size k → s < size l → place k i r ≢ place l j s)

  abbrev pub Low : Type 0
  Low = (k : ℕ) → P k → (i : ℕ) → i < n → (r : ℕ) → r < size k → place k i r < 2 ^ 47

  -- slots are below 12, and it's known which of them have P
  abbrev pub Decided : Type 0
  Decided = (k : ℕ) → P k ⊎ (P k → ⊥)

  -- bytes of so many elements from one on, of a slot below p
  abbrev At : ℕ → ℕ → ℕ → ℕ → Type 0
  At i c a p = (k : ℕ) × (k < p) × P k × (q : ℕ) × (q < c) × (r : ℕ) × (r < size k) × (a ≡ place k (i + q) r)

  abbrev NotAt : ℕ → ℕ → ℕ → ℕ → Type 0
  NotAt i c a p = (k : ℕ) → k < p → P k → (q : ℕ) → q < c → (r : ℕ) → r < size k → a ≢ place k (i + q) r

  module _ (separate : Separate) (low : Low) where
    pub cell_apart : (k l i j r s : ℕ) → P k → P l → i < n → j < n → r < size k → s < size l → i ≢ j → place k i r ≢ place l j s
    cell_apart k l i j r s hk hl hi hj hr hs ne e = ⊎_elim
        (λ same. byte_apart (size k) i j r s ne hr (subst (λ w. s < w) (sym same.1) hs)
        (let f : base k + i * size k + r ≡ base k + j * size k + s = e ∙ ap (λ b. b + j * size l + s) (sym same.0) ∙ ap (λ w. base k + j * w + s) (sym same.1) in omega (arith, f)))
        (λ a. a i j r s hi hj hr hs e)
        (separate k l hk hl)

    -- one whole store
    pub store_lanes : (i c : ℕ) (mem end : Memory) (sig : ℕ → Local) (d : ℕ) (z v : ℕ → ℕ) → P d → 0 < size d → i + c ≤ n → Lanes i c mem sig → IsFill (c * size d) mem (base d + i * size d) z end
        → ((q r : ℕ) → q < c → r < size d → z (q * size d + r) ≡ digit (v q) r) → Lanes i c end (λ q. set_local (sig q) d (v q))
    store_lanes i c mem end sig d z v hd some w h f numbers k hk q l r lr = ⊎_elim same apart (separate k d hk hd)
      where
        same : (base k ≡ base d) × (size k ≡ size d) → end (place k (i + q) r) ≡ Some (digit ((set_local (sig q) d (v q)).cells k) r)
        same e =
            let lr' : r < size d = subst (λ s. r < s) e.1 lr in
            ap end (ap (λ b. b + (i + q) * size k + r) e.0 ∙ ap (λ s. base d + (i + q) * s + r) e.1 ∙ byte_further (base d) i q (size d) r)
            ∙ f.inside (q * size d + r) (byte_within q c (size d) r l lr')
            ∙ ap Some (numbers q r l lr')
            ∙ ap (λ b. Some (digit (if b then v q else (sig q).cells k) r)) (sym (eq_yes (base k) (base d) e.0))

        apart : ((i j r s : ℕ) → i < n → j < n → r < size k → s < size d → place k i r ≢ place d j s) → end (place k (i + q) r) ≡ Some (digit ((set_local (sig q) d (v q)).cells k) r)
        apart a =
            let lq : i + q < n = omega (arith, l, w) in
            f.outside (place k (i + q) r) (λ j lj e. let x = byte_split (size d) c j lj in a (i + q) (i + x.0) r x.1 lq (omega (arith, x.2, w)) lr x.3 (e ∙ ap (λ t. base d + i * size d + t) x.4 ∙ sym (byte_further (base d) i x.0 (size d) x.1)))
            ∙ h k hk q l r lr
            ∙ ap (λ b. Some (digit (if b then v q else (sig q).cells k) r)) (sym (eq_false (base k) (base d) (λ e. a 0 0 0 0 (omega (arith, lq)) (omega (arith, lq)) (omega (arith, lr)) some (omega (arith, e)))))

    -- whether an address is a byte of one of these elements
    at_or_not : Decided → (i c a p : ℕ) → At i c a p ⊎ NotAt i c a p
    at_or_not decided i c a zero = inr (λ k h. absurd (omega (arith, h)))
    at_or_not decided i c a (suc p) = ⊎_elim (λ f. inl (f.0, omega (arith, f.1), f.2, f.3, f.4, f.5, f.6, f.7)) (λ m. whether m (decided p)) (at_or_not decided i c a p)
      where
        no_more : NotAt i c a p → (P p → (q : ℕ) → q < c → (r : ℕ) → r < size p → a ≢ base p + i * size p + (q * size p + r)) → NotAt i c a (suc p)
        no_more m o k h x q l r lr e = ⊎_elim
            (λ s. m k s x q l r lr e)
            (λ g. let s : k ≡ p = omega (arith, g, h) in o (subst P s x) q l r (subst (λ t. r < size t) s lr) (e ∙ ap (λ t. place t (i + q) r) s ∙ byte_further (base p) i q (size p) r))
            (cases_lt k p)

        found : P p → base p + i * size p ≤ a → a - (base p + i * size p) < c * size p → At i c a (suc p)
        found x g s =
            let y = byte_split (size p) c (a - (base p + i * size p)) s in
            (p, omega arith, x, y.0, y.2, y.1, y.3, (let e : a ≡ base p + i * size p + (y.0 * size p + y.1) = omega (arith, g, y.4) in e) ∙ sym (byte_further (base p) i y.0 (size p) y.1))

        above : NotAt i c a p → P p → base p + i * size p ≤ a → (a - (base p + i * size p) < c * size p) ⊎ (c * size p ≤ a - (base p + i * size p)) → At i c a (suc p) ⊎ NotAt i c a (suc p)
        above m x g (inl s) = inl (found x g s)
        above m x g (inr t) = inr (no_more m (λ x q l r lr e. let w = byte_within q c (size p) r l lr in omega (arith, w, e, t)))

        below : NotAt i c a p → P p → (a < base p + i * size p) ⊎ (base p + i * size p ≤ a) → At i c a (suc p) ⊎ NotAt i c a (suc p)
        below m x (inl l) = inr (no_more m (λ x q s r lr e. omega (arith, l, e)))
        below m x (inr g) = above m x g (cases_lt (a - (base p + i * size p)) (c * size p))

        whether : NotAt i c a p → P p ⊎ (P p → ⊥) → At i c a (suc p) ⊎ NotAt i c a (suc p)
        whether m (inl x) = below m x (cases_lt a (base p + i * size p))
        whether m (inr x) = inr (no_more m (λ y. absurd (x y)))

    module _ (decided : Decided) (few : (k : ℕ) → P k → k < 12) where
      pub elements_or_not : (i c a : ℕ) → AtElements i c a ⊎ (AtElements i c a → ⊥)
      elements_or_not i c a = ⊎_elim (λ f. inl (f.0, f.2, f.3, f.4, f.5, f.6, f.7)) (λ m. inr (λ at. m at.0 (few at.0 at.1) at.1 at.2 at.3 at.4 at.5 at.6)) (at_or_not decided i c a 12)

      -- two memories that agree at a place before, with one description of the change, agree there after
      pub same_end : (i c : ℕ) (mem mem' m e : Memory) (sig : ℕ → Local) → Lanes i c m sig → Lanes i c e sig → Others i c mem' e → (a : ℕ) → ((AtElements i c a → ⊥) → m a ≡ mem a) → mem a ≡ mem' a → m a ≡ e a
      same_end i c mem mem' m e sig lm le oe a om before = ⊎_elim
          (λ f. ap m f.6 ∙ lm f.0 f.1 f.2 f.3 f.4 f.5 ∙ sym (le f.0 f.1 f.2 f.3 f.4 f.5) ∙ ap e (sym f.6))
          (λ k. om k ∙ before ∙ sym (oe a k))
          (elements_or_not i c a)
