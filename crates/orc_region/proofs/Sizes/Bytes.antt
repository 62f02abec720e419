-- The code's instructions are allowed; its steps and bytes are few.
use Rattle.std.proofs.Common.{Option, ◌≡◌, ℕ, zero, suc, ◌+◌, ◌*◌, ◌^◌, ◌<◌, ◌≤◌, Bool, true, false, pos, List, [], ◌∷◌, ◌++◌, length, map, suc-mul, refl, sym, subst, ◌∙◌, arith}
use Rattle.std.proofs.Math.Nat.{mul-le-mul_right}
use Rattle.x86_ins.specs.declared.ins.AluOp.TheVariants.{Add, Sub}
use Rattle.x86_ins.specs.declared.ins.Ins.{Ins}
use Rattle.x86_ins.specs.declared.ins.Ins.TheVariants.{AluImm, Vec, VecImm, Shuffle, VecLoad, VecStore, FromGpr, ToGpr}
use Rattle.x86_ins.specs.declared.ins.MoveOp.TheVariants.{Movdqu}
use Rattle.x86_ins.specs.declared.ins.VecOp.TheVariants.{Movdqa}
use Rattle.x86_ins.specs.Renaming.{renamed, renaming, IsPermutation}
use Rattle.x86_ins.specs.Spelling.{IsIns}
use Rattle.x86_ins.specs.Vectors.{all_simd}
use Rattle.x86_ins.proofs.Renamed.{simd_renamed, ins_renamed}
use Rattle.orc_ops.specs.declared.opcode.Op.{Op}
use Rattle.orc_ops.specs.Table.{row}
use Rattle.sse_laws.specs.Meets.{is_sum}
use Rattle.x86_ins.specs.Way.{Each}
use Rattle.x86_flow.specs.Moves.{IsWidth, away, store_either_code}
use Rattle.x86_flow.proofs.Spelled.{IsFine, fine_alu_imm, fits_up, each_both, fine_vec, fine_from_gpr, fine_to_gpr, fine_load_far, fine_store_far, fine_aligned_store, fine_vec_load, fine_vec_store}
use Rattle.orc_frame.specs.Layout.{pattern_slot, sum_slot, spill_slot}
use Rattle.orc_region.proofs.Block.Meeting.{meeting}
use Rattle.orc_resample.specs.Code.{bring_code}
use Rattle.orc_region.specs.Code.{far_source, from_zero_code, Action, spares_second, IsRule, Source, FromArray, FromPattern, FromResident, FromPlace, FromSlot, FromFar, Target, ToArray, ToSum, ToResident, ToPlace, ToSlot, Plan, pointer, place_register, resident_register, made_in, sum_home, first_register, second_register, third_register, rule_register, rule_code, AreBlocks, IsBlocksTurn, far_by, source_far_code, brought, sources_far_code, sum_code, result_far_code, results_far_code, own_names, action_names, action_far_code, named_code, actions_far_code, advance_code}
use Rattle.orc_frame.proofs.Counted.{fine_vec_imm, fine_shuffle}
use Rattle.orc_region.proofs.Block.Keeping.{ins_of}
use Rattle.orc_region.proofs.Block.Names.{IsSmall, own_permutes, source_permutes}
use Rattle.orc_region.proofs.Block.RuleRegisters.{register_small}
use Rattle.orc_region.proofs.Sizes.Cost.{weight, weights}
use Rattle.orc_region.proofs.Block.Registers.{pointer_small}
use Rattle.orc_region.proofs.Sizes.Fars.{far_fine, zero_fine}
use Rattle.orc_region.proofs.Sizes.Vectored.{fine_rule}
use Rattle.orc_region.proofs.Sizes.Counts.{IsFromSlot, IsToSlot, IsMovable}

-- what is asked of a plan by which so many elements are done at once
pub record Small (count : ℕ) (p : Plan) : Type 0 where
  pub most : count ≤ 16
  pub dests : p.dests ≤ 4
  pub sources : p.sources ≤ 8
  pub size : (k : ℕ) → p.size k ≤ 8
  pub actions : Each (IsMovable count p.size) p.actions
  pub few : length p.actions ≤ 100

-- a rule is of vector instructions
pub vectors_of : (count : ℕ) (op : Op) (by : Option ℕ) (rule : List Ins) → IsRule count op by rule → all_simd rule ≡ true
vectors_of count op by rule is = go (is_sum (row op).kind) refl
  where
    go : (b : Bool) → is_sum (row op).kind ≡ b → all_simd rule ≡ true
    go true e = (is.adds e).1.vectors
    go false e = (meeting by op rule (is.meets e)).vectors

pub each_renamed : (f : ℕ → ℕ) → ((r : ℕ) → r < 16 → f r < 16) → (is : List Ins) → Each IsIns is → Each IsIns (map (renamed f) is)
each_renamed f small [] h = tt
each_renamed f small (i ∷ is) h = (ins_renamed f small i h.0, each_renamed f small is h.1)

-- an instruction under other names
fine_other : (f : ℕ → ℕ) → ((r : ℕ) → r < 16 → f r < 16) → (i : Ins) → IsFine i → IsFine (renamed f i)
fine_other f small (Vec op d s) h = let g = h.allowed.0 in fine_vec op (f d) (f s) (small d g.0) (small s g.1)
fine_other f small (VecImm op d n) h = let g = h.allowed.0 in fine_vec_imm op (f d) n (small d g.0) g.1
fine_other f small (Shuffle op d s n) h = let g = h.allowed.0 in fine_shuffle op (f d) (f s) n (small d g.0) (small s g.1) g.2
fine_other f small (VecLoad op d at) h = let g = h.allowed.0 in fine_vec_load op (f d) at (small d g.0) g.1.0 g.1.1
fine_other f small (VecStore op s at) h = let g = h.allowed.0 in fine_vec_store op (f s) at (small s g.0) g.1.0 g.1.1
fine_other f small (FromGpr wide d s) h = let g = h.allowed.0 in fine_from_gpr wide (f d) s (small d g.0) g.1
fine_other f small (ToGpr wide d s) h = let g = h.allowed.0 in fine_to_gpr wide d (f s) g.0 (small s g.1)
fine_other f small _ h = h

fine_under : (f : ℕ → ℕ) → ((r : ℕ) → r < 16 → f r < 16) → (is : List Ins) → Each IsFine is → Each IsFine (map (renamed f) is)
fine_under f small [] h = tt
fine_under f small (i ∷ is) h = (fine_other f small i h.0, fine_under f small is h.1)

-- a source's code, where it isn't taken over
pub each_brought : (R : Ins → Type 0) (taken : Bool) (code : List Ins) → Each R code → Each R (brought taken code)
each_brought R true code h = tt
each_brought R false code h = h

fine_store_either : (b : Bool) (width x r d : ℕ) → IsWidth width → x < 16 → r < 16 → d < 2 ^ 31 → Each IsFine (store_either_code b width x r d)
fine_store_either true width x r d is g e l = fine_aligned_store x r d g e l
fine_store_either false width x r d is g e l = fine_store_far width x r d is g e l

-- ---- actions of so many elements, whose cells are near the pointers

module _ (count : ℕ) (size far : ℕ → ℕ) (aligned : ℕ → Bool) (near : (k : ℕ) → far k < 2 ^ 31) where
  fine_source : (x : ℕ) (s : Source) → x < 16 → IsFromSlot count size s → Each IsFine (source_far_code count size far x s)
  fine_source x (FromArray k) l h = fine_load_far (count * size k) x (pointer k) (far k) h.0 l (pointer_small k h.1) (near k)
  fine_source x (FromPattern j) l h = (fine_vec_load Movdqu x (away 4 (pattern_slot j)) l (omega arith) (fits_up (pattern_slot j) (omega (arith, h))), tt)
  fine_source x (FromResident j g) l h = fine_rule (Vec Movdqa x (resident_register g) ∷ []) refl ((l, omega arith), tt)
  fine_source x (FromPlace p) l h = fine_rule (Vec Movdqa x (place_register p) ∷ []) refl ((l, omega (arith, h)), tt)
  fine_source x (FromFar load array js) l h =
      let code = bring_code (far_source (far array) load array js) count in
      each_both IsFine code (from_zero_code x) (far_fine (far array) load array js h.0 h.3 h.4 count h.1 h.2 (near array)) (zero_fine x l)
  fine_source x (FromSlot k) l h = (fine_vec_load Movdqu x (away 4 (spill_slot k)) l (omega arith) (fits_up (spill_slot k) (omega (arith, h))), tt)

  fine_sources : (one two : Bool) (x y : ℕ) (ss : List Source) → x < 16 → y < 16 → Each (IsFromSlot count size) ss → Each IsFine (sources_far_code one two count size far x y ss)
  fine_sources one two x y [] l m h = tt
  fine_sources one two x y (s ∷ []) l m h = each_brought IsFine one (source_far_code count size far x s) (fine_source x s l h.0)
  fine_sources one two x y (s ∷ t ∷ more) l m h =
      let front = source_far_code count size far x s in
      let back = source_far_code count size far y t in
      each_both IsFine (brought one front) (brought two back) (each_brought IsFine one front (fine_source x s l h.0)) (each_brought IsFine two back (fine_source y t m h.1.0))

  fine_sum : (ts : List Target) → Each (IsToSlot count size) ts → Each IsFine (sum_code ts)
  fine_sum [] h = tt
  fine_sum (ToArray k ∷ more) h = tt
  fine_sum (ToResident g ∷ more) h = tt
  fine_sum (ToPlace p ∷ more) h = tt
  fine_sum (ToSlot k ∷ more) h = tt
  fine_sum (ToSum g ∷ more) h = (fine_vec_load Movdqu 2 (away 4 (sum_slot g)) (omega arith) (omega arith) (fits_up (sum_slot g) (let l : g < 4 = h.0 in omega (arith, l))), tt)

  fine_result : (x : ℕ) (t : Target) → x < 16 → IsToSlot count size t → Each IsFine (result_far_code count size far aligned x t)
  fine_result x (ToArray k) l h = fine_store_either (aligned k) (count * size k) x (pointer k) (far k) h.0 l (pointer_small k h.1) (near k)
  fine_result x (ToSum g) l h = (fine_vec_store Movdqu 2 (away 4 (sum_slot g)) (omega arith) (omega arith) (fits_up (sum_slot g) (omega (arith, h))), tt)
  fine_result x (ToResident g) l h = tt
  fine_result x (ToPlace p) l h = tt
  fine_result x (ToSlot k) l h = (fine_vec_store Movdqu x (away 4 (spill_slot k)) l (omega arith) (fits_up (spill_slot k) (omega (arith, h))), tt)

  fine_results : (ts : List Target) → Each (IsToSlot count size) ts → Each IsFine (results_far_code count size far aligned ts)
  fine_results [] h = tt
  fine_results (t ∷ []) h = fine_result 0 t (omega arith) h.0
  fine_results (t ∷ u ∷ more) h = each_both IsFine (result_far_code count size far aligned 0 t) (result_far_code count size far aligned 1 u) (fine_result 0 t (omega arith) h.0) (fine_result 1 u (omega arith) h.1.0)

  -- the registers of results
  made_small : (x : ℕ) (t : Target) → x < 16 → IsToSlot count size t → made_in x t < 16
  made_small x (ToArray k) l h = l
  made_small x (ToSum g) l h = l
  made_small x (ToResident g) l h = l
  made_small x (ToPlace p) l h = omega (arith, h)
  made_small x (ToSlot k) l h = l

  first_small : (ts : List Target) → Each (IsToSlot count size) ts → first_register ts < 16
  first_small [] h = omega arith
  first_small (t ∷ more) h = made_small 0 t (omega arith) h.0

  second_small : (ts : List Target) → Each (IsToSlot count size) ts → second_register ts < 16
  second_small [] h = omega arith
  second_small (t ∷ []) h = omega arith
  second_small (t ∷ u ∷ more) h = made_small 1 u (omega arith) h.1.0

  home_small : (t : Target) → IsToSlot count size t → sum_home t < 16
  home_small (ToArray k) h = omega arith
  home_small (ToSum g) h = omega arith
  home_small (ToResident g) h = omega arith
  home_small (ToPlace p) h = omega arith
  home_small (ToSlot k) h = omega arith

  third_small : (ts : List Target) → Each (IsToSlot count size) ts → third_register ts < 16
  third_small [] h = omega arith
  third_small (t ∷ more) h = home_small t h.0

  fine_renamed : (a : Action) → IsMovable count size a → Each IsFine (rule_code a)
  fine_renamed a h =
      let f : ℕ → ℕ = rule_register a.to in
      fine_rule (rule_code a) (simd_renamed f a.rule ∙ vectors_of count a.op a.by a.rule h.rule) (each_renamed f (register_small a.to (first_small a.to h.to) (second_small a.to h.to) (third_small a.to h.to)) a.rule h.rule.known)

  pub fine_action : (a : Action) → IsMovable count size a → Each IsFine (action_far_code count size far aligned a)
  fine_action a h =
      let stores = results_far_code count size far aligned a.to in
      let x = first_register a.to in
      let y = second_register a.to in
      each_both IsFine (sources_far_code a.takes_first (spares_second a) count size far x y a.sources) (sum_code a.to ++ (rule_code a ++ stores)) (fine_sources a.takes_first (spares_second a) x y a.sources (first_small a.to h.to) (second_small a.to h.to) h.sources)
      (each_both IsFine (sum_code a.to) (rule_code a ++ stores) (fine_sum a.to h.to)
      (each_both IsFine (rule_code a) stores (fine_renamed a h) (fine_results a.to h.to)))

  small_sources : (ss : List Source) → Each (IsFromSlot count size) ss → Each IsSmall ss
  small_sources [] h = tt
  small_sources (FromArray k ∷ ss) h = (tt, small_sources ss h.1)
  small_sources (FromPattern j ∷ ss) h = (tt, small_sources ss h.1)
  small_sources (FromResident j g ∷ ss) h = (tt, small_sources ss h.1)
  small_sources (FromPlace p ∷ ss) h = (h.0, small_sources ss h.1)
  small_sources (FromFar load array js ∷ ss) h = (tt, small_sources ss h.1)
  small_sources (FromSlot k ∷ ss) h = (tt, small_sources ss h.1)

  fine_named : (names : List ℕ) → IsPermutation names → (actions : List Action) → Each (IsMovable count size) actions → Each IsFine (named_code names count size far aligned actions)
  fine_named names p [] h = tt
  fine_named names p (a ∷ rest) h =
      let m = h.0 in
      let mine = action_names a names in
      let own = action_far_code count size far aligned a in
      let q : IsPermutation mine = source_permutes a.takes_first a.takes_second (first_register a.to) (second_register a.to) a.sources names (first_small a.to m.to) (second_small a.to m.to) (small_sources a.sources m.sources) p in
      each_both IsFine (map (renamed (renaming mine)) own) (named_code mine count size far aligned rest) (fine_under (renaming mine) q.below own (fine_action a m)) (fine_named mine q rest h.1)

  pub fine_actions : (actions : List Action) → Each (IsMovable count size) actions → Each IsFine (actions_far_code count size far aligned actions)
  fine_actions = fine_named own_names own_permutes

  pub ins_actions : (actions : List Action) → Each (IsMovable count size) actions → Each (λ a. Each IsIns (action_far_code count size far aligned a)) actions
  ins_actions [] h = tt
  ins_actions (a ∷ rest) h = (ins_of (action_far_code count size far aligned a) (fine_action a h.0), ins_actions rest h.1)

-- the instructions of actions
weight_few : (count : ℕ) (size : ℕ → ℕ) (actions : List Action) → Each (IsMovable count size) actions → weights count actions ≤ 317 * length actions
weight_few count size [] h = omega arith
weight_few count size (a ∷ rest) h = omega (arith, h.0.few, weight_few count size rest h.1)

weight_light : (count : ℕ) (actions : List Action) → Each (λ a. weight count a ≤ 108) actions → weights count actions ≤ 108 * length actions
weight_light count [] h = omega arith
weight_light count (a ∷ rest) h = omega (arith, h.0, weight_light count rest h.1)

pub weights_most : (count : ℕ) (p : Plan) → Small count p → weights count p.actions ≤ 31700
weights_most count p h = omega (arith, weight_few count p.size p.actions h.actions, h.few)

-- where each action has few
pub weights_light : (count : ℕ) (p : Plan) → Small count p → Each (λ a. weight count a ≤ 108) p.actions → weights count p.actions ≤ 10800
weights_light count p h light = omega (arith, weight_light count p.actions light, h.few)

-- ---- turns of blocks of actions of which Are holds

step_small : (by size : ℕ) → by ≤ 64 → size ≤ 8 → by * size ≤ 512
step_small by size most small = let m : by * size ≤ 64 * size = mul-le-mul_right size most in omega (arith, m, small)

module _ (count : ℕ) (size : ℕ → ℕ) (small : (k : ℕ) → size k ≤ 8) (aligned : ℕ → Bool) where
  near : (first : ℕ) → first ≤ 64 → (k : ℕ) → far_by first size k < 2 ^ 31
  near first l k = (let m = step_small first (size k) l (small k) in omega (arith, m))

  fine_advance : (by : ℕ) → by ≤ 64 → (first n : ℕ) → first + n ≤ 12 → Each IsFine (advance_code size by first n)
  fine_advance by most first zero h = tt
  fine_advance by most first (suc n) h =
      let step = step_small by (size (first + n)) most (small (first + n)) in
      each_both IsFine (advance_code size by first n) (AluImm Add (pointer (first + n)) (pos (by * size (first + n))) ∷ []) (fine_advance by most first n (omega (arith, h)))
      (fine_alu_imm Add (pointer (first + n)) (pos (by * size (first + n))) (pointer_small (first + n) (omega (arith, h))) (fits_up (by * size (first + n)) (omega (arith, step))), tt)

  -- the instructions of a block that is so many elements behind the pointers
  pub ins_block : (actions : List Action) → Each (IsMovable count size) actions → (first : ℕ) → first ≤ 64 → Each (λ a. Each IsIns (action_far_code count size (far_by first size) aligned a)) actions
  ins_block actions h first l = ins_actions count size (far_by first size) aligned (near first l) actions h

  module _ (Are : List Action → Type 0) (movable : (actions : List Action) → Are actions → Each (IsMovable count size) actions) where
    fine_blocks : (b : ℕ) (list : List Ins) → b * count ≤ 64 → AreBlocks Are count size aligned b list → Each IsFine list
    fine_blocks zero list l x = subst (Each IsFine) (sym x) tt
    fine_blocks (suc b) list l x =
        let code = actions_far_code count size (far_by (b * count) size) aligned x.1 in
        subst (Each IsFine) (sym x.4) (each_both IsFine x.0 code (fine_blocks b x.0 (omega (arith, l, suc-mul b count)) x.2) (fine_actions count size (far_by (b * count) size) aligned (near (b * count) (omega (arith, l, suc-mul b count))) x.1 (movable x.1 x.3)))

    pub fine_turn : (dests sources : ℕ) → dests ≤ 4 → sources ≤ 8 → (b : ℕ) (list : List Ins) → b * count ≤ 64 → IsBlocksTurn Are count size aligned dests sources b list → Each IsFine list
    fine_turn dests sources few_dests few_sources b list l x =
        let by = b * count in
        let last = AluImm Sub 1 (pos by) ∷ [] in
        subst (Each IsFine) (sym x.2)
        (each_both IsFine x.0 (advance_code size by 0 dests ++ (advance_code size by 4 sources ++ last)) (fine_blocks b x.0 l x.1)
        (each_both IsFine (advance_code size by 0 dests) (advance_code size by 4 sources ++ last) (fine_advance by l 0 dests (omega (arith, few_dests)))
        (each_both IsFine (advance_code size by 4 sources) last (fine_advance by l 4 sources (omega (arith, few_sources))) (fine_alu_imm Sub 1 (pos by) (omega arith) (fits_up by (omega (arith, l))), tt))))
