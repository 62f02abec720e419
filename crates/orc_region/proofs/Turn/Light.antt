-- A turn with few instructions has far loads with few, so that its actions are as small as those of other functions.
use Rattle.std.proofs.Common.{◌≡◌, ℕ, ◌+◌, ◌*◌, ◌≤◌, ◌⊎◌, inl, inr, Bool, true, false, pos, List, [], ◌∷◌, ◌++◌, length, map, sym, ap, ◌∙◌, subst, arith, length-append}
use Rattle.std.proofs.lemmas.List.{length-map}
use Rattle.orc_bits.proofs.Memories.{none_some, some_one}
use Rattle.orc_ops.specs.declared.far.Far.{Far}
use Rattle.orc_ops.specs.declared.target.Target.{Target as CodeTarget}
use Rattle.orc_program.specs.declared.program.Insn.{Insn}
use Rattle.orc_program.specs.declared.program.VarKind.TheVariants as kind
use Rattle.orc_program.specs.Program.{FunctionValue, count_of}
use Rattle.orc_program.specs.Kept.{is_function}
use Rattle.orc_program.specs.Need.{made_by}
use Rattle.orc_program.specs.Slots.{size_of_slot}
use Rattle.orc_program.proofs.Near.{near_op}
use Rattle.orc_plan.specs.Lowered.{step_of, steps_after, steps_of}
use Rattle.x86_ins.specs.declared.ins.AluOp.TheVariants.{Sub}
use Rattle.x86_ins.specs.declared.ins.Ins.{Ins}
use Rattle.x86_ins.specs.declared.ins.Ins.TheVariants.{AluImm}
use Rattle.x86_ins.specs.Renaming.{renamed, renaming}
use Rattle.x86_ins.specs.Way.{Each}
use Rattle.orc_resample.specs.Code.{bring_code}
use Rattle.orc_region.specs.Code.{Action, spares_second, FromFar, seats_of, patterns_in, IsAction, IsTaking, AreActions, is_first_taken, IsTurnOf, far_source, from_zero_code, first_register, second_register, rule_code, brought, sources_far_code, sum_code, results_far_code, action_names, action_far_code, named_code, own_names, actions_far_code, advance_code, far_by, aligned_first}
use Rattle.orc_region.proofs.Sizes.Cost.{far_length}
use Rattle.orc_region.proofs.Sizes.Fars.{far_light, far_one}
use Rattle.orc_region.proofs.Checked.Acts.{AllPlaced, IsNearLoad, IsPlanned, ArePlanned, are_planned}
use Rattle.orc_region.proofs.Checked.Fars.{IsFarLoad}
use Rattle.orc_region.proofs.Checked.Knows.{IsLight, brought_far}

-- ---- for one element

pub light_one : (insns : List Insn) (count : ℕ) → count ≡ 1 → Each (IsLight count) insns
light_one [] count e = tt
light_one (insn ∷ insns) count e = ((λ load is. subst (λ n. far_length load n ≤ 104) (sym e) (far_one load)), light_one insns count e)

-- ---- where the code is short

module _ (f : FunctionValue) (at : List ℕ) (count : ℕ) (size far : ℕ → ℕ) (aligned : ℕ → Bool) where
  -- an action's code has that of its far load
  far_within : (a : Action) (load : Far) (k : ℕ) (js : List ℕ) → a.sources ≡ FromFar load k js ∷ [] → a.takes_first ≡ false → length (bring_code (far_source (far k) load k js) count) ≤ length (action_far_code count size far aligned a)
  far_within a load k js sources first =
      let x = first_register a.to in
      let y = second_register a.to in
      let code = bring_code (far_source (far k) load k js) count in
      let loads = sources_far_code a.takes_first (spares_second a) count size far x y a.sources in
      let same : loads ≡ code ++ from_zero_code x = ap (sources_far_code a.takes_first (spares_second a) count size far x y) sources ∙ ap (λ one. brought one (code ++ from_zero_code x)) first in
      omega (arith, ap length same, length-append code (from_zero_code x), length-append loads (sum_code a.to ++ (rule_code a ++ results_far_code count size far aligned a.to)))

  light_action : {target : CodeTarget} (temps : List ℕ) (insn : Insn) (rest : List Insn) (a : Action) → IsPlanned f at temps insn rest → IsAction target (seats_of f at) count (step_of f.vars (patterns_in f) temps insn) a
      → IsTaking (seats_of f at) (steps_after f.vars (patterns_in f) (temps ++ made_by f.vars insn) rest) a → length (action_far_code count size far aligned a) ≤ 30 → IsLight count insn
  light_action temps insn rest a d is taking short load loads = go d.how
    where
      go : IsNearLoad f at temps insn rest ⊎ IsFarLoad f temps insn → far_length load count ≤ 104
      go (inl x) = absurd (none_some (sym (near_op insn x.near) ∙ loads))
      go (inr x) =
          let sources = is.sources ∙ brought_far f at temps insn x in
          let first = taking.first ∙ ap (is_first_taken (seats_of f at) (steps_after f.vars (patterns_in f) (temps ++ made_by f.vars insn) rest)) sources in
          let within = far_within a x.load x.slot x.js sources first in
          let light = far_light (far x.slot) x.slot x.js count x.load (omega (arith, within, short)) in
          subst (λ l. far_length l count ≤ 104) (some_one x.load load (sym x.is ∙ loads)) light

  light_actions : (target : CodeTarget) (names temps : List ℕ) (insns : List Insn) (actions : List Action) → ArePlanned f at temps insns → AreActions target (seats_of f at) count (steps_after f.vars (patterns_in f) temps insns) actions → length (named_code names count size far aligned actions) ≤ 30 → Each (IsLight count) insns
  light_actions target names temps [] [] d is short = tt
  light_actions target names temps [] (a ∷ rest) d is short = absurd is
  light_actions target names temps (insn ∷ insns) [] d is short = absurd is
  light_actions target names temps (insn ∷ insns) (a ∷ rest) d is short =
      let mine = action_names a names in
      let other = renamed (renaming mine) in
      let own = action_far_code count size far aligned a in
      let more = named_code mine count size far aligned rest in
      let parts : length (named_code names count size far aligned (a ∷ rest)) ≡ length own + length more = length-append (map other own) more ∙ ap (λ n. n + length more) (length-map own other) in (
        light_action temps insn insns a d.0 is.0.0 is.0.1 (omega (arith, parts, short)),
        light_actions target mine (temps ++ made_by f.vars insn) insns rest d.1 is.1 (omega (arith, parts, short)),
      )

-- a turn of one block
pub light_turn : (target : CodeTarget) (f : FunctionValue) → is_function f ≡ true → (at : List ℕ) → AllPlaced f at → (count : ℕ) (aligned : Bool) (list : List Ins) → IsTurnOf f target at count aligned 1 list → length list ≤ 30 → Each (IsLight count) f.insns
unfolding steps_of
light_turn target f h at stand count aligned list x short =
    let size = size_of_slot f.vars in
    let block = x.1 in
    let code = actions_far_code count size (far_by (0 * count) size) (aligned_first aligned) block.1 in
    let moves = advance_code size (1 * count) 0 (count_of kind.Dest f.vars) ++ (advance_code size (1 * count) 4 (count_of kind.Source f.vars) ++ AluImm Sub 1 (pos (1 * count)) ∷ []) in
    light_actions f at count size (far_by (0 * count) size) (aligned_first aligned) target own_names [] f.insns block.1 (are_planned f h at stand) block.3
    (omega (arith, short, ap length x.2, length-append x.0 moves, ap length block.4, length-append block.0 code))
