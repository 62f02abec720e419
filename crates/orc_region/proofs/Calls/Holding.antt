-- What a core inside a good call holds, by the layout of the function, and by the patterns and running sums of its code.
use Rattle.std.proofs.Common.{◌≡◌, ℕ, ◌+◌, ◌*◌, ◌<◌, true, true≢false, List, length, get_or, slice_index, Some, refl, sym, ap, ap₂, ◌∙◌, subst, arith}
use Rattle.orc_bits.specs.Memory.{IsMapped}
use Rattle.orc_bits.specs.Numbers.{cut}
use Rattle.orc_program.specs.declared.program.VarKind.{VarKind}
use Rattle.orc_program.specs.declared.program.VarKind.TheVariants as kind
use Rattle.orc_program.specs.Kept.{is_function}
use Rattle.orc_program.specs.Program.{FunctionValue, var_at, same_kind, count_of, count_before, places_of}
use Rattle.orc_program.specs.Checks.{patterns_of}
use Rattle.orc_program.specs.Meaning.{State}
use Rattle.orc_program.proofs.Nth.{place_again}
use Rattle.orc_program.proofs.Places.{before_less, length-places_of}
use Rattle.x86_ins.specs.Machine.{Core, Point, Bounded}
use Rattle.x86_ins.specs.Way.{Placed}
use Rattle.sse_acc.specs.Sums.{sum_of}
use Rattle.orc_frame.specs.Layout.{layout_of}
use Rattle.orc_frame.specs.Frame.{acc_size, no_pattern, pattern_at, pattern_byte}
use Rattle.orc_frame.specs.Frame.{number_of as held}
use Rattle.orc_frame.specs.Parts.{InFrame}
use Rattle.orc_frame.specs.Subject.{Call as Arguments}
use Rattle.orc_frame.specs.GoodCall.{GoodCall, lowered}
use Rattle.orc_frame.specs.Function.{subject_of}
use Rattle.orc_frame.proofs.Facts.{Facts, facts}
use Rattle.orc_frame.proofs.Fills.{IsKnown}
use Rattle.orc_region.specs.Code.{last_place, is_resident, resident_register}
use Rattle.orc_region.specs.Elements.{Holds, pattern_resident}
use Rattle.orc_program.specs.Need.{registers}
use Rattle.std.proofs.lemmas.Bool.{ltb-true}
use Rattle.orc_region.proofs.Block.Sums.{resident_yes}
use Rattle.orc_region.proofs.Block.Frames.{Framed}
use Rattle.orc_region.proofs.Block.Elements.{Agrees}
use Rattle.orc_region.proofs.Checked.Direct.{pattern_of, number_of}
use Rattle.orc_region.proofs.Checked.Knows.{width_of}
use Rattle.orc_region.proofs.Checked.Layouts.{patterns_are, params_are, sizes_are}
use Rattle.orc_region.proofs.Checked.Numbered.{nth_is, sum_size, number_is}
use Rattle.orc_region.proofs.Calls.Cells.{Arrays}
use Rattle.orc_region.proofs.Calls.Setting.{numbers, sums_count}

is_sum_kind : (k : VarKind) → same_kind kind.Accumulator k ≡ true → k ≡ kind.Accumulator
is_sum_kind kind.Accumulator h = refl
is_sum_kind kind.Source h = absurd (true≢false (sym h))
is_sum_kind kind.Dest h = absurd (true≢false (sym h))
is_sum_kind kind.Temp h = absurd (true≢false (sym h))
is_sum_kind kind.Param h = absurd (true≢false (sym h))
is_sum_kind kind.Const h = absurd (true≢false (sym h))

-- the size of an accumulator, by the layout
pub size_is : (f : FunctionValue) (g : ℕ) → g < count_of kind.Accumulator f.vars → acc_size (layout_of f) g ≡ width_of f g
size_is f g l = ap (λ ns. slice_index ns g) (sizes_are f) ∙ sum_size f g l

-- emulation's sum of an accumulator is the total of its running sum's lanes, modulo what its bytes hold
pub total_is : (f : FunctionValue) (sums totals : ℕ → ℕ) (running : ℕ → List ℕ) → ((g : ℕ) → g < count_of kind.Accumulator f.vars → cut (8 * width_of f g) (sum_of (width_of f g) (running g)) ≡ cut (8 * width_of f g) (totals g)) → Agrees f sums totals
    → (g : ℕ) → g < count_of kind.Accumulator f.vars → cut (8 * acc_size (layout_of f) g) (sum_of (acc_size (layout_of f) g) (running g)) ≡ sums (slice_index (places_of kind.Accumulator f.vars) g)
total_is f sums totals running are agrees g l =
    let places = places_of kind.Accumulator f.vars in
    let within : g < length places = omega (arith, l, length-places_of kind.Accumulator f.vars) in
    let p = slice_index places g in
    let x = nth_is kind.Accumulator f.vars g within in
    ap (λ w. cut (8 * w) (sum_of w (running g))) (size_is f g l)
    ∙ are g l
    ∙ ap (λ n. cut (8 * width_of f g) (totals n)) (sym x.number)
    ∙ sym (agrees p x.inside (is_sum_kind (var_at f.vars p).kind x.kind))

module _ (f : FunctionValue) (is : is_function f ≡ true) (known : Arrays f) (code : Placed) (s : Point) (args : Arguments) (back : ℕ) (good : GoodCall (subject_of f) code s args back) (at : List ℕ) where
  fact : Facts (layout_of f)
  fact = facts (layout_of f) (f, is, refl)

  -- a byte of a pattern, by the layout and by the function
  pub pattern_same : (j : ℕ) → j < length (patterns_of f.vars f.insns) → (b : ℕ) → pattern_byte (pattern_at (layout_of f) j).way (held (layout_of f).params.items args.param (pattern_at (layout_of f) j).number) b ≡ pattern_byte (pattern_of f j).way ((numbers f is known code s args back good at).number j) b
  pattern_same j l b =
      let here : pattern_at (layout_of f) j ≡ pattern_of f j = ap (λ ps. get_or ps j no_pattern) (patterns_are f) in
      let within : j < length (layout_of f).patterns.items = subst (λ ps. j < length ps) (sym (patterns_are f)) l in
      let known_is = fact.known j within in
      let params = params_are f in
      let number : held (layout_of f).params.items args.param (pattern_at (layout_of f) j).number ≡ (numbers f is known code s args back good at).number j =
      ap₂ (λ ps p. held ps args.param p.number) params here
      ∙ number_is f args.n args.m args.base args.stride args.param (number_of f j)
      (subst (λ p. IsKnown (places_of kind.Param f.vars) (length (places_of kind.Param f.vars)) p.number) here (subst (λ ps. IsKnown ps (length ps) (pattern_at (layout_of f) j).number) params known_is)) in
      ap₂ (λ p n. pattern_byte p.way n b) here number

  -- ---- from the layout

  module _ (e : State) (c : Core) (h : Holds f at s.core args e c) where
    abbrev pub totals_in : ℕ → ℕ
    totals_in g = sum_of (acc_size (layout_of f) g) (h.running g)

    pub framed_in : Framed (numbers f is known code s args back good at) (lowered s.core) c totals_in
    framed_in = record {
      patterns = λ j l b lb. h.patterns j (subst (λ ps. j < length ps) (sym (patterns_are f)) l) b lb ∙ ap Some (pattern_same j l b);
      residents = λ j l r b lb.
          let count = sums_count f in
          let stands : is_resident (last_place at) (pattern_resident f j) ≡ true = ap (λ n. is_resident (last_place at) (n + j)) count ∙ resident_yes (last_place at) (count_of kind.Accumulator f.vars + j) r in
          ap (λ n. get_or (c.xmm (resident_register (n + j))) b 0) (sym count) ∙ h.residents j (subst (λ ps. j < length ps) (sym (patterns_are f)) l) stands b lb ∙ pattern_same j l b;
      running = h.running;
      bytes = h.bytes;
      sums = λ g l b lb. h.sums g (omega (arith, l, sums_count f)) b lb;
      totals_are = λ g l. ap (λ w. cut (8 * width_of f g) (sum_of w (h.running g))) (sym (size_is f g l));
      worked = λ x i. h.mapped x (good.frame x (omega (arith, i.0), i.1));
    }

    pub agrees_in : Agrees f e.sums totals_in
    agrees_in p l k =
        let same : same_kind kind.Accumulator (var_at f.vars p).kind ≡ true = ap (same_kind kind.Accumulator) k in
        let g = count_before kind.Accumulator f.vars p in
        let few : g < count_of kind.Accumulator f.vars = before_less kind.Accumulator f.vars p l same in
        let again : slice_index (places_of kind.Accumulator f.vars) g ≡ p = place_again kind.Accumulator f.vars p l same in
        let width : acc_size (layout_of f) g ≡ (var_at f.vars p).size = size_is f g few ∙ ap (λ q. (var_at f.vars q).size) again in
        ap e.sums (sym again) ∙ sym (h.totals g (omega (arith, few, sums_count f))) ∙ ap (λ w. cut (8 * w) (totals_in g)) width

  -- ---- to the layout

  pub holds_again : (e : State) (c : Core) (totals : ℕ → ℕ) → Framed (numbers f is known code s args back good at) (lowered s.core) c totals → Agrees f e.sums totals
      → c.gpr 4 ≡ lowered s.core → c.gpr 7 ≡ s.core.gpr 7 → ((a : ℕ) → (InFrame (lowered s.core) a → ⊥) → c.memory a ≡ e.memory a) → ((a : ℕ) → IsMapped s.core.memory a → IsMapped c.memory a) → Bounded c → Holds f at s.core args e c
  holds_again e c totals framed agrees stack block agree mapped bounded = record {
    stack = stack;
    block = block;
    agree = agree;
    mapped = mapped;
    patterns = λ j l b lb. let within : j < length (patterns_of f.vars f.insns) = subst (λ ps. j < length ps) (patterns_are f) l in framed.patterns j within b lb ∙ ap Some (sym (pattern_same j within b));
    residents = λ j l y b lb.
        let within : j < length (patterns_of f.vars f.insns) = subst (λ ps. j < length ps) (patterns_are f) l in
        let count = sums_count f in
        let stands = ltb-true (last_place at + (count_of kind.Accumulator f.vars + j) + 1) registers (ap (λ n. is_resident (last_place at) (n + j)) (sym count) ∙ y) in
        ap (λ n. get_or (c.xmm (resident_register (n + j))) b 0) count ∙ framed.residents j within stands b lb ∙ sym (pattern_same j within b);
    running = framed.running;
    bytes = framed.bytes;
    sums = λ g l b lb. framed.sums g (omega (arith, l, sums_count f)) b lb;
    totals = λ g l. total_is f e.sums totals framed.running framed.totals_are agrees g (omega (arith, l, sums_count f));
    bounded = bounded;
  }
