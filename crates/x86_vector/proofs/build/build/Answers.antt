use Rattle.std.proofs.Common.{◌≡◌, ◌<◌, ◌+◌, ◌*◌, ◌/◌, ◌%◌, ◌^◌, ℕ, List, length, get_or, arith, sym, ap, ◌∙◌}
use Rattle.std.proofs.Math.Nat.{div-lt_iff_lt-mul}
use Rattle.std.proofs.lemmas.Nat.{div-add-mod'}
use Rattle.std.proofs.lemmas.List.FromFn.{fill_by_all}
use Rattle.orc_bits.specs.Lanes.{from_lanes}
use Rattle.x86_vector.specs.Forms.{lane_in}
use Rattle.x86_vector.proofs.build.build.Goals as goal

-- the register whose lanes have these bytes
is_from_lanes : (out : List ℕ) (w n : ℕ) (g : ℕ → ℕ) → length out ≡ 16 → 0 < w → n * w ≡ 16
    → ((q : ℕ) → q < n → (k : ℕ) → k < w → get_or out (q * w + k) 0 ≡ g q / 256 ^ k % 256) → out ≡ from_lanes w g
unfolding from_lanes
is_from_lanes out w n g l some whole h = fill_by_all (λ i. g (i / w) / 256 ^ (i % w) % 256) out 16 0 l each
  where
    each : (i : ℕ) → i < 16 → get_or out i 0 ≡ g (i / w) / 256 ^ (i % w) % 256
    each i m =
        let q : i / w < n = (div-lt_iff_lt-mul some).1 (let b : i < n * w = omega (arith, m, whole) in b) in
        ap (λ j. get_or out j 0) (sym (div-add-mod' i w)) ∙ h (i / w) q (i % w) (omega (arith, some))

pub returns : goal.returns
returns c =
    let e : c.loop-q.q ≡ 16 / c.size-w.result = omega arith in
    is_from_lanes c.loop-q.out c.size-w.result c.loop-q.q (lane_in c.args.f c.args.x.now c.args.y.now) c.loop-q.invariant.0 c.size-w.ensures.some
    (ap (λ n. n * c.size-w.result) e ∙ c.size-w.ensures.whole) c.loop-q.invariant.1
    ∙ ap (λ w. from_lanes w (lane_in c.args.f c.args.x.now c.args.y.now)) (c.size-w.ensures.value ∙ c.width.ensures)
