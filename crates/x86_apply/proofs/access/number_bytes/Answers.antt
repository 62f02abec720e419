use Rattle.std.proofs.Common.{arith, ◌≡◌, ap, ◌∙◌}
use Rattle.orc_bits.specs.Lanes.{byte_of}
use Rattle.x86_apply.proofs.Accesses.{is_from_bytes}
use Rattle.x86_apply.proofs.access.number_bytes.Goals as goal

pub returns : goal.returns
returns c =
    let e : c.loop-k.k ≡ c.args.n = omega arith in
    is_from_bytes c.loop-k.out _ c.loop-k.invariant.0 (λ j l. c.loop-k.invariant.1 j l ∙ ap (λ n. byte_of n c.args.v j) e)
