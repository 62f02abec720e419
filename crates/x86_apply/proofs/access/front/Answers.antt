use Rattle.std.proofs.Common.{◌≡◌, ap, ◌∙◌, arith, nat_lt, if◌then◌else◌, get_or}
use Rattle.x86_apply.proofs.Accesses.{is_from_bytes}
use Rattle.x86_apply.proofs.access.front.Goals as goal

pub returns : goal.returns
returns c =
    let e : c.loop-k.k ≡ c.args.n = omega arith in
    is_from_bytes c.loop-k.out _ c.loop-k.invariant.0 (λ j l. c.loop-k.invariant.1 j l ∙ ap (λ n. if nat_lt j n then get_or c.args.bytes.now j 0 else 0) e)
