use Rattle.std.proofs.Common.{drop, nat_eq, length-drop, arith}
use Rattle.std.proofs.lemmas.List.Sums.{common_prefix_len-le}
use Rattle.c_read.proofs.reading.shared.Goals as goal

pub returns-else-n-b : goal.returns-else-n-b
returns-else-n-b c =
    let left = (common_prefix_len-le nat_eq (drop c.bytes.n c.args.a.now) (drop c.bytes.n c.args.b.now)).1 in
    omega (arith, c.bytes.invariant.2, c.if-n-b.false, left, length-drop c.bytes.n c.args.b.now)
