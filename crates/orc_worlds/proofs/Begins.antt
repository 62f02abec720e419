-- Where parts begin, and their cells' addresses.
use Rattle.std.proofs.Common.{◌≡◌, ℕ, ◌+◌, ◌%◌, ◌^◌, ◌<◌, ◌≤◌, arith}
use Rattle.orc_parts.specs.Even.{begin_of}
use Rattle.orc_parts.proofs.EvenCuts.{rises, last}

pub begins_within : (count workers k : ℕ) → 0 < workers → k ≤ workers → begin_of count workers k ≤ count
begins_within count workers k some l = let a = rises count workers some k workers l in let b = last count workers some in omega (arith, a, b)

pub rises_by_one : (count workers k : ℕ) → 0 < workers → begin_of count workers k ≤ begin_of count workers (k + 1)
rises_by_one count workers k some = rises count workers some k (k + 1) (omega arith)

pub wrapped_twice : (base rows elements : ℕ) → ((base + rows % 2 ^ 64) % 2 ^ 64 + elements) % 2 ^ 64 ≡ (base + rows + elements) % 2 ^ 64
wrapped_twice base rows elements = omega arith
