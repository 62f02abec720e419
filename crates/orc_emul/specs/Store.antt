-- A store is a list of parts that share no address, none of which ends above 2 ^ 64.
use Rattle.std.specs.Prelude.{◌≡◌, ◌+◌, ◌^◌, Bool, true, nat_le, List}
use Rattle.std.specs.List.{list_all}
use Rattle.orc_bits.specs.Parts.{Span}

abbrev pub is_low : Span → Bool
is_low s = nat_le (s.at + s.count) (2 ^ 64)

-- none ends above 2 ^ 64
abbrev pub AreLow : List Span → Type 0
AreLow ss = list_all is_low ss ≡ true
