-- Exact integers and their bits at a width of w bits, in two's complement.
use Rattle.std.specs.Prelude.{ℕ, ◌-◌, ◌%◌, ◌^◌, cond, nat_lt, ℤ, pos, negsuc, ◌-ℤ◌, int_lt}

-- U(v, w): the low w bits of v
abbrev pub cut : ℕ → ℕ → ℕ
cut w v = v % 2 ^ w

-- S(v, w): the signed reading of a number v below 2 ^ w, which is less by 2 ^ w from 2 ^ (w - 1) on
abbrev pub signed : ℕ → ℕ → ℤ
signed w v = cond (nat_lt v (2 ^ (w - 1))) (pos v) (pos v -ℤ pos (2 ^ w))

-- the low w bits of an integer: z modulo 2 ^ w. As `negsuc n` is -1 - n, its bits are those of n turned over.
abbrev pub wrap : ℕ → ℤ → ℕ
wrap w (pos n) = n % 2 ^ w
wrap w (negsuc n) = 2 ^ w - 1 - n % 2 ^ w

-- ClampS: the nearest integer from -2 ^ (w - 1) to 2 ^ (w - 1) - 1, modulo 2 ^ w
abbrev pub clamp_s : ℕ → ℤ → ℕ
clamp_s w z =
    cond (int_lt z (pos 0 -ℤ pos (2 ^ (w - 1)))) (2 ^ (w - 1))
    (cond (int_lt (pos (2 ^ (w - 1) - 1)) z) (2 ^ (w - 1) - 1) (wrap w z))

-- ClampU: the nearest integer from 0 to 2 ^ w - 1
abbrev pub clamp_u : ℕ → ℤ → ℕ
clamp_u w z =
    cond (int_lt z (pos 0)) 0
    (cond (int_lt (pos (2 ^ w - 1)) z) (2 ^ w - 1) (wrap w z))
