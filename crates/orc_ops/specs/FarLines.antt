-- The table of far loads, line by line: a is the array, whose element k is `a k`, and i the element's number; P is `place` and F is `fraction`.
use Rattle.std.specs.Prelude.{◌≡◌, ℕ, ◌+◌, ◌-◌, ◌*◌, ◌/◌, ◌%◌, ◌^◌, ◌<◌, nat_le, if◌then◌else◌, ℤ, pos, ◌+ℤ◌, bit_and, Some}
use Rattle.std.specs.Int.{int_shr}
use Rattle.orc_bits.specs.Numbers.{wrap}
use Rattle.orc_ops.specs.declared.opcode.Op.{Op}
use Rattle.orc_ops.specs.declared.opcode.Kind.TheVariants as kind
use Rattle.orc_ops.specs.declared.stem.Stem.TheVariants as stem
use Rattle.orc_ops.specs.Table.{row, row_of}
use Rattle.orc_ops.specs.declared.far.Far.{Far}
use Rattle.orc_ops.specs.declared.far.Far.TheVariants.{Loadoffb, Loadoffw, Loadoffl, Loadupdb, Loadupib, Ldresnearb, Ldresnearl, Ldreslinb, Ldreslinl}
use Rattle.orc_ops.specs.Far.{far_of, far_name, far_size, far_scalars, far_value, scalar, place, fraction}

-- a[i + o]
abbrev pub IsOffset : Far → Type 0
IsOffset f = (a : ℤ → ℕ) (i o q : ℕ) → far_value f a i o q ≡ a (pos i +ℤ scalar o)

-- a[P >> 16]
abbrev pub IsNearest : Far → Type 0
IsNearest f = (a : ℤ → ℕ) (i p q : ℕ) → far_value f a i p q ≡ a (int_shr (place i p q) 16)

-- byte j of a number
abbrev pub byte : ℕ → ℕ → ℕ
byte v j = v / 256 ^ j % 256

-- in each byte ((256 - F) * x + F * y) >> 8, with x from a[P >> 16] and y from a[(P >> 16) + 1]
abbrev pub IsLinear : Far → Type 0
IsLinear f = (a : ℤ → ℕ) (i p q : ℕ) → (far_value f a i p q < 256 ^ far_size f) × ((j : ℕ) → j < far_size f → byte (far_value f a i p q) j
    ≡ ((256 - fraction i p q) * byte (a (int_shr (place i p q) 16)) j + fraction i p q * byte (a (int_shr (place i p q) 16 +ℤ pos 1)) j) / 2 ^ 8)

pub record AreLines : Type 0 where
  pub loadoffb : IsOffset Loadoffb
  pub loadoffw : IsOffset Loadoffw
  pub loadoffl : IsOffset Loadoffl
  -- a[i >> 1]
  pub loadupdb : (a : ℤ → ℕ) (i p q : ℕ) → far_value Loadupdb a i p q ≡ a (pos (i / 2))
  -- the same for even i, else (a[i >> 1] + a[(i >> 1) + 1] + 1) >> 1
  pub loadupib_even : (a : ℤ → ℕ) (i p q : ℕ) → i % 2 ≡ 0 → far_value Loadupib a i p q ≡ a (pos (i / 2))
  pub loadupib_odd : (a : ℤ → ℕ) (i p q : ℕ) → i % 2 ≡ 1 → far_value Loadupib a i p q ≡ (a (pos (i / 2)) + a (pos (i / 2 + 1)) + 1) / 2
  pub ldresnearb : IsNearest Ldresnearb
  pub ldresnearl : IsNearest Ldresnearl
  pub ldreslinb : IsLinear Ldreslinb
  pub ldreslinl : IsLinear Ldreslinl
  -- F = (P >> 8) and 255
  pub share : (i p q : ℕ) → fraction i p q ≡ bit_and (wrap 64 (int_shr (place i p q) 8)) 255

-- the bytes of the scalar with this number, counted from 1, and 0 for one that isn't there
abbrev pub scalar_size : Far → ℕ → ℕ
scalar_size far k = if nat_le k (far_scalars far) then 4 else 0

-- the table of opcodes has each far load: its result, its array and its scalars
abbrev pub HaveRows : Type 0
HaveRows = (op : Op) (far : Far) → far_of op ≡ Some far → row op ≡ row_of (far_name far) (far_size far) 0 (far_size far) (scalar_size far 1) (scalar_size far 2) kind.Far 0 stem.Copy
