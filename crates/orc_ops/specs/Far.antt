-- The far loads: loads from an offset, loads that repeat each element, and loads that resample.
use Rattle.std.specs.Prelude.{ℕ, zero, suc, ◌+◌, ◌-◌, ◌*◌, ◌/◌, ◌%◌, ◌^◌, ◌==◌, ℤ, pos, ◌+ℤ◌, ◌*ℤ◌, if◌then◌else◌, List, codes, Option, Some, None}
use Rattle.std.specs.Int.{int_shr}
use Rattle.orc_bits.specs.Numbers.{cut, signed, wrap}
use Rattle.orc_ops.specs.declared.opcode.Op.{Op}
use Rattle.orc_ops.specs.declared.opcode.Op.TheVariants as op
use Rattle.orc_ops.specs.declared.far.Far.{Far}
use Rattle.orc_ops.specs.declared.far.Far.TheVariants.{Loadoffb, Loadoffw, Loadoffl, Loadupdb, Loadupib, Ldresnearb, Ldresnearl, Ldreslinb, Ldreslinl}

-- the far load that an opcode is, where it is one
abbrev pub far_of : Op → Option Far
far_of op.Loadoffb = Some Loadoffb
far_of op.Loadoffw = Some Loadoffw
far_of op.Loadoffl = Some Loadoffl
far_of op.Loadupdb = Some Loadupdb
far_of op.Loadupib = Some Loadupib
far_of op.Ldresnearb = Some Ldresnearb
far_of op.Ldresnearl = Some Ldresnearl
far_of op.Ldreslinb = Some Ldreslinb
far_of op.Ldreslinl = Some Ldreslinl
far_of _ = None

-- ---- the table's columns

abbrev pub far_name : Far → List ℕ
far_name Loadoffb = codes "loadoffb"
far_name Loadoffw = codes "loadoffw"
far_name Loadoffl = codes "loadoffl"
far_name Loadupdb = codes "loadupdb"
far_name Loadupib = codes "loadupib"
far_name Ldresnearb = codes "ldresnearb"
far_name Ldresnearl = codes "ldresnearl"
far_name Ldreslinb = codes "ldreslinb"
far_name Ldreslinl = codes "ldreslinl"

-- the bytes of the result, which are those of an element of the array
abbrev pub far_size : Far → ℕ
far_size Loadoffw = 2
far_size Loadoffl = 4
far_size Ldresnearl = 4
far_size Ldreslinl = 4
far_size _ = 1

-- how many scalars stand behind the array
abbrev pub far_scalars : Far → ℕ
far_scalars Loadoffb = 1
far_scalars Loadoffw = 1
far_scalars Loadoffl = 1
far_scalars Loadupdb = 0
far_scalars Loadupib = 0
far_scalars _ = 2

-- w: the greatest number of instructions that bring the values for n elements to a register
abbrev pub far_weight : Far → ℕ → ℕ
far_weight Loadoffb n = 16
far_weight Loadoffw n = 16
far_weight Loadoffl n = 16
far_weight Ldreslinb n = 16 + 32 * n
far_weight Ldreslinl n = 16 + 64 * n
far_weight _ n = 16 + 24 * n

-- ---- which elements of the array the element i reads; p and q are the scalars, of which the low 32 bits count, and p is the offset of loadoff

-- o, p or q: a signed 32-bit number
abbrev pub scalar : ℕ → ℤ
scalar p = signed 32 (cut 32 p)

-- P = p + i * q, exactly: a place in the array, in parts of 2 ^ 16
abbrev pub place : ℕ → ℕ → ℕ → ℤ
place i p q = scalar p +ℤ pos i *ℤ scalar q

-- F: bits 8 to 15 of P, that is (P >> 8) and 255
abbrev pub fraction : ℕ → ℕ → ℕ → ℕ
fraction i p q = wrap 8 (int_shr (place i p q) 8)

-- the element that is read, or the lower of two
abbrev pub far_first : Far → ℕ → ℕ → ℕ → ℤ
far_first Loadoffb i p q = pos i +ℤ scalar p
far_first Loadoffw i p q = pos i +ℤ scalar p
far_first Loadoffl i p q = pos i +ℤ scalar p
far_first Loadupdb i p q = pos (i / 2)
far_first Loadupib i p q = pos (i / 2)
far_first _ i p q = int_shr (place i p q) 16

-- and the one behind it, which only some read
abbrev pub far_second : Far → ℕ → ℕ → ℕ → Option ℤ
far_second Loadupib i p q = if i % 2 == 0 then None else Some (pos (i / 2 + 1))
far_second Ldreslinb i p q = Some (int_shr (place i p q) 16 +ℤ pos 1)
far_second Ldreslinl i p q = Some (int_shr (place i p q) 16 +ℤ pos 1)
far_second _ i p q = None

-- the share of the second in parts of 256, where there is one
abbrev pub far_part : Far → ℕ → ℕ → ℕ → ℕ
far_part Ldreslinb i p q = fraction i p q
far_part Ldreslinl i p q = fraction i p q
far_part _ i p q = 0

-- ---- the value

-- ((256 - F) * x + F * y) >> 8
abbrev pub mixed : ℕ → ℕ → ℕ → ℕ
mixed part x y = ((256 - part) * x + part * y) / 2 ^ 8

-- the same in each of the n lowest bytes
abbrev pub mixed_bytes : ℕ → ℕ → ℕ → ℕ → ℕ
mixed_bytes zero part x y = 0
mixed_bytes (suc n) part x y = mixed part (x % 256) (y % 256) + 256 * mixed_bytes n part (x / 256) (y / 256)

-- the value from both elements; one that reads a single element has it as x, and for the even elements of loadupib it is y too
abbrev pub far_blend : Far → ℕ → ℕ → ℕ → ℕ
far_blend Loadupib x y part = (x + y + 1) / 2
far_blend Ldreslinb x y part = mixed_bytes 1 part x y
far_blend Ldreslinl x y part = mixed_bytes 4 part x y
far_blend _ x y part = x

-- the second element where there is one, else the first
abbrev pub other : ℤ → Option ℤ → ℤ
other first None = first
other first (Some second) = second

-- the value for element i of an array, whose element k is `a k`
abbrev pub far_value : Far → (ℤ → ℕ) → ℕ → ℕ → ℕ → ℕ
far_value f a i p q = far_blend f (a (far_first f i p q)) (a (other (far_first f i p q) (far_second f i p q))) (far_part f i p q)
