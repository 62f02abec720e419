-- Memory: a byte at each mapped address, and none elsewhere. Addresses are taken modulo 2 ^ 64, so that one past the last is 0.
use Rattle.std.specs.Prelude.{◌≡◌, ℕ, zero, suc, ◌+◌, ◌*◌, ◌%◌, ◌^◌, ◌==◌, ◌&&◌, Bool, true, if◌then◌else◌, List, [], ◌∷◌, Option, Some, None, is_some}

abbrev pub Memory : Type 0
Memory = ℕ → Option ℕ

abbrev pub IsMapped : Memory → ℕ → Type 0
IsMapped mem a = is_some (mem a) ≡ true

-- goes on with a value, if there is one
abbrev pub bind : {A B : Type 0} → Option A → (A → Option B) → Option B
bind None go = None
bind (Some x) go = go x

-- ---- reads

-- the n bytes from an address on, none where one of them isn't mapped
abbrev pub read : ℕ → Memory → ℕ → Option (List ℕ)
read zero mem a = Some []
read (suc n) mem a = bind (mem (a % 2 ^ 64)) (λ b. bind (read n mem (a + 1)) (λ bs. Some (b ∷ bs)))

-- the number that bytes spell, lowest byte first
abbrev pub number : List ℕ → ℕ
number [] = 0
number (b ∷ bs) = b + 256 * number bs

-- the number in the n bytes from an address on
abbrev pub value : ℕ → Memory → ℕ → Option ℕ
value n mem a = bind (read n mem a) (λ bs. Some (number bs))

-- the word at an address: a number of eight bytes
abbrev pub word : Memory → ℕ → Option ℕ
word mem a = value 8 mem a

-- whether the n bytes from an address on are mapped
abbrev pub all_mapped : ℕ → Memory → ℕ → Bool
all_mapped zero mem a = true
all_mapped (suc n) mem a = is_some (mem (a % 2 ^ 64)) && all_mapped n mem (a + 1)

-- the address of the first of the n bytes from an address on that isn't mapped, where there is one
abbrev pub missing : ℕ → Memory → ℕ → ℕ
missing zero mem a = a % 2 ^ 64
missing (suc n) mem a = if is_some (mem (a % 2 ^ 64)) then missing n mem (a + 1) else a % 2 ^ 64

-- ---- writes

-- the memory whose byte at an address is v
unfoldable pub put : Memory → ℕ → ℕ → Memory
put mem a v = λ x. if x == a then Some v else mem x

-- the memory whose n bytes from an address on are f 0, f 1 and so on
unfoldable pub fill : ℕ → Memory → ℕ → (ℕ → ℕ) → Memory
fill zero mem a f = mem
fill (suc n) mem a f = put (fill n mem a f) ((a + n) % 2 ^ 64) (f n)

-- the same where those bytes are all mapped, and none where one isn't
abbrev pub store : ℕ → Memory → ℕ → (ℕ → ℕ) → Option Memory
store n mem a f = if all_mapped n mem a then Some (fill n mem a f) else None
