-- So many adjacent bytes between memory and a vector register.
use Rattle.std.specs.Prelude.{◌≡◌, ℕ, zero, suc, ◌+◌, ◌*◌, ◌⊎◌, ◌==◌, if◌then◌else◌, pos, Bool, false, List, [], ◌∷◌, ◌++◌}
use Rattle.x86_ins.specs.declared.ins.Addr.{Addr}
use Rattle.x86_ins.specs.declared.ins.MoveOp.TheVariants.{Movdqa, Movdqu, Movq, Movd}
use Rattle.x86_ins.specs.declared.ins.Ins.{Ins}
use Rattle.x86_ins.specs.declared.ins.Ins.TheVariants.{VecLoad, VecStore, FromGpr, ToGpr, Load, Store, Load8, Load16, Store8, Store16}

-- the address that a register holds
abbrev pub here : ℕ → Addr
here r = record { base = r; disp = pos 0 }

-- the bytes that a move can take
abbrev pub IsWidth : ℕ → Type 0
IsWidth width = (width ≡ 1) ⊎ ((width ≡ 2) ⊎ ((width ≡ 4) ⊎ ((width ≡ 8) ⊎ (width ≡ 16))))

-- so far from the address in a register
abbrev pub away : ℕ → ℕ → Addr
away r d = record { base = r; disp = pos d }

-- so many bytes, so far from the address in general register r, become the low bytes of vector register x, and the rest of x is cleared; 1 and 2 bytes go through RAX
abbrev pub load_far_code : ℕ → ℕ → ℕ → ℕ → List Ins
load_far_code width x r d =
    if width == 1 then Load8 0 (away r d) ∷ FromGpr false x 0 ∷ []
    else if width == 2 then Load16 0 (away r d) ∷ FromGpr false x 0 ∷ []
    else if width == 4 then VecLoad Movd x (away r d) ∷ []
    else if width == 8 then VecLoad Movq x (away r d) ∷ []
    else VecLoad Movdqu x (away r d) ∷ []

-- and the low bytes of x are stored there
abbrev pub store_far_code : ℕ → ℕ → ℕ → ℕ → List Ins
store_far_code width x r d =
    if width == 1 then ToGpr false 0 x ∷ Store8 0 (away r d) ∷ []
    else if width == 2 then ToGpr false 0 x ∷ Store16 0 (away r d) ∷ []
    else if width == 4 then VecStore Movd x (away r d) ∷ []
    else if width == 8 then VecStore Movq x (away r d) ∷ []
    else VecStore Movdqu x (away r d) ∷ []

-- all of x is stored there, which has to be at a multiple of 16
abbrev pub aligned_store_far_code : ℕ → ℕ → ℕ → List Ins
aligned_store_far_code x r d = VecStore Movdqa x (away r d) ∷ []

-- in the one way or the other
abbrev pub store_either_code : Bool → ℕ → ℕ → ℕ → ℕ → List Ins
store_either_code aligned width x r d = if aligned then aligned_store_far_code x r d else store_far_code width x r d

-- the same from the address itself on
abbrev pub load_code : ℕ → ℕ → ℕ → List Ins
load_code width x r = load_far_code width x r 0

abbrev pub store_code : ℕ → ℕ → ℕ → List Ins
store_code width x r = store_far_code width x r 0

abbrev pub aligned_store_code : ℕ → ℕ → List Ins
aligned_store_code x r = aligned_store_far_code x r 0

-- ---- so many words

-- registers are stored to adjacent words, so far from the address in register r on
abbrev pub stores_code : ℕ → ℕ → (ℕ → ℕ) → ℕ → List Ins
stores_code r first reg zero = []
stores_code r first reg (suc n) = stores_code r first reg n ++ Store (reg n) (away r (first + 8 * n)) ∷ []

-- registers are loaded from words, each so far from the address in register r
abbrev pub loads_code : ℕ → (ℕ → ℕ) → (ℕ → ℕ) → ℕ → List Ins
loads_code r far reg zero = []
loads_code r far reg (suc n) = loads_code r far reg n ++ Load (reg n) (away r (far n)) ∷ []
