-- Places of values: vector registers, and past them spill slots of the frame.
use Rattle.std.proofs.Common.{◌≡◌, ◌≢◌, ℕ, ◌+◌, ◌-◌, ◌<◌, ◌≤◌, ◌==◌, refl, true, false, nat_lt, if◌then◌else◌, get_or, Option, Some, sym, ap, ap₂, ◌∙◌, subst, arith, ⊎_elim}
use Rattle.std.proofs.lemmas.Bool.{cases_lt, lt-ltb, le-ltb}
use Rattle.x86_ins.specs.Machine.{Core}
use Rattle.orc_program.specs.Need.{registers}
use Rattle.orc_frame.specs.Layout.{spill_slot}
use Rattle.orc_region.specs.Code.{Source, FromPlace, FromSlot, Target, ToPlace, ToSlot, place_register, slot_place, from_place, to_place, is_from, is_to}

-- ---- where a value comes from and where it goes

is_register : (p : ℕ) → p < registers → nat_lt p registers ≡ true
is_register p l = lt-ltb p registers l

is_slot : (p : ℕ) → registers ≤ p → nat_lt p registers ≡ false
is_slot p g = le-ltb p registers g

-- what holds of the register or of the spill slot of a place holds of where a value at that place comes from
pub by_source : (S : Source → Type 0) (p : ℕ) → (p < registers → S (FromPlace p)) → ((k : ℕ) → p ≡ slot_place k → S (FromSlot k)) → S (from_place p)
by_source S p register slot = ⊎_elim
    (λ l. subst S (sym (ap (λ b. if b then FromPlace p else FromSlot (p - registers)) (is_register p l))) (register l))
    (λ g. subst S (sym (ap (λ b. if b then FromPlace p else FromSlot (p - registers)) (is_slot p g))) (slot (p - registers) (omega (arith, g))))
    (cases_lt p registers)

-- and of where one goes
pub by_target : (T : Target → Type 0) (p : ℕ) → (p < registers → T (ToPlace p)) → ((k : ℕ) → p ≡ slot_place k → T (ToSlot k)) → T (to_place p)
by_target T p register slot = ⊎_elim
    (λ l. subst T (sym (ap (λ b. if b then ToPlace p else ToSlot (p - registers)) (is_register p l))) (register l))
    (λ g. subst T (sym (ap (λ b. if b then ToPlace p else ToSlot (p - registers)) (is_slot p g))) (slot (p - registers) (omega (arith, g))))
    (cases_lt p registers)

-- a value at a place comes from that place alone, and goes to it alone
pub from_this : (p q : ℕ) → is_from p (from_place q) ≡ (q == p)
from_this p q = by_source (λ s. is_from p s ≡ (q == p)) q (λ l. refl) (λ k e. ap (λ m. m == p) (sym e))

pub to_this : (p q : ℕ) → is_to p (to_place q) ≡ (q == p)
to_this p q = by_target (λ t. is_to p t ≡ (q == p)) q (λ l. refl) (λ k e. ap (λ m. m == p) (sym e))

-- ---- the 16 bytes at a place; RSP is `rsp`

-- byte b: of the place's register, or of its spill slot
abbrev pub held : ℕ → Core → ℕ → ℕ → Option ℕ
held rsp c p b = if nat_lt p registers then Some (get_or (c.xmm (place_register p)) b 0) else c.memory (rsp + spill_slot (p - registers) + b)

pub held_register : (rsp : ℕ) (c : Core) (p b : ℕ) → p < registers → held rsp c p b ≡ Some (get_or (c.xmm (place_register p)) b 0)
held_register rsp c p b l = ap (λ t. if t then Some (get_or (c.xmm (place_register p)) b 0) else c.memory (rsp + spill_slot (p - registers) + b)) (is_register p l)

pub held_slot : (rsp : ℕ) (c : Core) (k b : ℕ) → held rsp c (slot_place k) b ≡ c.memory (rsp + spill_slot k + b)
held_slot rsp c k b =
    ap (λ t. if t then Some (get_or (c.xmm (place_register (slot_place k))) b 0) else c.memory (rsp + spill_slot (slot_place k - registers) + b)) (is_slot (slot_place k) (omega arith))
    ∙ ap (λ j. c.memory (rsp + spill_slot j + b)) (let e : slot_place k - registers ≡ k = omega arith in e)

-- it stays where the register and the slot do
pub held_same : (rsp : ℕ) (c d : Core) (p b : ℕ) → d.xmm (place_register p) ≡ c.xmm (place_register p) → d.memory (rsp + spill_slot (p - registers) + b) ≡ c.memory (rsp + spill_slot (p - registers) + b) → held rsp d p b ≡ held rsp c p b
held_same rsp c d p b x m = ap₂ (λ v o. if nat_lt p registers then Some (get_or v b 0) else o) x m

-- and where another slot alone changes
pub held_beside : (rsp : ℕ) (c d : Core) (p k b : ℕ) → p ≢ slot_place k → d.xmm (place_register p) ≡ c.xmm (place_register p) → ((j : ℕ) → j ≢ k → d.memory (rsp + spill_slot j + b) ≡ c.memory (rsp + spill_slot j + b)) → held rsp d p b ≡ held rsp c p b
held_beside rsp c d p k b ne x m = ⊎_elim
    (λ l. held_register rsp d p b l ∙ ap (λ v. Some (get_or v b 0)) x ∙ sym (held_register rsp c p b l))
    (λ g. held_same rsp c d p b x (m (p - registers) (λ e. ne (omega (arith, e, g)))))
    (cases_lt p registers)

-- where memory stays, and the register if the place has one
pub held_still : (rsp : ℕ) (c d : Core) (p b : ℕ) → (p < registers → d.xmm (place_register p) ≡ c.xmm (place_register p)) → d.memory ≡ c.memory → held rsp d p b ≡ held rsp c p b
held_still rsp c d p b x m = ⊎_elim
    (λ l. held_same rsp c d p b (x l) (ap (λ f. f (rsp + spill_slot (p - registers) + b)) m))
    (λ g. let no = is_slot p g in
    ap (λ t. if t then Some (get_or (d.xmm (place_register p)) b 0) else d.memory (rsp + spill_slot (p - registers) + b)) no
    ∙ ap (λ f. f (rsp + spill_slot (p - registers) + b)) m
    ∙ sym (ap (λ t. if t then Some (get_or (c.xmm (place_register p)) b 0) else c.memory (rsp + spill_slot (p - registers) + b)) no))
    (cases_lt p registers)
