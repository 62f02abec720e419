-- Runners that keep to themselves, and what every schedule does to them.
use Rattle.std.specs.Prelude.{◌≡◌, ◌≢◌, ℕ, ◌+◌, ◌<◌, ◌≤◌, length, Bool, true, Option, Some, None}
use Rattle.orc_bits.specs.Memory.{Memory, IsMapped}
use Rattle.x86_ins.specs.declared.state.Trap.{Trap}
use Rattle.x86_ins.specs.Machine.{Point}
use Rattle.x86_ins.specs.Way.{Each, Returned}
use Rattle.orc_jobs.specs.World.{Stand, Shared, stand_at, Ended, on}

-- a smaller memory has no byte that the larger one doesn't have
abbrev pub Within : Memory → Memory → Type 0
Within small mem = (a v : ℕ) → small a ≡ Some v → mem a ≡ Some v

-- outside the set W the memory at a point is as it was
abbrev pub KeepsBut : (ℕ → Type 0) → Memory → Point → Type 0
KeepsBut W mem t = (a : ℕ) → (W a → ⊥) → t.core.memory a ≡ mem a

-- The run of a runner alone, on a memory of its own: it reaches its stop values within the bound, at `end`, and in no state on the way is a byte outside W changed.
pub record Alone (r : Stand) (own : Memory) (W : ℕ → Type 0) (bound : ℕ) (end : Point) : Type 0 where
  pub count : ℕ
  pub returns : Returned r.code r.stop bound (on own r.point) count end
  pub on_way : Each (λ m. KeepsBut W own m.point) returns.0.way
  pub at_end : KeepsBut W own end

-- For each runner: the common memory cut down to a set F, which is `own`; a part W of F; a bound; and the point at which its run alone on `own` ends. No W shares a byte with another runner's F.
pub record Isolated (w : Shared) (own : ℕ → Memory) (W : ℕ → ℕ → Type 0) (bound : ℕ → ℕ) (end : ℕ → Point) : Type 0 where
  pub within : (k : ℕ) → k < length w.stands → Within (own k) w.memory
  pub part : (k : ℕ) → k < length w.stands → (a : ℕ) → W k a → IsMapped (own k) a
  pub alone : (k : ℕ) → k < length w.stands → Alone (stand_at w k) (own k) (W k) (bound k) (end k)
  pub apart : (j k : ℕ) → j < length w.stands → k < length w.stands → j ≢ k → (a : ℕ) → W j a → IsMapped (own k) a → ⊥

-- What the turns of a schedule then do, from w to v: none traps; each runner takes at most its bound of steps; each that has ended stands as its run alone ends, and has there its bytes of W; and all bytes outside every W are as at the start.
pub record AsAlone (w : Shared) (W : ℕ → ℕ → Type 0) (bound : ℕ → ℕ) (end : ℕ → Point) (trap : Option (ℕ × Trap)) (v : Shared) : Type 0 where
  pub no_trap : trap ≡ None
  pub count : length v.stands ≡ length w.stands
  pub steps : (k : ℕ) → k < length w.stands → (stand_at v k).steps ≤ (stand_at w k).steps + bound k
  pub ends : (k : ℕ) → k < length w.stands → Ended v k → (a : ℕ) → W k a → v.memory a ≡ (end k).core.memory a
  pub others : (a : ℕ) → ((k : ℕ) → k < length w.stands → W k a → ⊥) → v.memory a ≡ w.memory a

-- The turns of a schedule lead from w to v, and `trap` is the first trap among them: runners that keep to themselves end as alone. The sets W are given by tests.
abbrev pub EndsAsAlone : Shared → Option (ℕ × Trap) → Shared → Type 0
EndsAsAlone w trap v = (own : ℕ → Memory) (writes : ℕ → ℕ → Bool) (bound : ℕ → ℕ) (end : ℕ → Point) → Isolated w own (λ k a. writes k a ≡ true) bound end
    → AsAlone w (λ k a. writes k a ≡ true) bound end trap v
