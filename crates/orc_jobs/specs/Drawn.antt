-- Turns of runners that are drawn from a seed.
use Rattle.std.specs.Prelude.{◌≡◌, ℕ, zero, suc, ◌+◌, ◌*◌, ◌/◌, ◌%◌, ◌^◌, ◌<◌, ◌≤◌, ◌==◌, ◌&&◌, Bool, true, None, List, [], ◌∷◌, length, if◌then◌else◌, slice_index}
use Rattle.x86_ins.specs.Machine.{Point}
use Rattle.orc_bits.specs.Memory.{Memory}
use Rattle.orc_jobs.specs.declared.world.Turn.TheVariants as turns
use Rattle.orc_jobs.specs.declared.drawing.Stopped.{Stopped}
use Rattle.orc_jobs.specs.declared.drawing.Stopped.TheVariants as stopped
use Rattle.orc_jobs.specs.World.{Stand, Shared, Takes}
use Rattle.orc_jobs.specs.Alone.{Isolated, AsAlone}

-- ---- the generator: a linear congruential one, whose numbers are the high halves

abbrev pub next_seed : ℕ → ℕ
next_seed x = (x * 6364136223846793005 + 1442695040888963407) % 2 ^ 64

abbrev pub drawn : ℕ → ℕ
drawn x = next_seed x / 2 ^ 32

-- ---- the runners that haven't ended

abbrev pub has_ended : Stand → Bool
has_ended s = s.point.rip == s.stop.rip && s.point.core.gpr 4 == s.stop.rsp

-- their numbers, where the first has number k
abbrev pub left_from : ℕ → List Stand → List ℕ
left_from k [] = []
left_from k (s ∷ ss) = if has_ended s then left_from (k + 1) ss else k ∷ left_from (k + 1) ss

abbrev pub left : Shared → List ℕ
left w = left_from 0 w.stands

-- ---- drawn turns

-- of the c runners that haven't ended, in order, the one with number draw() mod c
pub record IsDrawn (w : Shared) (x k : ℕ) : Type 0 where
  pub some : 0 < length (left w)
  pub is : k ≡ slice_index (left w) (drawn x % length (left w))

-- the drawn turns, each of which is a step: from w and the seed x to v and the seed y
abbrev pub Draws : Shared → ℕ → List ℕ → Shared → ℕ → Type 0
Draws w x [] v y = (v ≡ w) × (y ≡ x)
Draws w x (k ∷ ks) v y = IsDrawn w x k × (u : Shared) × Takes w k turns.Moved u × Draws u (next_seed x) ks v y

-- why no more turns are taken after so many: all runners have ended; else the turns are as many as the budget; else the next one traps, which is not counted
abbrev pub Stops : Shared → ℕ → ℕ → ℕ → Stopped → Type 0
Stops v y budget count stopped.Played = (left v ≡ []) × (count ≤ budget)
Stops v y budget count stopped.Budget = (0 < length (left v)) × (count ≡ budget)
Stops v y budget count (stopped.Trapped k trap) = IsDrawn v y k × Takes v k (turns.Trapped trap) v × (count < budget)

pub record PlaysDrawn (w : Shared) (seed budget : ℕ) (why : Stopped) (count : ℕ) (v : Shared) : Type 0 where
  pub schedule : List ℕ
  pub seed_left : ℕ
  pub draws : Draws w seed schedule v seed_left
  pub counted : length schedule ≡ count
  pub stops : Stops v seed_left budget count why

-- g 0 + g 1 + .. + g (n - 1)
abbrev pub sum_below : ℕ → (ℕ → ℕ) → ℕ
sum_below zero g = 0
sum_below (suc n) g = sum_below n g + g n

-- Runners that keep to themselves, with a budget of as many turns as their bounds together: all end, each as alone.
pub record DrawnAsAlone (w : Shared) (W : ℕ → ℕ → Type 0) (bound : ℕ → ℕ) (end : ℕ → Point) (why : Stopped) (count : ℕ) (v : Shared) : Type 0 where
  pub all_ended : why ≡ stopped.Played
  pub few : count ≤ sum_below (length w.stands) bound
  pub alone : AsAlone w W bound end None v

abbrev pub EndsDrawn : Shared → ℕ → Stopped → ℕ → Shared → Type 0
EndsDrawn w budget why count v = (own : ℕ → Memory) (writes : ℕ → ℕ → Bool) (bound : ℕ → ℕ) (end : ℕ → Point) → Isolated w own (λ k a. writes k a ≡ true) bound end
    → sum_below (length w.stands) bound ≤ budget → DrawnAsAlone w (λ k a. writes k a ≡ true) bound end why count v

-- turns that a seed draws have one end: why no more are taken, how many there were, and the world behind them
abbrev pub OneDrawn : Type 0
OneDrawn = (w : Shared) (seed budget : ℕ) (s t : Stopped) (m n : ℕ) (u v : Shared) → PlaysDrawn w seed budget s m u → PlaysDrawn w seed budget t n v → (s ≡ t) × (m ≡ n) × (u ≡ v)
