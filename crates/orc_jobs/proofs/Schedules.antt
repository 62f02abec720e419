-- Turns one after the other.
use Rattle.std.proofs.Common.{◌≡◌, ◌≢◌, ℕ, ◌+◌, ◌^◌, ◌<◌, ◌≤◌, List, [], ◌∷◌, ◌++◌, length, length-append, Option, None, refl, sym, ap, ◌∙◌, subst, arith, ⊎_elim}
use Rattle.std.proofs.lemmas.Bool.{cases_eq}
use Rattle.std.proofs.lemmas.List.{get_or-set_same, get_or-set_other, length-set}
use Rattle.x86_ins.specs.declared.state.Trap.{Trap}
use Rattle.x86_ins.specs.Machine.{Point}
use Rattle.orc_jobs.specs.declared.world.Turn.{Turn}
use Rattle.orc_jobs.specs.declared.world.Turn.TheVariants as turns
use Rattle.orc_jobs.specs.World.{Stand, Shared, stand_at, no_stand, no_memory, on, moved_to, Takes, Plays, first_trap, later_trap, HasRoom}

-- ---- one turn

pub moved_same : (w : Shared) (k : ℕ) (t : Point) → k < length w.stands → stand_at (moved_to w k t) k ≡ record (stand_at w k) { point = on no_memory t; steps = (stand_at w k).steps + 1 }
moved_same w k t l = get_or-set_same w.stands k (record (stand_at w k) { point = on no_memory t; steps = (stand_at w k).steps + 1 }) no_stand l

pub moved_other : (w : Shared) (k j : ℕ) (t : Point) → j ≢ k → stand_at (moved_to w k t) j ≡ stand_at w j
moved_other w k j t ne = get_or-set_other w.stands k j (record (stand_at w k) { point = on no_memory t; steps = (stand_at w k).steps + 1 }) no_stand ne

pub moved_count : (w : Shared) (k : ℕ) (t : Point) → length (moved_to w k t).stands ≡ length w.stands
moved_count w k t = length-set w.stands k (record (stand_at w k) { point = on no_memory t; steps = (stand_at w k).steps + 1 })

-- a turn keeps the runners' number, and raises steps by at most one
pub record Small (w v : Shared) : Type 0 where
  pub count : length v.stands ≡ length w.stands
  pub steps : (j : ℕ) → (stand_at v j).steps ≤ (stand_at w j).steps + 1

still : (w v : Shared) → v ≡ w → Small w v
still w v e = record { count = ap (λ u. length u.stands) e; steps = λ j. let s = ap (λ u. (stand_at u j).steps) e in omega (arith, s) }

moved_small : (w : Shared) (k : ℕ) (t : Point) → k < length w.stands → Small w (moved_to w k t)
moved_small w k t l = record { count = moved_count w k t; steps = steps }
  where
    steps : (j : ℕ) → (stand_at (moved_to w k t) j).steps ≤ (stand_at w j).steps + 1
    steps j = ⊎_elim
        (λ e. subst (λ i. (stand_at (moved_to w k t) i).steps ≤ (stand_at w i).steps + 1) (sym e) (let s = ap (λ (x : Stand). x.steps) (moved_same w k t l) in omega (arith, s)))
        (λ ne. let s = ap (λ (x : Stand). x.steps) (moved_other w k j t ne) in omega (arith, s))
        (cases_eq j k)

pub turn_small : (w : Shared) (k : ℕ) (t : Turn) (v : Shared) → k < length w.stands → Takes w k t v → Small w v
turn_small w k turns.Ended v l h = still w v h.1
turn_small w k turns.Moved v l h = subst (Small w) (sym h.1.now) (moved_small w k h.1.to l)
turn_small w k (turns.Trapped trap) v l h = still w v h.2

-- ---- one turn more

trap_more : (k : ℕ) (s : Turn) (first : Option (ℕ × Trap)) (j : ℕ) (t : Turn) → later_trap (first_trap k s first) j t ≡ first_trap k s (later_trap first j t)
trap_more k turns.Ended first j t = refl
trap_more k turns.Moved first j t = refl
trap_more k (turns.Trapped trap) first j t = refl

plays_more : (w : Shared) (ks : List ℕ) (first : Option (ℕ × Trap)) (v : Shared) (k : ℕ) (t : Turn) (u : Shared) → Plays w ks first v → Takes v k t u → Plays w (ks ++ k ∷ []) (later_trap first k t) u
plays_more w [] first v k t u p h = (t, u, None, subst (λ x. Takes x k t u) p.0 h, (refl, refl), ap (λ f. later_trap f k t) p.1)
plays_more w (j ∷ ks) first v k t u p h =
    (p.0, p.1, later_trap p.2 k t, p.3, plays_more p.1 ks p.2 v k t u p.4 h, ap (λ f. later_trap f k t) p.5 ∙ trap_more j p.0 p.2 k t)

pub record Played (w v : Shared) (done : List ℕ) (first : Option (ℕ × Trap)) : Type 0 where
  pub plays : Plays w done first v
  pub count : length v.stands ≡ length w.stands
  pub steps : (k : ℕ) → (stand_at v k).steps ≤ (stand_at w k).steps + length done

pub played_none : (w : Shared) → Played w w [] None
played_none w = record { plays = (refl, refl); count = refl; steps = λ k. omega arith }

pub played_more : (w v : Shared) (done : List ℕ) (first : Option (ℕ × Trap)) (k : ℕ) (t : Turn) (u : Shared) → Played w v done first → k < length w.stands → Takes v k t u → Played w u (done ++ k ∷ []) (later_trap first k t)
played_more w v done first k t u p l h =
    let small = turn_small v k t u (let c = p.count in omega (arith, c, l)) h in
    record {
      plays = plays_more w done first v k t u p.plays h;
      count = small.count ∙ p.count;
      steps = λ j. let a = small.steps j in let b = p.steps j in let n = length-append done (k ∷ []) in omega (arith, a, b, n);
    }

-- room for a turn that a schedule has
pub turn_room : (w v : Shared) (done : List ℕ) (first : Option (ℕ × Trap)) (n k : ℕ) → Played w v done first → HasRoom w n → k < length w.stands → length done < n → (stand_at v k).steps + 1 < 2 ^ 64
turn_room w v done first n k p room l d = let a = p.steps k in let b = room k l in omega (arith, a, b, d)
