-- A turn in the program's world.
use Rattle.std.proofs.Common.{◌≡◌, ℕ, ◌+◌, ◌^◌, ◌<◌, List, [], ◌∷◌, length, All, slice_index_or, slice_set, sym, ap, ap₂, ◌∙◌, subst, arith}
use Rattle.std.proofs.lemmas.List.{get_or-map, map-set, length-map}
use Rattle.std.proofs.Math.Seq.{map-set_same}
use Rattle.orc_bits.specs.Memory.{Memory}
use Rattle.x86_ins.specs.declared.ins.Ins.{Ins}
use Rattle.x86_ins.specs.declared.state.State.{State}
use Rattle.x86_ins.specs.declared.state.Trap.{Trap}
use Rattle.x86_ins.specs.Machine.{point_of}
use Rattle.x86_ins.specs.Way.{Step, Stuck, IsOver}
use Rattle.orc_jobs.specs.declared.world.Runner.{Runner}
use Rattle.orc_jobs.specs.World.{Stand, Shared, stand_at, point_at, stand_of, stands_of, no_stand, no_memory, on, Ended, Moves, HasRoom}

-- the world of a memory and a list of runners
abbrev pub shared : Memory → List Runner → Shared
shared mem rs = record { memory = mem; stands = stands_of rs }

module _ (mem : Memory) (rs : List Runner) (k : ℕ) (r : Runner) (inside : k < length rs) (is : r ≡ slice_index_or rs k r) where
  stands_so : stand_at (shared mem rs) k ≡ stand_of r
  stands_so = get_or-map stand_of rs k r no_stand inside ∙ ap stand_of (sym is)

  pub is_ended : IsOver (stand_of r).stop (stand_of r).point → Ended (shared mem rs) k
  is_ended h = subst (λ s. IsOver s.stop (on mem s.point)) (sym stands_so) h

  pub not_ended : (IsOver (stand_of r).stop (stand_of r).point → ⊥) → Ended (shared mem rs) k → ⊥
  not_ended h e = h (subst (λ s. IsOver s.stop (on mem s.point)) stands_so e)

  code_so : (bytes : List ℕ) → bytes ≡ r.code → record { bytes = bytes; start = r.code_at } ≡ (stand_at (shared mem rs) k).code
  code_so bytes e = ap (λ b. record { bytes = b; start = r.code_at }) e ∙ ap (λ (s : Stand). s.code) (sym stands_so)

  pub is_stuck : (bytes : List ℕ) (trap : Trap) → bytes ≡ r.code → Stuck (record { bytes = bytes; start = r.code_at }) (point_of r.state mem) trap → Stuck (stand_at (shared mem rs) k).code (point_at (shared mem rs) k) trap
  is_stuck bytes trap e h = subst (λ s. Stuck (stand_at (shared mem rs) k).code (on mem s.point) trap) (sym stands_so) (subst (λ c. Stuck c (point_of r.state mem) trap) (code_so bytes e) h)

  module _ (mem2 : Memory) (state : State) (r2 : Runner) where
    pub moves : (bytes : List ℕ) (i : Ins) → bytes ≡ r.code → Step (record { bytes = bytes; start = r.code_at }) (point_of r.state mem) i (point_of state mem2)
        → stand_of r2 ≡ record (stand_of r) { point = point_of state no_memory; steps = r.steps + 1 } → Moves (shared mem rs) k (shared mem2 (slice_set rs k r2))
    moves bytes i e h q = record {
      ins = i;
      to = point_of state mem2;
      step = subst (λ s. Step (stand_at (shared mem rs) k).code (on mem s.point) i (point_of state mem2)) (sym stands_so) (subst (λ c. Step c (point_of r.state mem) i (point_of state mem2)) (code_so bytes e) h);
      now = ap (λ l. record { memory = mem2; stands = l }) (map-set stand_of rs k r2 ∙ ap (slice_set (stands_of rs) k) (q ∙ ap (λ (s : Stand). record s { point = point_of state no_memory; steps = s.steps + 1 }) (sym stands_so)));
    }

    pub unmoved : point_of state mem2 ≡ point_of r.state mem → stand_of r2 ≡ record (stand_of r) { point = point_of state no_memory } → shared mem2 (slice_set rs k r2) ≡ shared mem rs
    unmoved e q =
        let bare : point_of state no_memory ≡ point_of r.state no_memory = ap (λ p. on no_memory p) e in
        let same : stand_of r2 ≡ stand_of (slice_index_or rs k r) = q ∙ ap (λ p. record (stand_of r) { point = p }) bare ∙ ap stand_of is in
        ap₂ (λ m l. record { memory = m; stands = l }) (ap (λ p. p.core.memory) e) (map-set_same stand_of rs k r2 r same)

-- room for so many turns, runner by runner
pub room_of : (mem : Memory) (rs : List Runner) (turns : ℕ) → All (λ r. r.steps + turns < 2 ^ 64) rs → HasRoom (shared mem rs) turns
room_of mem [] turns all k l = absurd (omega (arith, l))
room_of mem (r ∷ rs) turns all k l =
    let inside : k < length (r ∷ rs) = subst (λ n. k < n) (length-map (r ∷ rs) stand_of) l in
    let one = all k r inside in
    let same = ap (λ (s : Stand). s.steps) (get_or-map stand_of (r ∷ rs) k r no_stand inside) in
    omega (arith, one, same)
