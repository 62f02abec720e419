-- What drawn turns of the parts of a job leave mapped.
use Rattle.std.proofs.Common.{◌≡◌, ℕ, ◌+◌, ◌<◌, ◌^◌, List, [], ◌∷◌, length, map, refl, sym, ap, ◌∙◌, subst, arith}
use Rattle.orc_bits.specs.declared.parts.Part.{Part}
use Rattle.orc_bits.specs.Memory.{IsMapped}
use Rattle.orc_bits.specs.Parts.{memory_of}
use Rattle.orc_image.specs.Spelling.{FunctionValue}
use Rattle.orc_frame.specs.Parts.{block_size}
use Rattle.orc_job.specs.declared.job.Job.{Job}
use Rattle.orc_job.specs.Kept.{IsJob}
use Rattle.orc_jobs.specs.declared.world.Turn.TheVariants as turns
use Rattle.orc_jobs.specs.declared.drawing.Stopped.{Stopped}
use Rattle.orc_jobs.specs.declared.world.Runner.{Runner}
use Rattle.orc_jobs.specs.declared.world.World.{World}
use Rattle.orc_jobs.specs.World.{Stand, Shared, stand_at, point_at, stand_of, seen, Takes, HasRoom}
use Rattle.orc_jobs.specs.Drawn.{next_seed, Draws, PlaysDrawn}
use Rattle.orc_jobs.proofs.Draws.{plays_drawn}
use Rattle.x86_ins.proofs.Kept.{way_keeps}
use Rattle.orc_worlds.specs.declared.playing.Played.{Played}
use Rattle.orc_worlds.specs.Mapped.{AreMapped}
use Rattle.orc_worlds.specs.Now.{AreNow}
use Rattle.orc_worlds.specs.Played.{AreTotals, PlayedOut}
use Rattle.orc_worlds.specs.Worlds.{block_of, AreSigned, placed_world}
use Rattle.orc_worlds.proofs.Leaving.{Keeps, all_kept}
use Rattle.orc_worlds.proofs.Started.{stands_count, placed_stand, blocks_mapped, segments_mapped}

-- turns unmap no byte

turn_keeps : (w : Shared) (k : ℕ) (v : Shared) → Takes w k turns.Moved v → Keeps w.memory v.memory
turn_keeps w k v t a h =
    let m = t.1 in
    let kept : IsMapped m.to.core.memory a = way_keeps a (stand_at w k).code (point_at w k) (record { point = point_at w k; ins = m.ins } ∷ []) m.to (refl, m.to, m.step, refl) h in
    subst (λ (x : Shared). IsMapped x.memory a) (sym m.now) kept

draws_keep : (w : Shared) (x : ℕ) (ks : List ℕ) (v : Shared) (y : ℕ) → Draws w x ks v y → Keeps w.memory v.memory
draws_keep w x [] v y d a h = subst (λ (u : Shared). IsMapped u.memory a) (sym d.0) h
draws_keep w x (k ∷ ks) v y d a h = draws_keep d.1 (next_seed x) ks v y d.3 a (turn_keeps w k d.1 d.2 a h)

module _ (f : FunctionValue) (job : Job) (sizes : List ℕ) (workers : ℕ) (w : Shared) (is : w ≡ placed_world f job sizes workers) where
  -- at the start no step is taken
  pub has_room : (budget : ℕ) → budget < 2 ^ 64 → HasRoom w budget
  has_room budget small k l =
      let e = stands_count f workers in
      let inside : k < workers = omega (arith, subst (λ (u : Shared). k < length u.stands) is l, e) in
      let none = ap (λ (s : Stand). s.steps) (ap (λ (u : Shared). stand_at u k) is ∙ placed_stand f job sizes workers k inside) in
      omega (arith, none, small)

  module _ (seed budget : ℕ) (why : Stopped) (count : ℕ) (v : Shared) (p : PlaysDrawn w seed budget why count v) where
    keeps : Keeps w.memory v.memory
    keeps = draws_keep w seed p.schedule v p.seed_left p.draws

    pub runners_count : length v.stands ≡ workers
    runners_count = (plays_drawn w seed budget why count v p).2 ∙ ap (λ (u : Shared). length u.stands) is ∙ stands_count f workers

    pub blocks_kept : (k : ℕ) → k < workers → (i : ℕ) → i < block_size → IsMapped v.memory (block_of k + i)
    blocks_kept k l i lt = keeps (block_of k + i) (subst (λ (u : Shared). IsMapped u.memory (block_of k + i)) (sym is) (blocks_mapped f job sizes workers k l i lt))

    pub segments_kept : IsJob job → AreMapped v.memory job.memory
    segments_kept kept = all_kept w.memory v.memory job.memory keeps (subst (λ (u : Shared). AreMapped u.memory job.memory) (sym is) (segments_mapped f job sizes workers kept))

-- ---- the outcome

steps_seen : (rs : List Runner) → map (λ (r : Runner). r.steps) rs ≡ map (λ (t : Stand). t.steps) (map stand_of rs)
steps_seen [] = refl
steps_seen (r ∷ rs) = ap (λ (l : List ℕ). r.steps ∷ l) (steps_seen rs)

pub played_out : (f : FunctionValue) (job : Job) (sizes : List ℕ) (workers seed : ℕ) (w v : World) (o : Played) (runners : List Runner) (segments : List Part) → AreSigned job.call.arrays.items → seen w ≡ placed_world f job sizes workers
    → PlaysDrawn (seen w) seed job.budget o.why o.turns (seen v) → runners ≡ v.runners.items → o.steps.items ≡ map (λ (r : Runner). r.steps) runners → AreTotals (memory_of v.memory) workers f.accs o.accs.items
    → segments ≡ job.memory → AreNow (memory_of v.memory) segments o.memory → PlayedOut f job sizes workers seed o
played_out f job sizes workers seed w v o runners segments signed is p rs steps sums ms memory = record {
  signed = signed;
  world = seen v;
  plays = subst (λ (u : Shared). PlaysDrawn u seed job.budget o.why o.turns (seen v)) is p;
  steps = steps ∙ ap (map (λ (r : Runner). r.steps)) rs ∙ steps_seen v.runners.items;
  sums = sums;
  memory = subst (λ (l : List Part). AreNow (memory_of v.memory) l o.memory) ms memory;
}
