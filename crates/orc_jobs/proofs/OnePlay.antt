-- Turns have one outcome.
use Rattle.std.proofs.Common.{◌≡◌, ℕ, [], ◌∷◌, refl, sym, ap, ap₂, ◌∙◌, subst}
use Rattle.x86_decode.proofs.Unique.{one_decoding}
use Rattle.x86_flow.proofs.Unique.{step_one}
use Rattle.x86_flow.proofs.Ends.{not_stuck}
use Rattle.x86_machine.proofs.OneEnd.{stuck_one}
use Rattle.orc_jobs.specs.declared.world.Turn.{Turn}
use Rattle.orc_jobs.specs.declared.world.Turn.TheVariants as turns
use Rattle.orc_jobs.specs.World.{Shared, stand_at, point_at, moved_to, Takes, Plays, first_trap, OnePlay}

pub one_turn : (w : Shared) (k : ℕ) (s t : Turn) (u v : Shared) → Takes w k s u → Takes w k t v → (s ≡ t) × (u ≡ v)
one_turn w k turns.Ended turns.Ended u v a b = (refl, a.1 ∙ sym b.1)
one_turn w k turns.Ended turns.Moved u v a b = absurd (b.0 a.0)
one_turn w k turns.Ended (turns.Trapped y) u v a b = absurd (b.0 a.0)
one_turn w k turns.Moved turns.Ended u v a b = absurd (a.0 b.0)
one_turn w k turns.Moved turns.Moved u v a b =
    let same = step_one one_decoding (stand_at w k).code (point_at w k) a.1.to b.1.to a.1.ins b.1.ins a.1.step b.1.step in
    (refl, a.1.now ∙ ap (moved_to w k) same.1 ∙ sym b.1.now)
one_turn w k turns.Moved (turns.Trapped y) u v a b = absurd (not_stuck one_decoding (stand_at w k).code (point_at w k) a.1.to a.1.ins y a.1.step b.1)
one_turn w k (turns.Trapped x) turns.Ended u v a b = absurd (a.0 b.0)
one_turn w k (turns.Trapped x) turns.Moved u v a b = absurd (not_stuck one_decoding (stand_at w k).code (point_at w k) b.1.to b.1.ins x b.1.step a.1)
one_turn w k (turns.Trapped x) (turns.Trapped y) u v a b = (ap turns.Trapped (stuck_one (stand_at w k).code (point_at w k) x y a.1 b.1), a.2 ∙ sym b.2)

pub one_play : OnePlay
one_play w [] s t u v a b = (a.1 ∙ sym b.1, a.0 ∙ sym b.0)
one_play w (k ∷ ks) s t u v a b =
    let first = one_turn w k a.0 b.0 a.1 b.1 a.3 b.3 in
    let rest = one_play a.1 ks a.2 b.2 u v a.4 (subst (λ x. Plays x ks b.2 v) (sym first.1) b.4) in
    (a.5 ∙ ap₂ (first_trap k) first.0 rest.0 ∙ sym b.5, rest.1)
