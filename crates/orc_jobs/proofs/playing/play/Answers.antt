use Rattle.std.proofs.Common.{◌≡◌, ◌+◌, ◌∷◌, [], ◌++◌, ◌∙◌, ap, subst, sym, get_or, take, add-one}
use Rattle.std.proofs.Math.Seq.{take-suc}
use Rattle.std.proofs.lemmas.List.{take_all}
use Rattle.orc_jobs.specs.World.{seen, Plays}
use Rattle.orc_jobs.proofs.Isolation.{as_alone}
use Rattle.orc_jobs.proofs.Schedules.{Played, played_more}
use Rattle.orc_jobs.proofs.playing.play.Goals as goal

pub loop-k-preserved : goal.loop-k-preserved
loop-k-preserved c =
    let ks = c.args.schedule.now in
    let i = c.loop-k.k-index in
    let k = get_or ks i 0 in
    let w = seen c.args.w.now in
    let u = seen c.turn-turned.new.w in
    let more : take (i + 1) ks ≡ take i ks ++ k ∷ [] = ap (λ n. take n ks) (add-one i) ∙ take-suc ks i 0 c.loop-k-test.true in
    let next = played_more w (seen c.loop-k.w) (take i ks) c.loop-k.first k c.turn-turned.result u c.loop-k.invariant (c.requires.inside i 0 c.loop-k-test.true) c.turn-turned.ensures in
    subst (λ l. Played w u l c.first_of-first.result) (sym more) (subst (Played w u (take i ks ++ k ∷ [])) (sym c.first_of-first.ensures) next)

pub returns-clause-alone : goal.returns-clause-alone
returns-clause-alone c own writes bound end iso =
    let ks = c.args.schedule.now in
    let w = seen c.args.w.now in
    let v = seen c.loop-k.w in
    let plays : Plays w ks c.loop-k.first v = subst (λ l. Plays w l c.loop-k.first v) (take_all c.loop-k.k-index ks c.loop-k-test.false) c.loop-k.invariant.plays in
    as_alone w own _ bound end iso ks c.loop-k.first v c.requires.inside plays
