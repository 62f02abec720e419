use Rattle.orc_plan.specs.Places.{PlacedValue}
use Rattle.orc_region.proofs.Built.Turns.{lowered, count_by, ready, turn_of, spelled_of}
use Rattle.orc_region.proofs.turns.turn.Goals as goal

pub turn_list-requires-clause-ready : goal.turn_list-requires-clause-ready
turn_list-requires-clause-ready c =
    let m = c.args.making.now in
    let p : PlacedValue = record { core = m.core.now; places = m.places.now } in
    let f = c.requires.of.0 in
    let are = c.requires.of.1 in
    ready f p.places p.core.sizes p.core.steps (lowered f p m.layout.now are.are are.good) c.args.count (count_by f p m.layout.now are.are c.args.count c.requires.count) m.layout.now are.are.layout

pub invariant_of-result : goal.invariant_of-result
invariant_of-result c =
    let m = c.args.making.now in
    let p : PlacedValue = record { core = m.core.now; places = m.places.now } in
    let f = c.requires.of.0 in
    let are = c.requires.of.1 in
    let x = lowered f p m.layout.now are.are are.good in
    let which = count_by f p m.layout.now are.are c.args.count c.requires.count in
    record {
      spelled = spelled_of f p.places p.core.sizes p.core.steps x c.args.count which m.target c.args.aligned c.args.blocks c.requires.blocks c.in_ok-list.list (turn_of f p.places p.core.sizes p.core.steps x c.args.count which m.layout.now are.are.layout m.target c.args.aligned c.args.blocks c.in_ok-list.list c.in_ok-list.ensures);
    }

pub returns : goal.returns
returns c f are =
    let m = c.args.making.now in
    let p : PlacedValue = record { core = m.core.now; places = m.places.now } in
    turn_of f p.places p.core.sizes p.core.steps (lowered f p m.layout.now are.are are.good) c.args.count (count_by f p m.layout.now are.are c.args.count c.requires.count) m.layout.now are.are.layout m.target c.args.aligned c.args.blocks c.in_ok-list.list c.in_ok-list.ensures
