-- What the turns of a function's code are made of.
use Rattle.orc_program.specs.Program.{FunctionValue}
use Rattle.orc_plan.specs.Places.{GoodPlaces}
use Rattle.orc_region.specs.declared.turns.Making.{Making}
use Rattle.orc_region.specs.Elements.{AreOf}

-- it is of this function, with good places of values
pub record AreFor (f : FunctionValue) (m : Making) : Type 0 where
  pub are : AreOf f (record { core = m.core.now; places = m.places.now }) m.layout.now
  pub good : GoodPlaces m.core.now.steps m.places.now
