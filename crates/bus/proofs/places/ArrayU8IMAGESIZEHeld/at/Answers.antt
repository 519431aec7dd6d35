-- `at` of an image meets its contract: each register stands at its place.
use Rattle.bus.proofs.places.ArrayU8IMAGESIZEHeld.at.Goals as goal
use Rattle.bus.proofs.ThereAndBack.{at_place}

pub returns : goal.returns
returns c = at_place c.args.self.now c.args.place
