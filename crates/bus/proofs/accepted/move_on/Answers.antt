-- `bus::accepted::move_on` meets its contract: column and fresh are stored, and the other registers are the image's.
use mathlib.Core.Path.{sym, ◌∙◌, ap}
use Rattle.bus.specs.Places as places
use Rattle.bus.specs.Registers.{◌with◌≔◌}
use Rattle.bus.specs.declared.registers.Registers.{Registers}
use Rattle.bus.proofs.First.{holds}
use Rattle.bus.proofs.accepted.move_on.Goals as goal

pub returns : goal.returns
returns c =
    let left = c.args.left in
    holds c.args.image.now _ c.told-image c.put-2.array_long left (c.put-2.ensures.registers ∙ ap (λ (r : Registers). r with places.fresh ≔ left.fresh) c.put.ensures.registers ∙ sym c.requires)
