-- `bus::start::clear` meets its contract: the first 1188 bytes are filled with 0.
use mathlib.Core.Path.{◌≡◌, refl}
use native.Mathlib.Omega.{arith}
use lib.ListN.{length, take, length-take}
use Rattle.bus.proofs.start.clear.Goals as goal

pub returns : goal.returns
returns c =
    let l : length (take 1188 c.args.memory.now) ≡ 1188 = omega (arith, length-take 1188 c.args.memory.now) in
    rw (c.fill.ensures.after (λ y e. e), l) refl
