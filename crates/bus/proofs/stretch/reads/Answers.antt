-- `bus::stretch::reads` meets its contract: what is passed over, and the rest one by one.
use mathlib.Core.Path.{ap}
use mathlib.Core.List.{map}
use Prim.Native.Nat.{◌-◌}
use native.Mathlib.Omega.{arith}
use lib.ListN.{length, take, drop, length-map}
use Rattle.bus.specs.Recorded.{read_as, chip_of, replay}
use Rattle.bus.proofs.SideBySide.{length_part}
use Rattle.bus.proofs.StretchLaws.{stretches}
use Rattle.bus.proofs.stretch.reads.Goals as goal

pub overflow_add-all : goal.overflow_add-all
overflow_add-all c =
    let a = c.args in
    let bytes = a.bytes.now in
    let passed = c.pass-passed.result in
    let part = take (length bytes - passed.count) (drop passed.count bytes) in
    let s = chip_of passed.registers a.memory.now in
    omega (arith, ap (λ x. x.count) c.reads_singly-rest.ensures, (stretches replay).within (map read_as part) s, length-map part read_as, length_part bytes passed.count (length bytes - passed.count) (omega arith))
