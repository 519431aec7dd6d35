-- `bus::registers::Registers::within` meets its contract: the tests are the definition's, registers side by side as one number; and column, byte of A9, awaited code and saved column, which no test asks, are bytes.
use mathlib.Core.Path.{refl}
use mathlib.Core.Bool.{and_assoc, and-true}
use native.Mathlib.Omega.{arith}
use borrow.Author.Tests.{le-leb}
use borrow.Author.Rules.{rules}
use Rattle.bus.specs.Registers.{largest_values}
use Rattle.bus.specs.Image.{within}
use Rattle.bus.proofs.Ranges.{four_as_one, two_as_one, eight_as_one}
use Rattle.bus.proofs.registers.Registers.within.Goals as goal

pub returns : goal.returns
unfolding within largest_values
returns c =
    let r = c.args.self in
    let four = four_as_one r.offset r.multiplex r.contrast r.ratio _ (search rules) c.from_le_bytes-four.ensures in
    let two = two_as_one r.power r.bias _ (search rules) c.from_le_bytes-two.ensures in
    let eight = eight_as_one r.phases r.column_direction r.row_direction r.entire r.reverse r.on r.indicator r.mode _ (search rules) c.from_le_bytes-eight.ensures in
    rw (four, two, eight) (simp (and_assoc, and-true, le-leb r.column 255 (omega arith), le-leb r.held 255 (omega arith), le-leb r.awaited 255 (omega arith), le-leb r.saved 255 (omega arith)) refl)
