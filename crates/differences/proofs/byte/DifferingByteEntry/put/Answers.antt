-- `differences::byte::DifferingByteEntry::put` meets its contract: the differing bytes from here on are put from here on.
use mathlib.Core.Path.{◌≡◌, sym, ◌∙◌}
use native.Mathlib.Omega.{arith}
use Rattle.constants.specs.Sizes.{width}
use Rattle.differences.specs.Bytes.{held}
use Rattle.differences.proofs.PutEntries.{begin, turn, done, rest_length, room_for_one}
use Rattle.differences.proofs.AlongPage.{bytes_on, bytes_here, bytes_end}
use Rattle.differences.proofs.byte.DifferingByteEntry.put.Goals as goal
use Rattle.differences.proofs.byte.DifferingByteEntry.put.Goals.{then-was-is, else-was-is}

pub put_at-requires : goal.put_at-requires
put_at-requires c =
    let a = c.args in
    let x = c.loop-column.column in
    let differs : held a.row a.first.now x ≡ held a.row a.second.now x → ⊥ = λ same. c.if-was-is.true (c.kept-was.ensures ∙ same ∙ sym c.kept-is.ensures) in
    (room_for_one _ _ _ (rw (bytes_here width a.row a.first.now a.second.now x (omega arith) differs) at c.loop-column.invariant) c.requires)

pub loop-column-preserved : goal.loop-column-preserved
loop-column-preserved c =
    let a = c.args in
    let x = c.loop-column.column in
    elim c.if-was-is.branch [
      | then-was-is w ↦
          let differs : held a.row a.first.now x ≡ held a.row a.second.now x → ⊥ = λ same. w.if-was-is.true (c.kept-was.ensures ∙ same ∙ sym c.kept-is.ensures) in
          rw (w.list-is, w.next-is) (turn _ _ _ (rw (bytes_here width a.row a.first.now a.second.now x (omega arith) differs) at c.loop-column.invariant) (w.put_at.ensures ∙ rw (c.kept-was.ensures, c.kept-is.ensures, c.from-start.ensures)))
      | else-was-is w ↦
          let same : held a.row a.first.now x ≡ held a.row a.second.now x = sym c.kept-was.ensures ∙ w.if-was-is.false ∙ c.kept-is.ensures in
          rw (w.list-is, w.next-is) (rw (bytes_on width a.row a.first.now a.second.now x (omega arith) same) at c.loop-column.invariant)
    ]

pub returns : goal.returns
returns c =
    let a = c.args in
    done _ _ _ (rw (bytes_end width a.row a.first.now a.second.now c.loop-column.column (omega arith)) at c.loop-column.invariant)
