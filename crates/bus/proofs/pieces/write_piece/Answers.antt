-- `bus::pieces::write_piece` meets its contract: the piece put in its place is its bytes stored one by one.
use mathlib.Core.Path.{◌≡◌, sym, ◌∙◌, ap}
use mathlib.Core.List.{map}
use Prim.Native.Nat.{◌+◌, ◌-◌}
use native.Mathlib.Omega.{arith}
use borrow.Rule.Slice.PartMut.{put_mid}
use lib.ListN.{length, length-map}
use lib.Seq.{sets}
use Rattle.constants.specs.Numbers.{taken}
use Rattle.bus.specs.Places.{column, fresh}
use Rattle.bus.specs.Registers.{◌with◌≔◌}
use Rattle.bus.specs.Memory.{address, kept}
use Rattle.bus.specs.Events.{access}
use Rattle.bus.specs.Recorded.{chip_of}
use Rattle.bus.specs.Stretch.{stretched}
use Rattle.bus.proofs.Access.{opened}
use Rattle.bus.specs.Reads.{column_at}
use Rattle.bus.proofs.PieceLaws.{written_piece, put_in_place, still_written}
use Rattle.bus.proofs.pieces.write_piece.Goals as goal

pub slice_bounds-put-end : goal.slice_bounds-put-end
slice_bounds-put-end c = let o = opened _ _ c.requires.0 in omega (arith, o.page, o.enough, c.address-from.ensures)

pub returns : goal.returns
returns c =
    let r = c.args.registers in
    let memory = c.args.memory.now in
    let bytes = c.args.bytes.now in
    let o = opened r (length memory) c.requires.0 in
    let from = c.address-from.result in
    let size = from + length bytes - from in
    let values = map (kept r.page) bytes in
    let long : length values ≡ length bytes = length-map bytes (kept r.page) in
    let left : c.with_fresh.result ≡ (r with column ≔ column_at (r.column + length bytes) with fresh ≔ 1) = c.with_fresh.ensures ∙ ap (λ x. x with fresh ≔ 1) (c.with_column.ensures ∙ ap (λ k. r with column ≔ k) c.column_after.ensures) in
    let where-it-lies : from ≡ address r.page r.column = c.address-from.ensures in
    let put : put_mid from size memory c.put.new.places ≡ sets memory (address r.page r.column) values = ap (λ l. put_mid from size memory l) c.put.ensures ∙ put_in_place memory values from size (omega arith) (omega (arith, o.page, o.enough)) ∙ ap (λ k. sets memory k values) where-it-lies in (
      ap (λ x. access x (length memory)) left ∙ still_written r (length memory) (r.column + length bytes) c.requires.0 c.requires.2,
      written_piece bytes r memory c.requires.1 c.requires.0 c.requires.2 ∙ sym (ap (λ x. stretched (chip_of x (put_mid from size memory c.put.new.places)) (length bytes) taken) left ∙ ap (λ l. stretched (chip_of (r with column ≔ column_at (r.column + length bytes) with fresh ≔ 1) l) (length bytes) taken) put),
    )
