-- `bus::pieces::Reading::pass_round` meets its contract: what is left of the stretch decides, piece by piece.
use mathlib.Core.Path.{◌≡◌, sym, ◌∙◌, ap}
use mathlib.Core.List.{map}
use Prim.Native.Nat.{ℕ, ◌+◌, ◌≤◌, ◌<◌, ◌-◌}
use native.Mathlib.Omega.{arith}
use borrow.Author.Tests.{eqb-false}
use lib.ListN.{length, get_or, take, drop, length-drop}
use lib.Seq.{drop-drop}
use Rattle.constants.specs.Numbers.{taken}
use Rattle.bus.specs.Places.{column}
use Rattle.bus.specs.Registers.{◌with◌≔◌}
use Rattle.bus.specs.Memory.{address, kept}
use Rattle.bus.specs.Recorded.{read_as, chip_of, replay}
use Rattle.bus.specs.Stretch.{stretch, stretched}
use Rattle.bus.proofs.Access.{opened}
use Rattle.bus.specs.Reads.{column_at}
use Rattle.std.proofs.lemmas.Simd.{get_or-chunk}
use Rattle.bus.proofs.PieceLaws.{read_piece, still_allowed, part_given}
use Rattle.bus.proofs.pieces.Reading.pass_round.Goals as goal

pub piece_size-requires : goal.piece_size-requires
piece_size-requires c = let some = eqb-false _ _ (sym c.is_empty.ensures ∙ c.loop-memory-test.true) in ((opened _ _ c.loop-memory.invariant.3).column, omega (arith, some))

pub overflow_add-to : goal.overflow_add-to
overflow_add-to c = let o = opened _ _ c.loop-memory.invariant.3 in omega (arith, c.address-from.ensures, o.page, o.column, c.split_at.ensures.front_len)

pub slice_bounds-agree-end : goal.slice_bounds-agree-end
slice_bounds-agree-end c = let o = opened _ _ c.loop-memory.invariant.3 in omega (arith, c.address-from.ensures, o.page, o.column, o.enough, c.split_at.ensures.front_len)

pub loop-memory-preserved : goal.loop-memory-preserved
loop-memory-preserved c =
    let loop = c.loop-memory in
    let r = loop.registers in
    let memory = c.args.self.memory.now in
    let bytes = c.args.bytes.now in
    let at = loop.invariant.0 in
    let left : loop.left.now ≡ drop at bytes = loop.invariant.2 in
    let n = c.piece_size.result in
    let piece = c.split_at.result.0.now in
    let long : length piece ≡ n = c.split_at.ensures.front_len in
    let inside : at + n ≤ length bytes = omega (arith, ap length left, length-drop at bytes, loop.invariant.1) in
    let from = c.address-from.result in
    let lies : from ≡ address r.page r.column = c.address-from.ensures in
    let m = from + length piece - from in
    let part : piece ≡ take n (drop at bytes) = c.split_at.ensures.front ∙ ap (λ l. take n l) left in
    let rest : c.split_at.result.1.now ≡ drop (at + n) bytes = c.split_at.ensures.back ∙ ap (λ l. drop n l) left ∙ drop-drop n at bytes in
    let moved : c.with_column-registers.result ≡ (r with column ≔ column_at (r.column + n)) = c.with_column-registers.ensures ∙ ap (λ k. r with column ≔ k) (c.column_after.ensures ∙ ap (λ k. column_at (r.column + k)) long) in
    let agree : (i : ℕ) → i < length piece → kept r.page (get_or memory (address r.page r.column + i) 0) ≡ get_or piece i 0 = λ i h. ap (λ k. kept r.page (get_or memory (k + i) 0)) (sym lies) ∙ ap (λ k. kept r.page k) (sym (get_or-chunk from m memory i 0 (omega (arith, h)))) ∙ c.agree.ensures c.if-agree.true i h in
    let read : stretch replay (map read_as (take n (drop at bytes))) (chip_of r memory) ≡ stretched (chip_of (r with column ≔ column_at (r.column + n)) memory) n taken = ap (λ l. stretch replay (map read_as l) (chip_of r memory)) (sym part) ∙ read_piece piece r memory (omega (arith, long)) loop.invariant.3 loop.invariant.4 loop.invariant.5 (omega (arith, long)) agree ∙ ap (λ k. stretched (chip_of (r with column ≔ column_at (r.column + k)) memory) k taken) long in
    rw moved (
      at + n,
      inside,
      rest,
      still_allowed r (length memory) (r.column + n) loop.invariant.3 (omega arith),
      loop.invariant.4,
      loop.invariant.5,
      loop.invariant.6 ∙ part_given replay read_as bytes at n inside _ _ read,
    )
