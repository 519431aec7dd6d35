-- `bus::pieces::write_round` meets its contract: what is left of the stretch decides, piece by piece.
use mathlib.Core.Path.{◌≡◌, sym, ◌∙◌, ap}
use mathlib.Core.List.{map}
use Prim.Native.Nat.{◌+◌, ◌≤◌}
use native.Mathlib.Omega.{arith}
use borrow.Author.Tests.{eqb-true, eqb-false}
use lib.ListN.{length, take, drop, length-drop}
use lib.Seq.{drop-drop}
use Rattle.std.proofs.Common.{rules}
use Rattle.std.proofs.lemmas.List.{places}
use Rattle.constants.specs.Numbers.{taken}
use Rattle.bus.specs.Events.{access}
use Rattle.bus.specs.Recorded.{recorded_write, chip_of, replay}
use Rattle.bus.specs.Stretch.{stretch, stretched}
use Rattle.bus.proofs.Access.{opened}
use Rattle.bus.proofs.StretchLaws.{stretch_from, none_left}
use Rattle.bus.proofs.PieceLaws.{part_given}
use Rattle.bus.proofs.pieces.write_round.Goals as goal

pub piece_size-requires : goal.piece_size-requires
piece_size-requires c = let some = eqb-false _ _ (sym c.is_empty.ensures ∙ c.loop-left-test.true) in ((opened _ _ c.loop-left.invariant.4).column, omega (arith, some))

pub loop-left-preserved : goal.loop-left-preserved
loop-left-preserved c =
    let loop = c.loop-left in
    let bytes = c.args.bytes.now in
    let at = loop.invariant.0 in
    let left : loop.left.now ≡ drop at bytes = loop.invariant.2 in
    let n = c.piece_size.result in
    let w = c.write_piece-registers in
    let same : length w.new.memory ≡ length loop.memory = w.auto.memory in
    let inside : at + n ≤ length bytes = omega (arith, ap length left, length-drop at bytes, loop.invariant.1) in
    let piece : c.split_at.result.0.now ≡ take n (drop at bytes) = c.split_at.ensures.front ∙ ap (λ l. take n l) left in
    let rest : c.split_at.result.1.now ≡ drop (at + n) bytes = c.split_at.ensures.back ∙ ap (λ l. drop n l) left ∙ drop-drop n at bytes in
    let written : stretch replay (map recorded_write (take n (drop at bytes))) (chip_of loop.registers loop.memory) ≡ stretched (chip_of w.result w.new.memory) n taken = ap (λ l. stretch replay (map recorded_write l) (chip_of loop.registers loop.memory)) (sym piece) ∙ w.ensures.1 ∙ ap (λ k. stretched (chip_of w.result w.new.memory) k taken) c.split_at.ensures.front_len in (
      at + n,
      inside,
      search (rules, places) ∙ rest,
      same ∙ loop.invariant.3,
      ap (λ k. access w.result k) same ∙ w.ensures.0,
      loop.invariant.5 ∙ part_given replay recorded_write bytes at n inside _ _ written,
    )

pub returns : goal.returns
returns c =
    let loop = c.loop-left in
    let bytes = c.args.bytes.now in
    let at = loop.invariant.0 in
    let none = eqb-true _ _ (sym c.is_empty.ensures ∙ c.loop-left-test.false) in
    let all : at ≡ length bytes = omega (arith, none, ap length loop.invariant.2, length-drop at bytes, loop.invariant.1) in
    loop.invariant.5 ∙ ap (λ k. stretch_from replay recorded_write bytes k (chip_of loop.registers loop.memory)) all ∙ none_left replay recorded_write bytes _
