-- `bus::pieces::Reading::pass_again` meets its contract: the one byte is read again and again.
use mathlib.Core.Path.{sym, ◌∙◌, ap}
use native.Mathlib.Omega.{arith}
use lib.ListN.{get_or}
use Rattle.bus.specs.Memory.{kept}
use Rattle.bus.specs.Recorded.{read_as, replay}
use Rattle.bus.proofs.Access.{opened, address_inside}
use Rattle.bus.proofs.StretchLaws.{none_left}
use Rattle.bus.proofs.PieceLaws.{again_read}
use Rattle.bus.proofs.pieces.Reading.pass_again.Goals as goal

pub bounds-self-at : goal.bounds-self-at
bounds-self-at c = let e = c.args.self.allowed in omega (arith, c.address-at.ensures, address_inside _ _ e, (opened _ _ e).enough)

pub returns-then-repeats : goal.returns-then-repeats
returns-then-repeats c =
    let s = c.args.self in
    let bytes = c.args.bytes.now in
    let byte = c.kept-byte.ensures ∙ ap (λ k. kept s.registers.page (get_or s.memory.now k 0)) c.address-at.ensures in
    (omega arith, again_read bytes s.registers s.memory.now s.allowed s.no_dummy c.requires (λ i h. sym byte ∙ c.repeats.ensures c.if-repeats.true i h) ∙ sym (none_left replay read_as bytes _))
