-- `bus::pieces::pass` meets its contract: what is passed over comes first.
use mathlib.Core.Path.{◌≡◌, sym, ◌∙◌, ap, subst}
use native.Mathlib.Omega.{arith}
use lib.ListN.{length, drop, length-drop}
use Rattle.constants.specs.Numbers.{taken}
use Rattle.bus.specs.Places.{fresh}
use Rattle.bus.specs.Registers.{◌with◌≔◌}
use Rattle.bus.specs.Events.{access}
use Rattle.bus.specs.Recorded.{chip_of}
use Rattle.bus.specs.Reads.{PassedOver, reads_from, after_dummy}
use Rattle.bus.proofs.PieceLaws.{dummy_first, further, part_to_the_end, still_ready, dummy_once, not_fresh}
use Rattle.bus.proofs.pieces.pass.Goals as goal

pub slice_bounds-pass-count : goal.slice_bounds-pass-count
slice_bounds-pass-count c = omega (arith, c.dummy_reads-dummies.ensures, dummy_once c.args.registers.fresh)

pub slice_bounds-pass-start : goal.slice_bounds-pass-start
slice_bounds-pass-start c = omega (arith, c.dummy_reads-dummies.ensures, dummy_once c.args.registers.fresh)

pub invariant_of-reading : goal.invariant_of-reading
invariant_of-reading c =
    let r = c.args.registers in
    let allowed : access r (length c.args.memory.now) ≡ taken = sym c.in-Ok.ensures in
    let left : c.with_fresh-ready.result ≡ (r with fresh ≔ after_dummy r.fresh) = c.with_fresh-ready.ensures ∙ ap (λ k. r with fresh ≔ k) c.after_dummy.ensures in
    rw left (record { allowed = still_ready r (length c.args.memory.now) (after_dummy r.fresh) allowed; no_dummy = not_fresh r.fresh })

pub returns : goal.returns
returns c =
    let r = c.args.registers in
    let memory = c.args.memory.now in
    let bytes = c.args.bytes.now in
    let d = c.dummy_reads-dummies.result in
    let passed = c.pass-passed in
    let part = part_to_the_end bytes d (omega (arith, c.dummy_reads-dummies.ensures, dummy_once r.fresh)) in
    let first : PassedOver passed.result c.with_fresh-ready.result memory (drop d bytes) = subst (λ l. PassedOver passed.result c.with_fresh-ready.result memory l) part passed.ensures in
    let allowed : access r (length memory) ≡ taken = sym c.in-Ok.ensures in
    let left : c.with_fresh-ready.result ≡ (r with fresh ≔ after_dummy r.fresh) = c.with_fresh-ready.ensures ∙ ap (λ k. r with fresh ≔ k) c.after_dummy.ensures in (
      omega (arith, first.0, length-drop d bytes, c.dummy_reads-dummies.ensures, dummy_once r.fresh),
      dummy_first bytes r memory allowed (omega arith) ∙ ap (λ k. reads_from k bytes (chip_of (r with fresh ≔ after_dummy r.fresh) memory)) (sym c.dummy_reads-dummies.ensures) ∙ ap (λ x. reads_from d bytes (chip_of x memory)) (sym left) ∙ further bytes d passed.result.count _ _ first.1,
    )
