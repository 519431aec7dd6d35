-- A record's events are a stretch, and so a record of each kind ends as its stretch on the bus does.
-- Assumes nothing.
use mathlib.Core.Path.{◌≡◌, refl, sym, ◌∙◌, ap}
use mathlib.Core.Bool.{cond}
use mathlib.Core.List.{List, [], ◌∷◌, map}
use Prim.Native.Nat.{ℕ, ◌+◌, ◌-◌, ◌≤◌}
use native.Mathlib.Nat.{add-zero}
use native.Mathlib.Omega.{arith}
use borrow.Author.Tests.{ne_eqb}
use lib.Dec.{eqb}
use lib.ListN.{length, take, drop, length-drop, length-map}
use lib.Seq.{slice, drop_at, take-add, length-take-le}
use Rattle.std.specs.Prelude.{Ok, Err}
use Rattle.constants.specs.Numbers.{taken}
use Rattle.constants.specs.Refusals.{Met, number_met}
use Rattle.constants.proofs.Refusals.{refusal_not_taken}
use Rattle.bus.specs.Chip.{Chip}
use Rattle.bus.specs.Stretch.{stretched, counted_on, stretch, stretch_of}
use Rattle.bus.specs.Stretch.{Stretch}
use Rattle.bus.proofs.StretchLaws.{stretches, the_chip_never_zero}
use Rattle.trace.specs.Play.{Result, refuses, gives, on_result, Machine, stopped, done, play_events}
use Rattle.trace.specs.Kinds.{Recorded, recorded_command, recorded_write, read_as, replay, chip_of, the_chip}
use Rattle.trace.specs.Code.{recorded_in, halted, ended_at, ending_on, ending_of}
use Rattle.trace.specs.declared.kind.Kind.{Kind}
use Rattle.trace.specs.RecordsAreStretches.{ending_at, RecordsAreStretches}

module _ {S E : Type 0} (machine : Machine S E) where
  pub are_stretches : RecordsAreStretches machine
  unfolding play_events stretch
  are_stretches never [] offset s = refl
  are_stretches never (first ∷ rest) offset s = by (machine.step first s) refl (are_stretches never rest (offset + 1))
    where
      by : (result : Result S) → machine.step first s ≡ result → ((t : S) → play_events machine rest (offset + 1) t ≡ ending_at (offset + 1) (stretch machine.step rest t))
          → on_result result (λ number. stopped number offset s) (λ t. play_events machine rest (offset + 1) t) ≡ ending_at offset (on_result result (λ number. stretched s 0 number) (λ t. counted_on 1 (stretch machine.step rest t)))
      by (refuses number) e later = rw (ne_eqb number taken (never first s number e), add-zero)
      by (gives t) e later =
          let r = stretch machine.step rest t in
          let on : offset + (1 + r.count) ≡ offset + 1 + r.count = omega arith in
          rw on (later t)

-- what the code meets at an offset, as the end of a record
ending_met : (met : Met) (at : ℕ) (c : Chip) → ending_on (halted at met) c ≡ cond (eqb (number_met met) taken) (done c) (stopped (number_met met) at c)
unfolding ending_on
ending_met (Ok all) at c = refl
ending_met (Err refusal) at c = rw (refusal_not_taken refusal)

-- the code's stretch of a record's events ends as the record does
pub ends : (events : List Recorded) (c : Chip) (s : Stretch) (memory : List ℕ) → stretch_of s memory ≡ stretch replay events c → (offset : ℕ) → ending_of (ended_at (offset + s.count) s) memory ≡ play_events the_chip events offset c
ends events c s memory h offset =
    ending_met s.outcome (offset + s.count) (chip_of s.registers memory) ∙ ap (λ r. ending_at offset r) h ∙ sym (are_stretches the_chip the_chip_never_zero events offset c)

-- and takes no more events than there are
pub takes : (events : List Recorded) (c : Chip) (s : Stretch) (memory : List ℕ) → stretch_of s memory ≡ stretch replay events c → s.count ≤ length events
takes events c s memory h = omega (arith, ap (λ r. r.count) h, (stretches replay).within events c)

-- the part of a trace from one offset to another
pub part_slice : (trace : List ℕ) (from to : ℕ) → from ≤ to → to ≤ length trace → take (to - from) (drop from trace) ≡ slice from to trace
part_slice trace from to order fits =
    let whole : from + (to - from) ≡ to = omega arith in
    sym (drop_at (take from trace) (take (to - from) (drop from trace)) from (length-take-le from trace (omega arith))) ∙ ap (drop from) (sym (take-add from (to - from) trace) ∙ rw whole)

-- the code's stretch of the bytes from one offset of a trace to another
module _ (means : ℕ → Recorded) (trace : List ℕ) (from to : ℕ) (order : from ≤ to) (fits : to ≤ length trace) (c : Chip) (s : Stretch) (memory : List ℕ) (h : stretch_of s memory ≡ stretch replay (map means (take (to - from) (drop from trace))) c) where
  -- it does not go past its end
  pub reaches : from + s.count ≤ to
  reaches =
      let part = take (to - from) (drop from trace) in
      let size : length part ≡ to - from = length-take-le (to - from) (drop from trace) (omega (arith, length-drop from trace)) in
      omega (arith, takes (map means part) c s memory h, length-map part means, size)

  pub ends_there : ending_of (ended_at (from + s.count) s) memory ≡ play_events the_chip (map means (slice from to trace)) from c
  ends_there = rw (sym (part_slice trace from to order fits)) (ends _ c s memory h from)

-- a payload stands for no more events than it has bytes, but for the pulse on the reset pin
pub few_events : (kind : Kind) (payload : List ℕ) → length (recorded_in kind payload) ≤ length payload + 1
unfolding recorded_in
few_events Kind.Commands payload = omega (arith, length-map payload recorded_command)
few_events Kind.Writes payload = omega (arith, length-map payload recorded_write)
few_events Kind.Reads payload = omega (arith, length-map payload read_as)
few_events Kind.Reset payload = omega arith

-- so with the payload of a record of a kind, the reset pin's too
module _ (kind : Kind) (trace : List ℕ) (from to : ℕ) (order : from ≤ to) (fits : to ≤ length trace) (c : Chip) (s : Stretch) (memory : List ℕ) (h : stretch_of s memory ≡ stretch replay (recorded_in kind (take (to - from) (drop from trace))) c) where
  -- it does not go far past its end
  pub kind_reaches : from + s.count ≤ to + 1
  kind_reaches =
      let part = take (to - from) (drop from trace) in
      let size : length part ≡ to - from = length-take-le (to - from) (drop from trace) (omega (arith, length-drop from trace)) in
      omega (arith, takes (recorded_in kind part) c s memory h, few_events kind part, size)

  pub kind_ends_there : ending_of (ended_at (from + s.count) s) memory ≡ play_events the_chip (recorded_in kind (slice from to trace)) from c
  kind_ends_there = rw (sym (part_slice trace from to order fits)) (ends _ c s memory h from)
