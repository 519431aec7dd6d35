-- What stands at an offset of a trace, as far as a limit, played for one chip.
-- Assumes nothing.
use mathlib.Core.Path.{◌≡◌, sym, ◌∙◌, ap}
use mathlib.Core.Bool.{cond}
use mathlib.Core.List.{List}
use Prim.Native.Nat.{ℕ, ◌+◌, ◌-◌, ◌≤◌}
use native.Mathlib.Omega.{arith}
use borrow.Author.Tests.{leb-true, leb-false}
use lib.Dec.{leb}
use lib.ListN.{length, take, drop, length-take, length-drop}
use lib.Seq.{length-take-le, take_all, take-take}
use Rattle.codes.proofs.Tests.{chosen}
use Rattle.std.specs.Prelude.{Ok, Err}
use Rattle.constants.specs.Refusals.{number_of_refusal}
use Rattle.constants.specs.declared.refusal.Refusal.{Refusal}
use Rattle.constants.proofs.Refusals.{refusal_not_taken}
use Rattle.constants.specs.Sizes.{header_size}
use Rattle.bus.specs.Chip.{Chip}
use Rattle.bus.specs.Stretch.{stretch, stretch_of}
use Rattle.bus.specs.declared.registers.Registers.{Registers}
use Rattle.bus.specs.Stretch.{Stretch}
use Rattle.trace.specs.Play.{stopped, done, gives, play_record}
use Rattle.trace.specs.Kinds.{events_of, replay, chip_of}
use Rattle.trace.specs.Code.{recorded_in}
use Rattle.trace.specs.RecordsAreStretches.{ending_at}
use Rattle.trace.specs.declared.kind.Kind.{Kind}
use Rattle.trace.specs.Records.{Record, record_at}
use Rattle.trace.specs.Front.{front_of}
use Rattle.trace.specs.declared.records.Header.{Header}
use Rattle.trace.specs.declared.records.Front.{Front}
use Rattle.trace.proofs.WhatStands.{within_trace, the_record}
use Rattle.trace.proofs.RecordsAreStretches.{part_slice}
use Rattle.widebus.specs.declared.selection.Selection.{Selection}
use Rattle.widebus.specs.declared.selection.Side.{Side}
use Rattle.widetrace.specs.Sides.{OneSide, one_side, the_side, shortened, size_before}
use Rattle.widetrace.specs.Heeding.{Heed, heed_of, with_selection, heeded}
use Rattle.widetrace.proofs.Heeding.{plays_as_heeded, ends_as_obeyed}

-- the first bytes of some
sized : (n k : ℕ) (l : List ℕ) → take n (take k l) ≡ take (cond (leb k n) k n) l
sized n k l = chosen (λ (m : ℕ). take n (take k l) ≡ take m l) (leb k n) k n (λ e. take_all n (take k l) (omega (arith, leb-true k n e, length-take k l))) (λ e. take-take n k l (omega (arith, leb-false k n e)))

module _ (trace : List ℕ) (at : ℕ) (header : Header) (h : front_of (drop at trace) ≡ Front.Whole header) (limit : ℕ) where
  abbrev pub from : ℕ
  from = at + header_size

  abbrev pub size : ℕ
  size = size_before limit from header.length

  -- the bytes before the limit
  abbrev pub part : List ℕ
  part = take size (drop from trace)

  pub size_within : from + size ≤ length trace
  unfolding size_before
  size_within = chosen (λ (n : ℕ). from + n ≤ length trace) (leb header.length (limit - from)) _ _ (λ e. within_trace trace at header h) (λ e. omega (arith, within_trace trace at header h, leb-false header.length (limit - from) e))

  its_record : shortened limit (record_at at (drop at trace)) ≡ record { kind = header.kind; payload = part; place = at }
  unfolding size_before
  its_record =
      let to = from + header.length in
      let same : to - from ≡ header.length = omega arith in
      ap (λ (r : Record). shortened limit r) (the_record trace at header h)
      ∙ ap (λ (bytes : List ℕ). record { kind = header.kind; payload = take (limit - from) bytes; place = at }) (sym (part_slice trace from to (omega arith) (within_trace trace at header h)) ∙ rw same)
      ∙ ap (λ (bytes : List ℕ). record { kind = header.kind; payload = bytes; place = at }) (sized (limit - from) header.length (drop from trace))

  part_length : length part ≡ size
  part_length = length-take-le size (drop from trace) (omega (arith, length-drop from trace, size_within))

  -- the same part, by the size that the code found
  same_part : {found : ℕ} → found ≡ size → take (from + found - from) (drop from trace) ≡ part
  same_part {found} e =
      let all : from + found - from ≡ found = omega arith in
      rw (all, e)

  pub fits : {found : ℕ} → found ≡ size → from + found ≤ length trace
  fits e = rw e size_within

  pub part_fits : {found : ℕ} → found ≡ size → from + length (take (from + found - from) (drop from trace)) ≤ length trace
  part_fits e = rw (same_part e, part_length) size_within

  module _ {found : ℕ} (e : found ≡ size) (side : Side) (selection : Selection) where
    -- the bytes that the code finds there
    abbrev bytes : List ℕ
    bytes = take (from + found - from) (drop from trace)

    abbrev pub heeding : Heed
    heeding = heed_of side selection header.kind at bytes

    its_play : (t : OneSide) → play_record (the_side side) (shortened limit (record_at at (drop at trace))) t ≡ play_record (the_side side) (record { kind = header.kind; payload = bytes; place = at }) t
    its_play t = ap (λ (r : Record). play_record (the_side side) r t) its_record ∙ rw (same_part e)

    as_heeded : {heed : Heed} → heed ≡ heeding → (chip : Chip) → play_record (the_side side) (shortened limit (record_at at (drop at trace))) (one_side chip selection) ≡ heeded heed (record { kind = header.kind; payload = bytes; place = at }) chip selection
    as_heeded g chip = its_play (one_side chip selection) ∙ plays_as_heeded side selection header.kind at bytes chip ∙ rw g

    module _ {heed : Heed} (g : heed ≡ heeding) where
      pub passes : {next : Selection} → heed ≡ Heed.Passes next → (chip : Chip) → play_record (the_side side) (shortened limit (record_at at (drop at trace))) (one_side chip selection) ≡ done (one_side chip next)
      unfolding heeded
      passes {next} p chip = as_heeded (sym p ∙ g) chip

      pub refuses_it : {number offset : ℕ} → heed ≡ Heed.Refused number offset → (chip : Chip) → play_record (the_side side) (shortened limit (record_at at (drop at trace))) (one_side chip selection) ≡ stopped number offset (one_side chip selection)
      unfolding heeded
      refuses_it p chip = as_heeded (sym p ∙ g) chip

      module _ (o : heed ≡ Heed.Obeys) (named : Kind) (b : events_of header.kind bytes ≡ gives (recorded_in named bytes)) (r : Registers) (m : List ℕ) (s : Stretch) (later : List ℕ) (ends : stretch_of s later ≡ stretch replay (recorded_in named bytes) (chip_of r m)) where
        as_obeyed : play_record (the_side side) (shortened limit (record_at at (drop at trace))) (one_side (chip_of r m) selection) ≡ with_selection selection (ending_at from (stretch_of s later))
        as_obeyed = its_play (one_side (chip_of r m) selection) ∙ ends_as_obeyed side selection header.kind at bytes (sym g ∙ o) b r m s later ends

        pub obeys_all : s.outcome ≡ Ok tt → play_record (the_side side) (shortened limit (record_at at (drop at trace))) (one_side (chip_of r m) selection) ≡ done (one_side (chip_of s.registers later) selection)
        obeys_all met = as_obeyed ∙ rw met

        pub obeys_some : {refusal : Refusal} → s.outcome ≡ Err refusal → play_record (the_side side) (shortened limit (record_at at (drop at trace))) (one_side (chip_of r m) selection) ≡ stopped (number_of_refusal refusal) (from + s.count) (one_side (chip_of s.registers later) selection)
        obeys_some {refusal} met = as_obeyed ∙ rw (met, refusal_not_taken refusal)
