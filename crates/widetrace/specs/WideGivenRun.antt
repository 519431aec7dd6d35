-- Document 02, Order 4, "Refusals": when a run of the wide terminal gives 13, 14 and, in its new reading, 9, and what goes before them; the chips' own numbers are in WideEventGiven. proofs/WideGivenRun.antt proves `WideGivenRun` and `WideHeaders`.
use Rattle.std.specs.Prelude.{ℕ, ◌+◌, ◌≤◌, ◌≡◌, ◌≢◌, ◌⊎◌, ◌↔◌, true, List, [], ◌∷◌, length, take, drop}
use Rattle.constants.specs.Numbers.{taken, too_short, out_of_range, header_cut, kind_unknown, no_selection, both_selected}
use Rattle.codes.specs.OneOf.{one_of}
use Rattle.constants.specs.Sizes.{header_size}
use Rattle.bus.specs.Stretch.{stretch}
use Rattle.trace.specs.Records.{kind_of, payload_of, whole, CutShort, split}
use Rattle.trace.specs.OneByOne.{script_from}
use Rattle.trace.specs.Play.{refuses, gives}
use Rattle.trace.specs.Run.{stop_of}
use Rattle.trace.specs.Given.{run_numbers}
use Rattle.widebus.specs.Pair.{Pair, Lent}
use Rattle.widebus.specs.OneAndTwo.{EitherShort, BothLong, EitherOutside}
use Rattle.widebus.specs.declared.selection.Selection.{Selection}
use Rattle.widetrace.specs.Terminal.{wide_events_of, wide_step, the_terminal}
use Rattle.widetrace.specs.WideRun.{WideRan, wide_ran, wide_run}
use Rattle.widetrace.specs.WideRunLaws.{BothAccepted, terminal_in, selected_after}
use Rattle.widetrace.specs.EachChip.{unplaced}

-- A payload is one byte of 1 to 3.
abbrev pub OneOfThree : List ℕ → Type 0
OneOfThree [] = ⊥
OneOfThree (byte ∷ []) = (1 ≤ byte) × (byte ≤ 3)
OneOfThree (byte ∷ more ∷ rest) = ⊥

-- The kind is not 1 to 5, or 4 with a payload.
pub data WideUnknown (kind size : ℕ) : Type 0 where
  no_kind : kind ≢ 1 → kind ≢ 2 → kind ≢ 3 → kind ≢ 4 → kind ≢ 5 → WideUnknown kind size
  loaded : kind ≡ 4 → size ≢ 0 → WideUnknown kind size

-- A select record whose payload is not one byte of 1 to 3.
pub record NoSelection (kind : ℕ) (payload : List ℕ) : Type 0 where
  pub selects : kind ≡ 5
  pub other : OneOfThree payload → ⊥

-- A record of a kind that is unknown so.
abbrev pub UnknownRecord : ℕ → List ℕ → Type 0
UnknownRecord kind payload = WideUnknown kind (length payload)

-- A header should stand at an offset: the bytes before it run, and all are taken.
abbrev pub WideHeaderAt : Pair Lent → List ℕ → ℕ → Type 0
WideHeaderAt all trace offset = (wide_run all (take offset trace)).stop.number ≡ taken

-- A run gives a number at an offset.
abbrev pub WideGivesAt : WideRan → ℕ → ℕ → Type 0
WideGivesAt outcome number offset = (outcome.stop.number ≡ number) × (outcome.stop.offset ≡ offset)

-- A run that stops with a number at an offset, and leaves the count and all that is lent as another left them.
abbrev pub wide_stopped_after : ℕ → ℕ → WideRan → WideRan
wide_stopped_after number offset before = wide_ran (stop_of number offset before.stop.count) before.lent

-- A whole record stands at an offset, and its kind and payload are so. 8 goes before it.
pub record WholeRecord (Kind : ℕ → List ℕ → Type 0) (all : Pair Lent) (trace : List ℕ) (offset : ℕ) : Type 0 where
  pub header : WideHeaderAt all trace offset
  pub complete : whole (drop offset trace) ≡ true
  pub kind : Kind (kind_of (drop offset trace)) (payload_of (drop offset trace))

-- A record of reads with a payload stands at a place where both are selected, and the offset is that of its first byte read.
pub record BothRead (all : Pair Lent) (trace : List ℕ) (offset : ℕ) : Type 0 where
  pub place : ℕ
  pub reads : WholeRecord (λ (kind : ℕ) (payload : List ℕ). (kind ≡ 3) × (payload ≢ [])) all trace place
  pub both : selected_after all (take place trace) ≡ Selection.Both
  pub first : offset ≡ place + header_size

-- Every header and every event is taken.
pub record EveryTaken (all : Pair Lent) (trace : List ℕ) : Type 0 where
  pub accepted : BothAccepted all
  pub headers : (script_from the_terminal (split trace) 0).number ≡ taken
  pub events : (stretch wide_step (unplaced (script_from the_terminal (split trace) 0).events) (terminal_in all Selection.Both)).number ≡ taken

-- All that a run can give: what a run of one chip can, 13 and 14.
abbrev pub wide_run_numbers : List ℕ
wide_run_numbers = no_selection ∷ both_selected ∷ run_numbers

pub record WideGivenRun (all : Pair Lent) (trace : List ℕ) : Type 0 where
  -- 0: all is taken.
  pub number0 : (wide_run all trace).stop.number ≡ taken ↔ EveryTaken all trace
  -- 1: a lent state or memory of either chip is too short. Offset and count are 0, and nothing changes.
  pub number1 : (wide_run all trace).stop.number ≡ too_short ↔ EitherShort all
  pub number1_leaves : EitherShort all → wide_run all trace ≡ wide_ran (stop_of too_short 0 0) all
  -- 2: the state image of either chip is out of its ranges, where 1 does not go first. Offset and count are 0, and nothing changes.
  pub number2 : (wide_run all trace).stop.number ≡ out_of_range ↔ BothLong all × EitherOutside all
  pub number2_leaves : BothLong all → EitherOutside all → wide_run all trace ≡ wide_ran (stop_of out_of_range 0 0) all
  -- 13: a select record whose payload is not one byte of 1 to 3, at the record's first byte. What the records before it left stands.
  pub number13 : (offset : ℕ) → WideGivesAt (wide_run all trace) no_selection offset ↔ WholeRecord NoSelection all trace offset
  pub number13_leaves : (offset : ℕ) → WholeRecord NoSelection all trace offset → wide_run all trace ≡ wide_stopped_after no_selection offset (wide_run all (take offset trace))
  -- 9: a kind that is not 1 to 5, or 4 with a payload, at the record's first byte. What the records before it left stands.
  pub number9 : (offset : ℕ) → WideGivesAt (wide_run all trace) kind_unknown offset ↔ WholeRecord UnknownRecord all trace offset
  pub number9_leaves : (offset : ℕ) → WholeRecord UnknownRecord all trace offset → wide_run all trace ≡ wide_stopped_after kind_unknown offset (wide_run all (take offset trace))
  -- 8: one to three bytes left where a header should stand, or payload past the end, at the record's first byte. What the records before it left stands.
  pub number8 : (offset : ℕ) → WideGivesAt (wide_run all trace) header_cut offset ↔ WideHeaderAt all trace offset × CutShort (drop offset trace)
  pub number8_leaves : (offset : ℕ) → WideHeaderAt all trace offset → CutShort (drop offset trace) → wide_run all trace ≡ wide_stopped_after header_cut offset (wide_run all (take offset trace))
  -- 14: a read with both selected, before the chips are asked: it can only be a record's first. What the records before it left stands.
  pub number14 : (offset : ℕ) → WideGivesAt (wide_run all trace) both_selected offset ↔ BothRead all trace offset
  pub number14_leaves : (offset : ℕ) (h : BothRead all trace offset) → wide_run all trace ≡ wide_stopped_after both_selected offset (wide_run all (take h.place trace))
  -- No other number is given.
  pub no_other : one_of wide_run_numbers (wide_run all trace).stop.number ≡ true

-- The same of a record's kind and payload, whatever stands before it.
pub record WideHeaders (kind : ℕ) (payload : List ℕ) : Type 0 where
  pub refused13 : wide_events_of kind payload ≡ refuses no_selection ↔ NoSelection kind payload
  pub refused9 : wide_events_of kind payload ≡ refuses kind_unknown ↔ WideUnknown kind (length payload)
  -- No header is refused with another number.
  pub no_other : (number : ℕ) → wide_events_of kind payload ≡ refuses number → (number ≡ no_selection) ⊎ (number ≡ kind_unknown)
  -- A record of reads without a payload reads nothing, and is taken.
  pub empty_read : wide_events_of 3 [] ≡ gives []
