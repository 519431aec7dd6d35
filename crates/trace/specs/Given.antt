-- Document 01, "Numbers given", with document 02's Order 6: when a run gives each number, at which offset, with which count, and what it leaves. proofs/Given.antt proves `NumbersGiven`.
use Rattle.std.specs.Prelude.{ℕ, ◌+◌, ◌≤◌, ◌<◌, ◌≡◌, ◌≢◌, ◌↔◌, true, false, cond, List, [], ◌∷◌, ◌++◌, eqb, length, get_or, take, drop}
use Rattle.std.proofs.Math.Seq.{slice}
use Rattle.constants.specs.Numbers.{taken, too_short, out_of_range, outside_table, header_cut, kind_unknown, read_differs, test_mode}
use Rattle.constants.specs.Sizes.{header_size}
use Rattle.codes.specs.OneOf.{one_of}
use Rattle.codes.specs.Others.{TestModeByte, RemainingByte}
use Rattle.bus.specs.Image.{short, legal, Accepted}
use Rattle.bus.specs.Calls.{call}
use Rattle.bus.specs.Given.{event_numbers}
use Rattle.bus.specs.Registers.{registers_of}
use Rattle.bus.specs.Answer.{Reply}
use Rattle.bus.specs.Bytes.{Bytes}
use Rattle.trace.specs.Records.{Trace, ended, cut, ◌then◌, length_of, kind_of, whole, CutShort, record_bytes, split, records_in}
use Rattle.trace.specs.Kinds.{Recorded, recorded_command, recorded_write, read_as, the_chip}
use Rattle.trace.specs.OneByOne.{Placed, script_from}
use Rattle.trace.specs.ByCalls.{called_by, meets, by_calls}
use Rattle.trace.specs.Run.{Ran, ran, stop_of, run}

-- A run gives a number at an offset.
abbrev pub GivesAt : Ran → ℕ → ℕ → Type 0
GivesAt outcome number offset = (outcome.stop.number ≡ number) × (outcome.stop.offset ≡ offset)

-- A run that stops with a number at an offset, and leaves the count, state and memory that another left.
abbrev pub stopped_after : ℕ → ℕ → Ran → Ran
stopped_after number offset before = ran (stop_of number offset before.stop.count) before.state before.memory

-- A header should stand at an offset: the bytes before it run, and all are taken.
abbrev pub HeaderAt : List ℕ → List ℕ → List ℕ → ℕ → Type 0
HeaderAt state memory trace offset = (run state memory (take offset trace)).stop.number ≡ taken

-- The kind is not 1 to 4, or 4 with a payload.
pub data Unknown (kind size : ℕ) : Type 0 where
  no_kind : kind ≢ 1 → kind ≢ 2 → kind ≢ 3 → kind ≢ 4 → Unknown kind size
  loaded : kind ≡ 4 → size ≢ 0 → Unknown kind size

-- 8, at the record's first byte.
pub record HeaderCut (state memory trace : List ℕ) (offset : ℕ) : Type 0 where
  pub header : HeaderAt state memory trace offset
  pub cut : CutShort (drop offset trace)

-- 9, at the record's first byte; 8 goes before it.
pub record KindUnknown (state memory trace : List ℕ) (offset : ℕ) : Type 0 where
  pub header : HeaderAt state memory trace offset
  pub complete : whole (drop offset trace) ≡ true
  pub unknown : Unknown (kind_of (drop offset trace)) (length_of (drop offset trace))

-- What a byte of a payload stands for by its record's kind, 1 to 3.
abbrev pub recorded_by : ℕ → ℕ → Recorded
recorded_by kind byte = cond (eqb kind 1) (recorded_command byte) (cond (eqb kind 2) (recorded_write byte) (read_as byte))

-- The run of what stands before an offset in the payload of the record at a place: the bytes before the record, and the record as if its payload ended there.
abbrev pub ran_before : List ℕ → List ℕ → List ℕ → ℕ → ℕ → Ran
ran_before state memory trace place offset = run state memory (take place trace ++ record_bytes (kind_of (drop place trace)) (slice (place + header_size) offset trace))

-- What was recorded by the byte at an offset of that record.
abbrev pub recorded_there : List ℕ → ℕ → ℕ → Recorded
recorded_there trace place offset = recorded_by (kind_of (drop place trace)) (get_or trace offset 0)

-- What the call of its event replies then.
abbrev pub reply_there : List ℕ → List ℕ → List ℕ → ℕ → ℕ → Reply
reply_there state memory trace place offset =
    let before = ran_before state memory trace place offset in
    (call (called_by (recorded_there trace place offset)) before.state before.memory).reply

-- The number that it meets by that reply: its own, or 10 for a read that differs.
abbrev pub met_there : List ℕ → List ℕ → List ℕ → ℕ → ℕ → ℕ
met_there state memory trace place offset = meets (recorded_there trace place offset) (reply_there state memory trace place offset)

-- A byte of a payload stands at an offset, and all before it is taken: a whole record of kind 1 to 3 stands at a place, after records that are taken, and the bytes of its payload before this one are taken.
pub record PayloadByte (state memory trace : List ℕ) (offset : ℕ) : Type 0 where
  pub place : ℕ
  pub header : HeaderAt state memory trace place
  pub complete : whole (drop place trace) ≡ true
  pub kind_from : 1 ≤ kind_of (drop place trace)
  pub kind_to : kind_of (drop place trace) ≤ 3
  pub after : place + header_size ≤ offset
  pub inside : offset < place + header_size + length_of (drop place trace)
  pub before : (ran_before state memory trace place offset).stop.number ≡ taken

-- 3 to 7, 10 and 15, at the refused byte: the event that it stands for meets the number.
pub record EventRefused (state memory trace : List ℕ) (number offset : ℕ) : Type 0 where
  pub stands : PayloadByte state memory trace offset
  pub refused : number ≢ taken
  pub met : met_there state memory trace stands.place offset ≡ number

-- What makes 10 of it: the record is of reads, the read is taken and no dummy, which is not compared, and it answers another byte. 6 and 7 go before it.
pub record ReadDiffers (state memory trace : List ℕ) (place offset : ℕ) : Type 0 where
  pub reads : kind_of (drop place trace) ≡ 3
  pub happens : (reply_there state memory trace place offset).number ≡ taken
  pub compared : (reply_there state memory trace place offset).dummy ≡ false
  pub differs : (reply_there state memory trace place offset).byte ≢ get_or trace offset 0

-- 3 and 15, at the refused byte: it is a command byte, no code is awaited then, and this holds of it.
pub record FirstByteAt (P : ℕ → Type 0) (state memory trace : List ℕ) (offset : ℕ) : Type 0 where
  pub stands : PayloadByte state memory trace offset
  pub commands : kind_of (drop stands.place trace) ≡ 1
  pub no_code : (registers_of (ran_before state memory trace stands.place offset).state).awaited ≡ 0
  pub byte : P (get_or trace offset 0)

-- The numbers that events are refused with in a run: their own, and 10.
abbrev pub run_event_numbers : List ℕ
run_event_numbers = read_differs ∷ event_numbers

-- All that a run can give.
abbrev pub run_numbers : List ℕ
run_numbers = taken ∷ too_short ∷ out_of_range ∷ header_cut ∷ kind_unknown ∷ run_event_numbers

-- Every record is whole and of a kind that is known.
abbrev pub KnownRecords : Trace → Type 0
KnownRecords (ended offset) = Unit {0}
KnownRecords (cut offset) = ⊥
KnownRecords (r then rest) = (Unknown r.kind (length r.payload) → ⊥) × KnownRecords rest

-- The events of a trace, in order.
abbrev pub events_in : List ℕ → List (Placed Recorded)
events_in trace = (script_from the_chip (split trace) 0).events

-- Every event meets 0, by the reply of its call on what the calls before it left.
abbrev pub EachTaken : List (Placed Recorded) → List ℕ → List ℕ → Type 0
EachTaken [] state memory = Unit {0}
EachTaken (p ∷ rest) state memory =
    let called = call (called_by p.event) state memory in
    (meets p.event called.reply ≡ taken) × EachTaken rest called.state called.memory

-- 0: every record and every event is taken.
pub record AllTaken (state memory trace : List ℕ) : Type 0 where
  pub accepted : Accepted state memory
  pub records : KnownRecords (split trace)
  pub events : EachTaken (events_in trace) state memory

-- The table, for a run on any lent state and memory.
pub record NumbersGiven (state memory trace : List ℕ) : Type 0 where
  -- 0: all is taken. The offset is the trace's length, the count is of all its records, and what is left is what the calls of its events leave one by one.
  pub number0 : Bytes trace → (run state memory trace).stop.number ≡ taken ↔ AllTaken state memory trace
  pub number0_leaves : Bytes trace → AllTaken state memory trace → run state memory trace ≡ by_calls (events_in trace) (stop_of taken (length trace) (records_in (split trace))) state memory
  -- 1: a lent state or memory is too short. Offset and count are 0, and nothing changes.
  pub number1 : (run state memory trace).stop.number ≡ too_short ↔ short state memory ≡ true
  pub number1_leaves : short state memory ≡ true → run state memory trace ≡ ran (stop_of too_short 0 0) state memory
  -- 2: the state image is out of its ranges, where 1 does not go first. Offset and count are 0, and nothing changes.
  pub number2 : (run state memory trace).stop.number ≡ out_of_range ↔ (short state memory ≡ false) × (legal state ≡ false)
  pub number2_leaves : short state memory ≡ false → legal state ≡ false → run state memory trace ≡ ran (stop_of out_of_range 0 0) state memory
  -- 3 to 7, 10 and 15: an event is refused, at its byte. It has not happened: the count is of the records before its own, and what is left is what the run of the bytes before it leaves.
  pub event : Bytes trace → (number offset : ℕ) → one_of run_event_numbers number ≡ true → GivesAt (run state memory trace) number offset ↔ EventRefused state memory trace number offset
  pub event_leaves : Bytes trace → (number offset : ℕ) (h : EventRefused state memory trace number offset) → run state memory trace ≡
      ran (stop_of number offset (run state memory (take h.stands.place trace)).stop.count) (ran_before state memory trace h.stands.place offset).state (ran_before state memory trace h.stands.place offset).memory
  -- 3: a command byte outside the table, B9-BF and F0-FF apart, with no code awaited.
  pub number3 : Bytes trace → (offset : ℕ) → GivesAt (run state memory trace) outside_table offset ↔ FirstByteAt RemainingByte state memory trace offset
  -- 15: F0-FF with no code awaited, in the place of 3.
  pub number15 : Bytes trace → (offset : ℕ) → GivesAt (run state memory trace) test_mode offset ↔ FirstByteAt TestModeByte state memory trace offset
  -- 10: a compared read differs; and wherever one does, it is what the event meets.
  pub ten : (offset : ℕ) (h : EventRefused state memory trace read_differs offset) → ReadDiffers state memory trace h.stands.place offset
  pub ten_met : (place offset : ℕ) → ReadDiffers state memory trace place offset → met_there state memory trace place offset ≡ read_differs
  -- 8: one to three bytes left where a header should stand, or payload past the end, at the record's first byte. What the records before it left stands.
  pub number8 : (offset : ℕ) → GivesAt (run state memory trace) header_cut offset ↔ HeaderCut state memory trace offset
  pub number8_leaves : (offset : ℕ) → HeaderCut state memory trace offset → run state memory trace ≡ stopped_after header_cut offset (run state memory (take offset trace))
  -- 9: kind not 1 to 4, or kind 4 with a payload, at the record's first byte. What the records before it left stands.
  pub number9 : (offset : ℕ) → GivesAt (run state memory trace) kind_unknown offset ↔ KindUnknown state memory trace offset
  pub number9_leaves : (offset : ℕ) → KindUnknown state memory trace offset → run state memory trace ≡ stopped_after kind_unknown offset (run state memory (take offset trace))
  -- No other number is given.
  pub no_other : one_of run_numbers (run state memory trace).stop.number ≡ true
