-- A run gives 3, and 15, exactly when a command byte of theirs stands where no code is awaited.
-- Assumes nothing.
use mathlib.Core.Path.{◌≡◌, refl, sym}
use mathlib.Core.Bool.{Bool, true, false, cond, not, ◌&&◌, ◌||◌}
use mathlib.Core.Logic.{◌≢◌, ◌↔◌}
use mathlib.Core.List.{List, [], ◌∷◌}
use Prim.Native.Nat.{ℕ, zero, suc, ◌≤◌, ◌<◌}
use borrow.Author.Tests.{eqb-true}
use lib.Dec.{eqb, lit<}
use lib.ListN.{get_or, drop}
use Rattle.constants.specs.Numbers.{taken, read_differs}
use Rattle.bus.specs.Registers.{registers_of}
use Rattle.bus.specs.Chip.{Event, command_byte, data_written, data_read}
use Rattle.bus.specs.Image.{Accepted}
use Rattle.bus.specs.Bytes.{Bytes, IsByte}
use Rattle.bus.specs.Calls.{call}
use Rattle.bus.specs.Given.{FirstByte, number_from}
use Rattle.bus.specs.Answer.{Reply}
use Rattle.trace.specs.Records.{kind_of}
use Rattle.trace.specs.Kinds.{recorded_command, recorded_write, read_as}
use Rattle.trace.specs.ByCalls.{called_by, meets}
use Rattle.trace.specs.Given.{recorded_by, ran_before, EventRefused, FirstByteAt}
use Rattle.trace.proofs.GivenEvent.{accepted_before}

-- each place of a list of bytes holds a byte
byte_at : (bytes : List ℕ) (place : ℕ) → Bytes bytes → get_or bytes place 0 < 256
byte_at [] place h = lit< tt
byte_at (byte ∷ bytes) zero h = h.0
byte_at (byte ∷ bytes) (suc place) h = byte_at bytes place h.1

-- a number that calls give for a command byte alone, and exactly where no code is awaited and this holds of the byte
module _ (number : ℕ) (P : ℕ → Type 0) (refused : number ≢ taken) (own : number ≢ read_differs)
    (exactly : (event : Event) (state memory : List ℕ) → IsByte event → number_from event state memory ≡ number ↔ Accepted state memory × FirstByte P (registers_of state) event) where
  -- a read is not refused with it
  read_meets : (reply : Reply) (t : Bool) → cond t read_differs reply.number ≡ number → reply.number ≡ number
  read_meets reply true e = absurd (own (sym e))
  read_meets reply false e = e

  -- what meets it is a command byte
  is_first : (kind byte : ℕ) (state memory : List ℕ) → 1 ≤ kind → byte < 256 → meets (recorded_by kind byte) (call (called_by (recorded_by kind byte)) state memory).reply ≡ number
      → (kind ≡ 1) × ((registers_of state).awaited ≡ 0) × P byte
  is_first kind byte state memory low small = by (eqb kind 1) (eqb kind 2) refl
    where
      by : (a b : Bool) → eqb kind 1 ≡ a → let recorded = cond a (recorded_command byte) (cond b (recorded_write byte) (read_as byte)) in meets recorded (call (called_by recorded) state memory).reply ≡ number
          → (kind ≡ 1) × ((registers_of state).awaited ≡ 0) × P byte
      by true b k e = let f = ((exactly (command_byte byte) state memory small).0 e).1 in (eqb-true kind 1 k, f.0, f.1)
      by false true k e = absurd ((exactly (data_written byte) state memory small).0 e).1
      by false false k e =
          let reply = (call data_read state memory).reply in
          absurd ((exactly data_read state memory tt).0 (read_meets reply (eqb reply.number taken && not (reply.dummy || eqb reply.byte byte)) e)).1

  -- and such a command byte meets it
  first_meets : (kind byte : ℕ) (state memory : List ℕ) → kind ≡ 1 → number_from (command_byte byte) state memory ≡ number → meets (recorded_by kind byte) (call (called_by (recorded_by kind byte)) state memory).reply ≡ number
  first_meets kind byte state memory k e = rw k e

  module _ (state memory trace : List ℕ) (bytes : Bytes trace) (offset : ℕ) where
    pub to_first : EventRefused state memory trace number offset → FirstByteAt P state memory trace offset
    to_first h =
        let s = h.stands in
        let before = ran_before state memory trace s.place offset in
        let first = is_first (kind_of (drop s.place trace)) (get_or trace offset 0) before.state before.memory s.kind_from (byte_at trace offset bytes) h.met in
        record { stands = s; commands = first.0; no_code = first.1; byte = first.2 }

    pub from_first : FirstByteAt P state memory trace offset → EventRefused state memory trace number offset
    from_first h =
        let s = h.stands in
        let before = ran_before state memory trace s.place offset in
        let given = (exactly (command_byte (get_or trace offset 0)) before.state before.memory (byte_at trace offset bytes)).1 (accepted_before state memory trace bytes offset s, (h.no_code, h.byte)) in
        record { stands = s; refused = refused; met = first_meets (kind_of (drop s.place trace)) (get_or trace offset 0) before.state before.memory h.commands given }
