-- Document 01, "The trace": a trace's bytes split into records. It knows nothing of the chip.
use Rattle.std.specs.Prelude.{ℕ, zero, suc, ◌+◌, ◌-◌, ◌*◌, ◌/◌, ◌%◌, ◌≤◌, ◌<◌, Bool, cond, ◌&&◌, List, [], ◌∷◌, leb, length, get_or, take, drop}
use Rattle.constants.specs.Sizes.{header_size}

-- A record: its kind, its payload, and the offset of its first byte.
pub record Record : Type 0 where
  pub kind : ℕ
  pub payload : List ℕ
  pub place : ℕ

infixr 5 ◌then◌
-- A trace taken apart: record after record, up to the offset where no byte is left, or where what is left is no whole record.
pub data Trace : Type 0 where
  ended : ℕ → Trace
  cut : ℕ → Trace
  ◌then◌ : Record → Trace → Trace

-- A number of two bytes, little-endian.
abbrev pub number : List ℕ → ℕ → ℕ
number bytes place = get_or bytes place 0 + 256 * get_or bytes (place + 1) 0

-- A record's header: the length of its payload, then its kind, two bytes each.
abbrev pub length_of : List ℕ → ℕ
length_of bytes = number bytes 0

abbrev pub kind_of : List ℕ → ℕ
kind_of bytes = number bytes 2

-- The payload follows its header.
abbrev pub payload_of : List ℕ → List ℕ
payload_of bytes = take (length_of bytes) (drop header_size bytes)

-- A record's bytes: payload length, kind, payload.
abbrev pub record_bytes : ℕ → List ℕ → List ℕ
record_bytes kind payload = length payload % 256 ∷ length payload / 256 ∷ kind % 256 ∷ kind / 256 ∷ payload

-- A whole record stands first among the bytes: its header is not cut, and its payload not past the end.
abbrev pub whole : List ℕ → Bool
whole bytes = leb header_size (length bytes) && leb (header_size + length_of bytes) (length bytes)

-- One to three bytes are left, or the payload is past the end.
pub data CutShort (left : List ℕ) : Type 0 where
  few_bytes : 0 < length left → length left < header_size → CutShort left
  past_end : header_size ≤ length left → length left < header_size + length_of left → CutShort left

-- The record that stands first among the bytes, which begin at an offset of the trace.
abbrev pub record_at : ℕ → List ℕ → Record
record_at offset bytes = record { kind = kind_of bytes; payload = payload_of bytes; place = offset }

-- The bytes from an offset on, the first `passed` of which belong to the record before and are passed over. Where a record begins, the rest of its header and its payload are passed over next.
unfoldable pub split_from : ℕ → ℕ → List ℕ → Trace
split_from passed offset [] = ended offset
split_from (suc passed) offset (byte ∷ bytes) = split_from passed (offset + 1) bytes
split_from zero offset (byte ∷ bytes) =
    let all = byte ∷ bytes in
    cond (whole all) (record_at offset all then split_from (header_size - 1 + length_of all) (offset + 1) bytes) (cut offset)

-- The records of a trace.
unfoldable pub split : List ℕ → Trace
split trace = split_from 0 0 trace

-- The count of a trace's records.
abbrev pub records_in : Trace → ℕ
records_in (ended offset) = 0
records_in (cut offset) = 0
records_in (r then rest) = 1 + records_in rest
