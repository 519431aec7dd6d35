-- The record at an offset as C sees it: a number, the record's kind and the offset after it.
use Rattle.std.specs.Prelude.{ℕ, ◌+◌}
use Rattle.constants.specs.Numbers.{taken, header_cut}
use Rattle.constants.specs.Sizes.{header_size}
use Rattle.trace.specs.declared.records.Front.{Front}

pub record RecordReply : Type 0 where
  pub number : ℕ
  pub kind : ℕ
  pub next : ℕ

abbrev pub record_reply : ℕ → ℕ → ℕ → RecordReply
record_reply answer sort after = record { number = answer; kind = sort; next = after }

-- What stands at an offset: a whole record, with the offset after its payload; kind 0 and the offset itself where no byte is left, and beside 8 where what is left is cut.
unfoldable pub record_of : Front → ℕ → RecordReply
record_of Front.Nothing at = record_reply taken 0 at
record_of Front.Cut at = record_reply header_cut 0 at
record_of (Front.Whole header) at = record_reply taken header.kind (at + header_size + header.length)
