-- Walking a trace with `ssd1815b_record`: from offset 0, and then from each offset that it gives, as long as it answers 0 and another offset. It visits the
-- records of the trace's split and no others.
use Rattle.std.specs.Prelude.{ℕ, ◌+◌, ◌≡◌, ◌↔◌, List, drop}
use Rattle.std.proofs.Math.Seq.{slice}
use Rattle.constants.specs.Numbers.{taken, header_cut}
use Rattle.constants.specs.Sizes.{header_size}
use Rattle.trace.specs.Records.{Trace, ended, cut, ◌then◌, split}
use Rattle.trace.specs.Front.{front_of}
use Rattle.host.specs.Record.{RecordReply, record_of}

-- What the call gives at an offset.
abbrev pub given_at : List ℕ → ℕ → RecordReply
given_at bytes at = record_of (front_of (drop at bytes)) at

-- A walk from an offset, and the records that it visits.
pub data Walk (bytes : List ℕ) : ℕ → Trace → Type 0 where
  -- 0 and the offset itself: the trace ends
  nothing : {at : ℕ} → (given_at bytes at).number ≡ taken → (given_at bytes at).next ≡ at → Walk bytes at (ended at)
  -- 8: what is left is cut
  cut_short : {at : ℕ} → (given_at bytes at).number ≡ header_cut → Walk bytes at (cut at)
  -- 0 and another offset: a record, whose payload stands between its header and that offset
  onward : {at : ℕ} {rest : Trace} → (given_at bytes at).number ≡ taken → ((given_at bytes at).next ≡ at → ⊥) → Walk bytes (given_at bytes at).next rest
      → Walk bytes at (record { kind = (given_at bytes at).kind; payload = slice (at + header_size) (given_at bytes at).next bytes; place = at } then rest)

pub record RecordWalk : Type 0 where
  pub visits : (bytes : List ℕ) (found : Trace) → Walk bytes 0 found ↔ found ≡ split bytes
