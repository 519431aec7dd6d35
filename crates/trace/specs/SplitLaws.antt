-- What holds of the split of a trace's bytes into records, whatever they are played on. proofs/SplitLaws.antt proves it.
use Rattle.std.specs.Prelude.{ℕ, ◌+◌, ◌≡◌, List, ◌++◌, length}
use Rattle.constants.specs.Sizes.{header_size}
use Rattle.trace.specs.Records.{Record, Trace, ended, cut, ◌then◌, record_bytes, split}

-- A record and a split trace, moved on by so many bytes.
abbrev pub record_further : ℕ → Record → Record
record_further k r = record { kind = r.kind; payload = r.payload; place = k + r.place }

abbrev pub trace_further : ℕ → Trace → Trace
trace_further k (ended offset) = ended (k + offset)
trace_further k (cut offset) = cut (k + offset)
trace_further k (r then rest) = record_further k r then trace_further k rest

-- Whole records have nothing cut behind them.
abbrev pub Ends : Trace → Type 0
Ends (ended offset) = Unit {0}
Ends (cut offset) = ⊥
Ends (r then rest) = Ends rest

-- The offset where a split trace ends.
abbrev pub end_of : Trace → ℕ
end_of (ended offset) = offset
end_of (cut offset) = offset
end_of (r then rest) = end_of rest

-- A trace, and another where it ends.
abbrev pub onto : Trace → Trace → Trace
onto (ended offset) more = more
onto (cut offset) more = cut offset
onto (r then rest) more = r then onto rest more

pub record SplitLaws : Type 0 where
  -- The split undoes the writing of records: one written as document 01 says, followed by any bytes, is that record and the split of those bytes.
  pub written : (kind : ℕ) (payload rest : List ℕ)
      → split (record_bytes kind payload ++ rest) ≡ (record { kind = kind; payload = payload; place = 0 } then trace_further (header_size + length payload) (split rest))
  -- Whole records end at the trace's length.
  pub ends : (trace : List ℕ) → Ends (split trace) → end_of (split trace) ≡ length trace
  -- Whole records followed by more are these records, and then those of what follows.
  pub joined : (a b : List ℕ) → Ends (split a) → split (a ++ b) ≡ onto (split a) (trace_further (length a) (split b))
