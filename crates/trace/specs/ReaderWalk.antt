-- Walking a trace with the reader: `new` stands at the first byte, `next` gives what stands at its place, and past a whole record it is `moved` on. It visits the records of
-- `split` and no others. proofs/ReaderWalk.antt proves `ReaderWalk`.
use Rattle.std.specs.Prelude.{ℕ, ◌+◌, ◌≡◌, ◌↔◌, List, drop}
use Rattle.std.proofs.Math.Seq.{slice}
use Rattle.std.specs.Borrow.{Bor}
use Rattle.constants.specs.Sizes.{header_size}
use Rattle.trace.specs.Records.{Trace, ended, cut, ◌then◌, split}
use Rattle.trace.specs.Front.{front_of}
use Rattle.trace.specs.declared.reader.Reader.{Reader}
use Rattle.trace.specs.declared.records.Header.{Header}
use Rattle.trace.specs.declared.records.Front.{Front}

-- The clauses of `new`, `moved` and `next`.
abbrev pub New : Bor (List ℕ) → Reader → Type 0
New lent r = (r.trace ≡ lent) × (r.at ≡ 0)

abbrev pub Moved : Reader → ℕ → Reader → Type 0
Moved r place q = (q.trace ≡ r.trace) × (q.at ≡ place)

abbrev pub Next : Reader → Front → Type 0
Next r front = front ≡ front_of (drop r.at r.trace.now)

-- A walk of the reader, and the records that it visits.
pub data Walk : Reader → Trace → Type 0 where
  nothing : {r : Reader} → Next r Front.Nothing → Walk r (ended r.at)
  cut_short : {r : Reader} → Next r Front.Cut → Walk r (cut r.at)
  onward : {r q : Reader} {rest : Trace} (header : Header) → Next r (Front.Whole header) → Moved r (r.at + header_size + header.length) q → Walk q rest
      → Walk r (record { kind = header.kind; payload = slice (r.at + header_size) (r.at + header_size + header.length) r.trace.now; place = r.at } then rest)

-- The walk of a new reader visits exactly the records of the trace's split.
pub record ReaderWalk : Type 0 where
  pub visits : (lent : Bor (List ℕ)) (r : Reader) → New lent r → (found : Trace) → Walk r found ↔ found ≡ split lent.now
