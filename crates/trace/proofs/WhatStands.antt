-- What stands at an offset of a trace: nothing, a cut record or a whole one, by the tests that tell it; and what a whole record says of the bytes.
-- Assumes nothing.
use mathlib.Core.Path.{◌≡◌, refl, sym, ◌∙◌, subst}
use mathlib.Core.Bool.{Bool, true, false, ◌&&◌, false≢true}
use mathlib.Core.List.{List}
use Prim.Native.Nat.{ℕ, ◌+◌, ◌≤◌}
use native.Mathlib.Omega.{arith}
use borrow.Author.Tests.{ne_eqb, leb-true, leb-false, le-leb, lt-leb, eq-eqb, eqb-true, eqb-false}
use lib.Dec.{leb, eqb}
use lib.ListN.{length, drop, length-drop, take}
use lib.Seq.{length-take-le, slice, drop-drop, drop_at, take-add}
use Rattle.codes.proofs.Tests.{both, chosen}
use Rattle.constants.specs.Sizes.{header_size}
use Rattle.trace.specs.Records.{length_of, kind_of, payload_of, whole, CutShort, few_bytes, past_end, record_at}
use Rattle.trace.specs.Front.{front_of}
use Rattle.trace.specs.declared.records.Front.{Front}
use Rattle.trace.specs.declared.records.Header.{Header}

-- past the last byte nothing stands
pub at_end : (trace : List ℕ) (at : ℕ) → length trace ≤ at → front_of (drop at trace) ≡ Front.Nothing
unfolding front_of
at_end trace at h = rw (eq-eqb (length (drop at trace)) 0 (length-drop at trace ∙ omega arith))

-- the bytes of a whole record are there
pub room : (bytes : List ℕ) → whole bytes ≡ true → (header_size ≤ length bytes) × (header_size + length_of bytes ≤ length bytes)
room bytes e =
    let halves = both (leb header_size (length bytes)) (leb (header_size + length_of bytes) (length bytes)) e in
    (leb-true header_size (length bytes) halves.0, leb-true (header_size + length_of bytes) (length bytes) halves.1)

-- what stands first tells of the bytes
abbrev pub Tells : List ℕ → Front → Type 0
Tells bytes Front.Nothing = length bytes ≡ 0
Tells bytes Front.Cut = (length bytes ≡ 0 → ⊥) × (whole bytes ≡ false)
Tells bytes (Front.Whole header) = (whole bytes ≡ true) × (kind_of bytes ≡ header.kind) × (length_of bytes ≡ header.length)

pub tells : (bytes : List ℕ) {front : Front} → front_of bytes ≡ front → Tells bytes front
unfolding front_of
tells bytes e =
    subst (Tells bytes) e
    (chosen (Tells bytes) (eqb (length bytes) 0) _ _ (eqb-true (length bytes) 0)
    (λ some. chosen (Tells bytes) (whole bytes) _ _ (λ there. (there, refl, refl)) (λ cut. (eqb-false (length bytes) 0 some, cut))))

-- bytes that are cut, by the tests of what stands first
pub cut_tests : (left : List ℕ) → CutShort left → (length left ≡ 0 → ⊥) × (whole left ≡ false)
cut_tests left (few_bytes some few) = (λ e. omega arith, rw (lt-leb header_size (length left) few))
cut_tests left (past_end header past) = (λ e. omega arith, rw (le-leb header_size (length left) header, lt-leb (header_size + length_of left) (length left) past))

pub tests_cut : (left : List ℕ) → (length left ≡ 0 → ⊥) → whole left ≡ false → CutShort left
tests_cut left some e = by (leb header_size (length left)) (leb (header_size + length_of left) (length left)) refl refl e
  where
    by : (s t : Bool) → leb header_size (length left) ≡ s → leb (header_size + length_of left) (length left) ≡ t → s && t ≡ false → CutShort left
    by true true p q e = absurd (false≢true (sym e))
    by true false p q e = past_end (leb-true header_size (length left) p) (leb-false (header_size + length_of left) (length left) q)
    by false t p q e = few_bytes (omega (arith, some)) (leb-false header_size (length left) p)

pub front_cut : (left : List ℕ) → (length left ≡ 0 → ⊥) → whole left ≡ false → front_of left ≡ Front.Cut
unfolding front_of
front_cut left some e = rw (ne_eqb (length left) 0 some, e)

pub front_whole : (left : List ℕ) → whole left ≡ true → front_of left ≡ Front.Whole (record { kind = kind_of left; length = length_of left })
unfolding front_of
front_whole left e = rw (ne_eqb (length left) 0 (λ z. omega (arith, (room left e).0)), e)

module _ (trace : List ℕ) (at : ℕ) where
  -- where bytes are left, the offset is within the trace
  pub where_left : (length (drop at trace) ≡ 0 → ⊥) → at ≤ length trace
  where_left some = omega (arith, some, length-drop at trace)

  pub whole_left : whole (drop at trace) ≡ true → length (drop at trace) ≡ 0 → ⊥
  whole_left e z = omega (arith, (room (drop at trace) e).0)

  -- a whole record's payload has its length
  pub payload_length : whole (drop at trace) ≡ true → length (payload_of (drop at trace)) ≡ length_of (drop at trace)
  payload_length w =
      let left = drop at trace in
      length-take-le (length_of left) (drop header_size left) (omega (arith, length-drop header_size left, (room left w).1))

module _ (trace : List ℕ) (at : ℕ) (header : Header) (h : front_of (drop at trace) ≡ Front.Whole header) where
  pub is_whole : whole (drop at trace) ≡ true
  is_whole = (tells (drop at trace) h).0

  its_kind : kind_of (drop at trace) ≡ header.kind
  its_kind = (tells (drop at trace) h).1

  pub its_length : length_of (drop at trace) ≡ header.length
  its_length = (tells (drop at trace) h).2

  -- the payload is not past the end
  pub within_trace : at + header_size + header.length ≤ length trace
  within_trace = omega (arith, its_length, length-drop at trace, (room (drop at trace) is_whole).1)

  -- the payload lies between two offsets
  its_payload : payload_of (drop at trace) ≡ slice (at + header_size) (at + header_size + header.length) trace
  its_payload =
      let from = at + header_size in
      rw (its_length, drop-drop header_size at trace, take-add from header.length trace)
      (sym (drop_at (take from trace) (take header.length (drop from trace)) from (length-take-le from trace (omega (arith, within_trace)))))

  pub the_record : record_at at (drop at trace) ≡ record { kind = header.kind; payload = slice (at + header_size) (at + header_size + header.length) trace; place = at }
  the_record = rw (its_payload, its_kind)
