-- The split of a trace's bytes into records: where a record begins, from a later offset on, more bytes behind whole records, and that it undoes the writing.
-- Assumes nothing.
use mathlib.Core.Path.{◌≡◌, refl, sym, ◌∙◌, ap}
use mathlib.Core.Bool.{Bool, true, false, cond, false≢true}
use mathlib.Core.List.{List, [], ◌∷◌, ◌++◌}
use Prim.Native.Nat.{ℕ, zero, suc, ◌+◌, ◌≤◌, ◌<◌, ◌*◌, ◌/◌, ◌%◌}
use native.Mathlib.Omega.{arith}
use native.Mathlib.Nat.{add-zero, zero-add}
use borrow.Author.Tests.{le-leb}
use lib.ListN.{length, drop, length-append, length-drop, get_or-append}
use lib.Seq.{take-append-le, drop-append-le, drop-drop, take-append_seam, drop-append_seam}
use Rattle.constants.specs.Sizes.{header_size}
use Rattle.trace.specs.Records.{Record, Trace, ended, cut, ◌then◌, length_of, whole, record_at, split_from, number, payload_of, split, record_bytes}
use Rattle.trace.specs.SplitLaws.{record_further, trace_further, Ends, end_of, onto, SplitLaws}
use Rattle.trace.specs.Front.{front_of}
use Rattle.trace.specs.declared.records.Header.{Header}
use Rattle.trace.specs.declared.records.Front.{Front}
use Rattle.trace.proofs.WhatStands.{room, tells, is_whole, its_length}

split_choice : (k : ℕ) (there : Bool) (r : Record) (rest rest' : Trace) (offset : ℕ) → rest' ≡ trace_further k rest → cond there (record_further k r then rest') (cut (k + offset)) ≡ trace_further k (cond there (r then rest) (cut offset))
split_choice k true r rest rest' offset e = rw e
split_choice k false r rest rest' offset e = refl

pub split_further : (k left offset : ℕ) (bytes : List ℕ) → split_from left (k + offset) bytes ≡ trace_further k (split_from left offset bytes)
unfolding split_from
split_further k left offset [] = refl
split_further k (suc left) offset (byte ∷ bytes) =
    let e : k + offset + 1 ≡ k + (offset + 1) = omega arith in
    rw e (split_further k left (offset + 1) bytes)
split_further k zero offset (byte ∷ bytes) =
    let all = byte ∷ bytes in
    let e : k + offset + 1 ≡ k + (offset + 1) = omega arith in
    split_choice k (whole all) (record_at offset all) (split_from (3 + length_of all) (offset + 1) bytes) (split_from (3 + length_of all) (k + offset + 1) bytes) offset (rw e (split_further k (3 + length_of all) (offset + 1) bytes))

-- what stands first among the bytes stands first among more of them
module _ (a b : List ℕ) (h : whole a ≡ true) where
  same_number : (place : ℕ) → place + 1 < length a → number (a ++ b) place ≡ number a place
  same_number place p =
      let first : place < length a = omega arith in
      rw (get_or-append a b 0 place first, get_or-append a b 0 (place + 1) p)

  same_length : length_of (a ++ b) ≡ length_of a
  same_length = same_number 0 (omega (arith, (room a h).0))

  same_payload : payload_of (a ++ b) ≡ payload_of a
  same_payload =
      rw (same_length, drop-append-le header_size a b (room a h).0) (take-append-le (length_of a) (drop header_size a) b (omega (arith, (room a h).1, length-drop header_size a)))

  still_whole : whole (a ++ b) ≡ true
  still_whole =
      rw (same_length, length-append a b, le-leb header_size (length a + length b) (omega (arith, (room a h).0)), le-leb (header_size + length_of a) (length a + length b) (omega (arith, (room a h).1)))

  pub same_record : (offset : ℕ) → record_at offset (a ++ b) ≡ record_at offset a
  same_record offset = rw (same_payload, same_number 2 (omega (arith, (room a h).0)))

-- the record at hand, and the rest onto which more is put
record_onto : (offset : ℕ) (all b : List ℕ) (rest rest' more : Trace) (there : Bool) → whole all ≡ there → Ends (cond there (record_at offset all then rest) (cut offset)) → (whole all ≡ true → Ends rest → rest' ≡ onto rest more)
    → cond (whole (all ++ b)) (record_at offset (all ++ b) then rest') (cut offset) ≡ onto (cond there (record_at offset all then rest) (cut offset)) more
record_onto offset all b rest rest' more true e q same = rw (still_whole all b e, same_record all b e offset, same e q)
record_onto offset all b rest rest' more false e q same = absurd q

pub split_onto : (left offset : ℕ) (a b : List ℕ) → left ≤ length a → Ends (split_from left offset a) → split_from left offset (a ++ b) ≡ onto (split_from left offset a) (split_from 0 (offset + length a) b)
unfolding split_from
split_onto zero offset [] b p q = rw add-zero
split_onto (suc left) offset [] b p q = absurd (omega arith)
split_onto (suc left) offset (byte ∷ a) b p q =
    let e : offset + suc (length a) ≡ offset + 1 + length a = omega arith in
    rw e (split_onto left (offset + 1) a b (omega arith) q)
split_onto zero offset (byte ∷ a) b p q =
    let all = byte ∷ a in
    let e : offset + suc (length a) ≡ offset + 1 + length a = omega arith in
    record_onto offset all b (split_from (3 + length_of all) (offset + 1) a) (split_from (3 + length_of (all ++ b)) (offset + 1) (a ++ b)) (split_from 0 (offset + suc (length a)) b) (whole all) refl q
    (λ there ends. rw (same_length all b there, e) (split_onto (3 + length_of all) (offset + 1) a b (omega (arith, (room all there).1)) ends))

-- a split trace that ends, ends at its length
record_ends : (offset n : ℕ) (all : List ℕ) (rest : Trace) (there : Bool) → whole all ≡ there → Ends (cond there (record_at offset all then rest) (cut offset)) → (whole all ≡ true → Ends rest → end_of rest ≡ n) → end_of (cond there (record_at offset all then rest) (cut offset)) ≡ n
record_ends offset n all rest true e q same = same e q
record_ends offset n all rest false e q same = absurd q

pub ends_at : (left offset : ℕ) (a : List ℕ) → left ≤ length a → Ends (split_from left offset a) → end_of (split_from left offset a) ≡ offset + length a
unfolding split_from
ends_at zero offset [] p q = rw add-zero
ends_at (suc left) offset [] p q = absurd (omega arith)
ends_at (suc left) offset (byte ∷ a) p q =
    let e : offset + suc (length a) ≡ offset + 1 + length a = omega arith in
    rw e (ends_at left (offset + 1) a (omega arith) q)
ends_at zero offset (byte ∷ a) p q =
    let all = byte ∷ a in
    let e : offset + suc (length a) ≡ offset + 1 + length a = omega arith in
    record_ends offset (offset + suc (length a)) all (split_from (3 + length_of all) (offset + 1) a) (whole all) refl q
    (λ there ends. rw e (ends_at (3 + length_of all) (offset + 1) a (omega (arith, (room all there).1)) ends))

-- the bytes that belong to the record before are passed over
pub passed : (left offset : ℕ) (bytes : List ℕ) → left ≤ length bytes → split_from left offset bytes ≡ split_from 0 (offset + left) (drop left bytes)
unfolding split_from
passed zero offset bytes h = rw add-zero
passed (suc left) offset [] h = absurd (omega arith)
passed (suc left) offset (byte ∷ bytes) h =
    let e : offset + 1 + left ≡ offset + suc left = omega arith in
    passed left (offset + 1) bytes (omega arith) ∙ rw e

-- no byte is left
pub split_nothing : (offset : ℕ) (bytes : List ℕ) → length bytes ≡ 0 → split_from 0 offset bytes ≡ ended offset
unfolding split_from
split_nothing offset [] h = refl
split_nothing offset (byte ∷ bytes) h = absurd (omega arith)

-- what is left is no whole record
pub split_cut : (offset : ℕ) (bytes : List ℕ) → (length bytes ≡ 0 → ⊥) → whole bytes ≡ false → split_from 0 offset bytes ≡ cut offset
unfolding split_from
split_cut offset [] h e = absurd (h refl)
split_cut offset (byte ∷ bytes) h e = rw e

-- a whole record, then the rest
pub split_whole : (offset : ℕ) (bytes : List ℕ) → whole bytes ≡ true → split_from 0 offset bytes ≡ (record_at offset bytes then split_from 0 (offset + (header_size + length_of bytes)) (drop (header_size + length_of bytes) bytes))
unfolding split_from
split_whole offset [] e = absurd (false≢true e)
split_whole offset (byte ∷ bytes) e =
    let n = 3 + length_of (byte ∷ bytes) in
    let size : header_size + length_of (byte ∷ bytes) ≡ suc n = omega arith in
    let place : offset + suc n ≡ offset + 1 + n = omega arith in
    let fits : n ≤ length bytes = omega (arith, (room (byte ∷ bytes) e).1) in
    rw (e, size, place, passed n (offset + 1) bytes fits)

-- the rest of a trace from an offset on
abbrev pub rest : List ℕ → ℕ → Trace
rest trace at = split_from 0 at (drop at trace)

module _ (trace : List ℕ) (at : ℕ) where
  pub rest_nothing : front_of (drop at trace) ≡ Front.Nothing → rest trace at ≡ ended at
  rest_nothing h = split_nothing at (drop at trace) (tells (drop at trace) h)

  pub rest_cut : front_of (drop at trace) ≡ Front.Cut → rest trace at ≡ cut at
  rest_cut h = let found = tells (drop at trace) h in split_cut at (drop at trace) found.0 found.1

  pub rest_whole : (header : Header) → front_of (drop at trace) ≡ Front.Whole header → rest trace at ≡ (record_at at (drop at trace) then rest trace (at + header_size + header.length))
  rest_whole header h =
      let e : at + (header_size + header.length) ≡ at + header_size + header.length = omega arith in
      split_whole at (drop at trace) (is_whole trace at header h) ∙ rw (its_length trace at header h, drop-drop (header_size + header.length) at trace, e)

two_bytes : (n : ℕ) → n % 256 + 256 * (n / 256) ≡ n
two_bytes n = omega arith

module _ (kind : ℕ) (payload rest : List ℕ) where
  abbrev written_bytes : List ℕ
  written_bytes = record_bytes kind payload ++ rest

  written_whole : whole written_bytes ≡ true
  written_whole = rw (two_bytes (length payload), length-append payload rest, le-leb header_size (suc (suc (suc (suc (length payload + length rest))))) (omega arith), le-leb (header_size + length payload) (suc (suc (suc (suc (length payload + length rest))))) (omega arith))

  the_rest : drop (header_size + length payload) written_bytes ≡ rest
  the_rest =
      let e : header_size + length payload ≡ suc (suc (suc (suc (length payload)))) = omega arith in
      rw e (drop-append_seam payload rest)

  pub split_written : split written_bytes ≡ (record { kind = kind; payload = payload; place = 0 } then trace_further (header_size + length payload) (split rest))
  unfolding split
  split_written =
      let n = header_size + length payload in
      let place : 0 + n ≡ n + 0 = omega arith in
      split_whole 0 written_bytes written_whole ∙
      rw (two_bytes (length payload), two_bytes kind, take-append_seam payload rest, the_rest, place)
      (ap (λ (more : Trace). record { kind = kind; payload = payload; place = 0 } then more) (split_further n 0 0 rest))

whole_ends : (trace : List ℕ) → Ends (split trace) → end_of (split trace) ≡ length trace
unfolding split
whole_ends trace e = ends_at 0 0 trace (omega arith) e ∙ zero-add (length trace)

from_offset : (k : ℕ) (b : List ℕ) → split_from 0 k b ≡ trace_further k (split b)
unfolding split
from_offset k b = ap (λ (at : ℕ). split_from 0 at b) (sym (add-zero k)) ∙ split_further k 0 0 b

whole_joined : (a b : List ℕ) → Ends (split a) → split (a ++ b) ≡ onto (split a) (trace_further (length a) (split b))
unfolding split
whole_joined a b e = split_onto 0 0 a b (omega arith) e ∙ ap (λ (more : Trace). onto (split a) more) (ap (λ (at : ℕ). split_from 0 at b) (zero-add (length a)) ∙ from_offset (length a) b)

pub split_laws : SplitLaws
split_laws = record { written = split_written; ends = whole_ends; joined = whole_joined }
