-- Walking a trace with the reader visits exactly the records of its split.
-- Assumes nothing.
use mathlib.Core.Path.{◌≡◌, refl, sym, ◌∙◌, ap, subst}
use mathlib.Core.List.{List}
use Prim.Native.Nat.{ℕ, zero, suc, ◌+◌, ◌≤◌}
use native.Mathlib.Omega.{arith}
use lib.ListN.{length, drop}
use denote.Ref.{Bor}
use Rattle.constants.specs.Sizes.{header_size}
use Rattle.trace.specs.Records.{Record, Trace, ◌then◌, record_at, split}
use Rattle.trace.specs.Front.{front_of}
use Rattle.trace.specs.ReaderWalk.{New, Walk, nothing, cut_short, onward, ReaderWalk}
use Rattle.trace.specs.declared.reader.Reader.{Reader}
use Rattle.trace.specs.declared.records.Header.{Header}
use Rattle.trace.specs.declared.records.Front.{Front}
use Rattle.trace.proofs.WhatStands.{at_end, the_record}
use Rattle.trace.proofs.SplitLaws.{rest, rest_nothing, rest_cut, rest_whole}

-- the rest of the trace from the reader's place on
abbrev ahead : Reader → Trace
ahead r = rest r.trace.now r.at

abbrev past : Reader → Header → Reader
past r header = record { trace = r.trace; at = r.at + header_size + header.length }

ahead_whole : (r : Reader) (header : Header) (h : Front.Whole header ≡ front_of (drop r.at r.trace.now)) → (record_at r.at (drop r.at r.trace.now) then ahead (past r header)) ≡ ahead r
ahead_whole r header h = sym (rest_whole r.trace.now r.at header (sym h))

-- what a walk visits is what is split from there on
visited : (r : Reader) {found : Trace} → Walk r found → found ≡ ahead r
visited r (nothing h) = sym (rest_nothing r.trace.now r.at (sym h))
visited r (cut_short h) = sym (rest_cut r.trace.now r.at (sym h))
visited r (onward {r = _} {q = q} {rest = more} header h m w) =
    let later : more ≡ ahead (past r header) = visited q w ∙ rw (m.0, m.1) in
    rw (← (the_record r.trace.now r.at header (sym h)), later) (ahead_whole r header h)

-- and there is such a walk, by the bytes that are left, no more than so many
walk_on : (r : Reader) (front : Front) → front ≡ front_of (drop r.at r.trace.now) → ((header : Header) → Walk (past r header) (ahead (past r header))) → Walk r (ahead r)
walk_on r Front.Nothing h later = subst (Walk r) (sym (rest_nothing r.trace.now r.at (sym h))) (nothing h)
walk_on r Front.Cut h later = subst (Walk r) (sym (rest_cut r.trace.now r.at (sym h))) (cut_short h)
walk_on r (Front.Whole header) h later =
    subst (Walk r) (ap (λ (first : Record). first then ahead (past r header)) (sym (the_record r.trace.now r.at header (sym h))) ∙ ahead_whole r header h) (onward header h (refl, refl) (later header))

walk : (most : ℕ) (r : Reader) → length r.trace.now ≤ r.at + most → Walk r (ahead r)
walk zero r l = let h = at_end r.trace.now r.at (omega arith) in subst (Walk r) (sym (rest_nothing r.trace.now r.at h)) (nothing (sym h))
walk (suc most) r l = walk_on r _ refl (λ header. walk most (past r header) (omega arith))

new_ahead : (lent : Bor (List ℕ)) (r : Reader) → New lent r → ahead r ≡ split lent.now
unfolding split
new_ahead lent r n = rw (n.0, n.1)

pub reader_walk : ReaderWalk
reader_walk =
    record {
      visits = λ lent r n found. (λ w. visited r w ∙ new_ahead lent r n, λ e. subst (Walk r) (new_ahead lent r n ∙ sym e) (walk (length r.trace.now) r (omega arith)));
    }
