-- Walking a trace with `ssd1815b_record` visits exactly the records of its split.
-- Assumes nothing.
use mathlib.Core.Path.{◌≡◌, refl, sym, ◌∙◌, ap, subst}
use mathlib.Core.List.{List}
use Prim.Native.Nat.{ℕ, zero, suc, ◌+◌, ◌≤◌, ◌<◌}
use native.Mathlib.Omega.{arith}
use lib.ListN.{length, drop}
use lib.Seq.{slice}
use Rattle.constants.specs.Numbers.{taken, header_cut}
use Rattle.constants.specs.Sizes.{header_size}
use Rattle.trace.specs.Records.{Trace, ended, cut, ◌then◌, split}
use Rattle.trace.specs.Front.{front_of}
use Rattle.trace.specs.declared.records.Front.{Front}
use Rattle.trace.proofs.WhatStands.{at_end, the_record}
use Rattle.trace.proofs.SplitLaws.{rest, rest_nothing, rest_cut, rest_whole}
use Rattle.host.specs.Record.{RecordReply, record_of}
use Rattle.host.specs.RecordWalk.{given_at, Walk, nothing, cut_short, onward, RecordWalk}

module _ (bytes : List ℕ) (at : ℕ) where
  -- 0 and the offset itself stand for the trace's end
  at_nothing : (front : Front) → front_of (drop at bytes) ≡ front → (record_of front at).number ≡ taken → (record_of front at).next ≡ at → ended at ≡ rest bytes at
  unfolding record_of
  at_nothing Front.Nothing h n s = sym (rest_nothing bytes at h)
  at_nothing Front.Cut h n s = absurd (omega (arith, n))
  at_nothing (Front.Whole header) h n s = absurd (omega (arith, s))

  -- 8 stands for what is cut
  at_cut : (front : Front) → front_of (drop at bytes) ≡ front → (record_of front at).number ≡ header_cut → cut at ≡ rest bytes at
  unfolding record_of
  at_cut Front.Nothing h n = absurd (omega (arith, n))
  at_cut Front.Cut h n = sym (rest_cut bytes at h)
  at_cut (Front.Whole header) h n = absurd (omega (arith, n))

  -- 0 and another offset stand for the record, and the rest from that offset on
  at_record : (front : Front) → front_of (drop at bytes) ≡ front → (record_of front at).number ≡ taken → ((record_of front at).next ≡ at → ⊥) → (more : Trace) → more ≡ rest bytes (record_of front at).next
      → (record { kind = (record_of front at).kind; payload = slice (at + header_size) (record_of front at).next bytes; place = at } then more) ≡ rest bytes at
  unfolding record_of
  at_record Front.Nothing h n d more e = absurd (d refl)
  at_record Front.Cut h n d more e = absurd (omega (arith, n))
  at_record (Front.Whole header) h n d more e = rw (← (the_record bytes at header h), e) (sym (rest_whole bytes at header h))

-- what a walk visits is what is split from there on
visited : (bytes : List ℕ) (at : ℕ) {found : Trace} → Walk bytes at found → found ≡ rest bytes at
visited bytes at (nothing n s) = at_nothing bytes at _ refl n s
visited bytes at (cut_short n) = at_cut bytes at _ refl n
visited bytes at (onward {rest = more} n d w) = at_record bytes at _ refl n d more (visited bytes (given_at bytes at).next w)

-- at the end there is such a walk
walk_end : (bytes : List ℕ) (at : ℕ) → front_of (drop at bytes) ≡ Front.Nothing → Walk bytes at (rest bytes at)
unfolding record_of
walk_end bytes at h =
    let e : given_at bytes at ≡ record_of Front.Nothing at = ap (λ front. record_of front at) h in
    subst (Walk bytes at) (sym (rest_nothing bytes at h)) (nothing (ap (λ (r : RecordReply). r.number) e) (ap (λ (r : RecordReply). r.next) e))

-- and before it, by the bytes that are left, no more than so many
walk_on : (bytes : List ℕ) (at : ℕ) (front : Front) → front_of (drop at bytes) ≡ front → ((next : ℕ) → at < next → Walk bytes next (rest bytes next)) → Walk bytes at (rest bytes at)
unfolding record_of
walk_on bytes at Front.Nothing h later = walk_end bytes at h
walk_on bytes at Front.Cut h later =
    let e : given_at bytes at ≡ record_of Front.Cut at = ap (λ front. record_of front at) h in
    subst (Walk bytes at) (sym (rest_cut bytes at h)) (cut_short (ap (λ (r : RecordReply). r.number) e))
walk_on bytes at (Front.Whole header) h later =
    let e : given_at bytes at ≡ record_of (Front.Whole header) at = ap (λ front. record_of front at) h in
    let number = ap (λ (r : RecordReply). r.number) e in
    let next : (given_at bytes at).next ≡ at + header_size + header.length = ap (λ (r : RecordReply). r.next) e in
    let other : (given_at bytes at).next ≡ at → ⊥ = λ s. omega (arith, s, next) in
    subst (Walk bytes at) (at_record bytes at _ refl number other _ refl) (onward number other (later (given_at bytes at).next (omega (arith, next))))

walk : (most : ℕ) (bytes : List ℕ) (at : ℕ) → length bytes ≤ at + most → Walk bytes at (rest bytes at)
walk zero bytes at l = walk_end bytes at (at_end bytes at (omega arith))
walk (suc most) bytes at l = walk_on bytes at _ refl (λ next h. walk most bytes next (omega (arith, h, l)))

whole : (bytes : List ℕ) → rest bytes 0 ≡ split bytes
unfolding split
whole bytes = refl

pub record_walk : RecordWalk
record_walk = record { visits = λ bytes found. (λ w. visited bytes 0 w ∙ whole bytes, λ e. subst (Walk bytes 0) (whole bytes ∙ sym e) (walk (length bytes) bytes 0 (omega arith))) }
