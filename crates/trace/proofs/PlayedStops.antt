-- How a played trace ends: all of it is taken, or it stops at a record that is cut or whose header or event is refused, after whole records that are taken. Over any machine that refuses with no 0.
-- Assumes nothing.
use mathlib.Core.Path.{◌≡◌, refl, sym, ◌∙◌, ap, subst}
use mathlib.Core.Bool.{Bool, true, false}
use mathlib.Core.List.{List, ◌++◌}
use Prim.Native.Nat.{ℕ, zero, suc, ◌+◌, ◌≤◌}
use native.Mathlib.Nat.{zero-add}
use native.Mathlib.Omega.{arith}
use borrow.Author.Tests.{eqb-true, eqb-false, le-leb}
use lib.Dec.{eqb}
use lib.ListN.{length, take, drop, length-drop, take-append-drop, drop_of_length-le}
use lib.Seq.{get_or-take, drop-drop, take-add, length-take-le}
use Rattle.constants.specs.Numbers.{taken, header_cut}
use Rattle.constants.specs.Sizes.{header_size}
use Rattle.trace.specs.Records.{ended, ◌then◌, length_of, whole, record_at, split_from, split}
use Rattle.trace.specs.Play.{Machine, Ending, stopped, done, Played, played, play_record, play_from, play}
use Rattle.trace.specs.AnyMachine.{Sound, further, Reached}
use Rattle.trace.proofs.PlayedFurther.{record_further_lem}
use Rattle.trace.proofs.WhatStands.{room}
use Rattle.trace.proofs.SplitLaws.{split_nothing, split_cut, split_whole, rest, same_record}
use Rattle.trace.proofs.PlayedJoined.{further_on, joined}

pub data First {S E : Type 0} (machine : Machine S E) (trace : List ℕ) (s : S) (p : Played S) : Type 0 where
  all : p.number ≡ taken → First machine trace s p
  cut_at : (at count : ℕ) (t : S) → Reached machine trace s at count t → (length (drop at trace) ≡ 0 → ⊥) → whole (drop at trace) ≡ false → p ≡ played header_cut at count t → First machine trace s p
  stop_at : (at count : ℕ) (t : S) → Reached machine trace s at count t → whole (drop at trace) ≡ true → (number offset : ℕ) (u : S) → play_record machine (record_at at (drop at trace)) t ≡ stopped number offset u → p ≡ played number offset count u → First machine trace s p

-- the record that stands first among the bytes, alone
module _ (bytes : List ℕ) (h : whole bytes ≡ true) where
  abbrev size : ℕ
  size = header_size + length_of bytes

  front_length : length_of (take size bytes) ≡ length_of bytes
  front_length = rw (get_or-take size bytes 0 0 (omega arith), get_or-take size bytes 1 0 (omega arith))

  front_whole : whole (take size bytes) ≡ true
  front_whole = rw (front_length, length-take-le size bytes (room bytes h).1, le-leb header_size size (omega arith), le-leb size size (omega arith))

  front_record : record_at 0 (take size bytes) ≡ record_at 0 bytes
  front_record = sym (same_record (take size bytes) (drop size bytes) front_whole 0) ∙ ap (record_at 0) (take-append-drop size bytes)

  front_split : split (take size bytes) ≡ (record_at 0 bytes then ended size)
  unfolding split split_from
  front_split =
      split_whole 0 (take size bytes) front_whole ∙
      rw (front_record, front_length, drop_of_length-le (take size bytes) {i = size} (omega (arith, length-take-le size bytes (room bytes h).1)), zero-add (header_size + length_of bytes))

module _ {S E : Type 0} (machine : Machine S E) (sound : Sound machine) where
  module _ (bytes : List ℕ) (s t : S) (h : whole bytes ≡ true) (e : play_record machine (record_at 0 bytes) s ≡ done t) where
    front_played : Reached machine bytes s (size bytes h) 1 t
    unfolding play_from
    front_played = rw (front_split bytes h, e)

    -- the record is done, and more is played from what it left
    then_more : (more : List ℕ) → play machine (split (take (size bytes h) bytes ++ more)) s ≡ further (size bytes h) 1 (play machine (split more) t)
    then_more more = joined machine sound (take (size bytes h) bytes) more s (ap (λ p. p.number) front_played) ∙ rw front_played

    reach : (at count : ℕ) (u : S) → Reached machine (drop (size bytes h) bytes) t at count u → Reached machine bytes s (size bytes h + at) (1 + count) u
    reach at count u r = rw (take-add (size bytes h) at bytes) (then_more (take at (drop (size bytes h) bytes)) ∙ rw r)

    later : {p : Played S} → First machine (drop (size bytes h) bytes) t p → First machine bytes s (further (size bytes h) 1 p)
    later (all n) = all n
    later (cut_at at count u r left cut q) =
        cut_at (size bytes h + at) (1 + count) u (reach at count u r) (rw (← (drop-drop at (size bytes h) bytes)) left) (rw (← (drop-drop at (size bytes h) bytes)) cut) (rw q)
    later (stop_at at count u r there number offset v stop q) =
        stop_at (size bytes h + at) (1 + count) u (reach at count u r) (rw (← (drop-drop at (size bytes h) bytes)) there) number (size bytes h + offset) v
        (rw (← (drop-drop at (size bytes h) bytes)) (record_further_lem machine (size bytes h) (record_at at (drop at (drop (size bytes h) bytes))) u ∙ rw stop))
        (rw q)

  by_front : (bytes : List ℕ) (s : S) → ((h : whole bytes ≡ true) (t : S) → First machine (drop (size bytes h) bytes) t (play machine (split (drop (size bytes h) bytes)) t)) → First machine bytes s (play machine (split bytes) s)
  unfolding split split_from play_from
  by_front bytes s again = by (eqb (length bytes) 0) (whole bytes) refl refl
    where
      by_record : (h : whole bytes ≡ true) (ending : Ending S) → play_record machine (record_at 0 bytes) s ≡ ending → First machine bytes s (play machine (split bytes) s)
      by_record h (stopped number offset u) e = stop_at 0 0 s refl h number offset u e (rw (split_whole 0 bytes h, e))
      by_record h (done t) e =
          subst (First machine bytes s) (sym (ap (λ b. play machine (split b) s) (sym (take-append-drop (size bytes h) bytes)) ∙ then_more bytes s t h e (drop (size bytes h) bytes))) (later bytes s t h e (again h t))

      by : (empty there : Bool) → eqb (length bytes) 0 ≡ empty → whole bytes ≡ there → First machine bytes s (play machine (split bytes) s)
      by true there p q = rw (split_nothing 0 bytes (eqb-true (length bytes) 0 p)) (all refl)
      by false true p q = by_record q (play_record machine (record_at 0 bytes) s) refl
      by false false p q =
          let some = eqb-false (length bytes) 0 p in
          cut_at 0 0 s refl some q (rw (split_cut 0 bytes some q))

  -- by the bytes that are left, no more than so many
  first_within : (most : ℕ) (bytes : List ℕ) (s : S) → length bytes ≤ most → First machine bytes s (play machine (split bytes) s)
  first_within zero bytes s l = by_front bytes s (λ h t. absurd (omega (arith, (room bytes h).1)))
  first_within (suc most) bytes s l = by_front bytes s (λ h t. first_within most (drop (size bytes h) bytes) t (omega (arith, (room bytes h).1, length-drop (size bytes h) bytes)))

  pub first : (bytes : List ℕ) (s : S) → First machine bytes s (play machine (split bytes) s)
  first bytes s = first_within (length bytes) bytes s (omega arith)

  -- the rest is played from what the records before it left
  pub from_there : (trace : List ℕ) (s t : S) (at count : ℕ) → Reached machine trace s at count t → play machine (split trace) s ≡ play_from machine (rest trace at) count t
  from_there trace s t at count r =
      ap (λ b. play machine (split b) s) (sym (take-append-drop at trace)) ∙
      joined machine sound (take at trace) (drop at trace) s (ap (λ p. p.number) r) ∙
      rw r (sym (further_on machine sound at count (drop at trace) t))
