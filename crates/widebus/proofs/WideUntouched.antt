-- What a call over two chips leaves as it was, by how it ends.
-- Assumes nothing.
use mathlib.Core.Path.{◌≡◌, refl, sym, ◌∙◌, ap}
use mathlib.Core.Logic.{◌≢◌}
use Prim.Native.Nat.{ℕ}
use native.Mathlib.Omega.{arith}
use lib.ListN.{length, drop}
use Rattle.constants.specs.Sizes.{image_size, memory_size}
use Rattle.constants.specs.Numbers.{taken}
use Rattle.bus.specs.Chip.{Event}
use Rattle.bus.specs.Answer.{Reply}
use Rattle.bus.proofs.Untouched.{untouched}
use Rattle.widebus.specs.Pair.{Pair, at, Lent}
use Rattle.widebus.specs.WideCalls.{WideCalled, refused_wide, leaves, call_on, wide_call}
use Rattle.widebus.specs.WideGiven.{wide_number, reply_on}
use Rattle.widebus.specs.WideUntouched.{after, WideUntouched}
use Rattle.widebus.specs.declared.selection.Side.{Side}
use Rattle.widebus.proofs.Endings.{Ending, too_short_first, ranges_first, none_selected, left_alone, right_alone, both_read, left_refuses, right_refuses, both_take, ending, leaves_so, replies_so, refusal_leaves, refusal_says, short_ends, ranges_end, none_ends, left_ends, right_ends, read_ends, left_refuses_lem, right_refuses_lem, both_take_lem}

-- a chip's own call that refuses leaves what it is lent
own : (event : Event) (one : Lent) → (reply_on event one).number ≢ taken → leaves (call_on event one) ≡ one
own event one n = let u = (untouched event one.state one.memory).refused n in rw (u.0, u.1)

module _ (number : ℕ) (event : Event) (all : Pair Lent) where
  later : {c : WideCalled} → wide_call number event all ≡ c → after number event all ≡ c.lent
  later = leaves_so number event all

  kept : (n : ℕ) → wide_call number event all ≡ refused_wide n all → after number event all ≡ all
  kept = refusal_leaves number event all

  -- what each chip is left as: as it was, or as its own call leaves it
  pub each : (side : Side) (P : Lent → Type 0) → P (at side all) → P (leaves (call_on event (at side all))) → P (at side (after number event all))
  each side P same called = by (ending number event all) side same called
    where
      all_kept : (n : ℕ) → wide_call number event all ≡ refused_wide n all → (side : Side) → P (at side all) → P (at side (after number event all))
      all_kept n e side same = rw (kept n e) same

      by : Ending number event all → (side : Side) → P (at side all) → P (leaves (call_on event (at side all))) → P (at side (after number event all))
      by (too_short_first s) side same called = all_kept _ (short_ends number event all s) side same
      by (ranges_first s n o) side same called = all_kept _ (ranges_end number event all s n o) side same
      by (none_selected t a b c) side same called = all_kept _ (none_ends number event all t a b c) side same
      by (left_alone t a) Side.Left same called = rw (later (left_ends number event all t a)) called
      by (left_alone t a) Side.Right same called = rw (later (left_ends number event all t a)) same
      by (right_alone t a) Side.Left same called = rw (later (right_ends number event all t a)) same
      by (right_alone t a) Side.Right same called = rw (later (right_ends number event all t a)) called
      by (both_read t a r) side same called = all_kept _ (read_ends number event all t a r) side same
      by (left_refuses t a other l) side same called = all_kept _ (left_refuses_lem number event all t a other l) side same
      by (right_refuses t a other l r) side same called = all_kept _ (right_refuses_lem number event all t a other l r) side same
      by (both_take t a other l r) Side.Left same called = rw (later (both_take_lem number event all t a other l r)) called
      by (both_take t a other l r) Side.Right same called = rw (later (both_take_lem number event all t a other l r)) called

  refused : Ending number event all → wide_number number event all ≢ taken → after number event all ≡ all
  refused (too_short_first s) n = kept _ (short_ends number event all s)
  refused (ranges_first s p o) n = kept _ (ranges_end number event all s p o)
  refused (none_selected t a b c) n = kept _ (none_ends number event all t a b c)
  refused (left_alone t a) n = let e = left_ends number event all t a in rw (later e, own event all.left (λ z. n (ap (λ (r : Reply). r.number) (replies_so number event all e) ∙ z)))
  refused (right_alone t a) n = let e = right_ends number event all t a in rw (later e, own event all.right (λ z. n (ap (λ (r : Reply). r.number) (replies_so number event all e) ∙ z)))
  refused (both_read t a r) n = kept _ (read_ends number event all t a r)
  refused (left_refuses t a other l) n = kept _ (left_refuses_lem number event all t a other l)
  refused (right_refuses t a other l r) n = kept _ (right_refuses_lem number event all t a other l r)
  refused (both_take t a other l r) n = absurd (n (ap (λ (r : Reply). r.number) (replies_so number event all (both_take_lem number event all t a other l r)) ∙ l))

  right_stays : Ending number event all → number ≡ 1 → (after number event all).right ≡ all.right
  right_stays (too_short_first s) n = rw (kept _ (short_ends number event all s))
  right_stays (ranges_first s p o) n = rw (kept _ (ranges_end number event all s p o))
  right_stays (none_selected t a b c) n = absurd (a n)
  right_stays (left_alone t a) n = rw (later (left_ends number event all t a))
  right_stays (right_alone t a) n = absurd (omega arith)
  right_stays (both_read t a r) n = absurd (omega arith)
  right_stays (left_refuses t a other l) n = absurd (omega arith)
  right_stays (right_refuses t a other l r) n = absurd (omega arith)
  right_stays (both_take t a other l r) n = absurd (omega arith)

  left_stays : Ending number event all → number ≡ 2 → (after number event all).left ≡ all.left
  left_stays (too_short_first s) n = rw (kept _ (short_ends number event all s))
  left_stays (ranges_first s p o) n = rw (kept _ (ranges_end number event all s p o))
  left_stays (none_selected t a b c) n = absurd (b n)
  left_stays (left_alone t a) n = absurd (omega arith)
  left_stays (right_alone t a) n = rw (later (right_ends number event all t a))
  left_stays (both_read t a r) n = absurd (omega arith)
  left_stays (left_refuses t a other l) n = absurd (omega arith)
  left_stays (right_refuses t a other l r) n = absurd (omega arith)
  left_stays (both_take t a other l r) n = absurd (omega arith)

  says : (n : ℕ) → wide_call number event all ≡ refused_wide n all → wide_number number event all ≡ n
  says = refusal_says number event all

  both_change : Ending number event all → number ≡ 3 → wide_number number event all ≡ taken → ((after number event all).left ≡ leaves (call_on event all.left)) × ((after number event all).right ≡ leaves (call_on event all.right))
  both_change (too_short_first s) n z = absurd (omega (arith, says _ (short_ends number event all s), z))
  both_change (ranges_first s p o) n z = absurd (omega (arith, says _ (ranges_end number event all s p o), z))
  both_change (none_selected t a b c) n z = absurd (c n)
  both_change (left_alone t a) n z = absurd (omega arith)
  both_change (right_alone t a) n z = absurd (omega arith)
  both_change (both_read t a r) n z = absurd (omega (arith, says _ (read_ends number event all t a r), z))
  both_change (left_refuses t a other l) n z = absurd (l (sym (says _ (left_refuses_lem number event all t a other l)) ∙ z))
  both_change (right_refuses t a other l r) n z = absurd (r (sym (says _ (right_refuses_lem number event all t a other l r)) ∙ z))
  both_change (both_take t a other l r) n z = let e = both_take_lem number event all t a other l r in (rw (later e), rw (later e))

  pub wide_untouched : WideUntouched number event all
  wide_untouched =
      record {
        refused = refused (ending number event all);
        right_stays = right_stays (ending number event all);
        left_stays = left_stays (ending number event all);
        left_changes = λ t a. rw (later (left_ends number event all t a));
        right_changes = λ t a. rw (later (right_ends number event all t a));
        both_change = both_change (ending number event all);
        past = λ side. each side (λ (one : Lent). (drop image_size one.state ≡ drop image_size (at side all).state) × (drop memory_size one.memory ≡ drop memory_size (at side all).memory)) (refl, refl) (untouched event (at side all).state (at side all).memory).past;
        lengths = λ side. each side (λ (one : Lent). (length one.state ≡ length (at side all).state) × (length one.memory ≡ length (at side all).memory)) (refl, refl) (untouched event (at side all).state (at side all).memory).lengths;
      }
