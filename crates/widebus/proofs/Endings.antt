-- How a call over two chips ends, in full: its nine endings, each from what decides it.
-- Assumes nothing.
use mathlib.Core.Path.{◌≡◌, refl, sym, ◌∙◌, ap, subst}
use mathlib.Core.Logic.{inl, inr, ⊎_elim, ◌≢◌}
use mathlib.Core.Bool.{Bool, true, false, not, ◌&&◌, false≢true, true≢false}
use Prim.Native.Nat.{ℕ}
use lib.Dec.{eqb}
use borrow.Author.Tests.{eq-eqb, ne_eqb, eqb-true, eqb-false}
use Rattle.constants.specs.Numbers.{taken, too_short, out_of_range, no_selection, both_selected}
use Rattle.bus.specs.Image.{short, legal}
use Rattle.bus.specs.Chip.{Event, command_byte, data_written, data_read, reset_pulse}
use Rattle.bus.specs.Events.{number_of, byte_of, dummy_of}
use Rattle.bus.specs.Calls.{reply_of}
use Rattle.bus.specs.Answer.{Reply}
use Rattle.widebus.specs.Selection.{selection_of}
use Rattle.widebus.specs.Pair.{Pair, ◌beside◌, at, Lent}
use Rattle.widebus.specs.Asked.{any_short}
use Rattle.widebus.specs.OneAndTwo.{EitherShort, BothLong, EitherOutside}
use Rattle.widebus.specs.Events.{is_read}
use Rattle.widebus.specs.WideCalls.{WideCalled, wide_called, refused_wide, leaves, call_on, call_both, call_selected, asks_ranges, wide_call}
use Rattle.widebus.specs.WideGiven.{wide_reply_to, wide_number, reply_on, TakenUp}
use Rattle.widebus.specs.WideUntouched.{after}
use Rattle.widebus.specs.declared.selection.Side.{Side}
use Rattle.widebus.proofs.OneAndTwo.{short_one, one_short, none_short, long_both}

-- what the tests on an event say
is_read_lem : (event : Event) → is_read event ≡ true → event ≡ data_read
is_read_lem (command_byte b) e = absurd (false≢true e)
is_read_lem (data_written b) e = absurd (false≢true e)
is_read_lem data_read e = refl
is_read_lem reset_pulse e = absurd (false≢true e)

pub not_read : (event : Event) → event ≢ data_read → is_read event ≡ false
not_read (command_byte b) n = refl
not_read (data_written b) n = refl
not_read data_read n = absurd (n refl)
not_read reset_pulse n = refl

asks : (event : Event) → event ≢ reset_pulse → asks_ranges event ≡ true
asks (command_byte b) n = refl
asks (data_written b) n = refl
asks data_read n = refl
asks reset_pulse n = absurd (n refl)

abbrev ranges_fail : Event → Pair Lent → Bool
ranges_fail event all = asks_ranges event && not (legal all.left.state && legal all.right.state)

ranges_fail_lem : (event : Event) (all : Pair Lent) → event ≢ reset_pulse → EitherOutside all → ranges_fail event all ≡ true
ranges_fail_lem event all n o = rw (asks event n) (⊎_elim (λ l. rw l) (λ r. rw r (by (legal all.left.state))) o)
  where
    by : (t : Bool) → not (t && false) ≡ true
    by true = refl
    by false = refl

fail_ranges : (event : Event) (all : Pair Lent) → ranges_fail event all ≡ true → (event ≢ reset_pulse) × EitherOutside all
fail_ranges event all e = ((λ (p : event ≡ reset_pulse). false≢true (subst (λ event. ranges_fail event all ≡ true) p e)), by (asks_ranges event) (legal all.left.state) refl (legal all.right.state) refl e)
  where
    by : (a p : Bool) → legal all.left.state ≡ p → (q : Bool) → legal all.right.state ≡ q → (a && not (p && q)) ≡ true → EitherOutside all
    by a false f q g e = inl f
    by a true f false g e = inr g
    by true true f true g e = absurd (false≢true e)
    by false true f true g e = absurd (false≢true e)

ranges_hold : (event : Event) (all : Pair Lent) → TakenUp event all → ranges_fail event all ≡ false
ranges_hold (command_byte b) all t = let legal = t.in_ranges (λ (p : command_byte b ≡ reset_pulse). true≢false (ap asks_ranges p)) in rw (legal.0, legal.1)
ranges_hold (data_written b) all t = let legal = t.in_ranges (λ (p : data_written b ≡ reset_pulse). true≢false (ap asks_ranges p)) in rw (legal.0, legal.1)
ranges_hold data_read all t = let legal = t.in_ranges (λ (p : data_read ≡ reset_pulse). true≢false (ap asks_ranges p)) in rw (legal.0, legal.1)
ranges_hold reset_pulse all t = refl

taken_up : (event : Event) (all : Pair Lent) → any_short all ≡ false → ranges_fail event all ≡ false → TakenUp event all
taken_up event all s r = record { long_enough = none_short all s; in_ranges = λ n. by (legal all.left.state) (legal all.right.state) (rw (asks event n) at r) }
  where
    by : (p q : Bool) → not (p && q) ≡ false → (p ≡ true) × (q ≡ true)
    by true true e = (refl, refl)
    by true false e = absurd (true≢false e)
    by false q e = absurd (true≢false e)

-- what is taken up holds of each side
pub of_side : (event : Event) (all : Pair Lent) → TakenUp event all → (side : Side) → (short (at side all).state (at side all).memory ≡ false) × (event ≢ reset_pulse → legal (at side all).state ≡ true)
of_side event all t Side.Left = (t.long_enough.0, λ n. (t.in_ranges n).0)
of_side event all t Side.Right = (t.long_enough.1, λ n. (t.in_ranges n).1)

module _ (number : ℕ) (event : Event) (all : Pair Lent) where
  -- an ending says what is left and what is replied; a refusal leaves all, and says its number alone
  pub leaves_so : {c : WideCalled} → wide_call number event all ≡ c → after number event all ≡ c.lent
  leaves_so e = ap (λ (c : WideCalled). c.lent) e

  pub replies_so : {c : WideCalled} → wide_call number event all ≡ c → wide_reply_to number event all ≡ c.reply
  replies_so e = ap (λ (c : WideCalled). c.reply) e

  pub refusal_leaves : (n : ℕ) → wide_call number event all ≡ refused_wide n all → after number event all ≡ all
  unfolding refused_wide
  refusal_leaves n e = leaves_so e

  pub refusal_replies : (n : ℕ) → wide_call number event all ≡ refused_wide n all → wide_reply_to number event all ≡ record { number = n; byte = 0; dummy = false }
  unfolding refused_wide reply_of number_of byte_of dummy_of
  refusal_replies n e = replies_so e

  pub refusal_says : (n : ℕ) → wide_call number event all ≡ refused_wide n all → wide_number number event all ≡ n
  refusal_says n e = ap (λ (r : Reply). r.number) (refusal_replies n e)

  pub short_ends : EitherShort all → wide_call number event all ≡ refused_wide too_short all
  unfolding wide_call
  short_ends s = rw (one_short all s)

  pub ranges_end : BothLong all → event ≢ reset_pulse → EitherOutside all → wide_call number event all ≡ refused_wide out_of_range all
  unfolding wide_call
  ranges_end s n o = rw (long_both all s, ranges_fail_lem event all n o)

  module _ (t : TakenUp event all) where
    pub none_ends : number ≢ 1 → number ≢ 2 → number ≢ 3 → wide_call number event all ≡ refused_wide no_selection all
    unfolding wide_call selection_of
    none_ends a b c = rw (long_both all t.long_enough, ranges_hold event all t, ne_eqb number 1 a, ne_eqb number 2 b, ne_eqb number 3 c)

    pub left_ends : number ≡ 1 → wide_call number event all ≡ wide_called (reply_on event all.left) (leaves (call_on event all.left) beside all.right)
    unfolding wide_call selection_of call_selected
    left_ends a = rw (long_both all t.long_enough, ranges_hold event all t, a)

    pub right_ends : number ≡ 2 → wide_call number event all ≡ wide_called (reply_on event all.right) (all.left beside leaves (call_on event all.right))
    unfolding wide_call selection_of call_selected
    right_ends a = rw (long_both all t.long_enough, ranges_hold event all t, a)

    module _ (three : number ≡ 3) where
      pub read_ends : event ≡ data_read → wide_call number event all ≡ refused_wide both_selected all
      unfolding wide_call selection_of call_selected
      read_ends r = rw (long_both all t.long_enough, ranges_hold event all t, three, ap is_read r)

      module _ (other : event ≢ data_read) where
        both_end : wide_call number event all ≡ call_both (call_on event all.left) (call_on event all.right) all
        unfolding wide_call selection_of call_selected
        both_end = rw (long_both all t.long_enough, ranges_hold event all t, three, not_read event other)

        pub left_refuses_lem : (reply_on event all.left).number ≢ taken → wide_call number event all ≡ refused_wide (reply_on event all.left).number all
        unfolding call_both
        left_refuses_lem l = both_end ∙ rw (ne_eqb _ taken l)

        pub right_refuses_lem : (reply_on event all.left).number ≡ taken → (reply_on event all.right).number ≢ taken → wide_call number event all ≡ refused_wide (reply_on event all.right).number all
        unfolding call_both
        right_refuses_lem l r = both_end ∙ rw (eq-eqb _ taken l, ne_eqb _ taken r)

        pub both_take_lem : (reply_on event all.left).number ≡ taken → (reply_on event all.right).number ≡ taken
            → wide_call number event all ≡ wide_called (reply_on event all.left) (leaves (call_on event all.left) beside leaves (call_on event all.right))
        unfolding call_both
        both_take_lem l r = both_end ∙ rw (eq-eqb _ taken l, eq-eqb _ taken r)

-- what decides, one of nine
pub data Ending (number : ℕ) (event : Event) (all : Pair Lent) : Type 0 where
  too_short_first : EitherShort all → Ending number event all
  ranges_first : BothLong all → event ≢ reset_pulse → EitherOutside all → Ending number event all
  none_selected : TakenUp event all → number ≢ 1 → number ≢ 2 → number ≢ 3 → Ending number event all
  left_alone : TakenUp event all → number ≡ 1 → Ending number event all
  right_alone : TakenUp event all → number ≡ 2 → Ending number event all
  both_read : TakenUp event all → number ≡ 3 → event ≡ data_read → Ending number event all
  left_refuses : TakenUp event all → number ≡ 3 → event ≢ data_read → (reply_on event all.left).number ≢ taken → Ending number event all
  right_refuses : TakenUp event all → number ≡ 3 → event ≢ data_read → (reply_on event all.left).number ≡ taken → (reply_on event all.right).number ≢ taken → Ending number event all
  both_take : TakenUp event all → number ≡ 3 → event ≢ data_read → (reply_on event all.left).number ≡ taken → (reply_on event all.right).number ≡ taken → Ending number event all

pub ending : (number : ℕ) (event : Event) (all : Pair Lent) → Ending number event all
ending number event all = first (any_short all) refl (ranges_fail event all) refl
  where
    chips : TakenUp event all → number ≡ 3 → event ≢ data_read → (p : Bool) → eqb (reply_on event all.left).number taken ≡ p → (q : Bool) → eqb (reply_on event all.right).number taken ≡ q → Ending number event all
    chips t c other false p q r = left_refuses t c other (eqb-false _ _ p)
    chips t c other true p false r = right_refuses t c other (eqb-true _ _ p) (eqb-false _ _ r)
    chips t c other true p true r = both_take t c other (eqb-true _ _ p) (eqb-true _ _ r)

    both : TakenUp event all → number ≡ 3 → (r : Bool) → is_read event ≡ r → Ending number event all
    both t c true r = both_read t c (is_read_lem event r)
    both t c false r = chips t c (λ e. true≢false (sym (ap is_read e) ∙ r)) (eqb (reply_on event all.left).number taken) refl (eqb (reply_on event all.right).number taken) refl

    selected : TakenUp event all → (p : Bool) → eqb number 1 ≡ p → (q : Bool) → eqb number 2 ≡ q → (r : Bool) → eqb number 3 ≡ r → Ending number event all
    selected t true p q e r f = left_alone t (eqb-true _ _ p)
    selected t false p true e r f = right_alone t (eqb-true _ _ e)
    selected t false p false e true f = both t (eqb-true _ _ f) (is_read event) refl
    selected t false p false e false f = none_selected t (eqb-false _ _ p) (eqb-false _ _ e) (eqb-false _ _ f)

    first : (s : Bool) → any_short all ≡ s → (r : Bool) → ranges_fail event all ≡ r → Ending number event all
    first true s r e = too_short_first (short_one all s)
    first false s true e = let f = fail_ranges event all e in ranges_first (none_short all s) f.0 f.1
    first false s false e = selected (taken_up event all s e) (eqb number 1) refl (eqb number 2) refl (eqb number 3) refl
