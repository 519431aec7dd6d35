-- The numbers that a call over two chips gives, by how it ends.
-- Assumes nothing.
use mathlib.Core.Path.{◌≡◌, refl, sym, ◌∙◌, ap}
use mathlib.Core.Logic.{◌⊎◌, inl, inr, ⊎_elim, ◌≢◌}
use mathlib.Core.Bool.{true, false, true≢false}
use mathlib.Core.List.{◌∷◌}
use Prim.Native.Nat.{ℕ}
use native.Mathlib.Omega.{arith}
use Rattle.constants.specs.Numbers.{taken, too_short, out_of_range, no_selection, both_selected}
use Rattle.codes.specs.OneOf.{one_of}
use Rattle.codes.proofs.Tests.{not_listed, listed_later}
use Rattle.bus.specs.Given.{event_numbers, call_numbers}
use Rattle.bus.specs.Chip.{Event, data_read, reset_pulse}
use Rattle.bus.specs.Answer.{Reply}
use Rattle.bus.proofs.Given.{given}
use Rattle.widebus.specs.Pair.{Pair, at, Lent}
use Rattle.widebus.specs.OneAndTwo.{EitherShort, BothLong, EitherOutside}
use Rattle.widebus.specs.WideCalls.{WideCalled, refused_wide, wide_call}
use Rattle.widebus.specs.WideGiven.{wide_reply_to, wide_number, reply_on, TakenUp, EachTakes, ChipRefuses, wide_call_numbers, WideGiven}
use Rattle.widebus.specs.declared.selection.Side.{Side}
use Rattle.widebus.proofs.OneAndTwo.{one_short, long_both}
use Rattle.widebus.proofs.Endings.{of_side, replies_so, refusal_replies, refusal_says, Ending, too_short_first, ranges_first, none_selected, left_alone, right_alone, both_read, left_refuses, right_refuses, both_take, ending, short_ends, ranges_end, none_ends, left_ends, right_ends, read_ends, left_refuses_lem, right_refuses_lem, both_take_lem}

-- a number that a chip's own call gives where all is taken up
abbrev OfChip : ℕ → Type 0
OfChip n = (n ≢ too_short) × (n ≢ out_of_range) × (one_of call_numbers n ≡ true)

of_chip : (event : Event) (all : Pair Lent) → TakenUp event all → (side : Side) → OfChip (reply_on event (at side all)).number
of_chip event all t side =
    let g = given event (at side all).state (at side all).memory in
    let f = of_side event all t side in
    (λ e. true≢false (sym (g.number1.0 e) ∙ f.0), (λ e. let h = g.number2.0 e in true≢false (sym (f.1 h.1) ∙ h.2)), g.no_other)

-- why a number is given
data Reason (number : ℕ) (event : Event) (all : Pair Lent) (n : ℕ) : Type 0 where
  one : n ≡ too_short → EitherShort all → Reason number event all n
  two : n ≡ out_of_range → BothLong all → event ≢ reset_pulse → EitherOutside all → Reason number event all n
  thirteen : n ≡ no_selection → TakenUp event all → number ≢ 1 → number ≢ 2 → number ≢ 3 → Reason number event all n
  fourteen : n ≡ both_selected → TakenUp event all → number ≡ 3 → event ≡ data_read → Reason number event all n
  chips : OfChip n → Reason number event all n

-- what the reply is like: silent, or a read's
abbrev Silent : Reply → Type 0
Silent r = (r.byte ≡ 0) × (r.dummy ≡ false)

module _ (number : ℕ) (event : Event) (all : Pair Lent) where
  gives_number : {c : WideCalled} → wide_call number event all ≡ c → wide_number number event all ≡ c.reply.number
  gives_number e = ap (λ (r : Reply). r.number) (replies_so number event all e)

  reason : Ending number event all → Reason number event all (wide_number number event all)
  reason (too_short_first s) = one (refusal_says number event all _ (short_ends number event all s)) s
  reason (ranges_first s p o) = two (refusal_says number event all _ (ranges_end number event all s p o)) s p o
  reason (none_selected t a b c) = thirteen (refusal_says number event all _ (none_ends number event all t a b c)) t a b c
  reason (left_alone t a) = chips (rw (gives_number (left_ends number event all t a)) (of_chip event all t Side.Left))
  reason (right_alone t a) = chips (rw (gives_number (right_ends number event all t a)) (of_chip event all t Side.Right))
  reason (both_read t a r) = fourteen (refusal_says number event all _ (read_ends number event all t a r)) t a r
  reason (left_refuses t a other l) = chips (rw (refusal_says number event all _ (left_refuses_lem number event all t a other l)) (of_chip event all t Side.Left))
  reason (right_refuses t a other l r) = chips (rw (refusal_says number event all _ (right_refuses_lem number event all t a other l r)) (of_chip event all t Side.Right))
  reason (both_take t a other l r) = chips (rw (gives_number (both_take_lem number event all t a other l r)) (of_chip event all t Side.Left))

  module _ {n : ℕ} where
    is_one : Reason number event all n → n ≡ too_short → EitherShort all
    is_one (one e s) z = s
    is_one (two e s p o) z = absurd (omega arith)
    is_one (thirteen e t a b c) z = absurd (omega arith)
    is_one (fourteen e t a r) z = absurd (omega arith)
    is_one (chips c) z = absurd (c.0 z)

    is_two : Reason number event all n → n ≡ out_of_range → BothLong all × (event ≢ reset_pulse) × EitherOutside all
    is_two (one e s) z = absurd (omega arith)
    is_two (two e s p o) z = (s, p, o)
    is_two (thirteen e t a b c) z = absurd (omega arith)
    is_two (fourteen e t a r) z = absurd (omega arith)
    is_two (chips c) z = absurd (c.1 z)

    is_thirteen : Reason number event all n → n ≡ no_selection → TakenUp event all × (number ≢ 1) × (number ≢ 2) × (number ≢ 3)
    is_thirteen (one e s) z = absurd (omega arith)
    is_thirteen (two e s p o) z = absurd (omega arith)
    is_thirteen (thirteen e t a b c) z = (t, a, b, c)
    is_thirteen (fourteen e t a r) z = absurd (omega arith)
    is_thirteen (chips c) z = absurd (not_listed call_numbers no_selection z refl c.2)

    is_fourteen : Reason number event all n → n ≡ both_selected → TakenUp event all × (number ≡ 3) × (event ≡ data_read)
    is_fourteen (one e s) z = absurd (omega arith)
    is_fourteen (two e s p o) z = absurd (omega arith)
    is_fourteen (thirteen e t a b c) z = absurd (omega arith)
    is_fourteen (fourteen e t a r) z = (t, a, r)
    is_fourteen (chips c) z = absurd (not_listed call_numbers both_selected z refl c.2)

    no_other : Reason number event all n → one_of wide_call_numbers n ≡ true
    no_other (one e s) = rw e
    no_other (two e s p o) = rw e
    no_other (thirteen e t a b c) = rw e
    no_other (fourteen e t a r) = rw e
    no_other (chips c) = listed_later no_selection (both_selected ∷ call_numbers) n (listed_later both_selected call_numbers n c.2)

  is_zero : Ending number event all → wide_number number event all ≡ taken → TakenUp event all × EachTakes number event all
  is_zero (too_short_first s) z = absurd (omega (arith, refusal_says number event all _ (short_ends number event all s), z))
  is_zero (ranges_first s p o) z = absurd (omega (arith, refusal_says number event all _ (ranges_end number event all s p o), z))
  is_zero (none_selected t a b c) z = absurd (omega (arith, refusal_says number event all _ (none_ends number event all t a b c), z))
  is_zero (left_alone t a) z = (t, inl (a, sym (gives_number (left_ends number event all t a)) ∙ z))
  is_zero (right_alone t a) z = (t, inr (inl (a, sym (gives_number (right_ends number event all t a)) ∙ z)))
  is_zero (both_read t a r) z = absurd (omega (arith, refusal_says number event all _ (read_ends number event all t a r), z))
  is_zero (left_refuses t a other l) z = absurd (l (sym (refusal_says number event all _ (left_refuses_lem number event all t a other l)) ∙ z))
  is_zero (right_refuses t a other l r) z = absurd (r (sym (refusal_says number event all _ (right_refuses_lem number event all t a other l r)) ∙ z))
  is_zero (both_take t a other l r) z = (t, inr (inr (a, other, l, r)))

  zero_of : TakenUp event all → EachTakes number event all → wide_number number event all ≡ taken
  zero_of t each =
      ⊎_elim (λ l. gives_number (left_ends number event all t l.0) ∙ l.1)
      (λ rest. ⊎_elim (λ r. gives_number (right_ends number event all t r.0) ∙ r.1) (λ b. gives_number (both_take_lem number event all t b.0 b.1 b.2 b.3) ∙ b.2) rest)
      each

  right_counts : TakenUp event all → number ≡ 3 → event ≢ data_read → (reply_on event all.left).number ≡ taken → Ending number event all → wide_number number event all ≡ (reply_on event all.right).number
  right_counts u c mine z (too_short_first s) = absurd (true≢false (sym (one_short all s) ∙ long_both all u.long_enough))
  right_counts u c mine z (ranges_first s p o) = absurd (⊎_elim (λ l. true≢false (sym (u.in_ranges p).0 ∙ l)) (λ r. true≢false (sym (u.in_ranges p).1 ∙ r)) o)
  right_counts u c mine z (none_selected t a b d) = absurd (d c)
  right_counts u c mine z (left_alone t a) = absurd (omega arith)
  right_counts u c mine z (right_alone t a) = absurd (omega arith)
  right_counts u c mine z (both_read t a r) = absurd (mine r)
  right_counts u c mine z (left_refuses t a other l) = absurd (l z)
  right_counts u c mine z (right_refuses t a other l r) = refusal_says number event all _ (right_refuses_lem number event all t a other l r)
  right_counts u c mine z (both_take t a other l r) = gives_number (both_take_lem number event all t a other l r) ∙ l ∙ sym r

  -- a number that an event is refused with by itself is a selected chip's, and a selected chip's is given
  is_of_chip : (n : ℕ) → one_of event_numbers n ≡ true → Ending number event all → wide_number number event all ≡ n → TakenUp event all × ChipRefuses n number event all
  is_of_chip n o (too_short_first s) z = absurd (not_listed event_numbers too_short (sym z ∙ refusal_says number event all _ (short_ends number event all s)) refl o)
  is_of_chip n o (ranges_first s p r) z = absurd (not_listed event_numbers out_of_range (sym z ∙ refusal_says number event all _ (ranges_end number event all s p r)) refl o)
  is_of_chip n o (none_selected t a b c) z = absurd (not_listed event_numbers no_selection (sym z ∙ refusal_says number event all _ (none_ends number event all t a b c)) refl o)
  is_of_chip n o (left_alone t a) z = (t, inl (a, sym (gives_number (left_ends number event all t a)) ∙ z))
  is_of_chip n o (right_alone t a) z = (t, inr (inl (a, sym (gives_number (right_ends number event all t a)) ∙ z)))
  is_of_chip n o (both_read t a r) z = absurd (not_listed event_numbers both_selected (sym z ∙ refusal_says number event all _ (read_ends number event all t a r)) refl o)
  is_of_chip n o (left_refuses t a other l) z = (t, inr (inr (a, other, inl (sym (refusal_says number event all _ (left_refuses_lem number event all t a other l)) ∙ z))))
  is_of_chip n o (right_refuses t a other l r) z = (t, inr (inr (a, other, inr (l, sym (refusal_says number event all _ (right_refuses_lem number event all t a other l r)) ∙ z))))
  is_of_chip n o (both_take t a other l r) z = absurd (not_listed event_numbers taken (sym z ∙ gives_number (both_take_lem number event all t a other l r) ∙ l) refl o)

  of_chip_given : (n : ℕ) → one_of event_numbers n ≡ true → TakenUp event all → ChipRefuses n number event all → wide_number number event all ≡ n
  of_chip_given n o t refuses =
      let some : n ≢ taken = λ e. not_listed event_numbers taken e refl o in
      ⊎_elim (λ l. gives_number (left_ends number event all t l.0) ∙ l.1)
      (λ rest. ⊎_elim (λ r. gives_number (right_ends number event all t r.0) ∙ r.1)
      (λ b. ⊎_elim (λ l. refusal_says number event all _ (left_refuses_lem number event all t b.0 b.1 (λ z. some (sym l ∙ z))) ∙ l) (λ r. right_counts t b.0 b.1 r.0 (ending number event all) ∙ r.1) b.2)
      rest)
      refuses

  -- a refusal is silent, and so is a chip's own reply where it refuses or no read was asked
  of_refusal : (n : ℕ) → wide_call number event all ≡ refused_wide n all → Silent (wide_reply_to number event all)
  of_refusal n e = rw (refusal_replies number event all n e) (refl, refl)

  of_own : {c : WideCalled} (e : wide_call number event all ≡ c) (side : Side) → c.reply ≡ reply_on event (at side all) → (wide_number number event all ≢ taken) ⊎ (event ≢ data_read) → Silent (wide_reply_to number event all)
  of_own e side same h =
      let reply = replies_so number event all e ∙ same in
      rw reply ((given event (at side all).state (at side all).memory).silent (⊎_elim (λ n. inl (λ z. n (ap (λ (r : Reply). r.number) reply ∙ z))) (λ n. inr n) h))

  silent : Ending number event all → (wide_number number event all ≢ taken) ⊎ (event ≢ data_read) → Silent (wide_reply_to number event all)
  silent (too_short_first s) h = of_refusal _ (short_ends number event all s)
  silent (ranges_first s p o) h = of_refusal _ (ranges_end number event all s p o)
  silent (none_selected t a b c) h = of_refusal _ (none_ends number event all t a b c)
  silent (left_alone t a) h = of_own (left_ends number event all t a) Side.Left refl h
  silent (right_alone t a) h = of_own (right_ends number event all t a) Side.Right refl h
  silent (both_read t a r) h = of_refusal _ (read_ends number event all t a r)
  silent (left_refuses t a other l) h = of_refusal _ (left_refuses_lem number event all t a other l)
  silent (right_refuses t a other l r) h = of_refusal _ (right_refuses_lem number event all t a other l r)
  silent (both_take t a other l r) h = of_own (both_take_lem number event all t a other l r) Side.Left refl h

  pub wide_given : WideGiven number event all
  wide_given =
      let why = reason (ending number event all) in
      record {
        number0 = (is_zero (ending number event all), λ b. zero_of b.0 b.1);
        number1 = (is_one why, λ s. refusal_says number event all _ (short_ends number event all s));
        number2 = (is_two why, λ f. refusal_says number event all _ (ranges_end number event all f.0 f.1 f.2));
        number13 = (is_thirteen why, λ f. refusal_says number event all _ (none_ends number event all f.0 f.1 f.2 f.3));
        number14 = (is_fourteen why, λ f. refusal_says number event all _ (read_ends number event all f.0 f.1 f.2));
        left_replies = λ t a. replies_so number event all (left_ends number event all t a);
        right_replies = λ t a. replies_so number event all (right_ends number event all t a);
        left_refuses = λ t a other l. refusal_says number event all _ (left_refuses_lem number event all t a other l);
        right_reply_counts = λ t a other l. right_counts t a other l (ending number event all);
        chips = λ n o. (is_of_chip n o (ending number event all), λ f. of_chip_given n o f.0 f.1);
        no_other = no_other why;
        silent = silent (ending number event all);
      }
