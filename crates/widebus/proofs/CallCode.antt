-- How the code's calls end, by its tests: refused by what is asked first or by the selection's number, or as the selected chips' own calls do.
-- Assumes nothing.
use mathlib.Core.Path.{◌≡◌, refl, sym, ◌∙◌, ap}
use mathlib.Core.Bool.{Bool, true, false, cond, not, ◌&&◌, false≢true}
use mathlib.Core.List.{List}
use Prim.Native.Nat.{ℕ}
use Rattle.std.specs.Prelude.{Ok, Err}
use Rattle.constants.specs.Numbers.{taken, too_short, out_of_range, both_selected}
use Rattle.constants.specs.Refusals.{Met, number_of_refusal, number_met}
use Rattle.constants.specs.declared.refusal.Refusal.{Refusal}
use Rattle.bus.specs.Image.{legal}
use Rattle.bus.specs.Registers.{power_on}
use Rattle.bus.specs.Chip.{Event, reset_pulse}
use Rattle.bus.specs.Events.{number_of, byte_of, dummy_of}
use Rattle.bus.specs.Result.{refuses, gives, on_result}
use Rattle.bus.specs.Calls.{Called, called, reply_of, call}
use Rattle.bus.specs.CallsOnChip.{imaged_in}
use Rattle.bus.specs.OnState.{on_state, numbered}
use Rattle.bus.specs.Answer.{Reply, reply_to}
use Rattle.bus.proofs.CallsOnChip.{calls_on_chip}
use Rattle.bus.proofs.Legal.{long}
use Rattle.bus.proofs.OnState.{on_accepted_lem}
use Rattle.widebus.specs.Selection.{selection_of}
use Rattle.widebus.specs.Pair.{Pair, ◌beside◌, Lent, lent}
use Rattle.widebus.specs.Asked.{any_short}
use Rattle.widebus.specs.OneAndTwo.{BothLong, BothLegal}
use Rattle.widebus.specs.Events.{is_read}
use Rattle.widebus.specs.WideCalls.{WideCalled, wide_called, refused_wide, call_both, call_selected, asks_ranges, wide_call}
use Rattle.widebus.specs.OnBoth.{lengths_met, ranges_met, on_both, Ranged}
use Rattle.widebus.specs.declared.selection.Selection.{Selection}
use Rattle.widebus.proofs.OneAndTwo.{none_short}
use Rattle.widebus.proofs.Numbered.{none_refused, not_taken}

-- the selection's number decides
abbrev pub Decided : ℕ → Event → Pair Lent → Type 0
Decided number e all = wide_call number e all ≡ on_result (selection_of number) (λ refusal. refused_wide refusal all) (λ selection. call_selected selection e all)

-- 1 and 2 asked, the selection's number decides, and an event on either state is its call
pub record TakenUp (number : ℕ) (e : Event) (all : Pair Lent) : Type 0 where
  pub decided : Decided number e all
  pub on_left : on_state e all.left.state all.left.memory ≡ call e all.left.state all.left.memory
  pub on_right : on_state e all.right.state all.right.memory ≡ call e all.right.state all.right.memory

-- a refusal that is replied, and leaves all as it was
as_refused : {n : ℕ} (refusal : Refusal) (all : Pair Lent) → n ≡ number_of_refusal refusal → wide_called (reply_to (Err refusal)) all ≡ refused_wide n all
unfolding refused_wide reply_of number_of byte_of dummy_of
as_refused refusal all e = rw e

-- what is asked first, by the tests
module _ (all : Pair Lent) (rest : WideCalled) {refusal : Refusal} where
  short_first : (s : Bool) {other : Met} → ◌≡◌ {A = Met} (cond s (Err Refusal.TooShort) other) (Err refusal) → (other ≡ Err refusal → wide_called (reply_to (Err refusal)) all ≡ rest)
      → wide_called (reply_to (Err refusal)) all ≡ cond s (refused_wide too_short all) rest
  short_first true e more = as_refused refusal all (ap (λ (m : Met). number_met m) e)
  short_first false e more = more e

  outside_next : (t : Bool) → ◌≡◌ {A = Met} (cond t (Ok tt) (Err Refusal.OutOfRange)) (Err refusal) → wide_called (reply_to (Err refusal)) all ≡ cond (not t) (refused_wide out_of_range all) rest
  outside_next true e = absurd (none_refused e)
  outside_next false e = as_refused refusal all (ap (λ (m : Met). number_met m) e)

-- what is taken up
not_short : (s : Bool) {done : Unit {0}} {other : Met} → ◌≡◌ {A = Met} (cond s (Err Refusal.TooShort) other) (Ok done) → (s ≡ false) × (other ≡ Ok done)
not_short true e = absurd (none_refused (sym e))
not_short false e = (refl, e)

in_ranges : (t : Bool) {done : Unit {0}} → ◌≡◌ {A = Met} (cond t (Ok tt) (Err Refusal.OutOfRange)) (Ok done) → t ≡ true
in_ranges true e = refl
in_ranges false e = absurd (none_refused (sym e))

both_true : (s t : Bool) → (s && t) ≡ true → (s ≡ true) × (t ≡ true)
both_true true t e = (refl, e)
both_true false t e = absurd (false≢true e)

pub long_enough : (all : Pair Lent) {done : Unit {0}} → Ok done ≡ lengths_met all → BothLong all
unfolding lengths_met
long_enough all e = none_short all (not_short (any_short all) (sym e)).0

pub ranged : (all : Pair Lent) {done : Unit {0}} → Ok done ≡ ranges_met all → BothLong all × BothLegal all
unfolding ranges_met
ranged all e = let f = not_short (any_short all) (sym e) in (none_short all f.0, both_true (legal all.left.state) (legal all.right.state) (in_ranges (legal all.left.state && legal all.right.state) f.1))

-- what the states were asked, as the functions inside the crate want it
pub both_ranged : (all : Pair Lent) {done : Unit {0}} → Ok done ≡ ranges_met all → Ranged all.left.state × Ranged all.right.state
both_ranged all e =
    let f = ranged all e in
    (record { enough = (long all.left.state all.left.memory f.0.0).0; in_ranges = f.1.0 }, record { enough = (long all.right.state all.right.memory f.0.1).0; in_ranges = f.1.1 })

module _ (number : ℕ) (e : Event) (all : Pair Lent) where
  pub lengths_refuse : {refusal : Refusal} → Err refusal ≡ lengths_met all → wide_called (reply_to (Err refusal)) all ≡ wide_call number e all
  unfolding lengths_met wide_call
  lengths_refuse m = short_first all _ (any_short all) (sym m) (λ none. absurd (none_refused none))

  -- an event that asks the lengths alone
  pub lengths_alone : {done : Unit {0}} → Ok done ≡ lengths_met all → asks_ranges e ≡ false → Decided number e all
  unfolding wide_call
  lengths_alone m none = let f = long_enough all m in rw (f.0, f.1, none)

  -- one that asks the ranges too
  module _ (asks : asks_ranges e ≡ true) where
    pub ranges_refuse : {refusal : Refusal} → Err refusal ≡ ranges_met all → wide_called (reply_to (Err refusal)) all ≡ wide_call number e all
    unfolding ranges_met wide_call
    ranges_refuse m = rw asks (short_first all _ (any_short all) (sym m) (outside_next all _ (legal all.left.state && legal all.right.state)))

    pub taken_up : {done : Unit {0}} → Ok done ≡ ranges_met all → TakenUp number e all
    unfolding wide_call
    taken_up m =
        let f = ranged all m in
        record {
          decided = rw (f.0.0, f.0.1, asks, f.1.0, f.1.1);
          on_left = on_accepted_lem e all.left.state all.left.memory f.0.0 f.1.0;
          on_right = on_accepted_lem e all.right.state all.right.memory f.0.1 f.1.1;
        }

-- how it ends then
module _ (number : ℕ) (e : Event) (all : Pair Lent) (decided : Decided number e all) where
  pub not_selected : (refusal : Refusal) → refuses (number_of_refusal refusal) ≡ selection_of number → wide_called (reply_to (Err refusal)) all ≡ wide_call number e all
  not_selected refusal named = as_refused refusal all refl ∙ sym (decided ∙ rw (← named) refl)

  module _ {selection : Selection} (named : gives selection ≡ selection_of number) where
    selected : {outcome : WideCalled} → outcome ≡ call_selected selection e all → outcome ≡ wide_call number e all
    selected o = o ∙ sym (decided ∙ rw (← named) refl)

    pub by_left : selection ≡ Selection.Left → {reply : Reply} {ls lm : List ℕ} → called reply ls lm ≡ call e all.left.state all.left.memory → wide_called reply (lent ls lm beside all.right) ≡ wide_call number e all
    unfolding call_selected
    by_left l h = selected (rw l (ap (λ (c : Called). wide_called c.reply (lent c.state c.memory beside all.right)) h))

    pub by_right : selection ≡ Selection.Right → {reply : Reply} {rs rm : List ℕ} → called reply rs rm ≡ call e all.right.state all.right.memory → wide_called reply (all.left beside lent rs rm) ≡ wide_call number e all
    unfolding call_selected
    by_right l h = selected (rw l (ap (λ (c : Called). wide_called c.reply (all.left beside lent c.state c.memory)) h))

    pub by_both : selection ≡ Selection.Both → is_read e ≡ false → {outcome : WideCalled} → outcome ≡ call_both (call e all.left.state all.left.memory) (call e all.right.state all.right.memory) all → outcome ≡ wide_call number e all
    unfolding call_selected
    by_both l none h = selected (rw (l, none) h)

    -- a read with both selected is refused 14
    pub read_both : selection ≡ Selection.Both → is_read e ≡ true → {n : ℕ} → n ≡ both_selected → wide_called (numbered n) all ≡ wide_call number e all
    unfolding call_selected refused_wide reply_of number_of byte_of dummy_of
    read_both l reads same = selected (rw (l, reads, same))

-- on states that were asked
module _ (number : ℕ) (e : Event) (all : Pair Lent) (up : TakenUp number e all) {selection : Selection} (named : gives selection ≡ selection_of number) where
  pub on_left : selection ≡ Selection.Left → {reply : Reply} {ls lm : List ℕ} → called reply ls lm ≡ on_state e all.left.state all.left.memory → wide_called reply (lent ls lm beside all.right) ≡ wide_call number e all
  on_left l h = by_left number e all up.decided named l (h ∙ up.on_left)

  pub on_right : selection ≡ Selection.Right → {reply : Reply} {rs rm : List ℕ} → called reply rs rm ≡ on_state e all.right.state all.right.memory → wide_called reply (all.left beside lent rs rm) ≡ wide_call number e all
  on_right l h = by_right number e all up.decided named l (h ∙ up.on_right)

  pub on_both_lem : selection ≡ Selection.Both → is_read e ≡ false → {outcome : WideCalled} → outcome ≡ on_both e all → outcome ≡ wide_call number e all
  on_both_lem l none h = by_both number e all up.decided named l none (h ∙ rw (up.on_left, up.on_right))

-- a pulse on the reset pin for both chips, which both take
module _ (number : ℕ) (all : Pair Lent) (decided : Decided number reset_pulse all) (enough : BothLong all) where
  abbrev left_pin : call reset_pulse all.left.state all.left.memory ≡ called (numbered taken) (imaged_in all.left.state power_on) all.left.memory
  left_pin = calls_on_chip.the_reset_pin all.left.state all.left.memory enough.0

  pub pin_taken : (refusal : Refusal) {ls lm : List ℕ} → called (reply_to (Err refusal)) ls lm ≡ call reset_pulse all.left.state all.left.memory → ⊥
  pin_taken refusal h = not_taken refusal (ap (λ (c : Called). c.reply.number) (h ∙ left_pin))

  pub pin_both : {selection : Selection} → gives selection ≡ selection_of number → selection ≡ Selection.Both
      → {first reply : Reply} {ls rs : List ℕ} → called first ls all.left.memory ≡ call reset_pulse all.left.state all.left.memory
      → called reply rs all.right.memory ≡ call reset_pulse all.right.state all.right.memory
      → wide_called reply (lent ls all.left.memory beside lent rs all.right.memory) ≡ wide_call number reset_pulse all
  unfolding call_both
  pin_both named l {ls = ls} h k =
      let right = calls_on_chip.the_reset_pin all.right.state all.right.memory enough.1 in
      by_both number reset_pulse all decided named l refl
      (rw (left_pin, right)
      (ap (λ (c : Called). wide_called c.reply (lent ls all.left.memory beside lent c.state c.memory)) (k ∙ right)
      ∙ ap (λ (c : Called). wide_called (numbered taken) (lent c.state c.memory beside lent (imaged_in all.right.state power_on) all.right.memory)) (h ∙ left_pin)))
