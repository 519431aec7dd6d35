-- What the chip's headers and events are refused with: never 0; and that the number an event meets by its call's reply is the one that its replay refuses with.
-- Assumes nothing.
use mathlib.Core.Path.{◌≡◌, refl, subst, sym}
use mathlib.Core.Bool.{Bool, true, false, cond, ◌||◌, not}
use mathlib.Core.List.{List}
use mathlib.Core.Logic.{◌≢◌}
use Prim.Native.Nat.{ℕ, ◌<◌}
use native.Mathlib.Omega.{arith}
use borrow.Author.Tests.{eqb-false, ne_eqb}
use lib.Dec.{eqb}
use Rattle.constants.specs.Numbers.{taken, kind_unknown, read_differs}
use Rattle.bus.specs.Chip.{Chip, data_read, step}
use Rattle.bus.specs.Answer.{After}
use Rattle.bus.specs.Answer.{Answer}
use Rattle.bus.specs.Events.{number_of, byte_of, dummy_of}
use Rattle.bus.specs.Calls.{reply_of}
use Rattle.bus.proofs.Answers.{Callable, StandsFor, step_answers}
use Rattle.trace.specs.Play.{Result, refuses, gives}
use Rattle.trace.specs.Kinds.{Recorded, event, read_as, chip_of, happened, compared, replay, the_chip}
use Rattle.trace.specs.AnyMachine.{Sound}
use Rattle.trace.specs.ByCalls.{called_by, meets}
use Rattle.trace.proofs.ChipKinds.{Kind, commands, writes, reads, reset, none, by_kind}

-- what holds of the number that a result refuses with
abbrev pub Refusing : {A : Type 0} → (ℕ → Type 0) → Result A → Type 0
Refusing P (refuses number) = P number
Refusing P (gives a) = Unit {0}

-- a header is refused with 9, and then its kind is none
pub headed : {kind : ℕ} {payload : List ℕ} {result : Result (List Recorded)} → Kind kind payload result → Refusing (λ number. number ≡ kind_unknown) result
headed (commands k) = tt
headed (writes k) = tt
headed (reads k) = tt
headed (reset k e) = tt
headed (none n) = refl

-- an event is refused with its answer's number, which is a call's, or with 10: it is a read, taken and no dummy, and answers another byte
pub data Refusal (recorded : Recorded) (c : Chip) (number : ℕ) : Type 0 where
  own : taken < number → Callable number → Refusal recorded c number
  differing : (byte : ℕ) (after : After) → recorded ≡ read_as byte → (step data_read c.registers c.memory).answer ≡ Answer.Taken after → after.dummy ≡ false → (after.byte ≡ byte → ⊥) → number ≡ read_differs → Refusal recorded c number

event_refusal : (recorded : Recorded) (c : Chip) (number : ℕ) (answer : Answer) (memory : List ℕ) → StandsFor number answer → Refusing (Refusal recorded c) (happened answer memory)
unfolding happened
event_refusal recorded c number (Answer.Taken after) memory s = tt
event_refusal recorded c number (Answer.Refused refusal) memory s = own s.1 s.2

read_refusal : (byte : ℕ) (c : Chip) (number : ℕ) (answer : Answer) (memory : List ℕ) → (step data_read c.registers c.memory).answer ≡ answer → StandsFor number answer → Refusing (Refusal (read_as byte) c) (compared byte answer memory)
unfolding compared
read_refusal byte c number (Answer.Taken after) memory e s = by after.dummy (eqb after.byte byte) refl refl
  where
    by : (d b : Bool) → after.dummy ≡ d → eqb after.byte byte ≡ b → Refusing (Refusal (read_as byte) c) (cond (d || b) (gives (chip_of after.registers memory)) (refuses read_differs))
    by true b p q = tt
    by false true p q = tt
    by false false p q = differing byte after refl e p (eqb-false after.byte byte q) refl
read_refusal byte c number (Answer.Refused refusal) memory e s = own s.1 s.2

replay_refusal : (recorded : Recorded) (c : Chip) → Refusing (Refusal recorded c) (replay recorded c)
unfolding replay
replay_refusal (event e) c = event_refusal _ c _ _ _ (step_answers e c.registers c.memory)
replay_refusal (read_as byte) c = read_refusal byte c _ _ _ refl (step_answers data_read c.registers c.memory)

pub refused_event : (recorded : Recorded) (c : Chip) (number : ℕ) → replay recorded c ≡ refuses number → Refusal recorded c number
refused_event recorded c number e = subst (Refusing (Refusal recorded c)) e (replay_refusal recorded c)

not_zero : {recorded : Recorded} {c : Chip} {number : ℕ} → Refusal recorded c number → number ≡ taken → ⊥
not_zero (own p q) e = omega arith
not_zero (differing byte after r a d b n) e = omega arith

pub the_chip_sound : Sound the_chip
the_chip_sound =
    record {
      events = λ kind payload number e zero. omega (arith, subst (Refusing (λ number. number ≡ kind_unknown)) e (headed (by_kind kind payload)));
      step = λ recorded c number e. not_zero (refused_event recorded c number e);
    }

pub never : {A : Type 0} {a : A} {number : ℕ} → gives a ≡ refuses number → ⊥
never e = let z : ◌≡◌ {A = ℕ} 0 1 = cc in omega arith

happened_met : (answer : Answer) (left : List ℕ) (number : ℕ) → happened answer left ≡ refuses number → (reply_of answer).number ≡ number
unfolding happened reply_of number_of
happened_met (Answer.Taken after) left number e = absurd (never e)
happened_met (Answer.Refused refusal) left number e = cc

met_happened : (answer : Answer) (left : List ℕ) (number : ℕ) → (reply_of answer).number ≡ number → number ≢ taken → happened answer left ≡ refuses number
unfolding happened reply_of number_of
met_happened (Answer.Taken after) left number e n = absurd (n (sym e))
met_happened (Answer.Refused refusal) left number e n = rw e

-- a read that is taken, by whether it agrees
agreed_met : (agrees : Bool) (c : Chip) (number : ℕ) → cond agrees (gives c) (refuses read_differs) ≡ refuses number → cond (not agrees) read_differs taken ≡ number
agreed_met true c number e = absurd (never e)
agreed_met false c number e = cc

met_agreed : (agrees : Bool) (c : Chip) (number : ℕ) → cond (not agrees) read_differs taken ≡ number → number ≢ taken → cond agrees (gives c) (refuses read_differs) ≡ refuses number
met_agreed true c number e n = absurd (n (sym e))
met_agreed false c number e n = rw e

compared_met : (byte met : ℕ) (answer : Answer) (left : List ℕ) (number : ℕ) → StandsFor met answer → compared byte answer left ≡ refuses number → meets (read_as byte) (reply_of answer) ≡ number
unfolding compared reply_of number_of byte_of dummy_of
compared_met byte met (Answer.Taken after) left number s e = agreed_met (after.dummy || eqb after.byte byte) (chip_of after.registers left) number e
compared_met byte met (Answer.Refused refusal) left number s e =
    let same : refusal ≡ number = cc in
    rw (ne_eqb refusal taken (λ z. omega (arith, s.1))) same

met_compared : (byte met : ℕ) (answer : Answer) (left : List ℕ) (number : ℕ) → StandsFor met answer → meets (read_as byte) (reply_of answer) ≡ number → number ≢ taken → compared byte answer left ≡ refuses number
unfolding compared reply_of number_of byte_of dummy_of
met_compared byte met (Answer.Taken after) left number s e n = met_agreed (after.dummy || eqb after.byte byte) (chip_of after.registers left) number e n
met_compared byte met (Answer.Refused refusal) left number s e n =
    let same : refusal ≡ number = rw (ne_eqb refusal taken (λ z. omega (arith, s.1))) at e in
    rw same

pub refused_met : (recorded : Recorded) (c : Chip) (number : ℕ) → replay recorded c ≡ refuses number → meets recorded (reply_of (step (called_by recorded) c.registers c.memory).answer) ≡ number
unfolding replay
refused_met (event e) c number h = happened_met _ _ number h
refused_met (read_as byte) c number h = compared_met byte _ _ _ number (step_answers data_read c.registers c.memory) h

pub met_refused : (recorded : Recorded) (c : Chip) (number : ℕ) → meets recorded (reply_of (step (called_by recorded) c.registers c.memory).answer) ≡ number → number ≢ taken → replay recorded c ≡ refuses number
unfolding replay
met_refused (event e) c number h n = met_happened _ _ number h n
met_refused (read_as byte) c number h n = met_compared byte _ _ _ number (step_answers data_read c.registers c.memory) h n
