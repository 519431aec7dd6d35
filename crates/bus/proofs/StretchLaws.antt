-- The laws of stretches: one event more, how many are taken, and two that follow each other.
-- Assumes nothing.
use mathlib.Core.Path.{◌≡◌, refl, ◌∙◌}
use mathlib.Core.Logic.{◌≢◌}
use mathlib.Core.Bool.{Bool, true, false, cond, ◌||◌}
use mathlib.Core.List.{List, [], ◌∷◌, ◌++◌, map}
use Prim.Native.Nat.{ℕ, suc, ◌+◌, ◌≤◌, ◌<◌}
use native.Mathlib.Nat.{add-zero, zero-add}
use native.Mathlib.Omega.{arith}
use native.Mathlib.Numerals.{add-one}
use lib.Dec.{eqb}
use lib.ListN.{length, get_or, drop}
use lib.Seq.{drop-cons, drop-length}
use Rattle.constants.specs.Numbers
use Rattle.constants.specs.Numbers.{read_differs}
use Rattle.bus.specs.Chip.{data_read}
use Rattle.bus.specs.Result.{Result, refuses, gives, on_result}
use Rattle.bus.specs.Recorded.{event, read_as, chip_of, happened, compared, replay}
use Rattle.bus.specs.Stretch.{Stretched, stretched, counted_on, stretch}
use Rattle.bus.specs.StretchLaws.{NeverZero, StretchLaws, TheChipNeverZero}
use Rattle.bus.specs.Answer.{Answer}
use Rattle.bus.proofs.Answers.{StandsFor, step_answers}

-- the bytes from an offset on, with those before it taken
abbrev pub stretch_from : {S E : Type 0} → (E → S → Result S) → (ℕ → E) → List ℕ → ℕ → S → Stretched S
stretch_from step means bytes at s = counted_on at (stretch step (map means (drop at bytes)) s)

module _ {S E : Type 0} (step : E → S → Result S) (means : ℕ → E) (bytes : List ℕ) where
  -- all bytes are left
  pub all_left : (s : S) → stretch step (map means bytes) s ≡ stretch_from step means bytes 0 s
  all_left s = rw zero-add

  -- no byte is left
  pub none_left : (s : S) → stretch_from step means bytes (length bytes) s ≡ stretched s (length bytes) Numbers.taken
  unfolding stretch
  none_left s = rw (drop-length bytes, add-zero)

  module _ (at : ℕ) (inside : at < length bytes) (s : S) where
    turn : stretch_from step means bytes at s ≡ counted_on at (on_result (step (means (get_or bytes at 0)) s) (λ number. stretched s 0 number) (λ t. counted_on 1 (stretch step (map means (drop (suc at) bytes)) t)))
    unfolding stretch
    turn = rw (drop-cons bytes at 0 inside)

    -- the event is refused, and the stretch stops there
    pub turn_refused : (number : ℕ) → step (means (get_or bytes at 0)) s ≡ refuses number → stretch_from step means bytes at s ≡ stretched s at number
    turn_refused number e = turn ∙ rw (e, add-zero)

    -- the event gives a state, and the next byte's goes on from it
    pub turn_given : (t : S) → step (means (get_or bytes at 0)) s ≡ gives t → stretch_from step means bytes at s ≡ stretch_from step means bytes (at + 1) t
    turn_given t e =
        let later = stretch step (map means (drop (suc at) bytes)) t in
        let one : at + (1 + later.count) ≡ suc at + later.count = omega arith in
        turn ∙ rw (e, one, add-one)

-- what a first event's result makes of the rest
abbrev goes : {S : Type 0} → S → (S → Stretched S) → Result S → Stretched S
goes s rest result = on_result result (λ number. stretched s 0 number) (λ t. counted_on 1 (rest t))

module _ {S E : Type 0} (step : E → S → Result S) where
  within : (events : List E) (s : S) → (stretch step events s).count ≤ length events
  unfolding stretch
  within [] s = omega arith
  within (first ∷ rest) s = by (step first s) (within rest)
    where
      by : (result : Result S) → ((t : S) → (stretch step rest t).count ≤ length rest) → (goes s (stretch step rest) result).count ≤ length (first ∷ rest)
      by (refuses number) later = omega arith
      by (gives t) later = omega (arith, later t)

  goes_on : (a b : List E) (s : S) → (stretch step a s).count ≡ length a → stretch step (a ++ b) s ≡ counted_on (length a) (stretch step b (stretch step a s).state)
  unfolding stretch
  goes_on [] b s h = rw zero-add
  goes_on (first ∷ a) b s h = by (step first s) (goes_on a b) h
    where
      by : (result : Result S) → ((t : S) → (stretch step a t).count ≡ length a → stretch step (a ++ b) t ≡ counted_on (length a) (stretch step b (stretch step a t).state)) → (goes s (stretch step a) result).count ≡ length (first ∷ a) → goes s (stretch step (a ++ b)) result ≡ counted_on (length (first ∷ a)) (stretch step b (goes s (stretch step a) result).state)
      by (refuses number) later h = absurd (omega arith)
      by (gives t) later h =
          let rest = stretch step b (stretch step a t).state in
          let one : 1 + (length a + rest.count) ≡ suc (length a) + rest.count = omega arith in
          rw (later t (omega arith), one)

  stops : (a b : List E) (s : S) → (stretch step a s).count < length a → stretch step (a ++ b) s ≡ stretch step a s
  unfolding stretch
  stops [] b s h = absurd (omega arith)
  stops (first ∷ a) b s h = by (step first s) (stops a b) h
    where
      by : (result : Result S) → ((t : S) → (stretch step a t).count < length a → stretch step (a ++ b) t ≡ stretch step a t) → (goes s (stretch step a) result).count < length (first ∷ a) → goes s (stretch step (a ++ b)) result ≡ goes s (stretch step a) result
      by (refuses number) later h = refl
      by (gives t) later h = rw (later t (omega arith))

  zero_all : NeverZero step → (events : List E) (s : S) → (stretch step events s).number ≡ Numbers.taken → (stretch step events s).count ≡ length events
  unfolding stretch
  zero_all never [] s h = refl
  zero_all never (first ∷ rest) s h = by (step first s) refl (zero_all never rest) h
    where
      by : (result : Result S) → step first s ≡ result → ((t : S) → (stretch step rest t).number ≡ Numbers.taken → (stretch step rest t).count ≡ length rest) → (goes s (stretch step rest) result).number ≡ Numbers.taken → (goes s (stretch step rest) result).count ≡ length (first ∷ rest)
      by (refuses number) e later h = absurd (never first s number e h)
      by (gives t) e later h = omega (arith, later t h)

  all_zero : (events : List E) (s : S) → (stretch step events s).count ≡ length events → (stretch step events s).number ≡ Numbers.taken
  unfolding stretch
  all_zero [] s h = refl
  all_zero (first ∷ rest) s h = by (step first s) (all_zero rest) h
    where
      by : (result : Result S) → ((t : S) → (stretch step rest t).count ≡ length rest → (stretch step rest t).number ≡ Numbers.taken) → (goes s (stretch step rest) result).count ≡ length (first ∷ rest) → (goes s (stretch step rest) result).number ≡ Numbers.taken
      by (refuses number) later h = absurd (omega arith)
      by (gives t) later h = later t (omega arith)

  none : (s : S) → stretch step [] s ≡ stretched s 0 Numbers.taken
  unfolding stretch
  none s = refl

  one_refused : (event : E) (s : S) (number : ℕ) → step event s ≡ refuses number → stretch step (event ∷ []) s ≡ stretched s 0 number
  unfolding stretch
  one_refused first s number e = rw e

  one_taken : (event : E) (s t : S) → step event s ≡ gives t → stretch step (event ∷ []) s ≡ stretched t 1 Numbers.taken
  unfolding stretch
  one_taken first s t e = rw e

  pub stretches : StretchLaws step
  stretches = record { none = none; one_refused = one_refused; one_taken = one_taken; within = within; goes_on = goes_on; stops = stops; all_taken = λ never events s. (zero_all never events s, all_zero events s) }

-- What is recorded of the bus is refused with no 0.
answered : (number : ℕ) (answer : Answer) (memory : List ℕ) → StandsFor number answer → (refusal : ℕ) → happened answer memory ≡ refuses refusal → refusal ≢ Numbers.taken
unfolding happened
answered number (Answer.Taken counted_on) memory s refusal e zero = let z : ◌≡◌ {A = ℕ} 0 1 = cc in omega arith
answered number (Answer.Refused met) memory s refusal e zero =
    let same : met ≡ refusal = cc in
    omega (arith, s.1)

agreed : (byte number : ℕ) (answer : Answer) (memory : List ℕ) → StandsFor number answer → (refusal : ℕ) → compared byte answer memory ≡ refuses refusal → refusal ≢ Numbers.taken
unfolding compared
agreed byte number (Answer.Taken counted_on) memory s refusal e zero = by (counted_on.dummy || eqb counted_on.byte byte) e zero
  where
    by : (same : Bool) → cond same (gives (chip_of counted_on.registers memory)) (refuses read_differs) ≡ refuses refusal → refusal ≢ Numbers.taken
    by true e zero = let z : ◌≡◌ {A = ℕ} 0 1 = cc in omega arith
    by false e zero =
        let same : read_differs ≡ refusal = cc in
        omega arith
agreed byte number (Answer.Refused met) memory s refusal e zero =
    let same : met ≡ refusal = cc in
    omega (arith, s.1)

pub the_chip_never_zero : TheChipNeverZero
unfolding replay
the_chip_never_zero (event e) c = answered _ _ _ (step_answers e c.registers c.memory)
the_chip_never_zero (read_as byte) c = agreed byte _ _ _ (step_answers data_read c.registers c.memory)
