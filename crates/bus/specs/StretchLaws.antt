-- The laws of stretches, over any machine that has a step.
use Rattle.std.specs.Prelude.{ℕ, ◌≤◌, ◌<◌, ◌≡◌, ◌≢◌, ◌↔◌, List, [], ◌∷◌, ◌++◌, length}
use Rattle.constants.specs.Numbers.{taken}
use Rattle.bus.specs.Result.{Result, refuses, gives}
use Rattle.bus.specs.Recorded.{replay}
use Rattle.bus.specs.Stretch.{stretched, counted_on, stretch}

-- A step that refuses with no 0, which is the number of what is taken.
abbrev pub NeverZero : {S E : Type 0} → (E → S → Result S) → Type 0
NeverZero {S} {E} step = (event : E) (s : S) (number : ℕ) → step event s ≡ refuses number → number ≢ taken

pub record StretchLaws {S E : Type 0} (step : E → S → Result S) : Type 0 where
  -- No event changes nothing and is taken.
  pub none : (s : S) → stretch step [] s ≡ stretched s 0 taken
  -- One event that its step refuses has not happened, and gives its number.
  pub one_refused : (event : E) (s : S) (number : ℕ) → step event s ≡ refuses number → stretch step (event ∷ []) s ≡ stretched s 0 number
  -- One that its step takes leaves what the step gives.
  pub one_taken : (event : E) (s t : S) → step event s ≡ gives t → stretch step (event ∷ []) s ≡ stretched t 1 taken
  -- No more events are taken than there are.
  pub within : (events : List E) (s : S) → (stretch step events s).count ≤ length events
  -- Where all of `a` are taken, `a ++ b` is `a` and then `b` from what it left.
  pub goes_on : (a b : List E) (s : S) → (stretch step a s).count ≡ length a → stretch step (a ++ b) s ≡ counted_on (length a) (stretch step b (stretch step a s).state)
  -- Where one of `a` is refused, `a ++ b` is `a`.
  pub stops : (a b : List E) (s : S) → (stretch step a s).count < length a → stretch step (a ++ b) s ≡ stretch step a s
  -- The number is 0 exactly where all are taken.
  pub all_taken : NeverZero step → (events : List E) (s : S) → ((stretch step events s).number ≡ taken) ↔ ((stretch step events s).count ≡ length events)

-- What is recorded of the bus is refused with no 0.
abbrev pub TheChipNeverZero : Type 0
TheChipNeverZero = NeverZero replay
