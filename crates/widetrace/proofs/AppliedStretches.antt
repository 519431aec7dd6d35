-- A script's events applied one by one, and the same events in a stretch. Over any machine that has a step.
-- Assumes nothing.
use mathlib.Core.Path.{◌≡◌, refl}
use mathlib.Core.List.{List, [], ◌∷◌, ◌++◌}
use Prim.Native.Nat.{ℕ}
use Rattle.constants.specs.Numbers.{taken}
use Rattle.bus.specs.Stretch.{stretched, counted_on, stretch}
use Rattle.bus.specs.StretchLaws.{NeverZero}
use Rattle.trace.specs.Play.{Result, refuses, gives, on_result, played}
use Rattle.trace.specs.OneByOne.{Placed, applied}
use Rattle.widetrace.specs.EachChip.{unplaced}

-- where none is refused, they come to one state
module _ {S E : Type 0} (step : E → S → Result S) (never : NeverZero step) (number offset count : ℕ) where
  pub none_refused : (list : List (Placed E)) (s : S) → (applied step list number offset count s).number ≡ taken
      → ((stretch step (unplaced list) s).number ≡ taken) × ((stretch step (unplaced list) s).state ≡ (applied step list number offset count s).state)
  unfolding applied stretch
  none_refused [] s h = (refl, refl)
  none_refused (p ∷ rest) s h = by (step p.event s) (never p.event s) h (none_refused rest)
    where
      by : (x : Result S) → ((number : ℕ) → x ≡ refuses number → number ≡ taken → ⊥) → (on_result x (λ refusal. played refusal p.offset p.before s) (λ t. applied step rest number offset count t)).number ≡ taken
          → ((t : S) → (applied step rest number offset count t).number ≡ taken → ((stretch step (unplaced rest) t).number ≡ taken) × ((stretch step (unplaced rest) t).state ≡ (applied step rest number offset count t).state))
          → let s' = on_result x (λ number. stretched s 0 number) (λ t. counted_on 1 (stretch step (unplaced rest) t)) in
          (s'.number ≡ taken) × (s'.state ≡ (on_result x (λ refusal. played refusal p.offset p.before s) (λ t. applied step rest number offset count t)).state)
      by (refuses refusal) n h later = absurd (n refusal refl h)
      by (gives t) n h later = later t h

  pub all_applied : (list : List (Placed E)) (s : S) → (stretch step (unplaced list) s).number ≡ taken → applied step list number offset count s ≡ played number offset count (stretch step (unplaced list) s).state
  unfolding applied stretch
  all_applied [] s h = refl
  all_applied (p ∷ rest) s h = by (step p.event s) (never p.event s) h (all_applied rest)
    where
      by : (x : Result S) → ((number : ℕ) → x ≡ refuses number → number ≡ taken → ⊥) → (on_result x (λ number. stretched s 0 number) (λ t. counted_on 1 (stretch step (unplaced rest) t))).number ≡ taken
          → ((t : S) → (stretch step (unplaced rest) t).number ≡ taken → applied step rest number offset count t ≡ played number offset count (stretch step (unplaced rest) t).state)
          → on_result x (λ refusal. played refusal p.offset p.before s) (λ t. applied step rest number offset count t) ≡ played number offset count (on_result x (λ number. stretched s 0 number) (λ t. counted_on 1 (stretch step (unplaced rest) t))).state
      by (refuses refusal) n h later = absurd (n refusal refl h)
      by (gives t) n h later = later t h

  -- where one is refused after others that are not, they stop there
  pub stops_first : (before : List (Placed E)) (p : Placed E) (rest : List (Placed E)) (s : S) (refusal : ℕ) → (stretch step (unplaced before) s).number ≡ taken → step p.event (stretch step (unplaced before) s).state ≡ refuses refusal
      → applied step (before ++ p ∷ rest) number offset count s ≡ played refusal p.offset p.before (stretch step (unplaced before) s).state
  unfolding applied stretch
  stops_first [] p rest s refusal h e = rw e
  stops_first (q ∷ before) p rest s refusal h e = by (step q.event s) (never q.event s) h e (λ t. stops_first before p rest t refusal)
    where
      by : (x : Result S) → ((number : ℕ) → x ≡ refuses number → number ≡ taken → ⊥) → (on_result x (λ number. stretched s 0 number) (λ t. counted_on 1 (stretch step (unplaced before) t))).number ≡ taken
          → step p.event (on_result x (λ number. stretched s 0 number) (λ t. counted_on 1 (stretch step (unplaced before) t))).state ≡ refuses refusal
          → ((t : S) → (stretch step (unplaced before) t).number ≡ taken → step p.event (stretch step (unplaced before) t).state ≡ refuses refusal
          → applied step (before ++ p ∷ rest) number offset count t ≡ played refusal p.offset p.before (stretch step (unplaced before) t).state)
          → on_result x (λ refusal. played refusal q.offset q.before s) (λ t. applied step (before ++ p ∷ rest) number offset count t) ≡ played refusal p.offset p.before (on_result x (λ number. stretched s 0 number) (λ t. counted_on 1 (stretch step (unplaced before) t))).state
      by (refuses other) n h e later = absurd (n other refl h)
      by (gives t) n h e later = later t h e

-- they come to one state in any case
module _ {S E : Type 0} (step : E → S → Result S) (number offset count : ℕ) where
  pub applied_state : (list : List (Placed E)) (s : S) → (applied step list number offset count s).state ≡ (stretch step (unplaced list) s).state
  unfolding applied stretch
  applied_state [] s = refl
  applied_state (p ∷ rest) s = by (step p.event s) (applied_state rest)
    where
      by : (x : Result S) → ((t : S) → (applied step rest number offset count t).state ≡ (stretch step (unplaced rest) t).state)
          → (on_result x (λ refusal. played refusal p.offset p.before s) (λ t. applied step rest number offset count t)).state ≡ (on_result x (λ number. stretched s 0 number) (λ t. counted_on 1 (stretch step (unplaced rest) t))).state
      by (refuses refusal) later = refl
      by (gives t) later = later t
