-- Stretches on a pair of machines: on one of them it is that one's stretch, and on both it is each one's, up to the earlier of the two stops. Over any step.
-- Assumes nothing.
use mathlib.Core.Path.{◌≡◌, refl}
use mathlib.Core.Logic.{◌≢◌}
use mathlib.Core.List.{List, [], ◌∷◌, map}
use Prim.Native.Nat.{ℕ, suc, ◌+◌}
use native.Mathlib.Omega.{arith}
use lib.ListN.{take}
use Rattle.constants.specs.Numbers.{taken}
use Rattle.bus.specs.Result.{Result, refuses, gives, on_result}
use Rattle.bus.specs.Stretch.{Stretched, stretched, counted_on, stretch}
use Rattle.bus.specs.StretchLaws.{NeverZero}
use Rattle.bus.specs.Bytes.{All}
use Rattle.widebus.specs.Pair.{Pair, ◌beside◌}
use Rattle.widebus.specs.Events.{to_selected}
use Rattle.widebus.specs.declared.selection.Selection.{Selection}

-- two steps that agree on each of the events have one stretch of them
pub same_steps : {S E : Type 0} (one other : E → S → Result S) (events : List E) (s : S) → All (λ (e : E). (t : S) → one e t ≡ other e t) events → stretch one events s ≡ stretch other events s
unfolding stretch
same_steps one other [] s agree = refl
same_steps {S} {E} one other (e ∷ rest) s agree = rw (agree.0 s) (by (other e s) (λ t. same_steps one other rest t agree.1))
  where
    by : (result : Result S) → ((t : S) → stretch one rest t ≡ stretch other rest t)
        → on_result result (λ number. stretched s 0 number) (λ t. counted_on 1 (stretch one rest t)) ≡ on_result result (λ number. stretched s 0 number) (λ t. counted_on 1 (stretch other rest t))
    by (refuses number) later = refl
    by (gives t) later = rw (later t)

module _ {S E : Type 0} (step : E → S → Result S) where
  -- on the left alone
  pub left_alone : (events : List E) (l r : S) → stretch (to_selected step Selection.Left) events (l beside r) ≡ stretched ((stretch step events l).state beside r) (stretch step events l).count (stretch step events l).number
  unfolding stretch to_selected
  left_alone [] l r = refl
  left_alone (e ∷ rest) l r = by (step e l) refl (λ t. left_alone rest t r)
    where
      by : (result : Result S) → step e l ≡ result → ((t : S) → stretch (to_selected step Selection.Left) rest (t beside r) ≡ stretched ((stretch step rest t).state beside r) (stretch step rest t).count (stretch step rest t).number)
          → stretch (to_selected step Selection.Left) (e ∷ rest) (l beside r) ≡ stretched ((stretch step (e ∷ rest) l).state beside r) (stretch step (e ∷ rest) l).count (stretch step (e ∷ rest) l).number
      by (refuses number) f later = rw f
      by (gives t) f later = rw (f, later t)

  -- on the right alone
  pub right_alone : (events : List E) (l r : S) → stretch (to_selected step Selection.Right) events (l beside r) ≡ stretched (l beside (stretch step events r).state) (stretch step events r).count (stretch step events r).number
  unfolding stretch to_selected
  right_alone [] l r = refl
  right_alone (e ∷ rest) l r = by (step e r) refl (λ t. right_alone rest l t)
    where
      by : (result : Result S) → step e r ≡ result → ((t : S) → stretch (to_selected step Selection.Right) rest (l beside t) ≡ stretched (l beside (stretch step rest t).state) (stretch step rest t).count (stretch step rest t).number)
          → stretch (to_selected step Selection.Right) (e ∷ rest) (l beside r) ≡ stretched (l beside (stretch step (e ∷ rest) r).state) (stretch step (e ∷ rest) r).count (stretch step (e ∷ rest) r).number
      by (refuses number) f later = rw f
      by (gives t) f later = rw (f, later t)

  module _ (never : NeverZero step) (means : ℕ → E) where
    -- the stretch of bytes on one
    abbrev pub of : List ℕ → S → Stretched S
    of bytes s = stretch step (map means bytes) s

    -- the stretch on both
    abbrev pub of_both : List ℕ → S → S → Stretched (Pair S)
    of_both bytes l r = stretch (to_selected step Selection.Both) (map means bytes) (l beside r)

    -- what the right one makes of the bytes that the left one took
    abbrev pub second : List ℕ → S → S → Stretched S
    second bytes l r = of (take (of bytes l).count bytes) r

    abbrev Taken : List ℕ → S → S → Type 0
    Taken bytes l r = (second bytes l r).number ≡ taken → of_both bytes l r ≡ stretched ((of bytes l).state beside (second bytes l r).state) (of bytes l).count (of bytes l).number

    -- the right one takes what the left one took
    pub both_taken : (bytes : List ℕ) (l r : S) → Taken bytes l r
    unfolding stretch to_selected
    both_taken [] l r = λ h. refl
    both_taken (b ∷ rest) l r = by (step (means b) l) refl (step (means b) r) refl (both_taken rest)
      where
        by : (x : Result S) → step (means b) l ≡ x → (y : Result S) → step (means b) r ≡ y → ((l r : S) → Taken rest l r) → Taken (b ∷ rest) l r
        by (refuses n) e y f later = rw e (λ h. refl)
        by (gives l') e (refuses n) f later =
            let one : 1 + (of rest l').count ≡ suc (of rest l').count = omega arith in
            rw (e, one, f) (λ h. absurd (never (means b) r n f h))
        by (gives l') e (gives r') f later =
            let one : 1 + (of rest l').count ≡ suc (of rest l').count = omega arith in
            rw (e, one, f) (λ h. rw (later l' r' h, one))

    abbrev Stopped : List ℕ → S → S → Type 0
    Stopped bytes l r = (second bytes l r).number ≢ taken → of_both bytes l r ≡ stretched ((of (take (second bytes l r).count bytes) l).state beside (second bytes l r).state) (second bytes l r).count (second bytes l r).number

    -- the right one stops before the left one does
    pub both_stopped : (bytes : List ℕ) (l r : S) → Stopped bytes l r
    unfolding stretch to_selected
    both_stopped [] l r = λ h. absurd (h refl)
    both_stopped (b ∷ rest) l r = by (step (means b) l) refl (step (means b) r) refl (both_stopped rest)
      where
        by : (x : Result S) → step (means b) l ≡ x → (y : Result S) → step (means b) r ≡ y → ((l r : S) → Stopped rest l r) → Stopped (b ∷ rest) l r
        by (refuses n) e y f later = rw e (λ h. absurd (h refl))
        by (gives l') e (refuses n) f later =
            let one : 1 + (of rest l').count ≡ suc (of rest l').count = omega arith in
            rw (e, one, f) (λ h. refl)
        by (gives l') e (gives r') f later =
            let one : 1 + (of rest l').count ≡ suc (of rest l').count = omega arith in
            let more : 1 + (second rest l' r').count ≡ suc (second rest l' r').count = omega arith in
            rw (e, one, f, more, e) (λ h. rw (later l' r' h, more))
