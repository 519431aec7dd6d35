-- The bytes of a payload played one after the other, each an event: one byte more, where they stop, and the bytes after those that are done. Over any machine.
-- Assumes nothing.
use mathlib.Core.Path.{◌≡◌, refl, sym, ◌∙◌}
use mathlib.Core.List.{List, [], ◌∷◌, map}
use Prim.Native.Nat.{ℕ, zero, suc, ◌+◌, ◌≤◌, ◌<◌}
use native.Mathlib.Omega.{arith}
use native.Mathlib.Numerals.{add-one}
use lib.ListN.{length, get_or}
use lib.Seq.{slice, slice_empty, slice-cons}
use Rattle.trace.specs.Play.{Result, refuses, gives, on_result, Machine, Ending, stopped, done, play_events}

-- the events of the bytes from one offset of a trace to another
abbrev pub play_bytes : {S E : Type 0} → Machine S E → (ℕ → E) → List ℕ → ℕ → ℕ → S → Ending S
play_bytes machine means trace at to s = play_events machine (map means (slice at to trace)) at s

module _ {S E : Type 0} (machine : Machine S E) (means : ℕ → E) (trace : List ℕ) where
  pub none_left : (to : ℕ) (s : S) → play_bytes machine means trace to to s ≡ done s
  unfolding play_events
  none_left to s = rw (slice_empty to trace)

  turn : (at to : ℕ) (s : S) → at < to → to ≤ length trace → play_bytes machine means trace at to s ≡ on_result (machine.step (means (get_or trace at 0)) s) (λ number. stopped number at s) (λ t. play_bytes machine means trace (at + 1) to t)
  unfolding play_events
  turn at to s p q = rw (slice-cons at to trace 0 p q, add-one)

  -- the event is refused, and the record stops there
  pub turn_refused : (at to : ℕ) (s : S) (number : ℕ) → at < to → to ≤ length trace → machine.step (means (get_or trace at 0)) s ≡ refuses number → play_bytes machine means trace at to s ≡ stopped number at s
  turn_refused at to s number p q e = turn at to s p q ∙ rw e

  -- the event gives a state, and the next byte's is played from it
  pub turn_given : (at to : ℕ) (s t : S) → at < to → to ≤ length trace → machine.step (means (get_or trace at 0)) s ≡ gives t → play_bytes machine means trace at to s ≡ play_bytes machine means trace (at + 1) to t
  turn_given at to s t p q e = turn at to s p q ∙ rw e

-- what is done has not stopped
pub never : {S : Type 0} {s t : S} {number offset : ℕ} → done s ≡ stopped number offset t → ⊥
never e = let z : ◌≡◌ {A = ℕ} 0 1 = cc in omega arith

module _ {S E : Type 0} (machine : Machine S E) (means : ℕ → E) (trace : List ℕ) where
  -- the events up to an offset are done, and the next is refused
  pub record StopsAt (at to : ℕ) (s : S) (number offset : ℕ) (t : S) : Type 0 where
    pub after : at ≤ offset
    pub inside : offset < to
    pub before : play_bytes machine means trace at offset s ≡ done t
    pub refused : machine.step (means (get_or trace offset 0)) t ≡ refuses number

  -- where bytes stop, some event is refused after others that are done
  pub stops_at : (n at to : ℕ) (s : S) (number offset : ℕ) (t : S) → to ≡ at + n → to ≤ length trace → play_bytes machine means trace at to s ≡ stopped number offset t → StopsAt at to s number offset t
  stops_at zero at to s number offset t e l h =
      let end : to ≡ at = omega arith in
      absurd (never (sym (none_left machine means trace at s) ∙ rw end at h))
  stops_at (suc n) at to s number offset t e l h = by (machine.step (means (get_or trace at 0)) s) refl (λ next. stops_at n (at + 1) to next number offset t (omega arith) l)
    where
      by : (result : Result S) → machine.step (means (get_or trace at 0)) s ≡ result → ((next : S) → play_bytes machine means trace (at + 1) to next ≡ stopped number offset t → StopsAt (at + 1) to next number offset t) → StopsAt at to s number offset t
      by (refuses refusal) r later =
          let here : stopped refusal at s ≡ stopped number offset t = sym (turn_refused machine means trace at to s refusal (omega arith) l r) ∙ h in
          let its-number : refusal ≡ number = cc in
          let its-offset : at ≡ offset = cc in
          let its-state : s ≡ t = cc in
          record { after = omega arith; inside = omega arith; before = rw (← its-offset, ← its-state) (none_left machine means trace at s); refused = rw (← its-offset, ← its-state, ← its-number) r }
      by (gives next) r later =
          let more = later next (sym (turn_given machine means trace at to s next (omega arith) l r) ∙ h) in
          record { after = omega (arith, more.after); inside = more.inside; before = turn_given machine means trace at offset s next (omega (arith, more.after)) (omega (arith, more.inside)) r ∙ more.before; refused = more.refused }

  -- the bytes after those that are done
  pub then_bytes : (n at to end : ℕ) (s t : S) → to ≡ at + n → to ≤ end → end ≤ length trace → play_bytes machine means trace at to s ≡ done t → play_bytes machine means trace at end s ≡ play_bytes machine means trace to end t
  then_bytes zero at to end s t e k l h =
      let here : to ≡ at = omega arith in
      let same : done s ≡ done t = sym (none_left machine means trace at s) ∙ rw here at h in
      let its-state : s ≡ t = cc in
      rw (here, its-state)
  then_bytes (suc n) at to end s t e k l h = by (machine.step (means (get_or trace at 0)) s) refl (λ next. then_bytes n (at + 1) to end next t (omega arith) k l)
    where
      by : (result : Result S) → machine.step (means (get_or trace at 0)) s ≡ result → ((next : S) → play_bytes machine means trace (at + 1) to next ≡ done t → play_bytes machine means trace (at + 1) end next ≡ play_bytes machine means trace to end t) → play_bytes machine means trace at end s ≡ play_bytes machine means trace to end t
      by (refuses refusal) r later = absurd (never (sym h ∙ turn_refused machine means trace at to s refusal (omega arith) (omega arith) r))
      by (gives next) r later =
          turn_given machine means trace at end s next (omega arith) l r ∙
          later next (sym (turn_given machine means trace at to s next (omega arith) (omega arith) r) ∙ h)

-- a record of one event, which gives a state
module _ {S E : Type 0} (machine : Machine S E) (event : E) (at : ℕ) (s : S) where
  pub one_given : (t : S) → machine.step event s ≡ gives t → play_events machine (event ∷ []) at s ≡ done t
  unfolding play_events
  one_given t e = rw e
