-- How a call ends: with what its event gives, or with a refusal.
-- Assumes nothing.
use mathlib.Core.Path.{◌≡◌, sym, ◌∙◌, ap}
use mathlib.Core.List.{List}
use Prim.Native.Nat.{ℕ}
use Rattle.bus.specs.Chip.{Event, Outcome}
use Rattle.bus.specs.Calls.{called, reply_of, state_after, refused, concluded, asked_before, call_on, call}
use Rattle.bus.specs.Answer.{Answer}
use Rattle.bus.specs.Answer.{Asked}
use Rattle.bus.specs.Answer.{Reply}

-- an answer that is replied and stored, with the memory that the event leaves
pub as_concluded : (outcome : Outcome) (state : List ℕ) {answer : Answer} {reply : Reply} {later left : List ℕ} → answer ≡ outcome.answer → reply ≡ reply_of answer → later ≡ state_after answer state → left ≡ outcome.memory → called reply later left ≡ concluded outcome state
unfolding concluded
as_concluded outcome state e p q m = rw (p, q, m, e)

pub refuses : (event : Event) (state memory : List ℕ) {asking : Asked} {number : ℕ} → asking ≡ asked_before event state memory → asking ≡ Asked.Refused number → {reply : Reply} → reply ≡ reply_of (Answer.Refused number) → called reply state memory ≡ call event state memory
unfolding call call_on refused
refuses event state memory a l p = rw p (ap (λ asking. call_on asking event state memory) (sym l ∙ a))
