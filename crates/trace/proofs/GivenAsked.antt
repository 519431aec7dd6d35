-- A run gives 1 and 2 exactly when the table says so, before its first event; no event meets them.
-- Assumes nothing.
use mathlib.Core.Path.{◌≡◌, refl, sym, ap}
use mathlib.Core.Logic.{◌↔◌}
use mathlib.Core.Bool.{Bool, true, false, false≢true}
use mathlib.Core.List.{List, [], ◌∷◌}
use Prim.Native.Nat.{ℕ, ◌+◌}
use native.Mathlib.Omega.{arith}
use Rattle.constants.specs.Numbers.{too_short, out_of_range, kind_unknown}
use Rattle.bus.specs.Chip.{Chip}
use Rattle.bus.specs.Registers.{registers_of}
use Rattle.bus.specs.Image.{short, legal, asked}
use Rattle.bus.specs.declared.registers.Registers.{Registers}
use Rattle.bus.specs.Answer.{Asked}
use Rattle.bus.proofs.Kept.{asked_legal}
use Rattle.bus.proofs.Replies.{Neither, not_one, not_two}
use Rattle.trace.specs.Records.{Trace, ended, cut, ◌then◌, split}
use Rattle.trace.specs.Play.{Result, refuses, gives, on_result, Played, played}
use Rattle.trace.specs.Kinds.{Recorded, chip_of, replay, events_of, the_chip}
use Rattle.trace.specs.OneByOne.{Placed, Script, script, script_from, applied}
use Rattle.trace.specs.Run.{Ran, ran, stop_of, ran_of, run}
use Rattle.trace.specs.AnyMachine.{Gives}
use Rattle.trace.proofs.OneByOne.{one_by_one_lem}
use Rattle.trace.proofs.ChipNotOneOrTwo.{Addressing, legal_addressed, replay_addressed, replay_neither}
use Rattle.trace.proofs.ChipKinds.{by_kind}
use Rattle.trace.proofs.ChipRefusals.{Refusing, headed}
use Rattle.trace.proofs.RunOnLent.{fits, run_found, refused_run}

-- no event of a trace is refused with 1 or 2
on_one : (result : Result Chip) (at before : ℕ) (c : Chip) (go : Chip → Played Chip) → Refusing Neither result → Gives Addressing result → ((d : Chip) → Addressing d → Neither (go d).number) → Neither (on_result result (λ refusal. played refusal at before c) go).number
on_one (refuses number) at before c go n g later = n
on_one (gives d) at before c go n g later = later d g

applied_neither : (events : List (Placed Recorded)) (number offset count : ℕ) → Neither number → (c : Chip) → Addressing c → Neither (applied replay events number offset count c).number
unfolding applied
applied_neither [] number offset count n c h = n
applied_neither (p ∷ rest) number offset count n c h = on_one (replay p.event c) p.offset p.before c _ (replay_neither p.event c h) (replay_addressed p.event c h) (λ d. applied_neither rest number offset count n d)

-- nor is a header refused with them
header_neither : (header : Result (List Recorded)) (go : List Recorded → Script Recorded) (place count : ℕ) → Refusing (λ number. number ≡ kind_unknown) header → ((events : List Recorded) → Neither (go events).number) → Neither (on_result header (λ number. script [] number place count) go).number
header_neither (refuses number) go place count h later = rw h refl
header_neither (gives events) go place count h later = later events

script_neither : (trace : Trace) (count : ℕ) → Neither (script_from the_chip trace count).number
unfolding script_from
script_neither (ended offset) count = refl
script_neither (cut offset) count = refl
script_neither (r then rest) count = header_neither (events_of r.kind r.payload) _ r.place count (headed (by_kind r.kind r.payload)) (λ events. script_neither rest (count + 1))

-- the number of a run, by what it asks first: is a lent state or memory too short, and is the image legal
abbrev Numbered : Bool → Bool → ℕ → Type 0
Numbered true in_ranges number = number ≡ too_short
Numbered false false number = number ≡ out_of_range
Numbered false true number = Neither number

by_one : (too_few in_ranges : Bool) (number : ℕ) → Numbered too_few in_ranges number → number ≡ too_short ↔ too_few ≡ true
by_one true in_ranges number n = (λ e. refl, λ h. n)
by_one false false number n = (λ e. absurd (omega (arith, e, n)), λ h. absurd (false≢true h))
by_one false true number n = (λ e. absurd (not_one n e), λ h. absurd (false≢true h))

by_two : (too_few in_ranges : Bool) (number : ℕ) → Numbered too_few in_ranges number → number ≡ out_of_range ↔ (too_few ≡ false) × (in_ranges ≡ false)
by_two true in_ranges number n = (λ e. absurd (omega (arith, e, n)), λ h. absurd (false≢true (sym h.0)))
by_two false false number n = (λ e. (refl, refl), λ h. n)
by_two false true number n = (λ e. absurd (not_two n e), λ h. absurd (false≢true (sym h.1)))

module _ (state memory trace : List ℕ) where
  found_neither : (r : Registers) → asked state memory ≡ Asked.Found r → Neither (run state memory trace).stop.number
  unfolding ran_of
  found_neither r found =
      let all = script_from the_chip (split trace) 0 in
      rw (run_found state memory r found trace, one_by_one_lem the_chip (split trace) 0 (chip_of r memory))
      (applied_neither all.events all.number all.offset all.count (script_neither (split trace) 0) (chip_of r memory) (record { addressed = legal_addressed r (asked_legal state memory r found); long = (fits state memory r found).display }))

  -- refused first: offset and count are 0, and state and memory stay
  pub one_leaves : short state memory ≡ true → run state memory trace ≡ ran (stop_of too_short 0 0) state memory
  unfolding asked
  one_leaves p = refused_run state memory trace too_short (rw p)

  pub two_leaves : short state memory ≡ false → legal state ≡ false → run state memory trace ≡ ran (stop_of out_of_range 0 0) state memory
  unfolding asked
  two_leaves p q = refused_run state memory trace out_of_range (rw (p, q))

  numbered : (too_few in_ranges : Bool) → short state memory ≡ too_few → legal state ≡ in_ranges → Numbered too_few in_ranges (run state memory trace).stop.number
  unfolding asked
  numbered true in_ranges p q = ap (λ (outcome : Ran). outcome.stop.number) (one_leaves p)
  numbered false false p q = ap (λ (outcome : Ran). outcome.stop.number) (two_leaves p q)
  numbered false true p q = found_neither (registers_of state) (rw (p, q))

  -- 1: a lent state or memory is too short
  pub one : (run state memory trace).stop.number ≡ too_short ↔ short state memory ≡ true
  one = by_one (short state memory) (legal state) _ (numbered _ _ refl refl)

  -- 2: the state image is out of its ranges, where 1 does not go first
  pub two : (run state memory trace).stop.number ≡ out_of_range ↔ (short state memory ≡ false) × (legal state ≡ false)
  two = by_two (short state memory) (legal state) _ (numbered _ _ refl refl)
