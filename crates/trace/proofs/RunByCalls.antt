-- The run is what the event calls give one by one: it answers and leaves what calling them in order on the lent state and memory gives, up to the first refused one.
-- Assumes nothing.
use mathlib.Core.Path.{◌≡◌, refl, ◌∙◌, ap}
use mathlib.Core.Bool.{Bool, true, false, cond, not, ◌||◌}
use mathlib.Core.List.{List, [], ◌∷◌, ◌++◌}
use Prim.Native.Nat.{ℕ, ◌+◌, ◌≤◌, ◌<◌}
use native.Mathlib.Omega.{arith}
use borrow.Author.Tests.{ne_eqb}
use lib.Dec.{eqb}
use lib.ListN.{length}
use Rattle.constants.specs.Sizes.{image_size, memory_size, header_size}
use Rattle.constants.specs.Numbers.{taken, read_differs}
use Rattle.bus.specs.Events.{number_of, byte_of, dummy_of}
use Rattle.bus.specs.Chip.{data_read, step}
use Rattle.bus.specs.Image.{asked, stored}
use Rattle.bus.specs.Calls.{reply_of, state_after, concluded, call}
use Rattle.bus.specs.declared.registers.Registers.{Registers}
use Rattle.bus.specs.Answer.{Answer}
use Rattle.bus.specs.Bytes.{All, Bytes}
use Rattle.bus.specs.Answer.{Asked}
use Rattle.bus.proofs.Answers.{StandsFor, step_answers}
use Rattle.bus.specs.StaysLegal.{LegalRegisters, Keeps}
use Rattle.bus.proofs.Kept.{step_keeps, asked_legal}
use Rattle.bus.proofs.Untouched.{step_length}
use Rattle.bus.proofs.Stored.{stored_own, stored_again, call_stored}
use Rattle.trace.specs.Records.{Trace, ended, cut, ◌then◌, split}
use Rattle.trace.specs.Play.{Result, refuses, gives, on_result, played}
use Rattle.trace.specs.Kinds.{Recorded, event, read_as, chip_of, happened, compared, replay, the_chip}
use Rattle.trace.specs.OneByOne.{Placed, placed, Script, script, script_from, applied}
use Rattle.trace.specs.ByCalls.{called_by, meets, by_calls, run_by_calls}
use Rattle.trace.specs.Run.{ran, stop_of, ran_of, run}
use Rattle.trace.specs.AnyMachine.{Gives}
use Rattle.trace.proofs.OneByOne.{one_by_one_lem}
use Rattle.trace.proofs.PlayedKeeps.{Carries, split_carries}
use Rattle.trace.proofs.ChipKeeps.{Brings, brings}
use Rattle.trace.proofs.RunOnLent.{run_found, fits}

module _ (state : List ℕ) (h : image_size ≤ length state) where
  -- the rest of the events, from the chip that one of them leaves
  abbrev Later : List (Placed Recorded) → ℕ → ℕ → ℕ → Type 0
  Later rest number offset count = (r : Registers) (memory : List ℕ) → LegalRegisters r → memory_size ≤ length memory → ran_of (applied replay rest number offset count (chip_of r memory)) state ≡ by_calls rest (stop_of number offset count) (stored r state) memory

  module _ (rest : List (Placed Recorded)) (number offset count : ℕ) (later : Later rest number offset count) (r : Registers) (memory : List ℕ) (at before : ℕ) where
    -- what follows an event's answer: the call's reply decides
    after_event : (met : ℕ) (answer : Answer) (left : List ℕ) → StandsFor met answer → Keeps answer → memory_size ≤ length left
        → ran_of (on_result (happened answer left) (λ refusal. played refusal at before (chip_of r memory)) (λ t. applied replay rest number offset count t)) state ≡ cond (eqb (reply_of answer).number taken) (by_calls rest (stop_of number offset count) (state_after answer (stored r state)) left) (ran (stop_of (reply_of answer).number at before) (stored r state) memory)
    unfolding happened reply_of state_after number_of ran_of
    after_event met (Answer.Taken after) left ok k m = later after.registers left k m ∙ rw (stored_again state h r after.registers)
    after_event met (Answer.Refused refusal) left ok k m = rw (ne_eqb refusal taken (λ e. omega (arith, ok.1)))

    -- the same for a read that is compared
    read_taken : (agrees : Bool) (s : Registers) (left : List ℕ) → LegalRegisters s → memory_size ≤ length left
        → ran_of (on_result (cond agrees (gives (chip_of s left)) (refuses read_differs)) (λ refusal. played refusal at before (chip_of r memory)) (λ t. applied replay rest number offset count t)) state ≡ cond (eqb (cond (not agrees) read_differs taken) taken) (by_calls rest (stop_of number offset count) (stored s (stored r state)) left) (ran (stop_of (cond (not agrees) read_differs taken) at before) (stored r state) memory)
    unfolding ran_of
    read_taken true s left k m = later s left k m ∙ rw (stored_again state h r s)
    read_taken false s left k m = refl

    after_read : (byte met : ℕ) (answer : Answer) (left : List ℕ) → StandsFor met answer → Keeps answer → memory_size ≤ length left
        → ran_of (on_result (compared byte answer left) (λ refusal. played refusal at before (chip_of r memory)) (λ t. applied replay rest number offset count t)) state ≡ cond (eqb (meets (read_as byte) (reply_of answer)) taken) (by_calls rest (stop_of number offset count) (state_after answer (stored r state)) left) (ran (stop_of (meets (read_as byte) (reply_of answer)) at before) (stored r state) memory)
    unfolding compared reply_of state_after number_of byte_of dummy_of ran_of
    after_read byte met (Answer.Taken after) left ok k m = read_taken (after.dummy || eqb after.byte byte) after.registers left k m
    after_read byte met (Answer.Refused refusal) left ok k m = rw (ne_eqb refusal taken (λ e. omega (arith, ok.1)), ne_eqb refusal taken (λ e. omega (arith, ok.1)))

    after_one : (recorded : Recorded) → Brings recorded → LegalRegisters r → memory_size ≤ length memory
        → ran_of (on_result (replay recorded (chip_of r memory)) (λ refusal. played refusal at before (chip_of r memory)) (λ t. applied replay rest number offset count t)) state ≡ cond (eqb (meets recorded (call (called_by recorded) (stored r state) memory).reply) taken) (by_calls rest (stop_of number offset count) (call (called_by recorded) (stored r state) memory).state (call (called_by recorded) (stored r state) memory).memory) (ran (stop_of (meets recorded (call (called_by recorded) (stored r state) memory).reply) at before) (stored r state) memory)
    unfolding replay concluded
    after_one (event e) b l m =
        rw (call_stored state h e r memory l m) (after_event _ (step e r memory).answer (step e r memory).memory (step_answers e r memory) (step_keeps e r memory b l) (omega (arith, step_length e r memory)))
    after_one (read_as byte) b l m =
        rw (call_stored state h data_read r memory l m) (after_read byte _ (step data_read r memory).answer (step data_read r memory).memory (step_answers data_read r memory) (step_keeps data_read r memory tt l) (omega (arith, step_length data_read r memory)))

  by_calls_lem : (events : List (Placed Recorded)) (number offset count : ℕ) → All (λ (p : Placed Recorded). Brings p.event) events → Later events number offset count
  unfolding applied by_calls ran_of
  by_calls_lem [] number offset count b r memory l m = refl
  by_calls_lem (p ∷ rest) number offset count b r memory l m = after_one rest number offset count (by_calls_lem rest number offset count b.1) r memory p.offset p.before p.event b.0 l m

-- every event of a trace of bytes brings a byte
all_append : {A : Type 0} (P : A → Type 0) (a b : List A) → All P a → All P b → All P (a ++ b)
all_append P [] b p q = q
all_append P (x ∷ a) b p q = (p.0, all_append P a b p.1 q)

all_placed : (events : List Recorded) (at count : ℕ) → All Brings events → All (λ (p : Placed Recorded). Brings p.event) (placed events at count)
all_placed [] at count h = tt
all_placed (e ∷ rest) at count h = (h.0, all_placed rest (at + 1) count h.1)

header_brings : (header : Result (List Recorded)) (place count : ℕ) (later : Script Recorded) → Gives (All Brings) header → All (λ (p : Placed Recorded). Brings p.event) later.events
    → All (λ (p : Placed Recorded). Brings p.event) (on_result header (λ number. script [] number place count) (λ events. script (placed events (place + header_size) count ++ later.events) later.number later.offset later.count)).events
header_brings (refuses number) place count later g h = tt
header_brings (gives events) place count later g h = all_append _ (placed events (place + header_size) count) later.events (all_placed events (place + header_size) count g) h

script_brings : (trace : Trace) (count : ℕ) → Carries (λ (b : ℕ). b < 256) trace → All (λ (p : Placed Recorded). Brings p.event) (script_from the_chip trace count).events
unfolding script_from
script_brings (ended offset) count h = tt
script_brings (cut offset) count h = tt
script_brings (r then rest) count h = header_brings (the_chip.events r.kind r.payload) r.place count (script_from the_chip rest (count + 1)) (brings r.kind r.payload h.0) (script_brings rest (count + 1) h.1)

-- the run, on a state and memory that are found legal
module _ (state memory : List ℕ) (r : Registers) (found : asked state memory ≡ Asked.Found r) (trace : List ℕ) (bytes : Bytes trace) where
  pub run_by_calls_lem : run state memory trace ≡ run_by_calls state memory trace
  unfolding run_by_calls split
  run_by_calls_lem =
      let size = fits state memory r found in
      let all = script_from the_chip (split trace) 0 in
      let own : stored r state ≡ state = rw (← size.registers) (stored_own state size.image) in
      run_found state memory r found trace ∙
      ap (λ p. ran_of p state) (one_by_one_lem the_chip (split trace) 0 (chip_of r memory)) ∙
      by_calls_lem state size.image all.events all.number all.offset all.count (script_brings (split trace) 0 (split_carries _ 0 0 trace bytes)) r memory (asked_legal state memory r found) size.display ∙
      ap (λ lent. by_calls all.events (stop_of all.number all.offset all.count) lent memory) own
