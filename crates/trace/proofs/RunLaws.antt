-- What a run does as a whole.
-- Assumes nothing.
use mathlib.Core.Path.{◌≡◌, ◌∙◌, ap}
use mathlib.Core.Logic.{◌≢◌}
use mathlib.Core.List.{List, [], ◌∷◌, ◌++◌}
use Prim.Native.Nat.{ℕ}
use borrow.Author.Tests.{ne_eqb}
use Rattle.constants.specs.Numbers.{taken}
use Rattle.bus.specs.Registers.{registers_of}
use Rattle.bus.specs.Image.{asked, Accepted}
use Rattle.bus.specs.declared.registers.Registers.{Registers}
use Rattle.bus.specs.Answer.{Asked}
use Rattle.bus.proofs.Asking.{found_legal}
use Rattle.trace.specs.Records.{split}
use Rattle.trace.specs.Kinds.{Recorded, chip_of, the_chip}
use Rattle.trace.specs.OneByOne.{Placed, script_from}
use Rattle.trace.specs.ByCalls.{by_calls, run_by_calls}
use Rattle.trace.specs.Run.{ran, stop_of, ran_of}
use Rattle.trace.specs.Given.{EachTaken}
use Rattle.trace.specs.RunLaws.{left_by, met_after, RunLaws, ChipAsMachine}
use Rattle.trace.specs.Run.{Stop}
use Rattle.trace.proofs.OneByOne.{one_by_one_lem}
use Rattle.trace.proofs.RunOnLent.{run_found, run_empty, run_legal, run_joined, run_whole, run_past, run_lengths}
use Rattle.trace.proofs.AnyMachine.{any_machine}
use Rattle.trace.proofs.ChipRefusals.{the_chip_sound}
use Rattle.trace.proofs.RunByCalls.{run_by_calls_lem}

-- the calls stop at the first event that meets a refusal
stops_first : (before : List (Placed Recorded)) (p : Placed Recorded) (rest : List (Placed Recorded)) (stop : Stop) (state memory : List ℕ) → EachTaken before state memory → met_after before p state memory ≢ taken
    → by_calls (before ++ p ∷ rest) stop state memory ≡ ran (stop_of (met_after before p state memory) p.offset p.before) (left_by before state memory).state (left_by before state memory).memory
unfolding by_calls
stops_first [] p rest stop state memory h n = rw (ne_eqb _ _ n)
stops_first (q ∷ before) p rest stop state memory h n = rw h.0 (stops_first before p rest stop _ _ h.1 (rw h.0 at n))

module _ (state memory : List ℕ) where
  is_found : Accepted state memory → asked state memory ≡ Asked.Found (registers_of state)
  unfolding asked
  is_found a = rw (a.long_enough, a.in_ranges)

  accepted : {r : Registers} → asked state memory ≡ Asked.Found r → Accepted state memory
  accepted e = let l = found_legal state memory e in record { long_enough = l.0; in_ranges = l.1 }

pub run_laws : (state memory : List ℕ) → RunLaws state memory
unfolding run_by_calls
run_laws state memory =
    record {
      by_calls = λ a trace bytes. run_by_calls_lem state memory _ (is_found state memory a) trace bytes;
      by_steps = λ a trace. run_found state memory _ (is_found state memory a) trace ∙ ap (λ p. ran_of p state) (one_by_one_lem the_chip (split trace) 0 (chip_of (registers_of state) memory));
      first_refused = λ a trace bytes before p rest e h n.
          let all = script_from the_chip (split trace) 0 in
          let end = stop_of all.number all.offset all.count in
          run_by_calls_lem state memory _ (is_found state memory a) trace bytes ∙ ap (λ (events : List (Placed Recorded)). by_calls events end state memory) e ∙ stops_first before p rest end state memory h n;
      empty = λ a. run_empty state memory _ (is_found state memory a);
      joined = run_joined state memory;
      whole = run_whole state memory;
      stays_legal = λ a trace bytes. accepted _ _ (run_legal state memory _ (is_found state memory a) trace bytes);
      state_past = λ trace. (run_past state memory trace).0;
      memory_past = λ trace. (run_past state memory trace).1;
      state_length = λ trace. (run_lengths state memory trace).0;
      memory_length = λ trace. (run_lengths state memory trace).1;
    }

pub chip_as_machine : ChipAsMachine
chip_as_machine = record { sound = the_chip_sound; laws = any_machine the_chip }
