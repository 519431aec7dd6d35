-- What a run of the wide terminal does as a whole.
-- Assumes nothing.
use mathlib.Core.Path.{◌≡◌, refl, sym, ◌∙◌, ap, subst}
use mathlib.Core.List.{List, [], ◌∷◌, ◌++◌}
use Prim.Native.Nat.{ℕ, ◌≤◌}
use native.Mathlib.Omega.{arith}
use lib.ListN.{length, drop, length-drop}
use Rattle.constants.specs.Numbers.{taken}
use Rattle.constants.specs.Sizes.{image_size, memory_size}
use Rattle.bus.specs.Bytes.{Bytes}
use Rattle.bus.specs.Chip.{Chip}
use Rattle.bus.specs.Image.{asked, stored, Accepted}
use Rattle.bus.specs.Registers.{registers_of}
use Rattle.bus.specs.Answer.{Asked}
use Rattle.bus.proofs.Asking.{found_legal}
use Rattle.bus.proofs.Kept.{asked_legal}
use Rattle.bus.proofs.Legal.{long}
use Rattle.bus.proofs.Stored.{stored_long, stored_own, stored_again, stored_past, asked_stored}
use Rattle.bus.specs.Stretch.{stretched, counted_on, stretch}
use Rattle.trace.specs.Records.{split, records_in}
use Rattle.trace.specs.Play.{Result, refuses, gives, on_result, Played, played, play}
use Rattle.trace.specs.OneByOne.{Placed, script_from, applied}
use Rattle.trace.specs.AnyMachine.{AnyMachine}
use Rattle.trace.specs.Run.{stop_of}
use Rattle.trace.proofs.AnyMachine.{any_machine}
use Rattle.trace.proofs.PlayedKeeps.{all_any}
use Rattle.trace.proofs.ChipKeeps.{Held, Aside, Brings, Anything, brings, brings_any, replay_held, replay_aside}
use Rattle.widebus.specs.Pair.{Pair, Lent, at}
use Rattle.widebus.specs.declared.selection.Selection.{Selection}
use Rattle.widebus.specs.declared.selection.Side.{Side}
use Rattle.widebus.specs.Events.{replay_on}
use Rattle.widetrace.specs.Terminal.{Terminal, terminal, WideEvent, selects, happens, wide_step, the_terminal}
use Rattle.widetrace.specs.EachChip.{unplaced}
use Rattle.widetrace.specs.WideRun.{WideRan, wide_ran, wide_ran_of, wide_run}
use Rattle.widetrace.specs.WideRunLaws.{BothAccepted, terminal_in, wide_run_from, selected_after, last_selected, wide_further, WideRunLaws, TerminalAsMachine}
use Rattle.widetrace.proofs.TerminalStretches.{terminal_never_zero}
use Rattle.widetrace.proofs.TerminalHeaders.{header_never_zero}
use Rattle.widetrace.proofs.AppliedStretches.{none_refused, stops_first}
use Rattle.widetrace.proofs.TerminalHeard.{WideBrings, wide_brings, step_keeps}
use Rattle.widetrace.proofs.WideRunOnLent.{plays, run_found, run_refused, by_asking, accepted, accepted_on, the_chip_lem, the_lent}

pub terminal_as_machine : TerminalAsMachine
terminal_as_machine = record { sound = record { events = header_never_zero; step = terminal_never_zero }; laws = any_machine the_terminal }

abbrev laws : AnyMachine the_terminal
laws = any_machine the_terminal

-- what is found of a state and memory that are accepted
is_found : (one : Lent) → Accepted one.state one.memory → asked one.state one.memory ≡ Asked.Found (registers_of one.state)
unfolding asked
is_found one a = rw (a.long_enough, a.in_ranges)

-- events that are all taken leave the last selection among them
last_selected_lem : (events : List WideEvent) (t : Terminal) → (stretch wide_step events t).number ≡ taken → (stretch wide_step events t).state.selection ≡ last_selected t.selection events
unfolding stretch wide_step last_selected
last_selected_lem [] t h = refl
last_selected_lem (selects selection ∷ rest) t h = last_selected_lem rest (terminal t.chips selection) h
last_selected_lem (happens recorded ∷ rest) t h = by (replay_on t.selection recorded t.chips) (terminal_never_zero (happens recorded) t) h (λ chips. last_selected_lem rest (terminal chips t.selection))
  where
    by : (x : Result (Pair Chip)) → ((number : ℕ) → on_result x refuses (λ chips. gives (terminal chips t.selection)) ≡ refuses number → number ≡ taken → ⊥)
        → (on_result (on_result x refuses (λ chips. gives (terminal chips t.selection))) (λ number. stretched t 0 number) (λ u. counted_on 1 (stretch wide_step rest u))).number ≡ taken
        → ((chips : Pair Chip) → (stretch wide_step rest (terminal chips t.selection)).number ≡ taken → (stretch wide_step rest (terminal chips t.selection)).state.selection ≡ last_selected t.selection rest)
        → (on_result (on_result x refuses (λ chips. gives (terminal chips t.selection))) (λ number. stretched t 0 number) (λ u. counted_on 1 (stretch wide_step rest u))).state.selection ≡ last_selected t.selection rest
    by (refuses number) n h later = absurd (n number refl h)
    by (gives chips) n h later = later chips h

module _ (all : Pair Lent) (ok : BothAccepted all) where
  image : (side : Side) → image_size ≤ length (at side all).state
  image side = (long _ _ (accepted_on all side ok).long_enough).0

  -- the chip on a side that a played trace leaves
  abbrev chip : List ℕ → Side → Chip
  chip trace side = at side (plays all trace).state.chips

  aside : (trace : List ℕ) (side : Side) → Aside (at side all).memory (chip trace side)
  aside trace side =
      let P : Chip → Type 0 = Aside (at side all).memory in
      laws.kept _ (λ (t : Terminal). P (at side t.chips)) (WideBrings Anything) (wide_brings _ Anything brings_any) (step_keeps P Anything (replay_aside (at side all).memory) side) trace (terminal_in all Selection.Both) (all_any trace)
      (subst P (sym (the_chip_lem all side)) (record { size = refl; past = refl }))

  -- the chips that are lent are legal, and a trace of bytes keeps them so
  pub at_start : (side : Side) → Held (at side all).memory (at side (terminal_in all Selection.Both).chips)
  at_start side = subst (Held (at side all).memory) (sym (the_chip_lem all side)) (record { registers = asked_legal (at side all).state (at side all).memory _ (is_found (at side all) (accepted_on all side ok)); size = refl; past = refl })

  held : (trace : List ℕ) → Bytes trace → (side : Side) → Held (at side all).memory (chip trace side)
  held trace bytes side =
      let P : Chip → Type 0 = Held (at side all).memory in
      laws.kept _ (λ (t : Terminal). P (at side t.chips)) (WideBrings Brings) (wide_brings _ Brings brings) (step_keeps P Brings (replay_held (at side all).memory) side) trace (terminal_in all Selection.Both) bytes (at_start side)

  -- what is left on a side is found legal, with its registers
  left_found : (trace : List ℕ) → Bytes trace → (side : Side) → asked (stored (chip trace side).registers (at side all).state) (chip trace side).memory ≡ Asked.Found (chip trace side).registers
  left_found trace bytes side =
      let h = held trace bytes side in
      asked_stored (at side all).state (image side) _ _ (omega (arith, h.size, (long _ _ (accepted_on all side ok).long_enough).1)) h.registers

  left_accepted : (trace : List ℕ) → Bytes trace → (side : Side) → Accepted (stored (chip trace side).registers (at side all).state) (chip trace side).memory
  left_accepted trace bytes side = let l = found_legal _ _ (left_found trace bytes side) in record { long_enough = l.0; in_ranges = l.1 }

  legal_found : (trace : List ℕ) → Bytes trace → BothAccepted (wide_run all trace).lent
  unfolding wide_ran_of
  legal_found trace bytes = rw (run_found all ok trace) (left_accepted trace bytes Side.Left, left_accepted trace bytes Side.Right)

  -- an empty trace leaves the images that were lent
  empty_found : wide_run all [] ≡ wide_ran (stop_of taken 0 0) all
  unfolding wide_ran_of
  empty_found = run_found all ok [] ∙ ap (λ (p : Played Terminal). wide_ran_of p all) (laws.empty (terminal_in all Selection.Both)) ∙ rw (stored_own all.left.state (image Side.Left), stored_own all.right.state (image Side.Right))

  -- on a side: bytes past the needed lengths, and the lengths
  record Stays (side : Side) (later : Lent) : Type 0 where
    state_past : drop image_size later.state ≡ drop image_size (at side all).state
    memory_past : drop memory_size later.memory ≡ drop memory_size (at side all).memory
    state_length : length later.state ≡ length (at side all).state
    memory_length : length later.memory ≡ length (at side all).memory

  stays_found : (trace : List ℕ) (side : Side) → Stays side (at side (wide_run all trace).lent)
  stays_found trace side =
      let r = (chip trace side).registers in
      let whole : length (stored r (at side all).state) ≡ length (at side all).state = rw (stored_long (at side all).state (image side) r, length-drop image_size (at side all).state) (omega (arith, image side)) in
      rw (run_found all ok trace, the_lent all (plays all trace) side)
      (record { state_past = stored_past (at side all).state (image side) r; memory_past = (aside trace side).past; state_length = whole; memory_length = (aside trace side).size })

  whole_found : (trace : List ℕ) → (wide_run all trace).stop.number ≡ taken → ((wide_run all trace).stop.offset ≡ length trace) × ((wide_run all trace).stop.count ≡ records_in (split trace))
  unfolding wide_ran_of
  whole_found trace h =
      let e = run_found all ok trace in
      let w = laws.whole terminal_as_machine.sound trace (terminal_in all Selection.Both) (ap (λ (o : WideRan). o.stop.number) (sym e) ∙ h) in
      (ap (λ (o : WideRan). o.stop.offset) e ∙ w.0, ap (λ (o : WideRan). o.stop.count) e ∙ w.1)

  selected_found : (trace : List ℕ) → (wide_run all trace).stop.number ≡ taken → selected_after all trace ≡ last_selected Selection.Both (unplaced (script_from the_terminal (split trace) 0).events)
  unfolding wide_ran_of
  selected_found trace h =
      let start = terminal_in all Selection.Both in
      let script = script_from the_terminal (split trace) 0 in
      let e = laws.by_events trace start in
      let n : (plays all trace).number ≡ taken = ap (λ (o : WideRan). o.stop.number) (sym (run_found all ok trace)) ∙ h in
      let s = none_refused wide_step terminal_never_zero script.number script.offset script.count script.events start (ap (λ (p : Played Terminal). p.number) (sym e) ∙ n) in
      ap (λ (p : Played Terminal). p.state.selection) e ∙ ap (λ (t : Terminal). t.selection) (sym s.1) ∙ last_selected_lem (unplaced script.events) start s.0

  first_refused : (trace : List ℕ) (before : List (Placed WideEvent)) (p : Placed WideEvent) (rest : List (Placed WideEvent)) (number : ℕ) → (script_from the_terminal (split trace) 0).events ≡ before ++ p ∷ rest
      → let early = stretch wide_step (unplaced before) (terminal_in all Selection.Both) in early.number ≡ taken → wide_step p.event early.state ≡ refuses number
      → wide_run all trace ≡ wide_ran_of (played number p.offset p.before early.state) all
  first_refused trace before p rest number e h s =
      let start = terminal_in all Selection.Both in
      let script = script_from the_terminal (split trace) 0 in
      run_found all ok trace ∙ ap (λ (p : Played Terminal). wide_ran_of p all) (laws.by_events trace start
      ∙ ap (λ (events : List (Placed WideEvent)). applied wide_step events script.number script.offset script.count start) e ∙ stops_first wide_step terminal_never_zero script.number script.offset script.count before p rest start number h s)

  -- `a`, then `b`
  module _ (a : List ℕ) (bytes : Bytes a) where
    -- what `a` leaves is lent again as the terminal that it left
    same_registers : (side : Side) → registers_of (stored (chip a side).registers (at side all).state) ≡ (chip a side).registers
    same_registers side = (found_legal _ _ (left_found a bytes side)).2

    again : terminal_in (wide_ran_of (plays all a) all).lent (selected_after all a) ≡ (plays all a).state
    unfolding wide_ran_of
    again = rw (same_registers Side.Left, same_registers Side.Right)

    -- and its images are stored over
    twice : (p : Played Terminal) → wide_ran_of p (wide_ran_of (plays all a) all).lent ≡ wide_ran_of p all
    unfolding wide_ran_of
    twice p = rw (stored_again all.left.state (image Side.Left) (chip a Side.Left).registers p.state.chips.left.registers, stored_again all.right.state (image Side.Right) (chip a Side.Right).registers p.state.chips.right.registers)

    joined_found : (b : List ℕ) → (wide_run all a).stop.number ≡ taken → wide_run all (a ++ b) ≡ wide_further (wide_run all a).stop (wide_run_from (selected_after all a) (wide_run all a).lent b)
    unfolding wide_ran_of
    joined_found b h =
        let e = run_found all ok a in
        let n = ap (λ (o : WideRan). o.stop.number) (sym e) ∙ h in
        run_found all ok (a ++ b) ∙ ap (λ (p : Played Terminal). wide_ran_of p all) (laws.joined terminal_as_machine.sound a b (terminal_in all Selection.Both) n)
        ∙ rw (e, again) (ap (λ (o : WideRan). wide_further (wide_ran_of (plays all a) all).stop o) (sym (twice (play the_terminal (split b) (plays all a).state))))

module _ (all : Pair Lent) where
  stays : (trace : List ℕ) (side : Side) → (drop image_size (at side (wide_run all trace).lent).state ≡ drop image_size (at side all).state) × (drop memory_size (at side (wide_run all trace).lent).memory ≡ drop memory_size (at side all).memory)
      × (length (at side (wide_run all trace).lent).state ≡ length (at side all).state) × (length (at side (wide_run all trace).lent).memory ≡ length (at side all).memory)
  stays trace side = by_asking all _ (λ a. let s = stays_found all a trace side in (s.state_past, s.memory_past, s.state_length, s.memory_length)) (λ number e n. rw (run_refused all trace e) (refl, refl, refl, refl))

  joined : (a b : List ℕ) → Bytes a → (wide_run all a).stop.number ≡ taken → wide_run all (a ++ b) ≡ wide_further (wide_run all a).stop (wide_run_from (selected_after all a) (wide_run all a).lent b)
  joined a b bytes h = joined_found all (accepted all a h) a bytes b h

  two_runs : (a b : List ℕ) → Bytes a → (wide_run all a).stop.number ≡ taken → selected_after all a ≡ Selection.Both → wide_run all (a ++ b) ≡ wide_further (wide_run all a).stop (wide_run (wide_run all a).lent b)
  two_runs a b bytes h both =
      joined a b bytes h ∙ ap (λ (selection : Selection). wide_further (wide_run all a).stop (wide_run_from selection (wide_run all a).lent b)) both
      ∙ ap (λ (o : WideRan). wide_further (wide_run all a).stop o) (sym (run_found (wide_run all a).lent (legal_found all (accepted all a h) a bytes) b))

pub wide_run_laws : (all : Pair Lent) → WideRunLaws all
wide_run_laws all =
    record {
      by_steps = λ a trace. run_found all a trace ∙ ap (λ (p : Played Terminal). wide_ran_of p all) (laws.by_events trace (terminal_in all Selection.Both));
      first_refused = λ a. first_refused all a;
      empty = λ a. empty_found all a;
      refused = λ trace number e. run_refused all trace e;
      whole = λ trace h. whole_found all (accepted all trace h) trace h;
      joined = joined all;
      two_runs = two_runs all;
      selected = λ trace h. selected_found all (accepted all trace h) trace h;
      stays_legal = λ a trace bytes. legal_found all a trace bytes;
      state_past = λ trace side. (stays all trace side).0;
      memory_past = λ trace side. (stays all trace side).1;
      state_length = λ trace side. (stays all trace side).2;
      memory_length = λ trace side. (stays all trace side).3;
    }
