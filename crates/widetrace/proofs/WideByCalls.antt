-- A run is what the wide terminal's event calls give one by one, up to the first refused one; one call is what its event does to the chips that are lent.
-- Assumes nothing.
use mathlib.Core.Path.{◌≡◌, refl, sym, ◌∙◌, ap}
use mathlib.Core.Logic.{◌≢◌, inl}
use mathlib.Core.Bool.{Bool, true, false, cond, not, ◌&&◌, ◌||◌}
use mathlib.Core.List.{List, [], ◌∷◌, ◌++◌}
use Prim.Native.Nat.{ℕ, ◌+◌, ◌≤◌}
use native.Mathlib.Omega.{arith}
use borrow.Author.Tests.{ne_eqb}
use lib.Dec.{eqb}
use lib.ListN.{length}
use Rattle.constants.specs.Numbers.{taken, read_differs}
use Rattle.constants.specs.Sizes.{image_size, memory_size, header_size}
use Rattle.bus.specs.Bytes.{All, Bytes}
use Rattle.bus.specs.Chip.{Chip, Event, command_byte, data_written, data_read, reset_pulse, step}
use Rattle.bus.specs.Events.{number_of, byte_of, dummy_of}
use Rattle.bus.specs.Image.{short, legal, stored}
use Rattle.bus.specs.StaysLegal.{LegalRegisters}
use Rattle.bus.specs.Calls.{Called, reply_of, state_after, concluded, call}
use Rattle.bus.specs.declared.registers.Registers.{Registers}
use Rattle.bus.specs.Answer.{Answer}
use Rattle.bus.proofs.Answers.{StandsFor, step_answers}
use Rattle.bus.proofs.Asking.{found_legal}
use Rattle.bus.proofs.Legal.{long}
use Rattle.bus.proofs.Stored.{stored_own, stored_again, asked_stored, call_stored}
use Rattle.trace.specs.Records.{Trace, ended, cut, ◌then◌, split}
use Rattle.trace.specs.Play.{Result, refuses, gives, on_result, Machine, Played, played}
use Rattle.trace.specs.Kinds.{Recorded, event, read_as, chip_of, happened, compared, replay}
use Rattle.trace.specs.AnyMachine.{Gives}
use Rattle.trace.specs.OneByOne.{Placed, placed, Script, script, script_from, applied}
use Rattle.trace.specs.ByCalls.{called_by, meets}
use Rattle.trace.specs.Run.{stop_of}
use Rattle.trace.proofs.AnyMachine.{any_machine}
use Rattle.trace.proofs.PlayedKeeps.{Carries, split_carries}
use Rattle.trace.proofs.ChipKeeps.{Held, Brings, brings, replay_held}
use Rattle.widebus.specs.Pair.{Pair, ◌beside◌, Lent, lent, at}
use Rattle.widebus.specs.Selection.{selection_of}
use Rattle.widebus.specs.Events.{to_selected, is_read, replay_on}
use Rattle.widebus.specs.WideCalls.{WideCalled, wide_called, refused_wide, leaves, call_both, call_selected, asks_ranges, wide_call}
use Rattle.widebus.specs.declared.selection.Selection.{Selection}
use Rattle.widebus.specs.declared.selection.Side.{Side}
use Rattle.widetrace.specs.Terminal.{Terminal, terminal, WideEvent, selects, happens, wide_step, the_terminal}
use Rattle.widetrace.specs.WideRun.{wide_ran, lent_after, wide_ran_of, wide_run}
use Rattle.widetrace.specs.WideRunLaws.{BothAccepted, terminal_in}
use Rattle.widetrace.specs.WideByCalls.{selection_number, on_event, wide_by_calls, wide_run_by_calls, WideByCalls, OneCall}
use Rattle.widebus.proofs.WideGiven.{wide_given}
use Rattle.widebus.proofs.WideUntouched.{wide_untouched}
use Rattle.widetrace.proofs.TerminalHeard.{WideBrings, wide_brings, step_keeps}
use Rattle.widetrace.proofs.WideRunOnLent.{run_found, accepted_on}
use Rattle.widetrace.proofs.WideRunLaws.{at_start}

-- the call of one chip beside what its event gives, on a state that the chip's registers were stored in
module _ (state : List ℕ) (h : image_size ≤ length state) (c : Chip) (l : LegalRegisters c.registers) (m : memory_size ≤ length c.memory) where
  -- the number that is met and what is left, by what the event gives
  abbrev Meets : ℕ → Lent → Result Chip → Type 0
  Meets met later (refuses number) = (met ≡ number) × (number ≢ taken)
  Meets met later (gives next) = (met ≡ taken) × (later ≡ lent (stored next.registers state) next.memory)

  abbrev One : Recorded → Called → Result Chip → Type 0
  One recorded outcome = Meets (meets recorded outcome.reply) (leaves outcome)

  of_event : (e : Event) (met : ℕ) (answer : Answer) (left : List ℕ) → StandsFor met answer
      → One (event e) (record { reply = reply_of answer; state = state_after answer (stored c.registers state); memory = left }) (happened answer left)
  unfolding happened reply_of state_after number_of
  of_event e met (Answer.Taken after) left s = (refl, rw (stored_again state h c.registers after.registers))
  of_event e met (Answer.Refused number) left s = (refl, λ z. omega (arith, s.1))

  agreed : (agrees : Bool) (r : Registers) (left : List ℕ) → Meets (cond (not agrees) read_differs taken) (lent (stored r (stored c.registers state)) left) (cond agrees (gives (chip_of r left)) (refuses read_differs))
  agreed true r left = (refl, rw (stored_again state h c.registers r))
  agreed false r left = (refl, λ z. omega arith)

  of_read : (byte met : ℕ) (answer : Answer) (left : List ℕ) → StandsFor met answer
      → One (read_as byte) (record { reply = reply_of answer; state = state_after answer (stored c.registers state); memory = left }) (compared byte answer left)
  unfolding compared reply_of state_after number_of byte_of dummy_of
  of_read byte met (Answer.Taken after) left s = agreed (after.dummy || eqb after.byte byte) after.registers left
  of_read byte met (Answer.Refused number) left s = (rw (ne_eqb number taken (λ z. omega (arith, s.1))), λ z. omega (arith, s.1))

  one : (recorded : Recorded) → One recorded (call (called_by recorded) (stored c.registers state) c.memory) (replay recorded c)
  unfolding replay concluded
  one (event e) = rw (call_stored state h e c.registers c.memory l m) (of_event e _ (step e c.registers c.memory).answer _ (step_answers e c.registers c.memory))
  one (read_as byte) = rw (call_stored state h data_read c.registers c.memory l m) (of_read byte _ (step data_read c.registers c.memory).answer _ (step_answers data_read c.registers c.memory))

asks_no : (e : Event) → (asks_ranges e && false) ≡ false
asks_no (command_byte b) = refl
asks_no (data_written b) = refl
asks_no data_read = refl
asks_no reset_pulse = refl

number_selects : (selection : Selection) → selection_of (selection_number selection) ≡ gives selection
unfolding selection_of
number_selects Selection.Left = refl
number_selects Selection.Right = refl
number_selects Selection.Both = refl

module _ (all : Pair Lent) (ok : BothAccepted all) where
  -- what is lent once the chips have come to be others
  abbrev lent_now : Pair Chip → Pair Lent
  lent_now chips = lent_after chips.left all.left beside lent_after chips.right all.right

  abbrev Legal : Pair Chip → Type 0
  Legal chips = (side : Side) → Held (at side all).memory (at side chips)

  image : (side : Side) → image_size ≤ length (at side all).state
  image side = (long _ _ (accepted_on all side ok).long_enough).0

  module _ (chips : Pair Chip) (good : Legal chips) where
    display : (side : Side) → memory_size ≤ length (at side chips).memory
    display side = omega (arith, (good side).size, (long _ _ (accepted_on all side ok).long_enough).1)

    legal_now : (side : Side) → (short (stored (at side chips).registers (at side all).state) (at side chips).memory ≡ false) × (legal (stored (at side chips).registers (at side all).state) ≡ true)
    legal_now side =
        let f = found_legal _ _ (asked_stored (at side all).state (image side) (at side chips).memory (at side chips).registers (display side) (good side).registers) in
        (f.0, f.1)

    -- 1, 2 and 13 do not refuse the call
    selected : (selection : Selection) (e : Event) → wide_call (selection_number selection) e (lent_now chips) ≡ call_selected selection e (lent_now chips)
    unfolding wide_call
    selected selection e =
        let l = legal_now Side.Left in
        let r = legal_now Side.Right in
        rw (l.0, r.0, l.1, r.1, asks_no e, number_selects selection)

    -- what the call comes to by what the event gives
    abbrev Wide : ℕ → Pair Lent → Result (Pair Chip) → Type 0
    Wide met later (refuses number) = (met ≡ number) × (number ≢ taken)
    Wide met later (gives next) = (met ≡ taken) × (later ≡ lent_now next)

    abbrev MeetsOn : Side → Recorded → Result Chip → Type 0
    MeetsOn side recorded = One (at side all).state (image side) (at side chips) (good side).registers (display side) recorded (call (called_by recorded) (stored (at side chips).registers (at side all).state) (at side chips).memory)

    on_side : (side : Side) (recorded : Recorded) → MeetsOn side recorded (replay recorded (at side chips))
    on_side side recorded = one (at side all).state (image side) (at side chips) (good side).registers (display side) recorded

    abbrev called : Selection → Recorded → WideCalled
    called selection recorded = call_selected selection (called_by recorded) (lent_now chips)

    by_left : (recorded : Recorded) (x : Result Chip) → MeetsOn Side.Left recorded x → Wide (meets recorded (called Selection.Left recorded).reply) (called Selection.Left recorded).lent (on_result x refuses (λ l. gives (l beside chips.right)))
    unfolding call_selected
    by_left recorded (refuses number) m = m
    by_left recorded (gives next) m = (m.0, rw m.1)

    by_right : (recorded : Recorded) (x : Result Chip) → MeetsOn Side.Right recorded x → Wide (meets recorded (called Selection.Right recorded).reply) (called Selection.Right recorded).lent (on_result x refuses (λ r. gives (chips.left beside r)))
    unfolding call_selected
    by_right recorded (refuses number) m = m
    by_right recorded (gives next) m = (m.0, rw m.1)

    by_both : (e : Event) → is_read e ≡ false → (x y : Result Chip) → MeetsOn Side.Left (event e) x → MeetsOn Side.Right (event e) y
        → Wide (called Selection.Both (event e)).reply.number (called Selection.Both (event e)).lent (on_result x refuses (λ l. on_result y refuses (λ r. gives (l beside r))))
    unfolding call_selected call_both refused_wide reply_of number_of
    by_both e none (refuses number) y m n = (rw (none, m.0, ne_eqb number taken m.1), m.1)
    by_both e none (gives l) (refuses number) m n = (rw (none, m.0, n.0, ne_eqb number taken n.1), n.1)
    by_both e none (gives l) (gives r) m n = (rw (none, m.0, n.0) m.0, rw (none, m.0, n.0) (rw (m.1, n.1)))

    by_selection : (selection : Selection) (recorded : Recorded) → Wide (meets recorded (called selection recorded).reply) (called selection recorded).lent (replay_on selection recorded chips)
    unfolding replay_on to_selected call_selected refused_wide reply_of number_of
    by_selection Selection.Left recorded = by_left recorded (replay recorded chips.left) (on_side Side.Left recorded)
    by_selection Selection.Right recorded = by_right recorded (replay recorded chips.right) (on_side Side.Right recorded)
    by_selection Selection.Both (read_as byte) = (refl, λ z. omega arith)
    by_selection Selection.Both (event (command_byte b)) = by_both (command_byte b) refl (replay (event (command_byte b)) chips.left) (replay (event (command_byte b)) chips.right) (on_side Side.Left (event (command_byte b))) (on_side Side.Right (event (command_byte b)))
    by_selection Selection.Both (event (data_written b)) = by_both (data_written b) refl (replay (event (data_written b)) chips.left) (replay (event (data_written b)) chips.right) (on_side Side.Left (event (data_written b))) (on_side Side.Right (event (data_written b)))
    by_selection Selection.Both (event data_read) = (refl, λ z. omega arith)
    by_selection Selection.Both (event reset_pulse) = by_both reset_pulse refl (replay (event reset_pulse) chips.left) (replay (event reset_pulse) chips.right) (on_side Side.Left (event reset_pulse)) (on_side Side.Right (event reset_pulse))

  -- the rest of the events, from the terminal that one of them leaves
  abbrev Later : List (Placed WideEvent) → ℕ → ℕ → ℕ → Type 0
  Later rest number offset count = (t : Terminal) → Legal t.chips → wide_ran_of (applied wide_step rest number offset count t) all ≡ wide_by_calls rest (stop_of number offset count) t.selection (lent_now t.chips)

  module _ (rest : List (Placed WideEvent)) (number offset count : ℕ) (later : Later rest number offset count) (t : Terminal) (good : Legal t.chips) (place before : ℕ) where
    -- what follows an event: what the call meets decides
    after_event : (met : ℕ) (left : Pair Lent) (x : Result (Pair Chip)) → Wide t.chips good met left x → ((side : Side) → Gives (λ (u : Terminal). Held (at side all).memory (at side u.chips)) (on_result x refuses (λ chips. gives (terminal chips t.selection))))
        → wide_ran_of (on_result (on_result x refuses (λ chips. gives (terminal chips t.selection))) (λ refusal. played refusal place before t) (λ u. applied wide_step rest number offset count u)) all
        ≡ cond (eqb met taken) (wide_by_calls rest (stop_of number offset count) t.selection left) (wide_ran (stop_of met place before) (lent_now t.chips))
    unfolding wide_ran_of
    after_event met left (refuses refusal) w keeps = rw (w.0, ne_eqb refusal taken w.1)
    after_event met left (gives next) w keeps = rw (w.0, w.1) (later (terminal next t.selection) keeps)

    after_one : (e : WideEvent) → WideBrings Brings e → wide_ran_of (on_result (wide_step e t) (λ refusal. played refusal place before t) (λ u. applied wide_step rest number offset count u)) all
        ≡ on_event e (λ next. wide_by_calls rest (stop_of number offset count) next (lent_now t.chips))
        (λ recorded. let outcome = wide_call (selection_number t.selection) (called_by recorded) (lent_now t.chips) in let met = meets recorded outcome.reply in
        cond (eqb met taken) (wide_by_calls rest (stop_of number offset count) t.selection outcome.lent) (wide_ran (stop_of met place before) (lent_now t.chips)))
    unfolding wide_step
    after_one (selects selection) b = later (terminal t.chips selection) good
    after_one (happens recorded) b =
        rw (selected t.chips good t.selection (called_by recorded))
        (after_event _ _ (replay_on t.selection recorded t.chips) (by_selection t.chips good t.selection recorded)
        (λ side. step_keeps (Held (at side all).memory) Brings (replay_held (at side all).memory) side (happens recorded) t b (good side)))

  by_calls_lem : (events : List (Placed WideEvent)) (number offset count : ℕ) → All (λ (p : Placed WideEvent). WideBrings Brings p.event) events → Later events number offset count
  unfolding applied wide_by_calls wide_ran_of
  by_calls_lem [] number offset count b t good = refl
  by_calls_lem (p ∷ rest) number offset count b t good = after_one rest number offset count (by_calls_lem rest number offset count b.1) t good p.offset p.before p.event b.0

-- what every event of a trace brings, over any machine
module _ {S E : Type 0} (machine : Machine S E) (R : ℕ → Type 0) (Q : E → Type 0) (bring : (kind : ℕ) (payload : List ℕ) → All R payload → Gives (All Q) (machine.events kind payload)) where
  all_append : (a b : List (Placed E)) → All (λ (p : Placed E). Q p.event) a → All (λ (p : Placed E). Q p.event) b → All (λ (p : Placed E). Q p.event) (a ++ b)
  all_append [] b p q = q
  all_append (x ∷ a) b p q = (p.0, all_append a b p.1 q)

  all_placed : (events : List E) (at count : ℕ) → All Q events → All (λ (p : Placed E). Q p.event) (placed events at count)
  all_placed [] at count h = tt
  all_placed (e ∷ rest) at count h = (h.0, all_placed rest (at + 1) count h.1)

  header_brings : (header : Result (List E)) (place count : ℕ) (later : Script E) → Gives (All Q) header → All (λ (p : Placed E). Q p.event) later.events
      → All (λ (p : Placed E). Q p.event) (on_result header (λ number. script [] number place count) (λ events. script (placed events (place + header_size) count ++ later.events) later.number later.offset later.count)).events
  header_brings (refuses number) place count later g h = tt
  header_brings (gives events) place count later g h = all_append (placed events (place + header_size) count) later.events (all_placed events (place + header_size) count g) h

  script_brings : (trace : Trace) (count : ℕ) → Carries R trace → All (λ (p : Placed E). Q p.event) (script_from machine trace count).events
  unfolding script_from
  script_brings (ended offset) count h = tt
  script_brings (cut offset) count h = tt
  script_brings (r then rest) count h = header_brings (machine.events r.kind r.payload) r.place count (script_from machine rest (count + 1)) (bring r.kind r.payload h.0) (script_brings rest (count + 1) h.1)

module _ (all : Pair Lent) (ok : BothAccepted all) (trace : List ℕ) (bytes : Bytes trace) where
  run_by_calls_lem : wide_run all trace ≡ wide_run_by_calls all trace
  unfolding wide_run_by_calls split
  run_by_calls_lem =
      let start = terminal_in all Selection.Both in
      let it = script_from the_terminal (split trace) 0 in
      let own : lent_now all ok start.chips ≡ all = rw (stored_own all.left.state (image all ok Side.Left), stored_own all.right.state (image all ok Side.Right)) in
      run_found all ok trace ∙ ap (λ (p : Played Terminal). wide_ran_of p all) ((any_machine the_terminal).by_events trace start)
      ∙ by_calls_lem all ok it.events it.number it.offset it.count (script_brings the_terminal _ (WideBrings Brings) (wide_brings _ Brings brings) (split trace) 0 (split_carries _ 0 0 trace bytes)) start (at_start all ok)
      ∙ ap (λ (lent : Pair Lent). wide_by_calls it.events (stop_of it.number it.offset it.count) Selection.Both lent) own

pub wide_by_calls_lem : (all : Pair Lent) → WideByCalls all
wide_by_calls_lem all = record { by_calls = run_by_calls_lem all }

-- one call on what is lent
module _ (all : Pair Lent) (ok : BothAccepted all) (selection : Selection) (e : Event) where
  abbrev those : Pair Chip
  those = (terminal_in all selection).chips

  own_lent : lent_now all ok those ≡ all
  own_lent = rw (stored_own all.left.state (image all ok Side.Left), stored_own all.right.state (image all ok Side.Right))

  there : Wide all ok those (at_start all ok) (wide_call (selection_number selection) e all).reply.number (wide_call (selection_number selection) e all).lent (replay_on selection (event e) those)
  there =
      let it = by_selection all ok those (at_start all ok) selection (event e) in
      let now = rw (← (selected all ok those (at_start all ok) selection e)) at it in
      rw own_lent at now

  takes : (later : Pair Chip) → replay_on selection (event e) those ≡ gives later → ((wide_call (selection_number selection) e all).reply.number ≡ taken) × ((wide_call (selection_number selection) e all).lent ≡ lent_now all ok later)
  takes later h = rw h at there

  refused : (number : ℕ) → replay_on selection (event e) those ≡ refuses number → wide_call (selection_number selection) e all ≡ refused_wide number all
  unfolding refused_wide reply_of number_of byte_of dummy_of
  refused number h =
      let met = rw h at there in
      let other : (wide_call (selection_number selection) e all).reply.number ≢ taken = λ z. met.1 (sym met.0 ∙ z) in
      let quiet = (wide_given (selection_number selection) e all).silent (inl other) in
      let same = (wide_untouched (selection_number selection) e all).refused other in
      outcome (wide_call (selection_number selection) e all) met.0 quiet.0 quiet.1 same
    where
      outcome : (o : WideCalled) → o.reply.number ≡ number → o.reply.byte ≡ 0 → o.reply.dummy ≡ false → o.lent ≡ all → o ≡ wide_called (record { number = number; byte = 0; dummy = false }) all
      outcome o n b d l =
          ap (λ (x : ℕ). wide_called (record { number = x; byte = o.reply.byte; dummy = o.reply.dummy }) o.lent) n
          ∙ ap (λ (x : ℕ). wide_called (record { number = number; byte = x; dummy = o.reply.dummy }) o.lent) b
          ∙ ap (λ (x : Bool). wide_called (record { number = number; byte = 0; dummy = x }) o.lent) d
          ∙ ap (λ (x : Pair Lent). wide_called (record { number = number; byte = 0; dummy = false }) x) l

pub one_call : (all : Pair Lent) → OneCall all
one_call all = record { refused = refused all; takes = takes all }
