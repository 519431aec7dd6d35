-- A trace's events by the bus's own event calls, one after the other, on the lent state and memory.
use Rattle.std.specs.Prelude.{ℕ, cond, not, ◌&&◌, ◌||◌, List, [], ◌∷◌, eqb}
use Rattle.constants.specs.Numbers.{taken, read_differs}
use Rattle.bus.specs.Chip.{Event, data_read}
use Rattle.bus.specs.Calls.{call}
use Rattle.bus.specs.Answer.{Reply}
use Rattle.trace.specs.Records.{split}
use Rattle.trace.specs.Kinds.{Recorded, event, read_as, the_chip}
use Rattle.trace.specs.OneByOne.{Placed, script_from}
use Rattle.trace.specs.Run.{Ran, ran, stop_of}
use Rattle.trace.specs.Run.{Stop}

-- The call that a recorded event is made by.
abbrev pub called_by : Recorded → Event
called_by (event e) = e
called_by (read_as byte) = data_read

-- The number that a recorded event meets by the call's reply: its own, or 10 for a taken read that is no dummy and answers another byte.
abbrev pub meets : Recorded → Reply → ℕ
meets (event e) reply = reply.number
meets (read_as byte) reply = cond (eqb reply.number taken && not (reply.dummy || eqb reply.byte byte)) read_differs reply.number

-- The calls in order, up to the first event that meets a refusal, which leaves state and memory as they were.
unfoldable pub by_calls : List (Placed Recorded) → Stop → List ℕ → List ℕ → Ran
by_calls [] stop state memory = ran stop state memory
by_calls (p ∷ rest) stop state memory =
    let called = call (called_by p.event) state memory in
    let number = meets p.event called.reply in
    cond (eqb number taken) (by_calls rest stop called.state called.memory) (ran (stop_of number p.offset p.before) state memory)

-- All the events of a trace by their calls.
unfoldable pub run_by_calls : List ℕ → List ℕ → List ℕ → Ran
run_by_calls state memory trace =
    let all = script_from the_chip (split trace) 0 in
    by_calls all.events (stop_of all.number all.offset all.count) state memory
