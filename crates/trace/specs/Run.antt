-- The run of a trace on a lent state and memory: the whole outcome as one function of what is lent.
use Rattle.std.specs.Prelude.{ℕ, List}
use Rattle.bus.specs.Chip.{Chip}
use Rattle.bus.specs.Image.{asked, stored}
use Rattle.bus.specs.Answer.{Asked}
use Rattle.trace.specs.Records.{split}
use Rattle.trace.specs.Play.{Played, play}
use Rattle.trace.specs.Kinds.{chip_of, the_chip}

-- Where a run stopped: the number, the offset and the count of whole records done.
pub record Stop : Type 0 where
  pub number : ℕ
  pub offset : ℕ
  pub count : ℕ

-- What a run answers, and the state and memory that it leaves.
pub record Ran : Type 0 where
  pub stop : Stop
  pub state : List ℕ
  pub memory : List ℕ

abbrev pub ran : Stop → List ℕ → List ℕ → Ran
ran s later left = record { stop = s; state = later; memory = left }

abbrev pub stop_of : ℕ → ℕ → ℕ → Stop
stop_of n at c = record { number = n; offset = at; count = c }

-- A played trace as a run's outcome: the image of the registers and the memory that it leaves.
unfoldable pub ran_of : Played Chip → List ℕ → Ran
ran_of p state = ran (stop_of p.number p.offset p.count) (stored p.state.registers state) p.state.memory

-- A run on what was asked first: for refusals 1 and 2 offset and count are 0.
unfoldable pub run_on : Asked → List ℕ → List ℕ → List ℕ → Ran
run_on (Asked.Found r) state memory trace = ran_of (play the_chip (split trace) (chip_of r memory)) state
run_on (Asked.Refused number) state memory trace = ran (stop_of number 0 0) state memory

unfoldable pub run : List ℕ → List ℕ → List ℕ → Ran
run state memory trace = run_on (asked state memory) state memory trace
