-- The run of a trace on the lent states and memories of a wide terminal: the whole outcome as one function of what is lent.
use Rattle.std.specs.Prelude.{ℕ, List}
use Rattle.bus.specs.Image.{stored}
use Rattle.bus.specs.Chip.{Chip}
use Rattle.trace.specs.Records.{split}
use Rattle.trace.specs.Play.{Played, play}
use Rattle.trace.specs.Run.{stop_of}
use Rattle.trace.specs.Run.{Stop}
use Rattle.widebus.specs.Pair.{Pair, ◌beside◌, Lent, lent, chips_of}
use Rattle.widebus.specs.Asked.{asked_both}
use Rattle.widebus.specs.Asked.{BothAsked}
use Rattle.widebus.specs.declared.selection.Selection.{Selection}
use Rattle.widetrace.specs.Terminal.{Terminal, terminal, the_terminal}

-- What a run answers, and the states and memories of both chips that it leaves.
pub record WideRan : Type 0 where
  pub stop : Stop
  pub lent : Pair Lent

abbrev pub wide_ran : Stop → Pair Lent → WideRan
wide_ran s later = record { stop = s; lent = later }

-- What is lent once a chip has come to be another: the image of its registers, and its memory.
abbrev pub lent_after : Chip → Lent → Lent
lent_after chip was = lent (stored chip.registers was.state) chip.memory

-- A played trace as a run's outcome.
unfoldable pub wide_ran_of : Played Terminal → Pair Lent → WideRan
wide_ran_of p all = wide_ran (stop_of p.number p.offset p.count) (lent_after p.state.chips.left all.left beside lent_after p.state.chips.right all.right)

-- A run on what was asked first: each run starts with both selected. For refusals 1 and 2 offset and count are 0.
unfoldable pub wide_run_on : BothAsked → Pair Lent → List ℕ → WideRan
wide_run_on (BothAsked.Found both) all trace = wide_ran_of (play the_terminal (split trace) (terminal (chips_of both all.left.memory all.right.memory) Selection.Both)) all
wide_run_on (BothAsked.Refused number) all trace = wide_ran (stop_of number 0 0) all

unfoldable pub wide_run : Pair Lent → List ℕ → WideRan
wide_run all trace = wide_run_on (asked_both all) all trace
