-- Document 02, Order 4: kinds 1 to 4 of a wide trace stand for what they stand for in a trace of one chip. proofs/AsNarrow.antt proves `AsNarrow`.
use Rattle.std.specs.Prelude.{ℕ, ◌≡◌, ◌≢◌, List, [], ◌∷◌, ◌++◌}
use Rattle.constants.specs.Numbers.{taken, kind_unknown}
use Rattle.trace.specs.Run.{Ran, stop_of, run}
use Rattle.widebus.specs.Pair.{Pair, Lent, lent, at}
use Rattle.widebus.specs.declared.selection.Side.{Side}
use Rattle.widetrace.specs.WideRun.{WideRan, wide_ran, wide_run}
use Rattle.widetrace.specs.WideRunLaws.{BothAccepted, wide_further}
use Rattle.widetrace.specs.OneChipAlone.{with_on}

-- A select record for the chip on a side alone: kind 5, payload one byte, 1 for left and 2 for right.
abbrev pub select_record : Side → List ℕ
select_record Side.Left = 1 ∷ 0 ∷ 5 ∷ 0 ∷ 1 ∷ []
select_record Side.Right = 1 ∷ 0 ∷ 5 ∷ 0 ∷ 2 ∷ []

-- A run of the chip on a side, the other chip as it was.
abbrev pub ran_on : Side → Ran → Pair Lent → WideRan
ran_on side narrow all = wide_ran narrow.stop (with_on side (lent narrow.state narrow.memory) all)

pub record AsNarrow (all : Pair Lent) : Type 0 where
  -- Any trace, behind a record that selects one chip, runs on that chip as document 01's run does: five bytes and one record later, with its reads and its refusals, and with the other chip as it was. A run that meets 9 is left out, since kind 5 is 9 for one chip.
  pub behind : BothAccepted all → (side : Side) (trace : List ℕ) → let narrow = run (at side all).state (at side all).memory trace in
      narrow.stop.number ≢ kind_unknown → wide_run all (select_record side ++ trace) ≡ wide_further (stop_of taken 5 1) (ran_on side narrow all)
