-- What the code's own types stand for.
use Rattle.std.specs.Prelude.{List, ℕ, ◌≡◌, ⊤, Result, Ok, Err}
use Rattle.constants.specs.Refusals.{number_of_refusal, number_met}
use Rattle.bus.specs.declared.registers.Registers.{Registers}
use Rattle.trace.specs.Play.{Played, played, gives}
use Rattle.trace.specs.Kinds.{events_of}
use Rattle.trace.specs.Code.{recorded_in}
use Rattle.trace.specs.declared.run.Halt.{Halt}
use Rattle.trace.specs.declared.run.Stop.{Stop}
use Rattle.widebus.specs.Pair.{chips_of}
use Rattle.widebus.specs.declared.selection.Selection.{Selection}
use Rattle.widetrace.specs.Terminal.{Terminal, terminal}
use Rattle.widetrace.specs.Heeding as heeding
use Rattle.widetrace.specs.declared.heed.Heed.{Heed}
use Rattle.widetrace.specs.declared.run.WidePlayed.{WidePlayed}

-- How the code heeds a record.
abbrev pub heed_met : Result Heed Halt → heeding.Heed
heed_met (Ok (Heed.Obeys kind)) = heeding.Heed.Obeys
heed_met (Ok (Heed.Passes next)) = heeding.Heed.Passes next
heed_met (Err halt) = heeding.Heed.Refused (number_of_refusal halt.refusal) halt.offset

-- A record that it obeys stands for what its kind stands for.
abbrev pub Obeys : Result Heed Halt → ℕ → List ℕ → Type 0
Obeys (Ok (Heed.Obeys named)) kind payload = events_of kind payload ≡ gives (recorded_in named payload)
Obeys (Ok (Heed.Passes next)) kind payload = ⊤
Obeys (Err halt) kind payload = ⊤

abbrev pub wide_played : Stop → Registers → Registers → Selection → WidePlayed
wide_played stop l r chosen = record { stop = stop; registers = record { left = l; right = r }; selection = chosen }

-- A played trace, with the memories that are left beside it.
unfoldable pub wide_played_of : WidePlayed → List ℕ → List ℕ → Played Terminal
wide_played_of p left right = played (number_met p.stop.outcome) p.stop.offset p.stop.count (terminal (chips_of p.registers left right) p.selection)
