-- What a record of a wide trace is to one chip of the terminal, by its kind, its payload and who is selected; and what it comes to.
use Rattle.std.specs.Prelude.{ℕ, ◌+◌, Bool, cond, List, eqb, length}
use Rattle.constants.specs.Numbers.{kind_unknown, both_selected}
use Rattle.constants.specs.Sizes.{header_size}
use Rattle.bus.specs.Chip.{Chip}
use Rattle.trace.specs.Records.{Record}
use Rattle.trace.specs.Play.{Result, on_result, Ending, stopped, done, on_ending, play_record}
use Rattle.trace.specs.Kinds.{the_chip}
use Rattle.widebus.specs.Events.{are_both}
use Rattle.widebus.specs.declared.selection.Selection.{Selection}
use Rattle.widebus.specs.declared.selection.Side.{Side}
use Rattle.widetrace.specs.Terminal.{selected_by}
use Rattle.widetrace.specs.EachChip.{hears}
use Rattle.widetrace.specs.Sides.{OneSide, one_side}

-- How a chip heeds a record: it obeys it; or passes it by, and the chips are selected that stand beside it; or the terminal refuses it with a number, at an offset.
pub data Heed : Type 0 where
  Obeys : Heed
  Passes : Selection → Heed
  Refused : ℕ → ℕ → Heed

-- A record for the selected chips: a chip that hears it obeys it.
abbrev pub for_selected : Bool → Selection → Heed
for_selected hears selection = cond hears Heed.Obeys (Heed.Passes selection)

-- A select record at an offset, by what it selects.
abbrev pub selected_before : ℕ → Result Selection → Heed
selected_before at selected = on_result selected (λ number. Heed.Refused number at) Heed.Passes

unfoldable pub heed_of : Side → Selection → ℕ → ℕ → List ℕ → Heed
heed_of side selection kind at bytes =
    let own = for_selected (hears side selection) selection in
    cond (eqb kind 1) own
    (cond (eqb kind 2) own
    (cond (eqb kind 3) (cond (eqb (length bytes) 0) (Heed.Passes selection) (cond (are_both selection) (Heed.Refused both_selected (at + header_size)) own))
    (cond (eqb kind 4) (cond (eqb (length bytes) 0) own (Heed.Refused kind_unknown at))
    (cond (eqb kind 5) (selected_before at (selected_by bytes)) (Heed.Refused kind_unknown at)))))

-- How a record ends for a chip, with the selection beside it.
abbrev pub with_selection : Selection → Ending Chip → Ending OneSide
with_selection selection ending = on_ending ending (λ number offset chip. stopped number offset (one_side chip selection)) (λ chip. done (one_side chip selection))

-- What a record comes to for a chip that heeds it so; one that it obeys is played as by a chip alone.
unfoldable pub heeded : Heed → Record → Chip → Selection → Ending OneSide
heeded Heed.Obeys r chip selection = with_selection selection (play_record the_chip r chip)
heeded (Heed.Passes next) r chip selection = done (one_side chip next)
heeded (Heed.Refused number offset) r chip selection = stopped number offset (one_side chip selection)
