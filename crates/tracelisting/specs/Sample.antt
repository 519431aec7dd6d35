-- What document 01's own trace (crates/trace, Samples.antt) prints whole, from each start.
use Rattle.std.specs.Prelude.{ℕ, ◌≡◌, List}
use Rattle.bus.specs.declared.start.Hung.{Hung}
use Rattle.trace.specs.Samples.{own}
use Rattle.framelisting.specs.Ascii.{ascii}
use Rattle.tracelisting.specs.TraceListing.{text_for}

-- The text as the document has it, from the old start.
abbrev pub own_text : List ℕ
own_text = ascii "frame 132 65\n0 0-1\n1 0-0\nend\n"

-- Its second listing (document 02, Order 3), from the new start: panel row p shows RAM row 63 - p, and place x RAM column 131 - x.
abbrev pub own_text_upside_down : List ℕ
own_text_upside_down = ascii "frame 132 65\n62 131-131\n63 130-131\nend\n"

pub record OwnSample : Type 0 where
  pub upright : text_for Hung.Upright own ≡ own_text
  pub upside_down : text_for Hung.UpsideDown own ≡ own_text_upside_down
