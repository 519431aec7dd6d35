-- `picture::whole::rows_shown` meets its contract: each row is asked.
use borrow.Author.Rules.{rules}
use mathlib.Core.Path.{◌≡◌}
use Rattle.std.specs.Prelude.{None}
use Rattle.constants.specs.Sizes.{frame_rows}
use Rattle.picture.specs.Shown.{shown_of}
use Rattle.picture.specs.Scan.{panel_row, row_shows}
use Rattle.picture.specs.Rows.{scan_of}
use Rattle.picture.proofs.Made.{made_each}
use Rattle.picture.proofs.whole.rows_shown.Goals as goal

pub returns : goal.returns
returns c = record {
  all = c.from_fn.ensures.items.long;
  each = made_each _ (λ y shown. shown_of shown ≡ row_shows (scan_of c.args.registers) (panel_row y)) _ frame_rows (λ y v after l call. search rules) None _ c.from_fn.ensures.items;
}
