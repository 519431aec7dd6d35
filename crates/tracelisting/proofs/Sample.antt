-- Document 01's own trace prints what it says from the old start, and the same turned from the new: the run, the frame and the listing, each by computing.
-- Assumes nothing.
use mathlib.Core.Path.{◌≡◌, refl, ◌∙◌, ap}
use mathlib.Core.List.{List}
use Prim.Native.Nat.{ℕ, ◌+◌, ◌*◌}
use lib.ListN.{set, replicate}
use Rattle.codes.specs.Table.{table, command_by, command_of, meaning_of}
use Rattle.constants.specs.Sizes.{memory_size, width, frame_size}
use Rattle.bus.specs.Places.{column, on}
use Rattle.bus.specs.Registers.{largest_values, power_on, image_of, ◌with◌≔◌}
use Rattle.bus.specs.Memory.{kept, onward}
use Rattle.bus.specs.Events.{command, obeyed, access, write, written}
use Rattle.bus.specs.Chip.{step}
use Rattle.bus.specs.Image.{within, awaited_codes, legal, short, asked, stored}
use Rattle.bus.specs.Start.{registers_at_start}
use Rattle.bus.specs.declared.start.Hung.{Hung}
use Rattle.trace.specs.Records.{split_from, split}
use Rattle.trace.specs.Play.{play_events, play_record, play_from}
use Rattle.trace.specs.Kinds.{events_of, happened, replay}
use Rattle.trace.specs.Run.{Ran, ran, stop_of, ran_of, run_on, run}
use Rattle.picture.specs.Scan.{com_of, used, ram_row_of, panel_shows, row_shows, column_of}
use Rattle.picture.specs.Frame.{bit, turned, shown_bit, while_on, segment, line as Frame·line, grid, frame}
use Rattle.picture.specs.Draw.{draw_on, draw}
use Rattle.framelisting.specs.Ascii.{ascii}
use Rattle.framelisting.specs.Decimal.{digits, decimal}
use Rattle.framelisting.specs.Runs.{lit, any_lit, leading, runs_from, runs}
use Rattle.framelisting.specs.Text.{run_text, runs_text, line, row_of, lines, frame_text, refused_text, listing_of}
use Rattle.trace.specs.EitherStart.{ran_from_start}
use Rattle.tracelisting.specs.TraceListing.{frame_after, listing_of_trace, text_for}
use Rattle.tracelisting.specs.Sample.{own_text, own_text_upside_down, OwnSample}
use Rattle.trace.specs.Samples.{own}

-- what the run leaves of the registers at the start: the display is on, and the column is 2
abbrev own_ran : Hung → Ran
own_ran hung = ran (stop_of 0 11 2) (image_of (registers_at_start hung with on ≔ 1 with column ≔ 2)) (set (set (replicate memory_size 0) 0 0x03) 1 0x01)

-- a dark frame with three places lit
abbrev lit_at : ℕ → ℕ → ℕ → List ℕ
lit_at a b c = set (set (set (replicate frame_size 0) a 1) b 1) c 1

abbrev own_frame : Hung → List ℕ
own_frame Hung.UpsideDown = lit_at (62 * width + 131) (63 * width + 130) (63 * width + 131)
own_frame Hung.Upright = lit_at 0 1 width

abbrev own_text_from : Hung → List ℕ
own_text_from Hung.UpsideDown = own_text_upside_down
own_text_from Hung.Upright = own_text

runs_so : (hung : Hung) → ran_from_start hung own ≡ own_ran hung
unfolding power_on largest_values run run_on ran_of asked short legal within awaited_codes stored split split_from play_from play_record play_events events_of replay happened step command obeyed write written access kept onward command_of command_by meaning_of table ran_from_start
runs_so Hung.UpsideDown = refl
runs_so Hung.Upright = refl

draws_so : (hung : Hung) → frame_after (own_ran hung) ≡ own_frame hung
unfolding power_on largest_values asked short legal within awaited_codes com_of used ram_row_of panel_shows row_shows bit column_of turned shown_bit while_on segment Frame·line grid frame draw_on draw frame_after
draws_so Hung.UpsideDown = refl
draws_so Hung.Upright = refl

lists_so : (hung : Hung) → listing_of 0 11 (own_frame hung) ≡ own_text_from hung
unfolding ascii digits decimal lit any_lit leading runs_from runs run_text runs_text line row_of lines frame_text refused_text listing_of
lists_so Hung.UpsideDown = refl
lists_so Hung.Upright = refl

prints_so : (hung : Hung) → text_for hung own ≡ own_text_from hung
unfolding text_for listing_of_trace
prints_so hung = ap (λ (r : Ran). listing_of r.stop.number r.stop.offset (frame_after r)) (runs_so hung) ∙ ap (listing_of 0 11) (draws_so hung) ∙ lists_so hung

pub own_sample : OwnSample
own_sample = record { upright = prints_so Hung.Upright; upside_down = prints_so Hung.UpsideDown }
