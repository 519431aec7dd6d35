-- How long each part of the text is.
-- Assumes nothing.
use Prim.Native.Nat.{ℕ, ◌+◌}
use mathlib.Core.Path.{◌≡◌, refl, ◌∙◌, ap}
use mathlib.Core.Bool.{true}
use mathlib.Core.List.{List, [], ◌++◌, append_assoc}
use native.Mathlib.Omega.{arith}
use borrow.Author.Tests.{eq-eqb, ne_eqb}
use lib.ListN.{length, length-append}
use Rattle.constants.specs.Sizes.{frame_rows}
use Rattle.framelisting.specs.Ascii.{ascii}
use Rattle.framelisting.specs.Decimal.{digits, decimal}
use Rattle.framelisting.specs.Runs.{Run, any_lit, runs}
use Rattle.framelisting.specs.Text.{run_text, runs_text, line, lines, header, frame_text, refused_text, listing_across}

-- a space and a dash
pub run_length : (run : Run) → length (run_text run) ≡ length (decimal run.first) + length (decimal run.last) + 2
unfolding run_text ascii
run_length run = simp length-append (omega arith)

-- a newline
pub line_length : (p : ℕ) (row : List ℕ) → any_lit row ≡ true → length (line p row) ≡ length (decimal p) + length (runs_text (runs row)) + 1
unfolding line ascii
line_length p row e = rw e (simp length-append (omega arith))

-- a run that was taken prints nothing
pub taken_nothing : (number offset : ℕ) → number ≡ 0 → refused_text number offset ≡ []
unfolding refused_text
taken_nothing number offset e = rw (eq-eqb number 0 e)

-- "refused ", " at " and a newline
pub refused_length : (number offset : ℕ) → (number ≡ 0 → ⊥) → length (refused_text number offset) ≡ length (decimal number) + length (decimal offset) + 13
unfolding refused_text ascii
refused_length number offset n = rw (ne_eqb number 0 n) (simp length-append (omega arith))

-- the number of rows
rows : decimal frame_rows ≡ ascii "65"
unfolding decimal digits ascii
rows = refl

after_width : ascii " " ++ (ascii "65" ++ ascii "\n") ≡ ascii " 65\n"
unfolding ascii
after_width = refl

-- the frame's first line, in three pieces
pub header_pieces : (w : ℕ) → header w frame_rows ≡ ascii "frame " ++ decimal w ++ ascii " 65\n"
header_pieces w = rw (rows, ← after_width) (simp append_assoc)

-- "frame ", " 65" and a newline
pub header_length : (w : ℕ) → length (header w frame_rows) ≡ length (decimal w) + 10
unfolding ascii
header_length w = ap length (header_pieces w) ∙ simp length-append (omega arith)

-- "end" and a newline
pub listing_length : (w number offset : ℕ) (frame : List ℕ) → length (listing_across w number offset frame) ≡ length (refused_text number offset) + length (header w frame_rows) + length (lines w frame frame_rows 0) + 4
unfolding frame_text ascii
listing_length w number offset frame =
    rw (length-append (refused_text number offset), length-append (header w frame_rows ++ lines w frame frame_rows 0), length-append (header w frame_rows)) (omega arith)
