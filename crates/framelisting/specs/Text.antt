-- Document 01's listing, and the same for the wide frame (DECISIONS 133): the text for a frame and for a stopped run's number and offset.
use Rattle.std.specs.Prelude.{ℕ, zero, suc, ◌*◌, cond, List, [], ◌∷◌, ◌++◌, eqb, take, drop}
use Rattle.constants.specs.Sizes.{width, wide_width, frame_rows}
use Rattle.constants.specs.Numbers.{taken}
use Rattle.framelisting.specs.Ascii.{ascii}
use Rattle.framelisting.specs.Decimal.{decimal}
use Rattle.framelisting.specs.Runs.{Run, any_lit, runs}

-- A run after the one space between: its first place, "-", its last.
unfoldable pub run_text : Run → List ℕ
run_text run = ascii " " ++ decimal run.first ++ ascii "-" ++ decimal run.last

unfoldable pub runs_text : List Run → List ℕ
runs_text [] = []
runs_text (run ∷ more) = run_text run ++ runs_text more

-- A row with lit places has a line: its number and its runs. Any other row has none.
unfoldable pub line : ℕ → List ℕ → List ℕ
line p row = cond (any_lit row) (decimal p ++ runs_text (runs row) ++ ascii "\n") []

-- Row p of a frame whose rows are w wide.
unfoldable pub row_of : ℕ → List ℕ → ℕ → List ℕ
row_of w frame p = take w (drop (p * w) frame)

-- The lines of n rows from row p on.
unfoldable pub lines : ℕ → List ℕ → ℕ → ℕ → List ℕ
lines w frame zero p = []
lines w frame (suc n) p = line p (row_of w frame p) ++ lines w frame n (suc p)

-- The line before them: how wide the frame is, and how many rows it has.
abbrev pub header : ℕ → ℕ → List ℕ
header w h = ascii "frame " ++ decimal w ++ ascii " " ++ decimal h ++ ascii "\n"

-- A frame w wide and h rows high.
unfoldable pub frame_text : ℕ → ℕ → List ℕ → List ℕ
frame_text w h frame = header w h ++ lines w frame h 0 ++ ascii "end\n"

-- A run that stopped first prints its number and offset; number 0, taken, prints nothing.
unfoldable pub refused_text : ℕ → ℕ → List ℕ
refused_text number offset =
    cond (eqb number taken) [] (ascii "refused " ++ decimal number ++ ascii " at " ++ decimal offset ++ ascii "\n")

-- The whole listing, with a frame that is w wide.
abbrev pub listing_across : ℕ → ℕ → ℕ → List ℕ → List ℕ
listing_across w number offset frame = refused_text number offset ++ frame_text w frame_rows frame

-- With one chip's frame, 132 wide.
unfoldable pub listing_of : ℕ → ℕ → List ℕ → List ℕ
listing_of number offset frame = listing_across width number offset frame

-- With the wide frame, 264 wide: a run may cross its middle, since nothing here knows of chips.
unfoldable pub wide_listing_of : ℕ → ℕ → List ℕ → List ℕ
wide_listing_of number offset frame = listing_across wide_width number offset frame
