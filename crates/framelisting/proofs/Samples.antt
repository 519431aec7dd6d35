-- The listings that are worked out, each by computing, row after row.
-- Assumes nothing.
use Prim.Native.Nat.{ℕ, zero, suc, ◌*◌}
use mathlib.Core.Path.{◌≡◌, refl}
use mathlib.Core.List.{List, [], ◌++◌}
use native.Mathlib.Nat.{zero-mul, suc-mul}
use lib.ListN.{take, drop}
use lib.Seq.{drop-drop}
use Rattle.constants.specs.Sizes.{frame_rows}
use Rattle.framelisting.specs.Ascii.{ascii}
use Rattle.framelisting.specs.Decimal.{digits, decimal}
use Rattle.framelisting.specs.Runs.{lit, any_lit, leading, runs_from, runs}
use Rattle.framelisting.specs.Text.{run_text, runs_text, line, row_of, lines, header, frame_text, refused_text, listing_across, listing_of, wide_listing_of}
use Rattle.framelisting.specs.Samples.{Samples}

-- The lines of n rows from row p on, of a frame that begins with that row: no row is looked for from the frame's start, which takes far longer to compute.
walked : ℕ → List ℕ → ℕ → ℕ → List ℕ
walked w rest zero p = []
walked w rest (suc n) p = line p (take w rest) ++ walked w (drop w rest) n (suc p)

lines_walked : (w : ℕ) (frame : List ℕ) (n p : ℕ) → lines w frame n p ≡ walked w (drop (p * w) frame) n p
unfolding lines walked row_of
lines_walked w frame zero p = refl
lines_walked w frame (suc n) p = rw (lines_walked w frame n (suc p), suc-mul p w, drop-drop)

-- The whole listing so, with all that it is computed by.
walked_listing : ℕ → ℕ → ℕ → List ℕ → List ℕ
unfolding ascii digits decimal lit any_lit leading runs_from runs run_text runs_text line walked refused_text
walked_listing w number offset frame = refused_text number offset ++ (header w frame_rows ++ walked w frame frame_rows 0 ++ ascii "end\n")

worked : (w number offset : ℕ) (frame : List ℕ) {text : List ℕ} → walked_listing w number offset frame ≡ text → listing_across w number offset frame ≡ text
unfolding frame_text walked_listing
worked w number offset frame e = rw (lines_walked w frame frame_rows 0, zero-mul) e

pub samples : Samples
unfolding listing_of wide_listing_of
samples = record {
  own = worked _ _ _ _ (unfold walked_listing in refl);
  nothing = worked _ _ _ _ (unfold walked_listing in refl);
  corners = worked _ _ _ _ (unfold walked_listing in refl);
  whole_row = worked _ _ _ _ (unfold walked_listing in refl);
  wide_nothing = worked _ _ _ _ (unfold walked_listing in refl);
  middle = worked _ _ _ _ (unfold walked_listing in refl);
  wide_last = worked _ _ _ _ (unfold walked_listing in refl);
  wide_rows = worked _ _ _ _ (unfold walked_listing in refl);
}
