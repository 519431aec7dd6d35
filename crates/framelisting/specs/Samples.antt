-- Listings that are worked out: document 01's own, the edges of its form, and those of the wide frame's.
use Rattle.std.specs.Prelude.{ℕ, ◌+◌, ◌*◌, ◌≡◌, List, ◌∷◌, ◌++◌, replicate, set}
use Rattle.constants.specs.Sizes.{width, wide_width, frame_size, wide_frame_size}
use Rattle.framelisting.specs.Ascii.{ascii}
use Rattle.framelisting.specs.Text.{listing_of, wide_listing_of}

-- A frame with nothing lit.
abbrev pub dark : List ℕ
dark = replicate frame_size 0

-- A wide frame with nothing lit.
abbrev pub wide_dark : List ℕ
wide_dark = replicate wide_frame_size 0

pub record Samples : Type 0 where
  -- document 01's listing
  pub own : listing_of 0 11 (set (set (set dark 0 1) 1 1) width 1) ≡ ascii "frame 132 65\n0 0-1\n1 0-0\nend\n"
  -- nothing lit, after a run that stopped
  pub nothing : listing_of 10 65536 dark ≡ ascii "refused 10 at 65536\nframe 132 65\nend\n"
  -- the first and last places of the first row and of the icon line, where a byte above 1 counts as lit
  pub corners : listing_of 0 0 (set (set (set (set dark 0 1) 131 1) 8448 1) 8579 255) ≡ ascii "frame 132 65\n0 0-0 131-131\n64 0-0 131-131\nend\n"
  -- a row lit whole, which no run of the next row joins, and runs over a step in the number of digits
  pub whole_row : listing_of 0 0 (replicate (9 * width) 0 ++ replicate width 1 ++ 1 ∷ 0 ∷ 1 ∷ 1 ∷ replicate 95 0 ++ 1 ∷ 1 ∷ replicate (54 * width + 31) 0) ≡ ascii "frame 132 65\n9 0-131\n10 0-0 2-3 99-100\nend\n"
  -- the wide frame with nothing lit, after a run that stopped
  pub wide_nothing : wide_listing_of 13 4 wide_dark ≡ ascii "refused 13 at 4\nframe 264 65\nend\n"
  -- the left chip's last place and the right chip's first are one run, the last place of a row and the first of the next are two
  pub middle : wide_listing_of 0 0 (set (set (set (set wide_dark 131 1) 132 1) 263 1) 264 1) ≡ ascii "frame 264 65\n0 131-132 263-263\n1 0-0\nend\n"
  -- the last place of the icon line
  pub wide_last : wide_listing_of 0 0 (set wide_dark 17159 1) ≡ ascii "frame 264 65\n64 263-263\nend\n"
  -- a row lit whole, and runs over each step in the number of digits
  pub wide_rows : wide_listing_of 0 0 (replicate (9 * wide_width) 0 ++ replicate wide_width 1 ++ replicate 9 0 ++ 1 ∷ 1 ∷ replicate 87 0 ++ 1 ∷ 1 ∷ 1 ∷ replicate (54 * wide_width + 163) 0) ≡ ascii "frame 264 65\n9 0-263\n10 9-10 98-100\nend\n"
