-- What the halves of the wide frame are: the frames of the two chips, and nothing else is in it.
use Rattle.std.specs.Prelude.{ℕ, ◌+◌, ◌<◌, ◌≡◌, List, ◌++◌, length}
use Rattle.constants.specs.Sizes.{width, frame_rows, wide_width, wide_frame_size}
use Rattle.bus.specs.Chip.{Chip}
use Rattle.picture.specs.Frame.{row_of, place_of}
use Rattle.widebus.specs.Pair.{Pair, at}
use Rattle.widebus.specs.declared.selection.Side.{Side}
use Rattle.widepicture.specs.WideFrame.{frame_of, wide_frame, first_column, half_of}

pub record TwoHalves (chips : Pair Chip) : Type 0 where
  -- 17,160 bytes,
  pub size : length (wide_frame chips) ≡ wide_frame_size
  -- 0 dark, 1 lit.
  pub dark_or_lit : (y x : ℕ) → y < frame_rows → x < wide_width → place_of wide_width y x (wide_frame chips) < 2
  -- Each row is the left chip's, then the right chip's.
  pub left_then_right : (y : ℕ) → y < frame_rows → row_of wide_width y (wide_frame chips) ≡ row_of width y (frame_of chips.left) ++ row_of width y (frame_of chips.right)
  -- Each half is the frame of its chip,
  pub half : (side : Side) → half_of side (wide_frame chips) ≡ frame_of (at side chips)
  -- place by place.
  pub place : (side : Side) (y x : ℕ) → y < frame_rows → x < width → place_of wide_width y (first_column side + x) (wide_frame chips) ≡ place_of width y x (frame_of (at side chips))

pub record Halves : Type 0 where
  pub of_chips : (chips : Pair Chip) → TwoHalves chips
  -- Two lists of 17,160 bytes whose halves are equal are equal.
  pub nothing_else : (places others : List ℕ) → length places ≡ wide_frame_size → length others ≡ wide_frame_size → ((side : Side) → half_of side places ≡ half_of side others) → places ≡ others
