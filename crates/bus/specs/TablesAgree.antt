-- What document 01 lists twice is the same both times: the image's order, and the codes that are awaited.
use Rattle.std.specs.Prelude.{ℕ, zero, suc, ◌≡◌, List, [], ◌∷◌, map}
use Rattle.codes.specs.Table.{table}
use Rattle.codes.specs.Values.{codes_of}
use Rattle.constants.specs.Sizes.{image_size}
use Rattle.bus.specs.Registers.{ranges}
use Rattle.bus.specs.Image.{awaited_codes}

-- So many numbers, from a first on.
abbrev pub up_from : ℕ → ℕ → List ℕ
up_from first zero = []
up_from first (suc n) = first ∷ up_from (suc first) n

pub record TablesAgree : Type 0 where
  -- The ranges stand in the image's order, one for each of its 23 bytes.
  pub in_order : map (λ range. range.place) ranges ≡ up_from 0 image_size
  -- The codes that may be awaited are 00 and those of the command table.
  pub codes : awaited_codes ≡ 0x00 ∷ codes_of table
