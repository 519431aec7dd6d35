-- Order 1, two memories: each differing byte once, in rising order, page 8 by bit 0.
use Rattle.std.specs.Prelude.{ℕ, zero, suc, cond, List, [], ◌∷◌, eqb, get_or}
use Rattle.constants.specs.Sizes.{width, pages}
use Rattle.bus.specs.Memory.{address, kept}
use Rattle.differences.specs.ByRows.{by_rows}

-- A differing byte: its place in the memory, and its contents in the first memory and in the second.
pub record DifferingByte : Type 0 where
  pub place : ℕ
  pub in_first : ℕ
  pub in_second : ℕ

-- What a page holds in column x: page 8 has bit 0 only.
abbrev pub held : ℕ → List ℕ → ℕ → ℕ
held page a x = kept page (get_or a x 0)

-- Column x of a page of both memories.
abbrev pub byte_at : ℕ → List ℕ → List ℕ → ℕ → DifferingByte
byte_at page a b x = record { place = address page x; in_first = held page a x; in_second = held page b x }

-- The differing bytes of a page, among the n columns from x on.
unfoldable pub bytes_from : ℕ → List ℕ → List ℕ → ℕ → ℕ → List DifferingByte
bytes_from page a b zero x = []
bytes_from page a b (suc n) x = cond (eqb (held page a x) (held page b x)) (bytes_from page a b n (suc x)) (byte_at page a b x ∷ bytes_from page a b n (suc x))

-- The differing bytes of a page.
abbrev pub page_bytes : ℕ → List ℕ → List ℕ → List DifferingByte
page_bytes page a b = bytes_from page a b width 0

-- The differing bytes of two memories, page by page.
unfoldable pub bytes_of : List ℕ → List ℕ → List DifferingByte
bytes_of f g = by_rows width page_bytes f g pages 0
