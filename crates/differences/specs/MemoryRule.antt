-- Order 1's rule for two memories, as a property of any list of bytes; and that the call's list is the only one that it allows.
use Rattle.std.specs.Prelude.{ℕ, ◌/◌, ◌<◌, ◌≡◌, ◌≢◌, List, get_or}
use Rattle.constants.specs.Sizes.{width, memory_size}
use Rattle.bus.specs.Bytes.{All}
use Rattle.bus.specs.Memory.{kept}
use Rattle.differences.specs.Bytes.{DifferingByte, bytes_of}
use Rattle.differences.specs.InOrder.{Some, InOrder}

-- What a memory holds at a place: of page 8 bit 0, of any other page the byte.
unfoldable pub content : List ℕ → ℕ → ℕ
content memory place = kept (place / width) (get_or memory place 0)

-- In rising order.
abbrev pub Below : DifferingByte → DifferingByte → Type 0
Below byte other = byte.place < other.place

module _ (f g : List ℕ) where
  -- The byte lies in the memory, has these contents, page 8 by bit 0, and they differ.
  pub record Differing (byte : DifferingByte) : Type 0 where
    pub place_in : byte.place < memory_size
    pub first : byte.in_first ≡ content f byte.place
    pub second : byte.in_second ≡ content g byte.place
    pub differs : byte.in_first ≢ byte.in_second

  -- The rule.
  pub record MemoryRule (list : List DifferingByte) : Type 0 where
    -- in rising order, and so each once
    pub in_order : InOrder Below list
    -- every entry is a differing byte, with its contents
    pub differing : All Differing list
    -- every differing byte is listed
    pub every : (place : ℕ) → place < memory_size → content f place ≢ content g place → Some (λ byte. byte.place ≡ place) list

-- For memories of any length; a place past the end of a list counts as 0.
pub record TheOnlyBytes : Type 0 where
  -- the bytes of any two memories meet the rule
  pub meets : (f g : List ℕ) → MemoryRule f g (bytes_of f g)
  -- and are the only list that does
  pub alone : (f g : List ℕ) (list : List DifferingByte) → MemoryRule f g list → list ≡ bytes_of f g
