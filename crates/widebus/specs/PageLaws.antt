-- Document 02, Order 4: what the page call hands back, and when it refuses.
use Rattle.std.specs.Prelude.{ℕ, ◌+◌, ◌*◌, ◌≤◌, ◌<◌, ◌≡◌, List, [], ◌↔◌, ◌⊎◌, ◌≢◌, length, get_or}
use Rattle.constants.specs.Sizes.{width, pages, memory_size}
use Rattle.constants.specs.Numbers.{taken, too_short, no_page}
use Rattle.bus.specs.Chip.{Event}
use Rattle.widebus.specs.Pair.{Pair, ◌beside◌, at, Lent}
use Rattle.widebus.specs.Page.{Handed, page_of}
use Rattle.widebus.specs.WideUntouched.{after}
use Rattle.widebus.specs.declared.selection.Side.{Side}

-- Both memories are long enough.
abbrev pub LongEnough : List ℕ → List ℕ → Type 0
LongEnough left right = (memory_size ≤ length left) × (memory_size ≤ length right)

pub record PageLaws (side : Side) (left right : List ℕ) (page : ℕ) : Type 0 where
  -- 0: a page of 0 to 8.
  pub number0 : (page_of side left right page).number ≡ taken ↔ LongEnough left right × (page < pages)
  -- 1: a lent memory is too short, the other side's too.
  pub number1 : (page_of side left right page).number ≡ too_short ↔ (length left < memory_size) ⊎ (length right < memory_size)
  -- 4: a page above 8, after 1.
  pub number4 : (page_of side left right page).number ≡ no_page ↔ LongEnough left right × (pages ≤ page)
  -- The part that is handed back has 132 bytes,
  pub whole : (page_of side left right page).number ≡ taken → length (page_of side left right page).part ≡ width
  -- those of the named page of that side's memory.
  pub its_bytes : (page_of side left right page).number ≡ taken → (column : ℕ) → column < width → get_or (page_of side left right page).part column 0 ≡ get_or (at side (left beside right)) (page * width + column) 0
  -- A refused call hands back an empty part.
  pub empty : (page_of side left right page).number ≢ taken → (page_of side left right page).part ≡ []

-- The page of a side's memory, as lent.
abbrev pub page_from : Side → Pair Lent → ℕ → Handed
page_from side all page = page_of side all.left.memory all.right.memory page

pub record OneSidesPage (page : ℕ) : Type 0 where
  -- The left page is the same beside any right memory of that length,
  pub of_the_left : (left right other : List ℕ) → length other ≡ length right → page_of Side.Left left other page ≡ page_of Side.Left left right page
  -- and the right page beside any left one.
  pub of_the_right : (left right other : List ℕ) → length other ≡ length left → page_of Side.Right other right page ≡ page_of Side.Right left right page
  -- An event for the right chip alone, a data write among them, leaves each page of the left,
  pub left_stays : (event : Event) (all : Pair Lent) → page_from Side.Left (after 2 event all) page ≡ page_from Side.Left all page
  -- and one for the left chip each page of the right.
  pub right_stays : (event : Event) (all : Pair Lent) → page_from Side.Right (after 1 event all) page ≡ page_from Side.Right all page
