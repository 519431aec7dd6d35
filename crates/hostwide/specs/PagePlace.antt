-- Document 02, Order 4, the page call as C sees it: "hands back the named page from the left memory or the right, as a part of the caller's buffer". proofs/PagePlace.antt proves `PagePlace`.
use Rattle.std.specs.Prelude.{ℕ, ◌*◌, ◌≤◌, ◌<◌, ◌≡◌, ◌≢◌, ◌⊎◌, ◌↔◌, List, length, take, drop}
use Rattle.constants.specs.Sizes.{width, pages, memory_size}
use Rattle.constants.specs.Numbers.{taken, too_short, no_page, no_selection}
use Rattle.widebus.specs.Pair.{◌beside◌, at}
use Rattle.widebus.specs.Page.{page_of}
use Rattle.widebus.specs.declared.selection.Side.{Side}
use Rattle.hostwide.specs.Page.{page_reply, page_reply_of}

-- 1 names left and 2 right.
abbrev pub side_number : Side → ℕ
side_number Side.Left = 1
side_number Side.Right = 2

-- A memory that was lent is too short.
abbrev pub TooShort : List ℕ → List ℕ → Type 0
TooShort left right = (length left < memory_size) ⊎ (length right < memory_size)

pub record PagePlace (left right : List ℕ) (page : ℕ) : Type 0 where
  -- Each side's number is the call's below.
  pub number : (side : Side) → (page_reply_of (side_number side) left right page).number ≡ (page_of side left right page).number
  -- Where 0 is answered, the `length` bytes from `place` on of that side's memory are the part that is handed back.
  pub part : (side : Side) → let reply = page_reply_of (side_number side) left right page in
      reply.number ≡ taken → take reply.length (drop reply.place (at side (left beside right))) ≡ (page_of side left right page).part
  -- They are the 132 bytes of the page, inside the memory.
  pub inside : (side : Side) → (page_reply_of (side_number side) left right page).number ≡ taken → page_reply_of (side_number side) left right page ≡ page_reply taken (page * width) width
  -- A refusal has place 0 and length 0: an empty part.
  pub empty : (side : ℕ) → (page_reply_of side left right page).number ≢ taken → page_reply_of side left right page ≡ page_reply (page_reply_of side left right page).number 0 0
  -- 1: a memory is too short, whatever the side.
  pub number1 : (side : ℕ) → (page_reply_of side left right page).number ≡ too_short ↔ TooShort left right
  -- 13: a side that is neither, where 1 does not go first.
  pub number13 : (side : ℕ) → (page_reply_of side left right page).number ≡ no_selection ↔ (TooShort left right → ⊥) × (side ≢ 1) × (side ≢ 2)
  -- 4: a page above 8 of a side, where 1 does not go first.
  pub number4 : (side : ℕ) → (page_reply_of side left right page).number ≡ no_page ↔ (TooShort left right → ⊥) × ((side ≡ 1) ⊎ (side ≡ 2)) × (pages ≤ page)
