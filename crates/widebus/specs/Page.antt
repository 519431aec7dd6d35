-- Document 02, Order 4: the named page of the left memory or the right, as a part of the caller's buffer.
use Rattle.std.specs.Prelude.{ℕ, ◌*◌, cond, ◌||◌, List, [], ltb, length, take, drop, Result, Ok, Err}
use Rattle.std.specs.Borrow.{Bor}
use Rattle.std.specs.Result.{result_map_both}
use Rattle.constants.specs.Sizes.{width, pages, memory_size}
use Rattle.constants.specs.Numbers.{taken, too_short, no_page}
use Rattle.constants.specs.Refusals.{number_of_refusal}
use Rattle.constants.specs.declared.refusal.Refusal.{Refusal}
use Rattle.widebus.specs.Pair.{◌beside◌, at}
use Rattle.widebus.specs.declared.selection.Side.{Side}

-- The number that the call answers, and the part that it hands back.
pub record Handed : Type 0 where
  pub number : ℕ
  pub part : List ℕ

abbrev pub handed : ℕ → List ℕ → Handed
handed answer bytes = record { number = answer; part = bytes }

-- The code's own answer: a part, or a refusal, which hands back none.
abbrev pub handed_of : Result (List ℕ) Refusal → Handed
handed_of (Ok part) = handed taken part
handed_of (Err refusal) = handed (number_of_refusal refusal) []

-- It hands back the part as a reference.
abbrev pub part_of : Result (Bor (List ℕ)) Refusal → Result (List ℕ) Refusal
part_of result = result_map_both (λ part. part.now) (λ refusal. refusal) result

-- The 132 bytes of a page of a memory.
unfoldable pub page_in : ℕ → List ℕ → List ℕ
page_in page memory = take width (drop (page * width) memory)

-- 1 where a memory is too short, then 4 for a page above 8, with an empty part; else the page of that side's memory.
unfoldable pub page_of : Side → List ℕ → List ℕ → ℕ → Handed
page_of side left right page =
    cond (ltb (length left) memory_size || ltb (length right) memory_size) (handed too_short [])
    (cond (ltb page pages) (handed taken (page_in page (at side (left beside right)))) (handed no_page []))
