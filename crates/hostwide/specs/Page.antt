-- The page call as C sees it: a number, the part's place in that side's memory, and its length.
use Rattle.std.specs.Prelude.{ℕ, ◌*◌, cond, ◌||◌, List, eqb, ltb, length, Result}
use Rattle.constants.specs.Sizes.{width, memory_size}
use Rattle.constants.specs.Numbers.{taken, too_short, no_selection}
use Rattle.constants.specs.declared.refusal.Refusal.{Refusal}
use Rattle.widebus.specs.Page.{Handed, handed_of, page_of}
use Rattle.widebus.specs.declared.selection.Side.{Side}

pub record PageReply : Type 0 where
  pub number : ℕ
  pub place : ℕ
  pub length : ℕ

abbrev pub page_reply : ℕ → ℕ → ℕ → PageReply
page_reply answer at long = record { number = answer; place = at; length = long }

-- A page that is handed back lies at 132 times its number; a refusal has place 0 and length 0.
unfoldable pub of_handed : ℕ → Handed → PageReply
of_handed page h = cond (eqb h.number taken) (page_reply taken (page * width) (length h.part)) (page_reply h.number 0 0)

-- The same of the code's own answer.
abbrev pub part_reply : ℕ → Result (List ℕ) Refusal → PageReply
part_reply page part = of_handed page (handed_of part)

-- A side that is neither 1, left, nor 2, right, is refused 13, after 1.
unfoldable pub page_reply_of : ℕ → List ℕ → List ℕ → ℕ → PageReply
page_reply_of side left right page =
    cond (eqb side 1) (of_handed page (page_of Side.Left left right page))
    (cond (eqb side 2) (of_handed page (page_of Side.Right left right page))
    (cond (ltb (length left) memory_size || ltb (length right) memory_size) (page_reply too_short 0 0) (page_reply no_selection 0 0)))
