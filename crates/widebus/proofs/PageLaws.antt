-- What the page call hands back, by its tests.
-- Assumes nothing.
use mathlib.Core.Path.{◌≡◌, refl, ◌∙◌, ap}
use mathlib.Core.Bool.{Bool, true, false}
use mathlib.Core.Logic.{◌↔◌, ◌⊎◌, inl, inr, ⊎_elim, ◌≢◌}
use mathlib.Core.List.{List, []}
use Prim.Native.Nat.{ℕ, ◌+◌, ◌*◌, ◌≤◌, ◌<◌}
use native.Mathlib.Omega.{arith}
use borrow.Author.Tests.{ltb-true, ltb-false}
use lib.Dec.{ltb}
use lib.ListN.{length, get_or, drop, length-drop}
use lib.Seq.{length-take-le, get_or-take, get_or-drop}
use Rattle.constants.specs.Sizes.{width, pages, memory_size}
use Rattle.constants.specs.Numbers.{taken, too_short, no_page}
use Rattle.widebus.specs.Pair.{◌beside◌, at, Lent}
use Rattle.widebus.specs.Page.{Handed, handed, page_in, page_of}
use Rattle.widebus.specs.PageLaws.{LongEnough, PageLaws, OneSidesPage}
use Rattle.widebus.specs.WideUntouched.{after}
use Rattle.widebus.specs.declared.selection.Side.{Side}
use Rattle.widebus.proofs.WideUntouched.{wide_untouched}

-- the three ends of the call
data PageEnds (side : Side) (left right : List ℕ) (page : ℕ) : Type 0 where
  too_short_first : (length left < memory_size) ⊎ (length right < memory_size) → page_of side left right page ≡ handed too_short [] → PageEnds side left right page
  above : LongEnough left right → pages ≤ page → page_of side left right page ≡ handed no_page [] → PageEnds side left right page
  found : LongEnough left right → page < pages → page_of side left right page ≡ handed taken (page_in page (at side (left beside right))) → PageEnds side left right page

page_ends : (side : Side) (left right : List ℕ) (page : ℕ) → PageEnds side left right page
unfolding page_of
page_ends side left right page = by (ltb (length left) memory_size) refl (ltb (length right) memory_size) refl (ltb page pages) refl
  where
    by : (s : Bool) → ltb (length left) memory_size ≡ s → (t : Bool) → ltb (length right) memory_size ≡ t → (p : Bool) → ltb page pages ≡ p → PageEnds side left right page
    by true s t e p f = too_short_first (inl (ltb-true _ _ s)) (rw s)
    by false s true e p f = too_short_first (inr (ltb-true _ _ e)) (rw (s, e))
    by false s false e true f = found (ltb-false _ _ s, ltb-false _ _ e) (ltb-true _ _ f) (rw (s, e, f))
    by false s false e false f = above (ltb-false _ _ s, ltb-false _ _ e) (ltb-false _ _ f) (rw (s, e, f))

-- a side's memory is long enough where both are
side_long : (side : Side) (left right : List ℕ) → LongEnough left right → memory_size ≤ length (at side (left beside right))
side_long Side.Left left right l = l.0
side_long Side.Right left right l = l.1

module _ (side : Side) (left right : List ℕ) (page : ℕ) where
  says : {h : Handed} → page_of side left right page ≡ h → (page_of side left right page).number ≡ h.number
  says e = ap (λ (h : Handed). h.number) e

  hands : {h : Handed} → page_of side left right page ≡ h → (page_of side left right page).part ≡ h.part
  hands e = ap (λ (h : Handed). h.part) e

  number0 : PageEnds side left right page → (page_of side left right page).number ≡ taken ↔ LongEnough left right × (page < pages)
  number0 (too_short_first s e) = (λ z. absurd (omega (arith, says e, z)), λ f. absurd (⊎_elim (λ h. omega (arith, h, f.0.0)) (λ h. omega (arith, h, f.0.1)) s))
  number0 (above l p e) = (λ z. absurd (omega (arith, says e, z)), λ f. absurd (omega (arith, p, f.1)))
  number0 (found l p e) = (λ z. (l, p), λ f. says e)

  number1 : PageEnds side left right page → (page_of side left right page).number ≡ too_short ↔ (length left < memory_size) ⊎ (length right < memory_size)
  number1 (too_short_first s e) = (λ z. s, λ f. says e)
  number1 (above l p e) = (λ z. absurd (omega (arith, says e, z)), λ f. absurd (⊎_elim (λ h. omega (arith, h, l.0)) (λ h. omega (arith, h, l.1)) f))
  number1 (found l p e) = (λ z. absurd (omega (arith, says e, z)), λ f. absurd (⊎_elim (λ h. omega (arith, h, l.0)) (λ h. omega (arith, h, l.1)) f))

  number4 : PageEnds side left right page → (page_of side left right page).number ≡ no_page ↔ LongEnough left right × (pages ≤ page)
  number4 (too_short_first s e) = (λ z. absurd (omega (arith, says e, z)), λ f. absurd (⊎_elim (λ h. omega (arith, h, f.0.0)) (λ h. omega (arith, h, f.0.1)) s))
  number4 (above l p e) = (λ z. (l, p), λ f. says e)
  number4 (found l p e) = (λ z. absurd (omega (arith, says e, z)), λ f. absurd (omega (arith, p, f.1)))

  whole : PageEnds side left right page → (page_of side left right page).number ≡ taken → length (page_of side left right page).part ≡ width
  unfolding page_in
  whole (too_short_first s e) z = absurd (omega (arith, says e, z))
  whole (above l p e) z = absurd (omega (arith, says e, z))
  whole (found l p e) z = rw (hands e) (length-take-le width (drop (page * width) (at side (left beside right))) (omega (arith, length-drop (page * width) (at side (left beside right)), side_long side left right l, p)))

  its_bytes_lem : PageEnds side left right page → (page_of side left right page).number ≡ taken → (column : ℕ) → column < width → get_or (page_of side left right page).part column 0 ≡ get_or (at side (left beside right)) (page * width + column) 0
  unfolding page_in
  its_bytes_lem (too_short_first s e) z column h = absurd (omega (arith, says e, z))
  its_bytes_lem (above l p e) z column h = absurd (omega (arith, says e, z))
  its_bytes_lem (found l p e) z column h = rw (hands e) (get_or-take width (drop (page * width) (at side (left beside right))) column 0 h ∙ get_or-drop (page * width) (at side (left beside right)) column 0)

  empty : PageEnds side left right page → (page_of side left right page).number ≢ taken → (page_of side left right page).part ≡ []
  empty (too_short_first s e) n = hands e
  empty (above l p e) n = hands e
  empty (found l p e) n = absurd (n (says e))

  pub page_laws : PageLaws side left right page
  page_laws =
      let end = page_ends side left right page in
      record { number0 = number0 end; number1 = number1 end; number4 = number4 end; whole = whole end; its_bytes = its_bytes_lem end; empty = empty end }

of_left : (page : ℕ) (left right other : List ℕ) → length other ≡ length right → page_of Side.Left left other page ≡ page_of Side.Left left right page
unfolding page_of
of_left page left right other e = rw e

of_right : (page : ℕ) (left right other : List ℕ) → length other ≡ length left → page_of Side.Right other right page ≡ page_of Side.Right left right page
unfolding page_of
of_right page left right other e = rw e

pub one_sides_page : (page : ℕ) → OneSidesPage page
one_sides_page page =
    record {
      of_the_left = of_left page;
      of_the_right = of_right page;
      left_stays = λ event all. let u = wide_untouched 2 event all in
          ap (λ (l : Lent). page_of Side.Left l.memory (after 2 event all).right.memory page) (u.left_stays refl) ∙ of_left page _ _ _ (u.lengths Side.Right).1;
      right_stays = λ event all. let u = wide_untouched 1 event all in
          ap (λ (r : Lent). page_of Side.Right (after 1 event all).left.memory r.memory page) (u.right_stays refl) ∙ of_right page _ _ _ (u.lengths Side.Left).1;
    }
