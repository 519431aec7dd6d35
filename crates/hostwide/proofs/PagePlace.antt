-- Where the part that the page call hands back lies, and what the call answers.
-- Assumes nothing.
use mathlib.Core.Path.{◌≡◌, refl, sym, ◌∙◌}
use mathlib.Core.Logic.{◌≢◌, ◌⊎◌, inl, inr, ◌↔◌}
use mathlib.Core.Bool.{Bool, true, false, ◌||◌, false≢true}
use mathlib.Core.List.{List}
use Prim.Native.Nat.{ℕ, ◌*◌, ◌≤◌, ◌<◌}
use native.Mathlib.Omega.{arith}
use borrow.Author.Tests.{eqb-true, eqb-false, ltb-true, ltb-false}
use lib.Dec.{eqb, ltb}
use lib.ListN.{length, take, drop, length-drop}
use lib.Seq.{length-take-le}
use Rattle.codes.proofs.Tests.{chosen, either}
use Rattle.constants.specs.Sizes.{width, pages, memory_size}
use Rattle.constants.specs.Numbers.{taken, too_short, no_page, no_selection}
use Rattle.widebus.specs.Pair.{◌beside◌, at}
use Rattle.widebus.specs.Page.{Handed, page_in, page_of}
use Rattle.widebus.specs.declared.selection.Side.{Side}
use Rattle.hostwide.specs.Page.{PageReply, page_reply, of_handed, page_reply_of}
use Rattle.hostwide.specs.PagePlace.{side_number, TooShort, PagePlace}

module _ (left right : List ℕ) (page : ℕ) where
  -- the four answers
  data Answers (side : ℕ) : PageReply → Type 0 where
    short : TooShort left right → Answers side (page_reply too_short 0 0)
    other : (TooShort left right → ⊥) → side ≢ 1 → side ≢ 2 → Answers side (page_reply no_selection 0 0)
    above : (TooShort left right → ⊥) → (side ≡ 1) ⊎ (side ≡ 2) → pages ≤ page → Answers side (page_reply no_page 0 0)
    there : (TooShort left right → ⊥) → (side ≡ 1) ⊎ (side ≡ 2) → page < pages → Answers side (page_reply taken (page * width) width)

  is_short : (ltb (length left) memory_size || ltb (length right) memory_size) ≡ true → TooShort left right
  is_short e = by (either _ _ e)
    where
      by : (ltb (length left) memory_size ≡ true) ⊎ (ltb (length right) memory_size ≡ true) → TooShort left right
      by (inl a) = inl (ltb-true _ _ a)
      by (inr b) = inr (ltb-true _ _ b)

  not_short : (s t : Bool) → ltb (length left) memory_size ≡ s → ltb (length right) memory_size ≡ t → (s || t) ≡ false → (memory_size ≤ length left) × (memory_size ≤ length right)
  not_short true t a b e = absurd (false≢true (sym e))
  not_short false true a b e = absurd (false≢true (sym e))
  not_short false false a b e = (ltb-false _ _ a, ltb-false _ _ b)

  long : (ltb (length left) memory_size || ltb (length right) memory_size) ≡ false → (memory_size ≤ length left) × (memory_size ≤ length right)
  long e = not_short _ _ refl refl e

  neither : (memory_size ≤ length left) × (memory_size ≤ length right) → TooShort left right → ⊥
  neither h (inl a) = omega (arith, h.0, a)
  neither h (inr b) = omega (arith, h.1, b)

  sized : (side : Side) → (memory_size ≤ length left) × (memory_size ≤ length right) → memory_size ≤ length (at side (left beside right))
  sized Side.Left h = h.0
  sized Side.Right h = h.1

  -- the page of a memory is 132 bytes
  page_long : (memory : List ℕ) → memory_size ≤ length memory → page < pages → length (take width (drop (page * width) memory)) ≡ width
  page_long memory h p = length-take-le width (drop (page * width) memory) (rw (length-drop (page * width) memory) (omega (arith, h, p)))

  of_side : (number : ℕ) → (number ≡ 1) ⊎ (number ≡ 2) → (side : Side) → Answers number (of_handed page (page_of side left right page))
  unfolding of_handed page_of page_in
  of_side number n side =
      let P : Handed → Type 0 = λ h. Answers number (of_handed page h) in
      chosen P (ltb (length left) memory_size || ltb (length right) memory_size) _ _ (λ e. short (is_short e))
      (λ e. chosen P (ltb page pages) _ _
      (λ p. rw (page_long (at side (left beside right)) (sized side (long e)) (ltb-true page pages p)) (there (neither (long e)) n (ltb-true page pages p)))
      (λ p. above (neither (long e)) n (ltb-false page pages p)))

  answers : (side : ℕ) → Answers side (page_reply_of side left right page)
  unfolding page_reply_of
  answers side =
      chosen (Answers side) (eqb side 1) _ _ (λ a. of_side side (inl (eqb-true side 1 a)) Side.Left)
      (λ a. chosen (Answers side) (eqb side 2) _ _ (λ b. of_side side (inr (eqb-true side 2 b)) Side.Right)
      (λ b. chosen (Answers side) (ltb (length left) memory_size || ltb (length right) memory_size) _ _ (λ e. short (is_short e)) (λ e. other (neither (long e)) (eqb-false side 1 a) (eqb-false side 2 b))))

  is_side : {number : ℕ} → (number ≢ 1) → (number ≢ 2) → (number ≡ 1) ⊎ (number ≡ 2) → ⊥
  is_side a b (inl e) = a e
  is_side a b (inr e) = b e

  inside : {side : ℕ} {reply : PageReply} → Answers side reply → reply.number ≡ taken → reply ≡ page_reply taken (page * width) width
  inside (short s) e = absurd (omega arith)
  inside (other s a b) e = absurd (omega arith)
  inside (above s n p) e = absurd (omega arith)
  inside (there s n p) e = refl

  empty : {side : ℕ} {reply : PageReply} → Answers side reply → reply.number ≢ taken → reply ≡ page_reply reply.number 0 0
  empty (short s) e = refl
  empty (other s a b) e = refl
  empty (above s n p) e = refl
  empty (there s n p) e = absurd (e refl)

  one : {side : ℕ} {reply : PageReply} → Answers side reply → reply.number ≡ too_short ↔ TooShort left right
  one (short s) = (λ e. s, λ h. refl)
  one (other s a b) = (λ e. absurd (omega arith), λ h. absurd (s h))
  one (above s n p) = (λ e. absurd (omega arith), λ h. absurd (s h))
  one (there s n p) = (λ e. absurd (omega arith), λ h. absurd (s h))

  thirteen : {side : ℕ} {reply : PageReply} → Answers side reply → reply.number ≡ no_selection ↔ (TooShort left right → ⊥) × (side ≢ 1) × (side ≢ 2)
  thirteen (short s) = (λ e. absurd (omega arith), λ h. absurd (h.0 s))
  thirteen (other s a b) = (λ e. (s, a, b), λ h. refl)
  thirteen (above s n p) = (λ e. absurd (omega arith), λ h. absurd (is_side h.1 h.2 n))
  thirteen (there s n p) = (λ e. absurd (omega arith), λ h. absurd (is_side h.1 h.2 n))

  four : {side : ℕ} {reply : PageReply} → Answers side reply → reply.number ≡ no_page ↔ (TooShort left right → ⊥) × ((side ≡ 1) ⊎ (side ≡ 2)) × (pages ≤ page)
  four (short s) = (λ e. absurd (omega arith), λ h. absurd (h.0 s))
  four (other s a b) = (λ e. absurd (omega arith), λ h. absurd (is_side a b h.1))
  four (above s n p) = (λ e. (s, n, p), λ h. refl)
  four (there s n p) = (λ e. absurd (omega arith), λ h. absurd (omega (arith, p, h.2)))

  -- the reply of a side has the number of what is handed back
  same_number : (h : Handed) → (of_handed page h).number ≡ h.number
  unfolding of_handed
  same_number h = chosen (λ (r : PageReply). r.number ≡ h.number) (eqb h.number taken) _ _ (λ e. sym (eqb-true h.number taken e)) (λ e. refl)

  its_number : (side : Side) → (page_reply_of (side_number side) left right page).number ≡ (page_of side left right page).number
  unfolding page_reply_of
  its_number Side.Left = same_number (page_of Side.Left left right page)
  its_number Side.Right = same_number (page_of Side.Right left right page)

  its_part : (side : Side) → (page_of side left right page).number ≡ taken → take width (drop (page * width) (at side (left beside right))) ≡ (page_of side left right page).part
  unfolding page_of page_in
  its_part side =
      let P : Handed → Type 0 = λ h. h.number ≡ taken → take width (drop (page * width) (at side (left beside right))) ≡ h.part in
      chosen P (ltb (length left) memory_size || ltb (length right) memory_size) _ _ (λ e z. absurd (omega arith)) (λ e. chosen P (ltb page pages) _ _ (λ p z. refl) (λ p z. absurd (omega arith)))

pub page_place : (left right : List ℕ) (page : ℕ) → PagePlace left right page
page_place left right page =
    record {
      number = its_number left right page;
      part = λ side z. rw (inside left right page (answers left right page (side_number side)) z) (its_part left right page side (sym (its_number left right page side) ∙ z));
      inside = λ side z. inside left right page (answers left right page (side_number side)) z;
      empty = λ side n. empty left right page (answers left right page side) n;
      number1 = λ side. one left right page (answers left right page side);
      number13 = λ side. thirteen left right page (answers left right page side);
      number4 = λ side. four left right page (answers left right page side);
    }
