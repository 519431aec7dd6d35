-- The ways that a comparing call can go, in their order: its number tells the way, and the way what is left.
-- Assumes nothing.
use Prim.Native.Nat.{ℕ, ◌*◌, ◌≤◌, ◌<◌}
use mathlib.Core.Path.{◌≡◌, refl}
use mathlib.Core.Bool.{Bool, true, false}
use mathlib.Core.Logic.{◌↔◌, ◌⊎◌, ⊎_elim}
use mathlib.Core.List.{List}
use native.Mathlib.Omega.{arith}
use native.Mathlib.Nat.{not-le_of_lt}
use borrow.Author.Tests.{ltb-true, ltb-false}
use lib.Dec.{ltb}
use lib.ListN.{length}
use Rattle.constants.specs.Numbers.{taken, too_short, list_too_small, frame_byte_above}
use Rattle.differences.specs.Compare.{Outcome, outcome, listed, number_of}
use Rattle.differences.specs.Given.{Long, Left}
use Rattle.differences.specs.Compared.{Compared}
use Rattle.differences.proofs.Listed.{filled, listed_not, listed_all, left_refused, left_listed}

-- Entries of one size for what is found, and the list buffer; two things that must have so many bytes, and `Bad`, what is refused of their bytes.
module _ {A : Type 0} (size : ℕ) (entry : A → List ℕ) (sized : (a : A) → length (entry a) ≡ size) (found : List A) (list : List ℕ) (needed : ℕ) (f g : List ℕ) (Bad : Type 0) where
  pub data Way : Outcome → Type 0 where
    short : (length f < needed) ⊎ (length g < needed) → Way (outcome (Compared.Refused too_short) list)
    bad : Long needed f g → Bad → Way (outcome (Compared.Refused frame_byte_above) list)
    small : Long needed f g → (Bad → ⊥) → length list < length found * size → Way (outcome (Compared.Refused list_too_small) list)
    well : Long needed f g → (Bad → ⊥) → length found * size ≤ length list → Way (outcome (Compared.Listed (length found)) (filled size entry sized found list))

  -- where nothing is refused before, the buffer's length decides
  pub by_length : Long needed f g → (Bad → ⊥) → Way (listed entry found list)
  by_length l n = by (ltb (length list) (length found * size)) refl
    where
      by : (t : Bool) → ltb (length list) (length found * size) ≡ t → Way (listed entry found list)
      by true e =
          let h = ltb-true (length list) (length found * size) e in
          rw (listed_not size entry sized found list h) (small l n h)
      by false e =
          let h = ltb-false (length list) (length found * size) e in
          rw (listed_all size entry sized found list h) (well l n h)

-- nothing is both long and short
not_both : (needed : ℕ) (f g : List ℕ) → Long needed f g → (length f < needed) ⊎ (length g < needed) → ⊥
not_both needed f g l s = ⊎_elim (λ h. not-le_of_lt h l.0) (λ h. not-le_of_lt h l.1) s

-- What the way tells.
module _ {A : Type 0} {size : ℕ} {entry : A → List ℕ} {sized : (a : A) → length (entry a) ≡ size} {found : List A} {list : List ℕ} {needed : ℕ} {f g : List ℕ} {Bad : Type 0} where
  -- Each number exactly when.
  pub when_one : (o : Outcome) → Way size entry sized found list needed f g Bad o → (number_of o.answer ≡ too_short) ↔ ((length f < needed) ⊎ (length g < needed))
  unfolding number_of
  when_one o (short s) = (λ e. s, λ t. refl)
  when_one o (bad l b) = (λ e. absurd (omega arith), λ t. absurd (not_both needed f g l t))
  when_one o (small l n h) = (λ e. absurd (omega arith), λ t. absurd (not_both needed f g l t))
  when_one o (well l n h) = (λ e. absurd (omega arith), λ t. absurd (not_both needed f g l t))

  pub when_twelve : (o : Outcome) → Way size entry sized found list needed f g Bad o → (number_of o.answer ≡ frame_byte_above) ↔ (Long needed f g × Bad)
  unfolding number_of
  when_twelve o (short s) = (λ e. absurd (omega arith), λ t. absurd (not_both needed f g t.0 s))
  when_twelve o (bad l b) = (λ e. (l, b), λ t. refl)
  when_twelve o (small l n h) = (λ e. absurd (omega arith), λ t. absurd (n t.1))
  when_twelve o (well l n h) = (λ e. absurd (omega arith), λ t. absurd (n t.1))

  pub when_eleven : (o : Outcome) → Way size entry sized found list needed f g Bad o → (number_of o.answer ≡ list_too_small) ↔ (Long needed f g × (Bad → ⊥) × (length list < length found * size))
  unfolding number_of
  when_eleven o (short s) = (λ e. absurd (omega arith), λ t. absurd (not_both needed f g t.0 s))
  when_eleven o (bad l b) = (λ e. absurd (omega arith), λ t. absurd (t.1 b))
  when_eleven o (small l n h) = (λ e. (l, n, h), λ t. refl)
  when_eleven o (well l n h) = (λ e. absurd (omega arith), λ t. absurd (not-le_of_lt t.2 h))

  pub when_zero : (o : Outcome) → Way size entry sized found list needed f g Bad o → (number_of o.answer ≡ taken) ↔ (Long needed f g × (Bad → ⊥) × (length found * size ≤ length list))
  unfolding number_of
  when_zero o (short s) = (λ e. absurd (omega arith), λ t. absurd (not_both needed f g t.0 s))
  when_zero o (bad l b) = (λ e. absurd (omega arith), λ t. absurd (t.1 b))
  when_zero o (small l n h) = (λ e. absurd (omega arith), λ t. absurd (not-le_of_lt h t.2))
  when_zero o (well l n h) = (λ e. (l, n, h), λ t. refl)

  -- what is left
  pub left_then : (none : A) (o : Outcome) → Way size entry sized found list needed f g Bad o → Left size entry none found list o
  left_then none o (short s) = left_refused size entry sized found list none too_short (λ e. omega arith)
  left_then none o (bad l b) = left_refused size entry sized found list none frame_byte_above (λ e. omega arith)
  left_then none o (small l n h) = left_refused size entry sized found list none list_too_small (λ e. omega arith)
  left_then none o (well l n h) = left_listed size entry sized found list none
