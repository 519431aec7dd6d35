-- Laws on tests that every layer uses: a test that fails, the two halves of one that holds, and membership in a list of codes.
-- Assumes nothing.
use mathlib.Core.Path.{◌≡◌, refl, sym, ◌∙◌, subst}
use mathlib.Core.Bool.{Bool, true, false, cond, ◌&&◌, ◌||◌, or-true, false≢true}
use mathlib.Core.Logic.{◌⊎◌, inl, inr, ⊎_elim}
use mathlib.Core.List.{List, [], ◌∷◌}
use Prim.Native.Nat.{ℕ, ◌≤◌}
use native.Mathlib.Omega.{arith}
use lib.Dec.{leb, eqb}
use borrow.Author.Tests.{leb-true, eqb-true}
use Rattle.codes.specs.OneOf.{one_of}

pub refuted : (t : Bool) → (t ≡ true → ⊥) → t ≡ false
refuted true h = absurd (h refl)
refuted false h = refl

pub both : (s t : Bool) → (s && t) ≡ true → (s ≡ true) × (t ≡ true)
both true t e = (refl, e)
both false t e = absurd (false≢true e)

-- of two things that a test chooses between, the one chosen has the property that each has where it is chosen
pub chosen {ℓ} : {A : Type ℓ} (P : A → Type 0) (t : Bool) (x y : A) → (t ≡ true → P x) → (t ≡ false → P y) → P (cond t x y)
chosen P true x y p q = p refl
chosen P false x y p q = q refl

pub either : (s t : Bool) → (s || t) ≡ true → (s ≡ true) ⊎ (t ≡ true)
either true t e = inl refl
either false t e = inr e

-- a number of a list is none that the list does not have
pub not_listed : (ms : List ℕ) {n : ℕ} (m : ℕ) → n ≡ m → one_of ms m ≡ false → one_of ms n ≡ true → ⊥
not_listed ms m e p q = false≢true (sym p ∙ rw e at q)

-- a number of a list is one of a longer list
pub listed_later : (m : ℕ) (ms : List ℕ) (n : ℕ) → one_of ms n ≡ true → one_of (m ∷ ms) n ≡ true
listed_later m ms n e = rw e (or-true (eqb n m))

-- every number of the list is at most x
abbrev pub at_most : ℕ → List ℕ → Bool
at_most x [] = true
at_most x (m ∷ ms) = leb m x && at_most x ms

-- what is one of a list's numbers is at most what they all are
pub one_of_at_most : (x : ℕ) (ms : List ℕ) (n : ℕ) → at_most x ms ≡ true → one_of ms n ≡ true → n ≤ x
one_of_at_most x [] n h e = absurd (false≢true e)
one_of_at_most x (m ∷ ms) n h e =
    let halves = both (leb m x) (at_most x ms) h in
    ⊎_elim (λ p. omega (arith, eqb-true n m p, leb-true m x halves.0)) (λ p. one_of_at_most x ms n halves.1 p) (either (eqb n m) (one_of ms n) e)

-- what holds at each number of a list holds of one of them
abbrev pub Each : (ℕ → Type 0) → List ℕ → Type 0
Each P [] = Unit {0}
Each P (m ∷ ms) = P m × Each P ms

pub one_of_each : (P : ℕ → Type 0) (ms : List ℕ) (n : ℕ) → Each P ms → one_of ms n ≡ true → P n
one_of_each P [] n p e = absurd (false≢true e)
one_of_each P (m ∷ ms) n p e = ⊎_elim (λ q. subst P (sym (eqb-true n m q)) p.0) (one_of_each P ms n p.1) (either (eqb n m) (one_of ms n) e)
