-- A text begins with a word exactly when it is the word with something after it.
-- Assumes nothing.
use mathlib.Core.Path.{◌≡◌, refl, sym, ◌∙◌, ap}
use mathlib.Core.Bool.{true, false≢true}
use mathlib.Core.List.{List, [], ◌∷◌, ◌++◌}
use Prim.Native.Nat.{ℕ}
use borrow.Author.Tests.{eq-eqb, ne_eqb, eqb-true}
use lib.Dec.{eqb}
use native.Mathlib.Decide.{ℕ_discrete}
use Rattle.std.specs.List.{starts_with}
use Rattle.codes.proofs.Tests.{both}
use Rattle.tracelisting.specs.Beginning.{begins, Begins}

there : (word text : List ℕ) → begins word text ≡ true → ((rest : List ℕ) × (text ≡ word ++ rest))
unfolding begins
there [] text e = (text, refl)
there (letter ∷ word) [] e = absurd (false≢true e)
there (letter ∷ word) (first ∷ text) e =
    let halves = both (eqb first letter) (begins word text) e in
    let more = there word text halves.1 in
    (more.0, ap (λ a. a ∷ text) (eqb-true first letter halves.0) ∙ ap (λ l. letter ∷ l) more.1)

back : (word rest : List ℕ) → begins word (word ++ rest) ≡ true
unfolding begins
back [] rest = refl
back (letter ∷ word) rest = rw (eq-eqb letter letter refl, back word rest) refl

pub begins_so : Begins
begins_so word text = (there word text, λ w. ap (begins word) w.1 ∙ back word w.0)

-- and the library says the same of it
eqb_sym : (a b : ℕ) → eqb a b ≡ eqb b a
eqb_sym a b = either (ℕ_discrete a b)
  where
    either : Dec (a ≡ b) → eqb a b ≡ eqb b a
    either (yes e) = rw e
    either (no n) = rw (ne_eqb a b n, ne_eqb b a (λ e. n (sym e)))

pub begins_with_it : (word text : List ℕ) → starts_with eqb text word ≡ begins word text
unfolding begins
begins_with_it [] text = refl
begins_with_it (letter ∷ word) [] = refl
begins_with_it (letter ∷ word) (first ∷ text) = rw (eqb_sym letter first, begins_with_it word text)
