-- What the program's arguments ask for: of two words the tests of the second decide.
-- Assumes nothing.
use mathlib.Core.Path.{◌≡◌, refl, ◌∙◌, ap}
use mathlib.Core.Bool.{Bool, true, false, cond, ◌&&◌}
use mathlib.Core.List.{List, [], ◌∷◌, ◌++◌}
use Prim.Native.Nat.{ℕ}
use native.Mathlib.Omega.{arith}
use borrow.Author.Tests.{lt-ltb, le-ltb, ne_eqb, eqb-true}
use lib.Dec.{eqb}
use lib.ListN.{length, length-append}
use Rattle.codes.proofs.Tests.{both}
use Rattle.bus.specs.declared.start.Hung.{Hung}
use Rattle.framelisting.specs.Ascii.{ascii}
use Rattle.tracelisting.specs.Beginning.{begins}
use Rattle.tracelisting.proofs.Beginning.{begins_so}
use Rattle.listtrace.specs.StartAsked.{Asked, start_asked, upright_argument, StartAsked}

-- nothing is left of a list of length 0
empty : (l : List ℕ) → length l ≡ 0 → l ≡ []
empty [] e = refl
empty (a ∷ l) e = absurd (omega arith)

-- a word of nine bytes that begins with `--upright` is that
spelt : (word : List ℕ) → (eqb (length word) 9 && begins (ascii "--upright") word) ≡ true → word ≡ upright_argument
unfolding ascii
spelt word e =
    let halves = both (eqb (length word) 9) (begins (ascii "--upright") word) e in
    let whole = (begins_so (ascii "--upright") word).0 halves.1 in
    let rest = empty whole.0 (omega (arith, eqb-true (length word) 9 halves.0, ap length whole.1 ∙ length-append upright_argument whole.0)) in
    whole.1 ∙ ap (λ more. upright_argument ++ more) rest

other : (word : List ℕ) → (word ≡ upright_argument → ⊥) → start_asked 2 word ≡ Asked.Unknown
unfolding start_asked
other word n = by (eqb (length word) 9 && begins (ascii "--upright") word) refl
  where
    by : (t : Bool) → (eqb (length word) 9 && begins (ascii "--upright") word) ≡ t → cond t (Asked.Start Hung.Upright) Asked.Unknown ≡ Asked.Unknown
    by true e = absurd (n (spelt word e))
    by false e = refl

pub start_asked_lem : StartAsked
unfolding start_asked begins ascii
start_asked_lem = record {
  none = λ count word l. rw (lt-ltb count 2 l) refl;
  named = refl;
  other = other;
  more = λ count word l. rw (le-ltb count 2 (omega arith), ne_eqb count 2 (λ e. omega arith)) refl;
}
