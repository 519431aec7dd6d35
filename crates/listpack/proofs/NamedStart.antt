-- The start that an entry's name asks for: the test of the word decides.
-- Assumes nothing.
use mathlib.Core.Path.{◌≡◌, refl}
use mathlib.Core.Bool.{Bool, true, false, cond}
use mathlib.Core.List.{List, ◌++◌}
use Prim.Native.Nat.{ℕ}
use Rattle.bus.specs.declared.start.Hung.{Hung}
use Rattle.framelisting.specs.Ascii.{ascii}
use Rattle.tracelisting.specs.Beginning.{begins}
use Rattle.tracelisting.proofs.Beginning.{begins_so}
use Rattle.listpack.specs.Pack.{hung_by, upright_word, HungBy}

others : (name : List ℕ) → ((rest : List ℕ) → name ≡ upright_word ++ rest → ⊥) → hung_by name ≡ Hung.UpsideDown
unfolding hung_by ascii
others name n = by (begins upright_word name) refl
  where
    by : (t : Bool) → begins upright_word name ≡ t → cond t Hung.Upright Hung.UpsideDown ≡ Hung.UpsideDown
    by true e = let whole = (begins_so upright_word name).0 e in absurd (n whole.0 whole.1)
    by false e = refl

pub hung_by_lem : HungBy
unfolding hung_by ascii
hung_by_lem = record { upright = λ rest. rw ((begins_so upright_word (upright_word ++ rest)).1 (rest, refl)) refl; others = others }
