-- A list that is put into a list buffer, or is too long for it: what is left then.
-- Assumes nothing.
use Prim.Native.Nat.{ℕ, ◌*◌, ◌≤◌, ◌<◌}
use mathlib.Core.Path.{◌≡◌, refl}
use mathlib.Core.Logic.{◌≢◌}
use mathlib.Core.List.{List, ◌++◌}
use borrow.Author.Tests.{lt-ltb, le-ltb}
use lib.ListN.{length, drop}
use lib.Seq.{drop_at}
use Rattle.constants.specs.Numbers.{taken, list_too_small}
use Rattle.differences.specs.Entries.{entries}
use Rattle.differences.specs.Compare.{outcome, listed, number_of, count_of}
use Rattle.differences.specs.Given.{Left}
use Rattle.differences.specs.Compared.{Compared}
use Rattle.differences.proofs.Entries.{entries_length, entry_at}

-- Entries that are all of one size, and a list buffer.
module _ {A : Type 0} (size : ℕ) (entry : A → List ℕ) (sized : (a : A) → length (entry a) ≡ size) (found : List A) (list : List ℕ) where
  -- too small for them all
  pub listed_not : length list < length found * size → listed entry found list ≡ outcome (Compared.Refused list_too_small) list
  unfolding listed
  listed_not h = rw (entries_length size entry sized found, lt-ltb (length list) (length found * size) h)

  -- all at its start
  abbrev pub filled : List ℕ
  filled = entries entry found ++ drop (length found * size) list

  pub listed_all : length found * size ≤ length list → listed entry found list ≡ outcome (Compared.Listed (length found)) filled
  unfolding listed
  listed_all h = rw (entries_length size entry sized found, le-ltb (length list) (length found * size) h)

  -- what a refusal leaves
  pub left_refused : (none : A) (number : ℕ) → number ≢ taken → Left size entry none found list (outcome (Compared.Refused number) list)
  unfolding number_of count_of
  left_refused none number n = record { refused = λ r. (refl, refl); count = λ e. absurd (n e); each = λ e. absurd (n e); rest = refl }

  -- what a list leaves
  pub left_listed : (none : A) → Left size entry none found list (outcome (Compared.Listed (length found)) filled)
  unfolding number_of count_of
  left_listed none = record {
    refused = λ n. absurd (n refl);
    count = λ e. refl;
    each = λ e. entry_at size entry sized found (drop (length found * size) list) none;
    rest = drop_at (entries entry found) (drop (length found * size) list) (length found * size) (entries_length size entry sized found);
  }
