-- How the table is read: rows that do not have a byte are passed over, the first that has it decides, and where none has it the byte is outside.
-- Assumes nothing.
use mathlib.Core.Path.{◌≡◌, refl, sym, ◌∙◌, ap}
use mathlib.Core.Bool.{Bool, true, ◌&&◌}
use mathlib.Core.List.{List, [], ◌∷◌, ◌++◌, append-nil}
use Prim.Native.Nat.{ℕ, ◌≤◌}
use native.Mathlib.Omega.{arith}
use lib.Dec.{leb, ltb, eqb}
use lib.ListN.{take, drop, take-append-drop}
use borrow.Author.Tests.{le-leb, leb-true, ltb-true, eqb-true}
use Rattle.codes.proofs.Tests.{refuted, both}
use Rattle.codes.specs.Table.{Row, one, two, table, command_by, command_of}
use Rattle.codes.specs.declared.Command.{Command}

-- no row of the list has the byte
abbrev pub Apart : List Row → ℕ → Type 0
Apart [] b = Unit {0}
Apart (one first last means ∷ rows) b = (first ≤ b → b ≤ last → ⊥) × Apart rows b
Apart (two code gives ∷ rows) b = (b ≡ code → ⊥) × Apart rows b

-- every row of the list ends below x
abbrev pub below : ℕ → List Row → Bool
below x [] = true
below x (one first last means ∷ rows) = ltb last x && below x rows
below x (two code gives ∷ rows) = ltb code x && below x rows

-- every row of the list begins above x
abbrev pub above : ℕ → List Row → Bool
above x [] = true
above x (one first last means ∷ rows) = ltb x first && above x rows
above x (two code gives ∷ rows) = ltb x code && above x rows

below_apart : (rows : List Row) (x b : ℕ) → below x rows ≡ true → x ≤ b → Apart rows b
below_apart [] x b e h = tt
below_apart (one first last means ∷ rows) x b e h =
    let ends = both (ltb last x) (below x rows) e in
    (λ low high. omega (arith, ltb-true last x ends.0), below_apart rows x b ends.1 h)
below_apart (two code gives ∷ rows) x b e h =
    let ends = both (ltb code x) (below x rows) e in
    (λ same. omega (arith, ltb-true code x ends.0), below_apart rows x b ends.1 h)

above_apart : (rows : List Row) (x b : ℕ) → above x rows ≡ true → b ≤ x → Apart rows b
above_apart [] x b e h = tt
above_apart (one first last means ∷ rows) x b e h =
    let begins = both (ltb x first) (above x rows) e in
    (λ low high. omega (arith, ltb-true x first begins.0), above_apart rows x b begins.1 h)
above_apart (two code gives ∷ rows) x b e h =
    let begins = both (ltb x code) (above x rows) e in
    (λ same. omega (arith, ltb-true x code begins.0), above_apart rows x b begins.1 h)

-- rows that do not have the byte are passed over
passed : (rows after : List Row) (b : ℕ) → Apart rows b → command_by (rows ++ after) b ≡ command_by after b
unfolding command_by
passed [] after b h = refl
passed (one first last means ∷ rows) after b h =
    let halves = both (leb first b) (leb b last) in
    rw (refuted (leb first b && leb b last) (λ e. h.0 (leb-true _ _ (halves e).0) (leb-true _ _ (halves e).1))) (passed rows after b h.1)
passed (two code gives ∷ rows) after b h = rw (refuted (eqb b code) (λ e. h.0 (eqb-true _ _ e))) (passed rows after b h.1)

past : (k : ℕ) (rows : List Row) (b : ℕ) → Apart (take k rows) b → command_by rows b ≡ command_by (drop k rows) b
past k rows b h = ap (λ all. command_by all b) (sym (take-append-drop k rows)) ∙ passed (take k rows) (drop k rows) b h

-- the byte is in row k of the table, a row of one byte; the rows before it end below that row
pub in_row : (k b : ℕ) {first last : ℕ} {means : ℕ → Command} {after : List Row} → drop k table ≡ one first last means ∷ after → below first (take k table) ≡ true → first ≤ b → b ≤ last → means b ≡ command_of b
unfolding command_of command_by
in_row k b {first} {last} {means} {after} at before low high = sym (past k table b (below_apart (take k table) first b before low) ∙ ap (λ rows. command_by rows b) at ∙ hit)
  where
    hit : command_by (one first last means ∷ after) b ≡ means b
    hit = rw (le-leb _ _ low, le-leb _ _ high)

-- the byte is in no row: j rows end below x, the next k do not have it, and those after them begin above y
pub in_gap : (j k x y b : ℕ) → below x (take j table) ≡ true → above y (drop k (drop j table)) ≡ true → x ≤ b → b ≤ y → Apart (take k (drop j table)) b → Command.Outside ≡ command_of b
unfolding command_of command_by
in_gap j k x y b before after low high between =
    let rest = drop k (drop j table) in
    sym
    (past j table b (below_apart (take j table) x b before low) ∙
    past k (drop j table) b between ∙
    ap (λ rows. command_by rows b) (sym (append-nil rest)) ∙
    passed rest [] b (above_apart rest y b after high))
