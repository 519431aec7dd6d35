-- A column of the frame by what each of its places shows, beside picture's law on a row: the whole frame is dear to compute, and a table of many settings asks these alone.
-- Assumes nothing.
use mathlib.Core.Path.{◌≡◌, refl}
use mathlib.Core.Bool.{Bool, true, ◌&&◌}
use mathlib.Core.List.{List, [], ◌∷◌, map}
use Prim.Native.Nat.{ℕ, zero, suc, ◌<◌}
use lib.Dec.{ltb}
use borrow.Author.Tests.{ltb-true}
use Rattle.codes.proofs.Tests.{both}
use Rattle.constants.specs.Sizes.{width, frame_rows}
use Rattle.bus.specs.declared.registers.Registers.{Registers}
use Rattle.picture.specs.Scan.{panel_row, row_shows}
use Rattle.picture.specs.Rows.{scan_of}
use Rattle.picture.specs.Frame.{segment, line, frame, place_of}
use Rattle.picture.proofs.Places.{frame_place}

-- the numbers below n, before others
abbrev below : ℕ → List ℕ → List ℕ
below zero others = others
below (suc n) others = below n (n ∷ others)

-- column x of a frame, from its first row to the icon line
abbrev pub down : ℕ → List ℕ → List ℕ
down x places = map (λ y. place_of width y x places) (below frame_rows [])

-- row y and column x by what each place shows
abbrev pub row_shown : ℕ → Registers → List ℕ → List ℕ
row_shown y r memory = line width (segment r memory (row_shows (scan_of r) (panel_row y)))

abbrev pub down_shown : ℕ → Registers → List ℕ → List ℕ
down_shown x r memory = map (λ y. segment r memory (row_shows (scan_of r) (panel_row y)) x) (below frame_rows [])

abbrev pub every : {A : Type 0} → (A → Bool) → List A → Bool
every test [] = true
every test (a ∷ more) = test a && every test more

-- what is the same for each that passes a test is the same for a list of such
pub map_same : {A B : Type 0} (f g : A → B) (test : A → Bool) → ((a : A) → test a ≡ true → f a ≡ g a) → (list : List A) → every test list ≡ true → map f list ≡ map g list
map_same f g test same [] all = refl
map_same f g test same (a ∷ more) all =
    let split = both (test a) (every test more) all in
    rw (same a split.0, map_same f g test same more split.1)

pub down_shown_lem : (x : ℕ) (r : Registers) (memory : List ℕ) → x < width → down x (frame r memory) ≡ down_shown x r memory
down_shown_lem x r memory k =
    map_same _ _ (λ y. ltb y frame_rows) (λ y t. frame_place r memory y x (ltb-true y frame_rows t) k) (below frame_rows []) refl
