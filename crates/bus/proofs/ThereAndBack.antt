-- Image and registers convert there and back without loss.
-- Assumes nothing.
use mathlib.Core.Path.{◌≡◌, refl, sym, ◌∙◌, ap}
use mathlib.Core.List.{List, [], ◌∷◌, ◌++◌}
use Prim.Native.Nat.{ℕ, zero, suc, ◌+◌, ◌≤◌}
use native.Mathlib.Nat.{add-zero, add-suc, suc-add}
use native.Mathlib.Omega.{arith}
use lib.ListN.{length, get_or, drop, set, length-set, drop_of_length-le}
use mathlib.Core.List.{append-nil}
use lib.Seq.{drop-cons}
use Rattle.constants.specs.Sizes.{image_size}
use Rattle.bus.specs.Registers.{image_of, registers_of, ◌with◌≔◌}
use Rattle.bus.specs.ThereAndBack.{ThereAndBack}
use Rattle.bus.specs.Held.{place_of}
use Rattle.bus.specs.declared.places.Place.{Place}
use Rattle.bus.specs.contracts.places.Place.{the_type}
use denote.Enum.Declared.{tag_of}
use Rattle.bus.specs.declared.registers.Registers.{Registers}

-- n bytes of a list from place i, one by one
abbrev pub bytes_from : ℕ → ℕ → List ℕ → List ℕ
bytes_from zero i image = []
bytes_from (suc n) i image = get_or image i 0 ∷ bytes_from n (suc i) image

pub bytes_rest : (n i : ℕ) (image : List ℕ) → i + n ≤ length image → bytes_from n i image ++ drop (i + n) image ≡ drop i image
bytes_rest zero i image h = rw (add-zero i)
bytes_rest (suc n) i image h =
    rw (add-suc i n, drop-cons image i 0 (omega arith)) (ap (λ rest. get_or image i 0 ∷ rest) (rw (suc-add i n) at (bytes_rest n (suc i) image (omega arith))))

-- an image of a state: its first 23 bytes are the image of its registers
pub image_registers : (state : List ℕ) → image_size ≤ length state → image_of (registers_of state) ++ drop image_size state ≡ state
image_registers state h = bytes_rest 23 0 state h

-- an image with one register set is the image with that byte set
pub image_with : (r : Registers) (place value : ℕ) → image_of (r with place ≔ value) ≡ set (image_of r) place value
image_with r place value =
    let changed = set (image_of r) place value in
    let long : length changed ≡ 23 = length-set (image_of r) place value in
    sym (append-nil _) ∙ ap (λ rest. image_of (registers_of changed) ++ rest) (sym (drop_of_length-le changed {i = 23} (omega arith))) ∙ image_registers changed (omega arith)

pub there_and_back : ThereAndBack
there_and_back = record { size = λ r. refl; registers_back = λ r. refl; image_back = image_registers; one_set = image_with }

-- each register of an image stands at its place
pub at_place : (image : List ℕ) (place : Place) → get_or image (tag_of the_type place) 0 ≡ get_or (image_of (registers_of image)) (place_of place) 0
at_place image Place.Page = refl
at_place image Place.Column = refl
at_place image Place.Start = refl
at_place image Place.Offset = refl
at_place image Place.Multiplex = refl
at_place image Place.Contrast = refl
at_place image Place.Ratio = refl
at_place image Place.Power = refl
at_place image Place.Bias = refl
at_place image Place.Quarter = refl
at_place image Place.Held = refl
at_place image Place.Phases = refl
at_place image Place.ColumnDirection = refl
at_place image Place.RowDirection = refl
at_place image Place.Entire = refl
at_place image Place.Reverse = refl
at_place image Place.On = refl
at_place image Place.Indicator = refl
at_place image Place.Mode = refl
at_place image Place.Awaited = refl
at_place image Place.Modify = refl
at_place image Place.Saved = refl
at_place image Place.Fresh = refl
