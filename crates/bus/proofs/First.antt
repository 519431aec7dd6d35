-- The first 23 bytes of a lent state, taken as an image.
-- Assumes nothing.
use mathlib.Core.Path.{◌≡◌, refl, sym, ◌∙◌, ap}
use mathlib.Core.Bool.{Bool, true, false, cond, ◌&&◌}
use mathlib.Core.List.{List, ◌++◌}
use Prim.Native.Nat.{ℕ, ◌≤◌, ◌<◌}
use lib.Dec.{eqb}
use lib.ListN.{length, take, drop_of_length-le}
use mathlib.Core.List.{append-nil}
use native.Mathlib.Omega.{arith}
use Rattle.std.specs.Prelude.{Ok, Err, MatchResult}
use Rattle.constants.specs.Refusals.{Met, number_met, number_of_refusal}
use Rattle.bus.specs.Answer.{Answer}
use Rattle.bus.specs.Calls.{state_after}
use Rattle.bus.specs.Events.{number_of, silently}
use Rattle.bus.proofs.Stored.{stored_long}
use Rattle.codes.specs.OneOf.{one_of}
use Rattle.constants.specs.Sizes.{image_size}
use Rattle.bus.specs.Registers.{image_of, registers_of, largest_values}
use Rattle.bus.specs.Image.{within, awaited_codes, legal, stored}
use Rattle.bus.specs.declared.registers.Registers.{Registers}
use Rattle.bus.proofs.Legal.{within_short}
use Rattle.bus.proofs.OwnImage.{registers_in}
use Rattle.bus.proofs.ThereAndBack.{image_registers}

-- a state that is too short is out of its ranges
pub short_legal : (state : List ℕ) → length state < image_size → legal state ≡ false
unfolding legal
short_legal state h = rw (within_short state h)

-- a test, and where it holds another
pub and_then : {first second both : Bool} → both ≡ second → first ≡ true → both ≡ (first && second)
and_then e f = rw f e

pub and_else : {first both : Bool} (second : Bool) → both ≡ first → first ≡ false → both ≡ (first && second)
and_else second e f = e ∙ rw f

-- what a state's registers are asked
abbrev pub Asked : Registers → Bool
Asked r = within largest_values (image_of r) && one_of awaited_codes r.awaited && cond (eqb r.modify 0) (eqb r.saved 0) true

module _ (state image : List ℕ) (h : image_size ≤ length state) (e : image ≡ take image_size state) where
  -- the registers of the first 23 bytes are the state's
  pub first_registers : registers_of image ≡ registers_of state
  first_registers = ap registers_of e ∙ registers_in state h

  -- and decide whether it is in its ranges
  pub first_legal : (r : Registers) → r ≡ registers_of image → legal state ≡ Asked r
  unfolding legal within largest_values
  first_legal r l = ap legal (sym (image_registers state h)) ∙ ap Asked (sym (l ∙ first_registers))

-- an image is that of its registers
own : (image : List ℕ) → length image ≡ image_size → image_of (registers_of image) ≡ image
own image l = sym (append-nil _) ∙ ap (λ rest. image_of (registers_of image) ++ rest) (sym (drop_of_length-le image {i = 23} (omega arith))) ∙ image_registers image (omega arith)

-- what is left in an image, by the registers that it holds then
module _ (image later : List ℕ) (i : length image ≡ image_size) (l : length later ≡ image_size) where
  pub holds : (r : Registers) → registers_of later ≡ r → later ≡ stored r image
  holds r e = sym (own later l) ∙ ap image_of e ∙ sym (stored_long image (omega arith) r ∙ ap (λ rest. image_of r ++ rest) (drop_of_length-le image {i = 23} (omega arith)) ∙ append-nil _)

  -- so a command obeyed in it
  pub obeyed_in : (result : Met) (answer : Answer) → MatchResult result (λ done. answer ≡ silently (registers_of later)) (λ refusal. (answer ≡ Answer.Refused (number_of_refusal refusal)) × (registers_of later ≡ registers_of image)) → (number_met result ≡ number_of answer) × (later ≡ state_after answer image)
  unfolding number_of state_after
  obeyed_in (Ok done) answer m = rw m (refl, holds (registers_of later) refl)
  obeyed_in (Err refusal) answer m = rw m.0 (refl, sym (own later l) ∙ ap image_of m.1 ∙ own image i)
