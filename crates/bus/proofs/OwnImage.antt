-- The image at the start of a lent state: its registers are the state's, and what is stored in it is stored in the state.
-- Assumes nothing.
use mathlib.Core.Path.{◌≡◌, sym, ◌∙◌, ap}
use mathlib.Core.List.{List, ◌++◌}
use Prim.Native.Nat.{ℕ, ◌≤◌}
use lib.ListN.{length, take, drop}
use Rattle.std.proofs.lemmas.List.{take-append-drop}
use Rattle.constants.specs.Sizes.{image_size}
use Rattle.bus.specs.Registers.{image_of, registers_of}
use Rattle.bus.specs.Image.{stored}
use Rattle.bus.specs.Answer.{Answer}
use Rattle.bus.specs.Calls.{state_after}
use Rattle.bus.specs.declared.registers.Registers.{Registers}
use Rattle.bus.proofs.Stored.{stored_long}
use Rattle.bus.proofs.ThereAndBack.{image_registers}

module _ (state : List ℕ) (h : image_size ≤ length state) where
  own_image : take image_size state ≡ image_of (registers_of state)
  own_image = ap (take image_size) (sym (image_registers state h))

  pub registers_in : registers_of (take image_size state) ≡ registers_of state
  registers_in = ap registers_of own_image

  pub stored_in : (r : Registers) → stored r (take image_size state) ++ drop image_size state ≡ stored r state
  unfolding stored
  stored_in r = ap (λ image. stored r image ++ drop image_size state) own_image ∙ sym (stored_long state h r)

  pub after_in : (answer : Answer) → state_after answer (take image_size state) ++ drop image_size state ≡ state_after answer state
  unfolding state_after
  after_in (Answer.Taken after) = stored_in after.registers
  after_in (Answer.Refused number) = take-append-drop image_size state
