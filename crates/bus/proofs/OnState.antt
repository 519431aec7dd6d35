-- Events on a state that was asked before: a short one is refused, the event of any other is concluded, and on an accepted state it is the call.
-- Assumes nothing.
use mathlib.Core.Path.{◌≡◌, refl, sym, ◌∙◌, ap}
use mathlib.Core.Bool.{true, false}
use mathlib.Core.List.{List, ◌++◌}
use Prim.Native.Nat.{ℕ, ◌≤◌, ◌<◌}
use borrow.Author.Tests.{lt-ltb, le-ltb}
use lib.ListN.{length, get_or, take, drop}
use Rattle.codes.specs.Table.{meaning_of}
use Rattle.codes.specs.declared.Command.{Command}
use Rattle.constants.specs.Sizes.{image_size}
use Rattle.constants.specs.Numbers.{too_short}
use Rattle.constants.specs.Refusals.{Met, number_met}
use Rattle.bus.specs.Places.{awaited}
use Rattle.bus.specs.Registers.{registers_of, ◌with◌≔◌}
use Rattle.bus.specs.Events.{number_of, byte_of, dummy_of, obeyed, command, access}
use Rattle.bus.specs.Chip.{Event, command_byte, data_written, data_read, reset_pulse, step}
use Rattle.bus.specs.Image.{short, legal, asked}
use Rattle.bus.specs.Calls.{called, reply_of, state_after, refused, concluded, asked_before, call_on, call}
use Rattle.bus.specs.OnState.{on_state, numbered, access_on, OnAccepted}
use Rattle.bus.specs.Answer.{Answer}
use Rattle.bus.specs.Answer.{Reply, reply_to}
use Rattle.bus.proofs.Legal.{long}
use Rattle.bus.proofs.Answers.{command_silent}
use Rattle.bus.proofs.AskedFirst.{silent_reply}
use Rattle.bus.proofs.Concluded.{as_concluded}
use Rattle.bus.proofs.OwnImage.{registers_in, after_in}

-- a number alone, as the reply to a refusal
pub number_alone : (number : ℕ) → numbered number ≡ reply_of (Answer.Refused number)
unfolding reply_of number_of byte_of dummy_of
number_alone number = refl

module _ (event : Event) (state memory : List ℕ) where
  -- a state that is too short
  pub short_state : length state < image_size → {reply : Reply} → reply ≡ reply_of (Answer.Refused too_short) → called reply state memory ≡ on_state event state memory
  unfolding on_state refused
  short_state h e = rw (lt-ltb _ _ h, e)

  -- one that is long enough
  pub long_state : image_size ≤ length state → on_state event state memory ≡ concluded (step event (registers_of state) memory) state
  unfolding on_state
  long_state h = rw (le-ltb _ _ h)

  -- an answer that is replied and stored
  pub answers : image_size ≤ length state → {answer : Answer} {reply : Reply} {later left : List ℕ} → answer ≡ (step event (registers_of state) memory).answer → reply ≡ reply_of answer → later ≡ state_after answer state → left ≡ (step event (registers_of state) memory).memory
      → called reply later left ≡ on_state event state memory
  answers h e p q m = as_concluded (step event (registers_of state) memory) state e p q m ∙ sym (long_state h)

  -- one that is given in the image at the start of the state, and stored there
  pub in_image : image_size ≤ length state → {image : List ℕ} → image ≡ take image_size state → {answer : Answer} {reply : Reply} {later left : List ℕ} → answer ≡ (step event (registers_of image) memory).answer → reply ≡ reply_of answer → later ≡ state_after answer image → left ≡ (step event (registers_of image) memory).memory
      → called reply (later ++ drop image_size state) left ≡ on_state event state memory
  in_image h i {answer} e p q m =
      answers h (rw (i, registers_in state h) at e) p (ap (λ l. l ++ drop image_size state) (rw i at q) ∙ after_in state h answer) (rw (i, registers_in state h) at m)

  -- lengths and ranges asked, it is the call
  pub on_accepted_lem : short state memory ≡ false → legal state ≡ true → on_state event state memory ≡ call event state memory
  unfolding call call_on asked_before asked
  on_accepted_lem s l = long_state (long state memory s).0 ∙ by event
    where
      by : (e : Event) → concluded (step e (registers_of state) memory) state ≡ call e state memory
      by (command_byte b) = rw (s, l)
      by (data_written b) = rw (s, l)
      by data_read = rw (s, l)
      by reset_pulse = rw s

-- a command byte, obeyed in the image
pub command_in_image : (state : List ℕ) (byte : ℕ) → image_size ≤ length state → {image : List ℕ} → image ≡ take image_size state → {named : Command} → named ≡ meaning_of (get_or image awaited 0) byte → (met : Met) {later : List ℕ}
    → (number_met met ≡ number_of (obeyed named (registers_of image with awaited ≔ 0))) × (later ≡ state_after (obeyed named (registers_of image with awaited ≔ 0)) image)
    → (memory : List ℕ) → called (reply_to met) (later ++ drop image_size state) memory ≡ on_state (command_byte byte) state memory
unfolding step command
command_in_image state byte h {image} i e met done memory =
    let so = rw e at done in
    in_image (command_byte byte) state memory h i {answer = command byte (registers_of image)} refl (silent_reply _ _ (command_silent byte (registers_of image)) so.0) so.1 refl

-- what a data write or read meets
module _ (state memory : List ℕ) where
  pub access_short : length state < image_size → too_short ≡ access_on state memory
  unfolding access_on
  access_short h = rw (lt-ltb _ _ h)

  pub access_long : image_size ≤ length state → {image : List ℕ} → image ≡ take image_size state → {number : ℕ} → number ≡ access (registers_of image) (length memory) → number ≡ access_on state memory
  unfolding access_on
  access_long h i e = rw (le-ltb _ _ h) (rw (i, registers_in state h) at e)

pub on_accepted : OnAccepted
on_accepted = record { the_call = λ event state memory a. on_accepted_lem event state memory a.long_enough a.in_ranges }
