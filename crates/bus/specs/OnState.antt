-- Events on a lent state whose ranges were asked before: the state's length alone is asked again, so that what is said here holds of every state. The calls of this crate end so, and those over two chips, which ask both first.
use Rattle.std.specs.Prelude.{ℕ, ◌≡◌, false, cond, List, ltb, length}
use Rattle.constants.specs.Sizes.{image_size}
use Rattle.constants.specs.Numbers.{too_short}
use Rattle.bus.specs.Registers.{registers_of}
use Rattle.bus.specs.Events.{access}
use Rattle.bus.specs.Chip.{Event, step}
use Rattle.bus.specs.Image.{Accepted}
use Rattle.bus.specs.Calls.{Called, refused, concluded, call}
use Rattle.bus.specs.Answer.{Reply}

-- The event on the registers of the state, whatever they are; a state that is too short is refused 1.
unfoldable pub on_state : Event → List ℕ → List ℕ → Called
on_state event state memory = cond (ltb (length state) image_size) (refused too_short state memory) (concluded (step event (registers_of state) memory) state)

-- The reply to an event that answers no byte: its number.
abbrev pub numbered : ℕ → Reply
numbered met = record { number = met; byte = 0; dummy = false }

-- What a data write or read meets there.
unfoldable pub access_on : List ℕ → List ℕ → ℕ
access_on state memory = cond (ltb (length state) image_size) too_short (access (registers_of state) (length memory))

pub record OnAccepted : Type 0 where
  -- On a state and memory that 1 and 2 do not refuse, it is the call of the event.
  pub the_call : (event : Event) (state memory : List ℕ) → Accepted state memory → on_state event state memory ≡ call event state memory
