-- The four events as C sees them: of a call's outcome, what can differ at that event.
use Rattle.std.specs.Prelude.{ℕ, Bool, true, false, List}
use Rattle.bus.specs.Calls.{Called}

-- "dummy" as a number.
unfoldable pub flag : Bool → ℕ
flag true = 1
flag false = 0

-- The number and the state.
pub record StateReply : Type 0 where
  pub number : ℕ
  pub state : List ℕ

abbrev pub state_reply : ℕ → List ℕ → StateReply
state_reply answer later = record { number = answer; state = later }

abbrev pub of_state : Called → StateReply
of_state outcome = state_reply outcome.reply.number outcome.state

-- The number, the state and the memory.
pub record WriteReply : Type 0 where
  pub number : ℕ
  pub state : List ℕ
  pub memory : List ℕ

abbrev pub write_reply : ℕ → List ℕ → List ℕ → WriteReply
write_reply answer later left = record { number = answer; state = later; memory = left }

abbrev pub of_both : Called → WriteReply
of_both outcome = write_reply outcome.reply.number outcome.state outcome.memory

-- The number, the byte, the dummy mark and the state.
pub record ReadReply : Type 0 where
  pub number : ℕ
  pub byte : ℕ
  pub dummy : ℕ
  pub state : List ℕ

abbrev pub read_reply : ℕ → ℕ → ℕ → List ℕ → ReadReply
read_reply answer read mark later = record { number = answer; byte = read; dummy = mark; state = later }

abbrev pub of_read : Called → ReadReply
of_read outcome = read_reply outcome.reply.number outcome.reply.byte (flag outcome.reply.dummy) outcome.state
