-- The four events of the wide terminal as C sees them: of a call's outcome, what can differ at that event.
use Rattle.std.specs.Prelude.{ℕ, Bool, true, false, List}
use Rattle.widebus.specs.Pair.{Pair, Lent}
use Rattle.widebus.specs.WideCalls.{WideCalled}

-- "dummy" as a number.
unfoldable pub flag : Bool → ℕ
flag true = 1
flag false = 0

-- The number and both states.
pub record StatesReply : Type 0 where
  pub number : ℕ
  pub left : List ℕ
  pub right : List ℕ

abbrev pub states_reply : ℕ → List ℕ → List ℕ → StatesReply
states_reply answer l r = record { number = answer; left = l; right = r }

abbrev pub of_states : WideCalled → StatesReply
of_states outcome = states_reply outcome.reply.number outcome.lent.left.state outcome.lent.right.state

-- The number, both states and both memories.
pub record LentReply : Type 0 where
  pub number : ℕ
  pub lent : Pair Lent

abbrev pub lent_reply : ℕ → Pair Lent → LentReply
lent_reply answer later = record { number = answer; lent = later }

abbrev pub of_lent : WideCalled → LentReply
of_lent outcome = lent_reply outcome.reply.number outcome.lent

-- The number, the byte, the dummy mark and both states.
pub record ReadReply : Type 0 where
  pub number : ℕ
  pub byte : ℕ
  pub dummy : ℕ
  pub left : List ℕ
  pub right : List ℕ

abbrev pub read_reply : ℕ → ℕ → ℕ → List ℕ → List ℕ → ReadReply
read_reply answer read mark l r = record { number = answer; byte = read; dummy = mark; left = l; right = r }

abbrev pub of_read : WideCalled → ReadReply
of_read outcome = read_reply outcome.reply.number outcome.reply.byte (flag outcome.reply.dummy) outcome.lent.left.state outcome.lent.right.state
