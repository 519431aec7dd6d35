-- What an event answers and what a call replies, with document 01's numbers and values; and what the results of code stand for.
use Rattle.std.specs.Prelude.{ℕ, Bool, true, false, Option, Some, None, Result, Ok, Err}
use Rattle.constants.specs.Refusals.{Met, number_of_refusal, number_met}
use Rattle.constants.specs.declared.refusal.Refusal.{Refusal}
use Rattle.bus.specs.declared.registers.Registers.{Registers}
use Rattle.bus.specs.declared.answer.Read.{Read}

-- What a taken event leaves and answers: the registers, the byte read, and whether the read was the dummy read.
pub record After : Type 0 where
  pub registers : Registers
  pub byte : ℕ
  pub dummy : Bool

-- An event is taken, or refused with a number.
pub data Answer : Type 0 where
  Taken : After → Answer
  Refused : ℕ → Answer

-- What a lent state and memory are found to be: taken up, with the registers, or refused 1 or 2.
pub data Asked : Type 0 where
  Found : Registers → Asked
  Refused : ℕ → Asked

-- What a call replies: the number, the byte read, and whether the read was the dummy read.
pub record Reply : Type 0 where
  pub number : ℕ
  pub byte : ℕ
  pub dummy : Bool

-- The byte that a read answers, 0 where it was the dummy read; and whether it was.
abbrev pub byte_answered : Option ℕ → ℕ
byte_answered (Some byte) = byte
byte_answered None = 0

abbrev pub is_dummy : Option ℕ → Bool
is_dummy (Some byte) = false
is_dummy None = true

-- A command byte or a write, which answers no byte.
abbrev pub answer_of : Result Registers Refusal → Answer
answer_of (Ok left) = Answer.Taken (record { registers = left; byte = 0; dummy = false })
answer_of (Err refusal) = Answer.Refused (number_of_refusal refusal)

-- A read.
abbrev pub answer_of_read : Result Read Refusal → Answer
answer_of_read (Ok taken) = Answer.Taken (record { registers = taken.registers; byte = byte_answered taken.byte; dummy = is_dummy taken.byte })
answer_of_read (Err refusal) = Answer.Refused (number_of_refusal refusal)

-- What is asked first.
abbrev pub asked_of : Result Registers Refusal → Asked
asked_of (Ok found) = Asked.Found found
asked_of (Err refusal) = Asked.Refused (number_of_refusal refusal)

-- The call of an event that answers no byte.
abbrev pub reply_to : Met → Reply
reply_to met = record { number = number_met met; byte = 0; dummy = false }

-- The call of a read.
abbrev pub reply_to_read : Result (Option ℕ) Refusal → Reply
reply_to_read (Ok read) = record { number = number_met (Ok tt); byte = byte_answered read; dummy = is_dummy read }
reply_to_read (Err refusal) = record { number = number_of_refusal refusal; byte = 0; dummy = false }
