-- What a result of code stands for tells which result it is.
-- Assumes nothing.
use mathlib.Core.Path.{◌≡◌, refl, ap}
use mathlib.Core.Bool.{cond}
use Prim.Native.Nat.{ℕ}
use Rattle.std.specs.Prelude.{Option, Some, None, Result, Ok, Err}
use Rattle.constants.specs.Refusals.{Met}
use Rattle.constants.specs.declared.refusal.Refusal.{Refusal}
use Rattle.constants.proofs.Refusals.{refusal_of, undone, met_of, met_undone}
use Rattle.bus.specs.Answer.{Answer, Asked, Reply, answer_of, answer_of_read, asked_of, reply_to_read}
use Rattle.bus.specs.declared.registers.Registers.{Registers}
use Rattle.bus.specs.declared.answer.Read.{Read}

pub told_answer : Answer → Result Registers Refusal
told_answer (Answer.Taken after) = Ok after.registers
told_answer (Answer.Refused number) = Err (refusal_of number)

pub answer_told : (result : Result Registers Refusal) → told_answer (answer_of result) ≡ result
unfolding told_answer
answer_told (Ok left) = refl
answer_told (Err refusal) = ap (λ e. Err e) (undone refusal)

pub told_read : Answer → Result Read Refusal
told_read (Answer.Taken after) = Ok (record { registers = after.registers; byte = cond after.dummy None (Some after.byte) })
told_read (Answer.Refused number) = Err (refusal_of number)

pub read_told : (result : Result Read Refusal) → told_read (answer_of_read result) ≡ result
unfolding told_read
read_told (Ok taken) = by taken.registers taken.byte
  where
    by : (left : Registers) (byte : Option ℕ) → told_read (answer_of_read (Ok (record { registers = left; byte = byte }))) ≡ Ok (record { registers = left; byte = byte })
    by left (Some byte) = refl
    by left None = refl
read_told (Err refusal) = ap (λ e. Err e) (undone refusal)

pub told_asked : Asked → Result Registers Refusal
told_asked (Asked.Found found) = Ok found
told_asked (Asked.Refused number) = Err (refusal_of number)

pub asked_told : (result : Result Registers Refusal) → told_asked (asked_of result) ≡ result
unfolding told_asked
asked_told (Ok found) = refl
asked_told (Err refusal) = ap (λ e. Err e) (undone refusal)

-- the result of a read's call
where_taken : Met → Option ℕ → Result (Option ℕ) Refusal
where_taken (Ok done) read = Ok read
where_taken (Err refusal) read = Err refusal

pub told_reply : Reply → Result (Option ℕ) Refusal
told_reply reply = where_taken (met_of reply.number) (cond reply.dummy None (Some reply.byte))

pub reply_told : (result : Result (Option ℕ) Refusal) → told_reply (reply_to_read result) ≡ result
unfolding told_reply where_taken met_of
reply_told (Ok (Some byte)) = refl
reply_told (Ok None) = refl
reply_told (Err refusal) = ap (λ met. where_taken met (Some 0)) (met_undone (Err refusal))
