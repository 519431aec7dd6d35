-- What each event of a trace keeps: legal registers, the memory's length, and its bytes past the needed length.
-- Assumes nothing.
use mathlib.Core.Path.{◌≡◌, ◌∙◌}
use mathlib.Core.Bool.{◌||◌}
use mathlib.Core.List.{List, [], ◌∷◌, map}
use Prim.Native.Nat.{ℕ}
use lib.Dec.{eqb}
use lib.ListN.{length, drop}
use Rattle.codes.proofs.Tests.{chosen}
use Rattle.constants.specs.Sizes.{memory_size}
use Rattle.bus.specs.Chip.{Chip, data_read}
use Rattle.bus.specs.Answer.{Answer}
use Rattle.bus.specs.Bytes.{All, Bytes, IsByte}
use Rattle.bus.specs.StaysLegal.{LegalRegisters, Keeps}
use Rattle.bus.proofs.Kept.{step_keeps}
use Rattle.bus.proofs.Untouched.{step_length, memory_past}
use Rattle.trace.specs.Play.{Result, refuses, gives}
use Rattle.trace.specs.Kinds.{Recorded, event, read_as, recorded_command, recorded_write, happened, compared, replay, events_of}
use Rattle.trace.specs.AnyMachine.{Gives}
use Rattle.trace.proofs.PlayedKeeps.{all_any}
use Rattle.trace.proofs.ChipKinds.{Kind, commands, writes, reads, reset, none, by_kind}

pub record Held (first : List ℕ) (c : Chip) : Type 0 where
  pub registers : LegalRegisters c.registers
  pub size : length c.memory ≡ length first
  pub past : drop memory_size c.memory ≡ drop memory_size first

-- the part of it that any numbers keep
pub record Aside (first : List ℕ) (c : Chip) : Type 0 where
  pub size : length c.memory ≡ length first
  pub past : drop memory_size c.memory ≡ drop memory_size first

-- the byte that an event of a trace brings
abbrev pub Brings : Recorded → Type 0
Brings (event e) = IsByte e
Brings (read_as byte) = Unit {0}

all_map : {A B : Type 0} (P : A → Type 0) (Q : B → Type 0) (f : A → B) → ((a : A) → P a → Q (f a)) → (l : List A) → All P l → All Q (map f l)
all_map P Q f h [] q = tt
all_map P Q f h (a ∷ l) q = (h a q.0, all_map P Q f h l q.1)

bring : {kind : ℕ} {payload : List ℕ} {result : Result (List Recorded)} → Bytes payload → Kind kind payload result → Gives (All Brings) result
bring {kind} {payload} h (commands k) = all_map _ Brings recorded_command (λ b p. p) payload h
bring {kind} {payload} h (writes k) = all_map _ Brings recorded_write (λ b p. p) payload h
bring {kind} {payload} h (reads k) = all_map _ Brings read_as (λ b p. tt) payload h
bring h (reset k e) = (tt, tt)
bring h (none n) = tt

pub brings : (kind : ℕ) (payload : List ℕ) → Bytes payload → Gives (All Brings) (events_of kind payload)
brings kind payload h = bring h (by_kind kind payload)

abbrev pub Anything : Recorded → Type 0
Anything recorded = Unit {0}

pub brings_any : (kind : ℕ) (payload : List ℕ) → All (λ (b : ℕ). Unit {0}) payload → Gives (All Anything) (events_of kind payload)
brings_any kind payload h = by (events_of kind payload)
  where
    by : (result : Result (List Recorded)) → Gives (All Anything) result
    by (refuses number) = tt
    by (gives events) = all_any events

module _ (first : List ℕ) where
  happened_aside : (answer : Answer) (left : List ℕ) → length left ≡ length first → drop memory_size left ≡ drop memory_size first → Gives (Aside first) (happened answer left)
  unfolding happened
  happened_aside (Answer.Taken after) left n p = record { size = n; past = p }
  happened_aside (Answer.Refused number) left n p = tt

  compared_aside : (byte : ℕ) (answer : Answer) (left : List ℕ) → length left ≡ length first → drop memory_size left ≡ drop memory_size first → Gives (Aside first) (compared byte answer left)
  unfolding compared
  compared_aside byte (Answer.Taken after) left n p = chosen (Gives (Aside first)) (after.dummy || eqb after.byte byte) _ _ (λ e. record { size = n; past = p }) (λ e. tt)
  compared_aside byte (Answer.Refused number) left n p = tt

  pub replay_aside : (recorded : Recorded) (c : Chip) → Anything recorded → Aside first c → Gives (Aside first) (replay recorded c)
  unfolding replay
  replay_aside (event e) c b h = happened_aside _ _ (step_length e c.registers c.memory ∙ h.size) (memory_past e c.registers c.memory ∙ h.past)
  replay_aside (read_as byte) c b h = compared_aside byte _ _ (step_length data_read c.registers c.memory ∙ h.size) (memory_past data_read c.registers c.memory ∙ h.past)

  happened_held : (answer : Answer) (left : List ℕ) → Keeps answer → length left ≡ length first → drop memory_size left ≡ drop memory_size first → Gives (Held first) (happened answer left)
  unfolding happened
  happened_held (Answer.Taken after) left k n p = record { registers = k; size = n; past = p }
  happened_held (Answer.Refused number) left k n p = tt

  compared_held : (byte : ℕ) (answer : Answer) (left : List ℕ) → Keeps answer → length left ≡ length first → drop memory_size left ≡ drop memory_size first → Gives (Held first) (compared byte answer left)
  unfolding compared
  compared_held byte (Answer.Taken after) left k n p = chosen (Gives (Held first)) (after.dummy || eqb after.byte byte) _ _ (λ e. record { registers = k; size = n; past = p }) (λ e. tt)
  compared_held byte (Answer.Refused number) left k n p = tt

  pub replay_held : (recorded : Recorded) (c : Chip) → Brings recorded → Held first c → Gives (Held first) (replay recorded c)
  unfolding replay
  replay_held (event e) c b h = happened_held _ _ (step_keeps e c.registers c.memory b h.registers) (step_length e c.registers c.memory ∙ h.size) (memory_past e c.registers c.memory ∙ h.past)
  replay_held (read_as byte) c b h = compared_held byte _ _ (step_keeps data_read c.registers c.memory tt h.registers) (step_length data_read c.registers c.memory ∙ h.size) (memory_past data_read c.registers c.memory ∙ h.past)
