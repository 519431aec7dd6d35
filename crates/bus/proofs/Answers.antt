-- What an answer stands for: its number, and for what is no read byte 0 and not "dummy".
-- Assumes nothing.
use mathlib.Core.Path.{◌≡◌, refl, sym}
use mathlib.Core.Bool.{Bool, true, false, cond, false≢true}
use mathlib.Core.List.{List, [], ◌∷◌}
use Prim.Native.Nat.{ℕ, ◌<◌}
use native.Mathlib.Omega.{arith}
use lib.Dec.{leb, ltb, eqb, lit≤}
use lib.ListN.{length, get_or}
use borrow.Author.Tests.{eqb-true, eqb-false}
use Rattle.codes.specs.OneOf.{one_of}
use Rattle.codes.specs.Table.{meaning_of}
use Rattle.codes.specs.declared.Command.{Command}
use Rattle.codes.proofs.Tests.{chosen}
use Rattle.codes.proofs.Others.{sort_of}
use Rattle.constants.specs.Sizes.{last_column, pages, memory_size}
use Rattle.constants.specs.Numbers.{taken, out_of_range, outside_table, no_page, not_allowed, code_awaited, column_above, test_mode}
use Rattle.bus.specs.Events.{number_of, obeyed, command, access, write, read, reset_pin}
use Rattle.bus.specs.Chip.{Event, command_byte, data_written, data_read, reset_pulse, step, Leaves}
use Rattle.bus.specs.Given.{call_numbers}
use Rattle.bus.specs.declared.registers.Registers.{Registers}
use Rattle.bus.specs.Answer.{After}
use Rattle.bus.specs.Answer.{Answer}

-- a number that the call of an event can give
abbrev pub Callable : ℕ → Type 0
Callable number = one_of call_numbers number ≡ true

-- an answer stands for a number: taken for 0, or refused with it, and then it is a call's and not 0
abbrev pub StandsFor : ℕ → Answer → Type 0
StandsFor number (Answer.Taken after) = number ≡ taken
StandsFor number (Answer.Refused refusal) = (number ≡ refusal) × (taken < refusal) × Callable refusal

-- a taken event that is no read answers byte 0 and not "dummy"
abbrev pub Silent : Answer → Type 0
Silent (Answer.Taken after) = (after.byte ≡ 0) × (after.dummy ≡ false)
Silent (Answer.Refused number) = Unit {0}

-- the number of a named command: 0 of one that the table has, 4 of B9-BF, 5 of an n that is not allowed, 2 of one whose code is none of the seven, 3 of a byte outside, 15 of test mode
abbrev pub number_of_command : Command → ℕ
number_of_command named = get_or (taken ∷ no_page ∷ not_allowed ∷ out_of_range ∷ outside_table ∷ test_mode ∷ []) (sort_of named) taken

-- what the registers of a legal state meet
abbrev pub number_of_event : Event → Registers → ℕ
number_of_event (command_byte b) r = number_of_command (meaning_of r.awaited b)
number_of_event (data_written b) r = cond (eqb r.awaited 0) (cond (leb r.column last_column) taken column_above) code_awaited
number_of_event data_read r = cond (eqb r.awaited 0) (cond (leb r.column last_column) taken column_above) code_awaited
number_of_event reset_pulse r = taken

-- a data byte read
abbrev pub is_read : Event → Bool
is_read (command_byte b) = false
is_read (data_written b) = false
is_read data_read = true
is_read reset_pulse = false

obeyed_answers : (named : Command) (r : Registers) → StandsFor (number_of_command named) (obeyed named r) × Silent (obeyed named r) × Leaves (λ later. later.fresh ≡ 1) (obeyed named r)
unfolding obeyed
obeyed_answers (Command.ColumnLow value) r = (refl, (refl, refl), refl)
obeyed_answers (Command.ColumnHigh value) r = (refl, (refl, refl), refl)
obeyed_answers (Command.ResistorRatio value) r = (refl, (refl, refl), refl)
obeyed_answers (Command.PowerControl value) r = (refl, (refl, refl), refl)
obeyed_answers (Command.StartLine value) r = (refl, (refl, refl), refl)
obeyed_answers (Command.Contrast value) r = (refl, (refl, refl), refl)
obeyed_answers (Command.ColumnDirection value) r = (refl, (refl, refl), refl)
obeyed_answers (Command.Bias value) r = (refl, (refl, refl), refl)
obeyed_answers (Command.EntireOn value) r = (refl, (refl, refl), refl)
obeyed_answers (Command.Reverse value) r = (refl, (refl, refl), refl)
obeyed_answers (Command.Multiplex value) r = (refl, (refl, refl), refl)
obeyed_answers (Command.HeldByte value) r = (refl, (refl, refl), refl)
obeyed_answers (Command.QuarterBias value) r = (refl, (refl, refl), refl)
obeyed_answers Command.IndicatorOff r = (refl, (refl, refl), refl)
obeyed_answers (Command.IndicatorMode value) r = (refl, (refl, refl), refl)
obeyed_answers (Command.DisplayOn value) r = (refl, (refl, refl), refl)
obeyed_answers (Command.Page value) r = (refl, (refl, refl), refl)
obeyed_answers Command.NoPage r = ((refl, lit≤ tt, refl), tt, tt)
obeyed_answers (Command.RowDirection value) r = (refl, (refl, refl), refl)
obeyed_answers (Command.Offset value) r = (refl, (refl, refl), refl)
obeyed_answers (Command.FramePhases value) r = (refl, (refl, refl), refl)
obeyed_answers Command.EnterReadModifyWrite r = (refl, (refl, refl), refl)
obeyed_answers Command.SoftwareReset r = (refl, (refl, refl), refl)
obeyed_answers Command.Nothing r = (refl, (refl, refl), refl)
obeyed_answers Command.LeaveReadModifyWrite r = (refl, (refl, refl), refl)
obeyed_answers (Command.Await value) r = (refl, (refl, refl), refl)
obeyed_answers Command.NotAllowed r = ((refl, lit≤ tt, refl), tt, tt)
obeyed_answers Command.NotAwaited r = ((refl, lit≤ tt, refl), tt, tt)
obeyed_answers Command.TestMode r = ((refl, lit≤ tt, refl), tt, tt)
obeyed_answers Command.Outside r = ((refl, lit≤ tt, refl), tt, tt)

-- what a data event meets is a call's number
access_callable : (r : Registers) (size : ℕ) → Callable (access r size)
unfolding access
access_callable r size =
    chosen Callable (ltb size memory_size) _ _ (λ e. refl)
    (λ e. chosen Callable (ltb r.page pages) _ _ (λ e. chosen Callable (eqb r.awaited 0) _ _ (λ e. chosen Callable (leb r.column last_column) _ _ (λ e. refl) (λ e. refl)) (λ e. refl)) (λ e. refl))

-- an event that is taken where a number is 0 and else refused with it
guarded : (number : ℕ) (answer : Answer) → Callable number → StandsFor taken answer → StandsFor number (cond (eqb number taken) answer (Answer.Refused number))
guarded number answer h p =
    chosen (StandsFor number) (eqb number taken) answer (Answer.Refused number)
    (λ e. rw (eqb-true number taken e) p)
    (λ e. (refl, omega (arith, eqb-false number taken e), h))

-- the number that an event meets, at a memory of so many bytes
abbrev pub met_by : Event → Registers → ℕ → ℕ
met_by (command_byte b) r size = number_of_event (command_byte b) r
met_by (data_written b) r size = access r size
met_by data_read r size = access r size
met_by reset_pulse r size = taken

pub step_answers : (event : Event) (r : Registers) (memory : List ℕ) → StandsFor (met_by event r (length memory)) (step event r memory).answer
unfolding step command write read reset_pin
step_answers (command_byte b) r memory = (obeyed_answers (meaning_of r.awaited b) _).0
step_answers (data_written b) r memory = guarded (access r (length memory)) _ (access_callable r (length memory)) refl
step_answers data_read r memory = guarded (access r (length memory)) _ (access_callable r (length memory)) (chosen (StandsFor taken) (eqb r.fresh 1) _ _ (λ e. refl) (λ e. refl))
step_answers reset_pulse r memory = refl

-- every event but a read is silent
pub command_silent : (b : ℕ) (r : Registers) → Silent (command b r)
unfolding command
command_silent b r = (obeyed_answers (meaning_of r.awaited b) _).1

-- every command byte taken sets fresh to 1
pub command_fresh : (b : ℕ) (r : Registers) → Leaves (λ later. later.fresh ≡ 1) (command b r)
unfolding command
command_fresh b r = (obeyed_answers (meaning_of r.awaited b) _).2

pub step_silent : (event : Event) (r : Registers) (memory : List ℕ) → is_read event ≡ false → Silent (step event r memory).answer
unfolding step write reset_pin
step_silent (command_byte b) r memory h = command_silent b r
step_silent (data_written b) r memory h = chosen Silent (eqb (access r (length memory)) taken) _ _ (λ e. (refl, refl)) (λ e. tt)
step_silent data_read r memory h = absurd (false≢true (sym h))
step_silent reset_pulse r memory h = (refl, refl)

-- an answer with 0 is taken
pub record WasTaken (answer : Answer) : Type 0 where
  pub after : After
  pub is : answer ≡ Answer.Taken after

pub was_taken : (number : ℕ) (answer : Answer) → StandsFor number answer → number_of answer ≡ taken → WasTaken answer
unfolding number_of
was_taken number (Answer.Taken t) s n = record { after = t; is = refl }
was_taken number (Answer.Refused refusal) s n = absurd (omega (arith, s.1))
