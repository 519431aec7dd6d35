-- Whatever numbers a trace holds, the awaited code stays one of the seven and the page one of the nine, so that no event of a run meets 1 or 2.
-- Assumes nothing.
use mathlib.Core.Path.{◌≡◌, refl, subst}
use mathlib.Core.Bool.{true, ◌||◌, or-true}
use mathlib.Core.List.{List, [], ◌∷◌}
use Prim.Native.Nat.{ℕ, ◌/◌, ◌≤◌, ◌<◌}
use native.Mathlib.Omega.{arith}
use borrow.Author.Tests.{le-leb, le-ltb, lt-ltb}
use lib.Dec.{leb, eqb, lit<}
use lib.ListN.{length}
use Rattle.codes.specs.OneOf.{one_of}
use Rattle.codes.specs.Table.{Row, one, two, table, operand_by, operand_of, meaning_of, offset_of, frame_phases_of}
use Rattle.codes.specs.Values.{codes_of, CommandInRange}
use Rattle.codes.specs.declared.Command.{Command}
use Rattle.codes.proofs.Tests.{chosen, one_of_at_most}
use Rattle.codes.proofs.InRange.{command_in_range}
use Rattle.constants.specs.Sizes.{pages, memory_size, last_column}
use Rattle.constants.specs.Numbers.{taken}
use Rattle.bus.specs.Places.{awaited, fresh}
use Rattle.bus.specs.Registers.{largest_values, power_on, ◌with◌≔◌}
use Rattle.bus.specs.Events.{obeyed, command, access, write, read, reset_pin}
use Rattle.bus.specs.Chip.{Chip, Event, command_byte, data_written, data_read, reset_pulse, step}
use Rattle.bus.specs.Image.{within, awaited_codes}
use Rattle.bus.specs.StaysLegal.{LegalRegisters}
use Rattle.bus.specs.declared.registers.Registers.{Registers}
use Rattle.bus.specs.Answer.{Answer}
use Rattle.bus.proofs.Answers.{StandsFor, met_by, step_answers}
use Rattle.bus.proofs.Replies.{Neither, met_neither}
use Rattle.bus.proofs.Kept.{bound}
use Rattle.bus.proofs.Untouched.{step_length}
use Rattle.trace.specs.Kinds.{Recorded, event, read_as, happened, compared, replay}
use Rattle.trace.specs.AnyMachine.{Gives}
use Rattle.trace.proofs.ChipRefusals.{Refusing}

-- the awaited code is one of the seven, and the page one of the nine
abbrev Addressed : Registers → Type 0
Addressed r = (one_of awaited_codes r.awaited ≡ true) × (r.page < pages)

abbrev Leaves : Answer → Type 0
Leaves (Answer.Taken after) = Addressed after.registers
Leaves (Answer.Refused number) = Unit {0}

is_code : (code : ℕ) → one_of (codes_of table) code ≡ true → one_of awaited_codes code ≡ true
unfolding awaited_codes codes_of table
is_code code h = rw h (or-true (eqb code 0))

-- a command that is obeyed
obeyed_leaves : (named : Command) (r : Registers) → CommandInRange named → Addressed r → Leaves (obeyed named r)
unfolding obeyed
obeyed_leaves (Command.ColumnLow low) r h l = l
obeyed_leaves (Command.ColumnHigh high) r h l = l
obeyed_leaves (Command.ResistorRatio value) r h l = l
obeyed_leaves (Command.PowerControl value) r h l = l
obeyed_leaves (Command.StartLine value) r h l = l
obeyed_leaves (Command.Contrast value) r h l = l
obeyed_leaves (Command.ColumnDirection value) r h l = l
obeyed_leaves (Command.Bias value) r h l = l
obeyed_leaves (Command.EntireOn value) r h l = l
obeyed_leaves (Command.Reverse value) r h l = l
obeyed_leaves (Command.Multiplex value) r h l = l
obeyed_leaves (Command.HeldByte value) r h l = l
obeyed_leaves (Command.QuarterBias value) r h l = l
obeyed_leaves Command.IndicatorOff r h l = l
obeyed_leaves (Command.IndicatorMode value) r h l = l
obeyed_leaves (Command.DisplayOn value) r h l = l
obeyed_leaves (Command.Page value) r h l = (l.0, h)
obeyed_leaves Command.NoPage r h l = tt
obeyed_leaves (Command.RowDirection value) r h l = l
obeyed_leaves (Command.Offset value) r h l = l
obeyed_leaves (Command.FramePhases value) r h l = l
obeyed_leaves Command.EnterReadModifyWrite r h l = chosen (λ (s : Registers). Addressed (s with fresh ≔ 1)) (eqb r.modify 1) _ _ (λ e. l) (λ e. l)
obeyed_leaves Command.SoftwareReset r h l = (l.0, lit< tt)
obeyed_leaves Command.Nothing r h l = l
obeyed_leaves Command.LeaveReadModifyWrite r h l = chosen (λ (s : Registers). Addressed (s with fresh ≔ 1)) (eqb r.modify 1) _ _ (λ e. l) (λ e. l)
obeyed_leaves (Command.Await code) r h l = (is_code code h, l.1)
obeyed_leaves Command.NotAllowed r h l = tt
obeyed_leaves Command.NotAwaited r h l = tt
obeyed_leaves Command.TestMode r h l = tt
obeyed_leaves Command.Outside r h l = tt

-- the n of an awaited code, which may be any number
abbrev LeavesBy : Registers → Command → Type 0
LeavesBy r named = Leaves (obeyed named r)

abbrev RowsLeave : Registers → List Row → Type 0
RowsLeave r [] = Unit {0}
RowsLeave r (one first last means ∷ rows) = RowsLeave r rows
RowsLeave r (two code gives ∷ rows) = ((n : ℕ) → LeavesBy r (gives n)) × RowsLeave r rows

by_rows : (rows : List Row) (code n : ℕ) (r : Registers) → Addressed r → RowsLeave r rows → LeavesBy r (operand_by rows code n)
unfolding operand_by
by_rows [] code n r l s = obeyed_leaves Command.NotAwaited r tt l
by_rows (one first last means ∷ rows) code n r l s = by_rows rows code n r l s
by_rows (two awaited gives ∷ rows) code n r l s = chosen (LeavesBy r) (eqb code awaited) (gives n) (operand_by rows code n) (λ e. s.0 n) (λ e. by_rows rows code n r l s.1)

offset_leaves : (n : ℕ) (r : Registers) → Addressed r → LeavesBy r (offset_of n)
unfolding offset_of obeyed
offset_leaves n r l = chosen (LeavesBy r) (leb n 0x3F) (Command.Offset n) Command.NotAllowed (λ e. l) (λ e. tt)

phases_leaves : (n : ℕ) (r : Registers) → Addressed r → LeavesBy r (frame_phases_of n)
unfolding frame_phases_of obeyed
phases_leaves n r l = chosen (LeavesBy r) (one_of (0x00 ∷ 0x10 ∷ 0x20 ∷ 0x30 ∷ []) n) (Command.FramePhases (n / 16)) Command.NotAllowed (λ e. l) (λ e. tt)

rows_leave : (r : Registers) → Addressed r → RowsLeave r table
unfolding table obeyed
rows_leave r l = (λ n. l, (λ n. l, (λ n. l, (λ n. l, (λ n. offset_leaves n r l, (λ n. phases_leaves n r l, tt))))))

operand_leaves : (code n : ℕ) (r : Registers) → Addressed r → LeavesBy r (operand_of code n)
unfolding operand_of
operand_leaves code n r l = by_rows table code n r l (rows_leave r l)

command_leaves : (b : ℕ) (r : Registers) → Addressed r → Leaves (command b r)
unfolding command meaning_of awaited_codes
command_leaves b r l =
    let s = r with awaited ≔ 0 in
    chosen (LeavesBy s) (eqb r.awaited 0) _ _ (λ e. obeyed_leaves _ s (command_in_range b) (refl, l.1)) (λ e. operand_leaves r.awaited b s (refl, l.1))

step_leaves : (e : Event) (r : Registers) (memory : List ℕ) → Addressed r → Leaves (step e r memory).answer
unfolding step write read reset_pin power_on awaited_codes
step_leaves (command_byte b) r memory l = command_leaves b r l
step_leaves (data_written b) r memory l = chosen Leaves (eqb (access r (length memory)) taken) _ _ (λ e. l) (λ e. tt)
step_leaves data_read r memory l =
    chosen Leaves (eqb (access r (length memory)) taken) _ _ (λ e. chosen Leaves (eqb r.fresh 1) _ _ (λ e. l) (λ e. chosen Addressed (eqb r.modify 1) _ _ (λ e. l) (λ e. l))) (λ e. tt)
step_leaves reset_pulse r memory l = (refl, lit< tt)

-- a command byte asks of the registers the awaited code alone
as_awaiting : (code : ℕ) → one_of awaited_codes code ≡ true → LegalRegisters (power_on with awaited ≔ code)
unfolding power_on largest_values within awaited_codes
as_awaiting code h = record { in_ranges = rw (le-leb code 255 (one_of_at_most 255 awaited_codes code refl h)); code = h; saved_zero = λ e. refl }

data_neither : (r : Registers) (size : ℕ) → Addressed r → memory_size ≤ size → Neither (access r size)
unfolding access
data_neither r size l m =
    rw (le-ltb size memory_size m, lt-ltb r.page pages l.1) (chosen Neither (eqb r.awaited 0) _ _ (λ e. chosen Neither (leb r.column last_column) _ _ (λ e. refl) (λ e. refl)) (λ e. refl))

meets_neither : (e : Event) (r : Registers) (size : ℕ) → Addressed r → memory_size ≤ size → Neither (met_by e r size)
unfolding power_on
meets_neither (command_byte b) r size l m = met_neither (command_byte b) (power_on with awaited ≔ r.awaited) size (as_awaiting r.awaited l.0) m
meets_neither (data_written b) r size l m = data_neither r size l m
meets_neither data_read r size l m = data_neither r size l m
meets_neither reset_pulse r size l m = refl

-- the chip stays so, over a memory that is long enough
pub record Addressing (c : Chip) : Type 0 where
  pub addressed : Addressed c.registers
  pub long : memory_size ≤ length c.memory

pub legal_addressed : (r : Registers) → LegalRegisters r → Addressed r
unfolding largest_values
legal_addressed r l = (l.code, omega (arith, bound r l 0 (lit< tt)))

happened_addressed : (answer : Answer) (left : List ℕ) → Leaves answer → memory_size ≤ length left → Gives Addressing (happened answer left)
unfolding happened
happened_addressed (Answer.Taken after) left l m = record { addressed = l; long = m }
happened_addressed (Answer.Refused number) left l m = tt

compared_addressed : (byte : ℕ) (answer : Answer) (left : List ℕ) → Leaves answer → memory_size ≤ length left → Gives Addressing (compared byte answer left)
unfolding compared
compared_addressed byte (Answer.Taken after) left l m = chosen (Gives Addressing) (after.dummy || eqb after.byte byte) _ _ (λ e. record { addressed = l; long = m }) (λ e. tt)
compared_addressed byte (Answer.Refused number) left l m = tt

pub replay_addressed : (recorded : Recorded) (c : Chip) → Addressing c → Gives Addressing (replay recorded c)
unfolding replay
replay_addressed (event e) c h = happened_addressed _ _ (step_leaves e c.registers c.memory h.addressed) (omega (arith, step_length e c.registers c.memory, h.long))
replay_addressed (read_as byte) c h = compared_addressed byte _ _ (step_leaves data_read c.registers c.memory h.addressed) (omega (arith, step_length data_read c.registers c.memory, h.long))

-- an event's answer stands for the number that it meets
happened_neither : (number : ℕ) (answer : Answer) (memory : List ℕ) → StandsFor number answer → Neither number → Refusing Neither (happened answer memory)
unfolding happened
happened_neither number (Answer.Taken after) memory s h = tt
happened_neither number (Answer.Refused refusal) memory s h = subst Neither s.0 h

compared_neither : (byte number : ℕ) (answer : Answer) (memory : List ℕ) → StandsFor number answer → Neither number → Refusing Neither (compared byte answer memory)
unfolding compared
compared_neither byte number (Answer.Taken after) memory s h = chosen (Refusing Neither) (after.dummy || eqb after.byte byte) _ _ (λ e. tt) (λ e. refl)
compared_neither byte number (Answer.Refused refusal) memory s h = subst Neither s.0 h

pub replay_neither : (recorded : Recorded) (c : Chip) → Addressing c → Refusing Neither (replay recorded c)
unfolding replay
replay_neither (event e) c h = happened_neither _ _ _ (step_answers e c.registers c.memory) (meets_neither e c.registers (length c.memory) h.addressed h.long)
replay_neither (read_as byte) c h = compared_neither byte _ _ _ (step_answers data_read c.registers c.memory) (meets_neither data_read c.registers (length c.memory) h.addressed h.long)
