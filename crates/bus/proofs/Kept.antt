-- A taken event leads from a legal state to a legal state.
-- Assumes nothing.
use mathlib.Core.Path.{◌≡◌, refl, sym, ◌∙◌, ap, subst}
use mathlib.Core.Bool.{Bool, true, cond, ◌&&◌, or-true, false≢true}
use mathlib.Core.List.{List, [], ◌∷◌, ◌++◌}
use Prim.Native.Nat.{ℕ, zero, suc, ◌+◌, ◌≤◌, ◌<◌}
use native.Mathlib.Nat.{le_of_suc-le-suc, not-suc-le-zero}
use native.Mathlib.Omega.{arith}
use lib.Dec.{leb, eqb, lit≤}
use lib.ListN.{length, get_or, drop, set}
use borrow.Author.Tests.{le-leb, leb-true, eq-eqb, eqb-true}
use Rattle.codes.specs.OneOf.{one_of}
use Rattle.codes.specs.Table.{table, meaning_of}
use Rattle.codes.specs.Values.{codes_of, CommandInRange}
use Rattle.codes.specs.declared.Command.{Command}
use Rattle.codes.proofs.Tests.{both, chosen, one_of_at_most}
use Rattle.codes.proofs.InRange.{meaning_in_range}
use Rattle.constants.specs.Sizes.{image_size}
use Rattle.constants.specs.Numbers.{taken}
use Rattle.bus.specs.Places.{page, column, start_line, offset, multiplex, contrast, ratio, power, bias, quarter, held, phases, column_direction, row_direction, entire, reverse, on, indicator, mode, awaited, modify, saved, fresh}
use Rattle.bus.specs.Registers.{largest_values, image_of, registers_of, ◌with◌≔◌, power_on}
use Rattle.bus.specs.Memory.{onward}
use Rattle.bus.specs.Events.{command_taken, enter, leave, software_reset, obeyed, command, access, moved, write, read, reset_pin}
use Rattle.bus.specs.Chip.{Event, command_byte, data_written, data_read, reset_pulse, step}
use Rattle.bus.specs.Image.{within, awaited_codes, legal, asked}
use Rattle.bus.specs.Bytes.{IsByte}
use Rattle.bus.specs.Start.{registers_at_start}
use Rattle.bus.specs.StaysLegal.{LegalRegisters, Keeps}
use Rattle.bus.proofs.Legal.{long}
use Rattle.bus.specs.declared.registers.Registers.{Registers}
use Rattle.bus.specs.Answer.{Answer}
use Rattle.bus.specs.declared.start.Hung.{Hung}
use Rattle.bus.proofs.Access.{opened}
use Rattle.bus.proofs.Asking.{found_legal}
use Rattle.bus.proofs.ThereAndBack.{image_registers, image_with}
use Rattle.bus.specs.Answer.{Asked}

-- the saved column is 0 while read-modify-write is 0, as a fact and as the test
saved_fact : (modify saved : ℕ) → cond (eqb modify 0) (eqb saved 0) true ≡ true → modify ≡ 0 → saved ≡ 0
saved_fact modify saved e z = eqb-true saved 0 (rw (eq-eqb modify 0 z) at e)

saved_test : (modify saved : ℕ) → (modify ≡ 0 → saved ≡ 0) → cond (eqb modify 0) (eqb saved 0) true ≡ true
saved_test modify saved h = chosen (λ t. t ≡ true) (eqb modify 0) _ _ (λ e. eq-eqb saved 0 (h (eqb-true modify 0 e))) (λ e. refl)

pub legal_facts : (r : Registers) → legal (image_of r) ≡ true → LegalRegisters r
unfolding legal
legal_facts r e =
    let outer = both (within largest_values (image_of r) && one_of awaited_codes r.awaited) (cond (eqb r.modify 0) (eqb r.saved 0) true) e in
    let inner = both (within largest_values (image_of r)) (one_of awaited_codes r.awaited) outer.0 in
    record { in_ranges = inner.0; code = inner.1; saved_zero = saved_fact r.modify r.saved outer.1 }

pub facts_legal : (r : Registers) → LegalRegisters r → legal (image_of r) ≡ true
unfolding legal
facts_legal r l = rw (l.in_ranges, l.code, saved_test r.modify r.saved l.saved_zero)

-- a byte of an image within its ranges is at most its largest value
within_at : (largest image : List ℕ) (i : ℕ) → within largest image ≡ true → i < length largest → get_or image i 0 ≤ get_or largest i 0
unfolding within
within_at [] image i e h = absurd (not-suc-le-zero h)
within_at (largest ∷ rest) [] i e h = absurd (false≢true e)
within_at (largest ∷ rest) (byte ∷ image) zero e h = leb-true byte largest (both (leb byte largest) (within rest image) e).0
within_at (largest ∷ rest) (byte ∷ image) (suc i) e h = within_at rest image i (both (leb byte largest) (within rest image) e).1 (le_of_suc-le-suc h)

-- an image stays within its ranges where one byte is set to a value in its own
within_set : (largest image : List ℕ) (i value : ℕ) → within largest image ≡ true → value ≤ get_or largest i 0 → within largest (set image i value) ≡ true
unfolding within
within_set [] image i value e h = refl
within_set (largest ∷ rest) [] i value e h = e
within_set (largest ∷ rest) (byte ∷ image) zero value e h = rw (le-leb value largest h) (both (leb byte largest) (within rest image) e).1
within_set (largest ∷ rest) (byte ∷ image) (suc i) value e h =
    let halves = both (leb byte largest) (within rest image) e in
    rw halves.0 (within_set rest image i value halves.1 h)

-- only as many bytes are asked as there are ranges
within_front : (largest front rest : List ℕ) → length largest ≤ length front → within largest (front ++ rest) ≡ within largest front
unfolding within
within_front [] front rest h = refl
within_front (largest ∷ more) [] rest h = absurd (not-suc-le-zero h)
within_front (largest ∷ more) (byte ∷ front) rest h = ap (λ t. leb byte largest && t) (within_front more front rest (le_of_suc-le-suc h))

-- the registers of a legal state are legal
pub state_facts : (state : List ℕ) → image_size ≤ length state → legal state ≡ true → LegalRegisters (registers_of state)
unfolding legal largest_values
state_facts state h e =
    let outer = both (within largest_values state && one_of awaited_codes (get_or state awaited 0)) (cond (eqb (get_or state modify 0) 0) (eqb (get_or state saved 0) 0) true) e in
    let inner = both (within largest_values state) (one_of awaited_codes (get_or state awaited 0)) outer.0 in
    let front = image_of (registers_of state) in
    record {
      in_ranges = sym (within_front largest_values front (drop image_size state) (lit≤ tt)) ∙ ap (within largest_values) (image_registers state h) ∙ inner.0;
      code = inner.1;
      saved_zero = saved_fact (get_or state modify 0) (get_or state saved 0) outer.1;
    }

-- the ranges after a register is set to a value in its own
put : (r : Registers) (place value : ℕ) → within largest_values (image_of r) ≡ true → value ≤ get_or largest_values place 0 → within largest_values (image_of (r with place ≔ value)) ≡ true
put r place value e h = rw (image_with r place value) (within_set largest_values (image_of r) place value e h)

-- a taken command byte leaves what it set, with fresh 1
fresh_keeps : (r : Registers) → LegalRegisters r → Keeps (command_taken r)
unfolding largest_values
fresh_keeps r l = record { in_ranges = put r fresh 1 l.in_ranges (lit≤ tt); code = l.code; saved_zero = l.saved_zero }

-- the bound that legal registers have at a place
pub bound : (r : Registers) → LegalRegisters r → (place : ℕ) → place < 23 → get_or (image_of r) place 0 ≤ get_or largest_values place 0
unfolding largest_values
bound r l place h = within_at largest_values (image_of r) place l.in_ranges h

-- a data write or read that is not taken is refused
taken_keeps : (number : ℕ) (x : Answer) → (number ≡ taken → Keeps x) → Keeps (cond (eqb number taken) x (Answer.Refused number))
taken_keeps number x p = chosen Keeps (eqb number taken) x (Answer.Refused number) (λ e. p (eqb-true number taken e)) (λ e. tt)

-- a register is set that bears on no other: its value is in its range, and code, read-modify-write and saved column stay
set_plain : (r : Registers) (place value : ℕ) → LegalRegisters r → value ≤ get_or largest_values place 0 → (r with place ≔ value).awaited ≡ r.awaited → (r with place ≔ value).modify ≡ r.modify → (r with place ≔ value).saved ≡ r.saved → LegalRegisters (r with place ≔ value)
set_plain r place value l h a m s =
    record {
      in_ranges = put r place value l.in_ranges h;
      code = rw a l.code;
      saved_zero = rw (m, s) l.saved_zero;
    }

code_legal : (code : ℕ) → one_of (codes_of table) code ≡ true → one_of awaited_codes code ≡ true
unfolding awaited_codes codes_of table
code_legal code h = rw h (or-true (eqb code 0))

enter_keeps : (r : Registers) → LegalRegisters r → LegalRegisters (enter r)
unfolding largest_values
enter_keeps r l =
    chosen LegalRegisters (eqb r.modify 1) r _ (λ e. l)
    (λ e. record { in_ranges = put _ saved r.column (put r modify 1 l.in_ranges (lit≤ tt)) (bound r l column (lit≤ tt)); code = l.code; saved_zero = λ e. absurd (omega (arith, e)) })

leave_keeps : (r : Registers) → LegalRegisters r → LegalRegisters (leave r)
unfolding largest_values
leave_keeps r l =
    chosen LegalRegisters (eqb r.modify 1) _ r
    (λ e. record {
      in_ranges = put _ saved 0 (put _ column r.saved (put r modify 0 l.in_ranges (lit≤ tt)) (bound r l saved (lit≤ tt))) (lit≤ tt);
      code = l.code;
      saved_zero = λ e. refl;
    })
    (λ e. l)

-- several bytes of an image are set, each to a value in its own range
abbrev Sets : Type 0
Sets = List (ℕ × ℕ)

abbrev set_all : Sets → List ℕ → List ℕ
set_all [] image = image
set_all (change ∷ changes) image = set_all changes (set image change.0 change.1)

abbrev all_within : Sets → Bool
all_within [] = true
all_within (change ∷ changes) = leb change.1 (get_or largest_values change.0 0) && all_within changes

within_sets : (changes : Sets) (image : List ℕ) → within largest_values image ≡ true → all_within changes ≡ true → within largest_values (set_all changes image) ≡ true
within_sets [] image e h = e
within_sets (change ∷ changes) image e h =
    let halves = both (leb change.1 (get_or largest_values change.0 0)) (all_within changes) h in
    within_sets changes (set image change.0 change.1) (within_set largest_values image change.0 change.1 e (leb-true _ _ halves.0)) halves.1

abbrev resets : Sets
resets =
    (page, 0) ∷ (column, 0) ∷ (start_line, 0) ∷ (row_direction, 0) ∷ (ratio, 4) ∷ (contrast, 32) ∷ (indicator, 0) ∷ (mode, 0) ∷ (modify, 0) ∷ (saved, 0) ∷ []

software_reset_keeps : (r : Registers) → LegalRegisters r → LegalRegisters (software_reset r)
unfolding largest_values
software_reset_keeps r l = record { in_ranges = within_sets resets (image_of r) l.in_ranges refl; code = l.code; saved_zero = λ e. refl }

obeyed_keeps : (named : Command) (r : Registers) → CommandInRange named → LegalRegisters r → Keeps (obeyed named r)
unfolding obeyed largest_values codes_of table
obeyed_keeps (Command.ColumnLow low) r h l = fresh_keeps _ (set_plain r column _ l (omega (arith, bound r l column (omega arith))) refl refl refl)
obeyed_keeps (Command.ColumnHigh high) r h l = fresh_keeps _ (set_plain r column _ l (omega arith) refl refl refl)
obeyed_keeps (Command.ResistorRatio value) r h l = fresh_keeps _ (set_plain r ratio value l (omega arith) refl refl refl)
obeyed_keeps (Command.PowerControl value) r h l = fresh_keeps _ (set_plain r power value l (omega arith) refl refl refl)
obeyed_keeps (Command.StartLine value) r h l = fresh_keeps _ (set_plain r start_line value l (omega arith) refl refl refl)
obeyed_keeps (Command.Contrast value) r h l = fresh_keeps _ (set_plain r contrast value l (omega arith) refl refl refl)
obeyed_keeps (Command.ColumnDirection value) r h l = fresh_keeps _ (set_plain r column_direction value l (omega arith) refl refl refl)
obeyed_keeps (Command.Bias value) r h l = fresh_keeps _ (set_plain r bias value l (omega arith) refl refl refl)
obeyed_keeps (Command.EntireOn value) r h l = fresh_keeps _ (set_plain r entire value l (omega arith) refl refl refl)
obeyed_keeps (Command.Reverse value) r h l = fresh_keeps _ (set_plain r reverse value l (omega arith) refl refl refl)
obeyed_keeps (Command.Multiplex value) r h l = fresh_keeps _ (set_plain r multiplex value l (omega arith) refl refl refl)
obeyed_keeps (Command.HeldByte value) r h l = fresh_keeps _ (set_plain r held value l (omega arith) refl refl refl)
obeyed_keeps (Command.QuarterBias value) r h l = fresh_keeps _ (set_plain r quarter value l (omega arith) refl refl refl)
obeyed_keeps Command.IndicatorOff r h l = fresh_keeps _ (set_plain _ mode 0 (set_plain r indicator 0 l (omega arith) refl refl refl) (omega arith) refl refl refl)
obeyed_keeps (Command.IndicatorMode value) r h l = fresh_keeps _ (set_plain _ mode value (set_plain r indicator 1 l (omega arith) refl refl refl) (omega arith) refl refl refl)
obeyed_keeps (Command.DisplayOn value) r h l = fresh_keeps _ (set_plain r on value l (omega arith) refl refl refl)
obeyed_keeps (Command.Page value) r h l = fresh_keeps _ (set_plain r page value l (omega arith) refl refl refl)
obeyed_keeps Command.NoPage r h l = tt
obeyed_keeps (Command.RowDirection value) r h l = fresh_keeps _ (set_plain r row_direction value l (omega arith) refl refl refl)
obeyed_keeps (Command.Offset value) r h l = fresh_keeps _ (set_plain r offset value l (omega arith) refl refl refl)
obeyed_keeps (Command.FramePhases value) r h l = fresh_keeps _ (set_plain r phases value l (omega arith) refl refl refl)
obeyed_keeps Command.EnterReadModifyWrite r h l = fresh_keeps _ (enter_keeps r l)
obeyed_keeps Command.SoftwareReset r h l = fresh_keeps _ (software_reset_keeps r l)
obeyed_keeps Command.Nothing r h l = fresh_keeps r l
obeyed_keeps Command.LeaveReadModifyWrite r h l = fresh_keeps _ (leave_keeps r l)
obeyed_keeps (Command.Await code) r h l =
    fresh_keeps _
    (record { in_ranges = put r awaited code l.in_ranges (one_of_at_most 255 (codes_of table) code refl h); code = code_legal code h; saved_zero = l.saved_zero })
obeyed_keeps Command.NotAllowed r h l = tt
obeyed_keeps Command.NotAwaited r h l = tt
obeyed_keeps Command.TestMode r h l = tt
obeyed_keeps Command.Outside r h l = tt

-- registers that await no code any more
unawaiting : (r : Registers) → LegalRegisters r → LegalRegisters (r with awaited ≔ 0)
unfolding largest_values awaited_codes
unawaiting r l = record { in_ranges = put r awaited 0 l.in_ranges (lit≤ tt); code = refl; saved_zero = l.saved_zero }

command_keeps : (b : ℕ) (r : Registers) → b < 256 → LegalRegisters r → Keeps (command b r)
unfolding command
command_keeps b r h l = obeyed_keeps (meaning_of r.awaited b) _ (meaning_in_range r.awaited b h) (unawaiting r l)

onward_bound : (column : ℕ) → column ≤ 131 → onward column ≤ 255
unfolding onward
onward_bound column h = chosen (λ c. c ≤ 255) (eqb column 131) 0 (column + 1) (λ e. lit≤ tt) (λ e. omega arith)

moved_keeps : (r : Registers) (size : ℕ) → LegalRegisters r → access r size ≡ taken → LegalRegisters (moved r)
unfolding largest_values
moved_keeps r size l e = set_plain r column (onward r.column) l (onward_bound r.column (opened r size e).column) refl refl refl

write_keeps : (r : Registers) (size : ℕ) → LegalRegisters r → Keeps (write r size)
unfolding write
write_keeps r size l = taken_keeps (access r size) _ (λ e. fresh_keeps (moved r) (moved_keeps r size l e))

read_keeps : (r : Registers) (memory : List ℕ) → LegalRegisters r → Keeps (read r memory)
unfolding read largest_values
read_keeps r memory l =
    taken_keeps (access r (length memory)) _
    (λ e. chosen Keeps (eqb r.fresh 1) _ _ (λ f. set_plain r fresh 0 l (lit≤ tt) refl refl refl) (λ g. chosen LegalRegisters (eqb r.modify 1) r (moved r) (λ f. l) (λ f. moved_keeps r (length memory) l e)))

pub power_on_legal : LegalRegisters power_on
unfolding power_on largest_values within awaited_codes
power_on_legal = record { in_ranges = refl; code = refl; saved_zero = λ e. refl }

pub start_legal : (hung : Hung) → LegalRegisters (registers_at_start hung)
unfolding power_on largest_values within awaited_codes
start_legal Hung.UpsideDown = record { in_ranges = refl; code = refl; saved_zero = λ e. refl }
start_legal Hung.Upright = power_on_legal

pub step_keeps : (event : Event) (r : Registers) (memory : List ℕ) → IsByte event → LegalRegisters r → Keeps (step event r memory).answer
unfolding step reset_pin
step_keeps (command_byte b) r memory h l = command_keeps b r h l
step_keeps (data_written b) r memory h l = write_keeps r (length memory) l
step_keeps data_read r memory h l = read_keeps r memory l
step_keeps reset_pulse r memory h l = power_on_legal

-- the registers that a lent state was found to hold are legal
pub asked_legal : (state memory : List ℕ) (r : Registers) → asked state memory ≡ Asked.Found r → LegalRegisters r
asked_legal state memory r e =
    let f = found_legal state memory e in
    subst LegalRegisters f.2 (state_facts state (long state memory f.0).0 f.1)
