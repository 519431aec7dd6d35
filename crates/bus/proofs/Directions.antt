-- The two directions are for drawing alone: each event is looked at on registers with any two pairs of directions.
-- Assumes nothing.
use mathlib.Core.Path.{◌≡◌, refl, sym, ◌∙◌, ap, subst}
use mathlib.Core.Logic.{◌↔◌, ◌≢◌}
use mathlib.Core.Bool.{Bool, true, false, cond, ◌||◌, true≢false}
use mathlib.Core.List.{List, [], ◌∷◌, ◌++◌}
use Prim.Native.Nat.{ℕ}
use lib.Dec.{eqb}
use lib.ListN.{length, get_or, drop}
use lib.Seq.{get_or-set_other}
use Rattle.codes.specs.Table.{meaning_of}
use Rattle.codes.specs.declared.Command.{Command}
use Rattle.constants.specs.Numbers.{taken, read_differs}
use Rattle.constants.specs.Sizes.{memory_size}
use Rattle.bus.specs.Places.{column_direction, row_direction, column, awaited, modify, saved}
use Rattle.bus.specs.Registers.{image_of, power_on, ◌with◌≔◌}
use Rattle.bus.specs.Events.{number_of, byte_of, dummy_of, command_taken, obeyed, command, access, moved, write, written, dummy_read, read, reset_pin}
use Rattle.bus.specs.Chip.{Chip, Event, command_byte, data_written, data_read, reset_pulse, step, registers_after, chip_after, after_events}
use Rattle.bus.specs.Recorded.{Recorded, event, read_as, chip_of, happened, compared, replay}
use Rattle.bus.specs.Result.{refuses, gives, Matches}
use Rattle.bus.specs.Image.{short}
use Rattle.bus.specs.Start.{registers_at_start, memory_at_start, start_of}
use Rattle.bus.specs.Calls.{reply_of, call}
use Rattle.bus.specs.Bytes.{All, IsByte}
use Rattle.bus.specs.CallsOnChip.{chip_in, imaged_in, lent}
use Rattle.bus.specs.Directions.{undirected, SameButDirections, SameChips, after, from_start, SameAnswers, Directions}
use Rattle.bus.specs.declared.registers.Registers.{Registers}
use Rattle.bus.specs.Answer.{Answer}
use Rattle.bus.specs.declared.start.Hung.{Hung}
use Rattle.bus.proofs.ThereAndBack.{image_with}
use Rattle.bus.proofs.StaysLegal.{stays_legal}
use Rattle.bus.proofs.CallsOnChip.{calls_on_chip}
use Rattle.bus.proofs.TheStart.{the_start}

-- both are refused with one number, or both are taken with one byte and one dummy mark, and leave registers that are alike
abbrev Alike : (Registers → Registers → Type 0) → Answer → Answer → Type 0
Alike R (Answer.Taken one) (Answer.Taken other) = (one.byte ≡ other.byte) × (one.dummy ≡ other.dummy) × R one.registers other.registers
Alike R (Answer.Refused one) (Answer.Refused other) = one ≡ other
Alike R (Answer.Taken one) (Answer.Refused other) = ⊥
Alike R (Answer.Refused one) (Answer.Taken other) = ⊥

-- registers with these directions
abbrev directed : ℕ → ℕ → Registers → Registers
directed a b u = u with column_direction ≔ a with row_direction ≔ b

-- every registers are so
own : (r : Registers) → r ≡ directed r.column_direction r.row_direction (undirected r)
own r = refl

module _ (a b c d : ℕ) where
  -- the same but for the directions, each of which is the same where it was
  abbrev So : Registers → Registers → Type 0
  So one other = SameButDirections one other × (a ≡ c → one.column_direction ≡ other.column_direction) × (b ≡ d → one.row_direction ≡ other.row_direction)

  module _ (u : Registers) where
    abbrev r : Registers
    r = directed a b u

    abbrev s : Registers
    s = directed c d u

    entered : (t : Bool) → Alike So (command_taken (cond t r (r with modify ≔ 1 with saved ≔ u.column))) (command_taken (cond t s (s with modify ≔ 1 with saved ≔ u.column)))
    entered true = (refl, refl, (refl, λ e. e, λ e. e))
    entered false = (refl, refl, (refl, λ e. e, λ e. e))

    left : (t : Bool) → Alike So (command_taken (cond t (r with modify ≔ 0 with column ≔ u.saved with saved ≔ 0) r)) (command_taken (cond t (s with modify ≔ 0 with column ≔ u.saved with saved ≔ 0) s))
    left true = (refl, refl, (refl, λ e. e, λ e. e))
    left false = (refl, refl, (refl, λ e. e, λ e. e))

    obeyed_alike : (named : Command) → Alike So (obeyed named r) (obeyed named s)
    unfolding obeyed
    obeyed_alike (Command.ColumnLow low) = (refl, refl, (refl, λ e. e, λ e. e))
    obeyed_alike (Command.ColumnHigh high) = (refl, refl, (refl, λ e. e, λ e. e))
    obeyed_alike (Command.ResistorRatio value) = (refl, refl, (refl, λ e. e, λ e. e))
    obeyed_alike (Command.PowerControl value) = (refl, refl, (refl, λ e. e, λ e. e))
    obeyed_alike (Command.StartLine value) = (refl, refl, (refl, λ e. e, λ e. e))
    obeyed_alike (Command.Contrast value) = (refl, refl, (refl, λ e. e, λ e. e))
    obeyed_alike (Command.ColumnDirection value) = (refl, refl, (refl, λ e. refl, λ e. e))
    obeyed_alike (Command.Bias value) = (refl, refl, (refl, λ e. e, λ e. e))
    obeyed_alike (Command.EntireOn value) = (refl, refl, (refl, λ e. e, λ e. e))
    obeyed_alike (Command.Reverse value) = (refl, refl, (refl, λ e. e, λ e. e))
    obeyed_alike (Command.Multiplex value) = (refl, refl, (refl, λ e. e, λ e. e))
    obeyed_alike (Command.HeldByte value) = (refl, refl, (refl, λ e. e, λ e. e))
    obeyed_alike (Command.QuarterBias value) = (refl, refl, (refl, λ e. e, λ e. e))
    obeyed_alike Command.IndicatorOff = (refl, refl, (refl, λ e. e, λ e. e))
    obeyed_alike (Command.IndicatorMode value) = (refl, refl, (refl, λ e. e, λ e. e))
    obeyed_alike (Command.DisplayOn value) = (refl, refl, (refl, λ e. e, λ e. e))
    obeyed_alike (Command.Page value) = (refl, refl, (refl, λ e. e, λ e. e))
    obeyed_alike Command.NoPage = refl
    obeyed_alike (Command.RowDirection value) = (refl, refl, (refl, λ e. e, λ e. refl))
    obeyed_alike (Command.Offset value) = (refl, refl, (refl, λ e. e, λ e. e))
    obeyed_alike (Command.FramePhases value) = (refl, refl, (refl, λ e. e, λ e. e))
    obeyed_alike Command.EnterReadModifyWrite = entered (eqb u.modify 1)
    obeyed_alike Command.SoftwareReset = (refl, refl, (refl, λ e. e, λ e. refl))
    obeyed_alike Command.Nothing = (refl, refl, (refl, λ e. e, λ e. e))
    obeyed_alike Command.LeaveReadModifyWrite = left (eqb u.modify 1)
    obeyed_alike (Command.Await code) = (refl, refl, (refl, λ e. e, λ e. e))
    obeyed_alike Command.NotAllowed = refl
    obeyed_alike Command.NotAwaited = refl
    obeyed_alike Command.TestMode = refl
    obeyed_alike Command.Outside = refl

    -- a data event that is refused with a number, or taken
    accessed : (t : Bool) (number : ℕ) (one other : Answer) → Alike So one other → Alike So (cond t one (Answer.Refused number)) (cond t other (Answer.Refused number))
    accessed true number one other alike = alike
    accessed false number one other alike = refl

    any_read : (byte : ℕ) (f m : Bool) → Alike So
        (cond f (dummy_read r) (Answer.Taken (record { registers = cond m r (moved r); byte = byte; dummy = false })))
        (cond f (dummy_read s) (Answer.Taken (record { registers = cond m s (moved s); byte = byte; dummy = false })))
    any_read byte true m = (refl, refl, (refl, λ e. e, λ e. e))
    any_read byte false true = (refl, refl, (refl, λ e. e, λ e. e))
    any_read byte false false = (refl, refl, (refl, λ e. e, λ e. e))

  command_alike : (byte : ℕ) (u : Registers) → Alike So (command byte (directed a b u)) (command byte (directed c d u))
  unfolding command
  command_alike byte u = obeyed_alike (u with awaited ≔ 0) (meaning_of u.awaited byte)

  step_alike : (what : Event) (u : Registers) (memory : List ℕ) → Alike So (step what (directed a b u) memory).answer (step what (directed c d u) memory).answer
  unfolding step write read access reset_pin
  step_alike (command_byte byte) u memory = command_alike byte u
  step_alike (data_written byte) u memory = accessed u (eqb (access u (length memory)) taken) (access u (length memory)) _ _ (refl, refl, (refl, λ e. e, λ e. e))
  step_alike data_read u memory = accessed u (eqb (access u (length memory)) taken) (access u (length memory)) _ _ (any_read u _ (eqb u.fresh 1) (eqb u.modify 1))
  step_alike reset_pulse u memory = (refl, refl, (refl, λ e. refl, λ e. refl))

  step_stores : (what : Event) (u : Registers) (memory : List ℕ) → (step what (directed a b u) memory).memory ≡ (step what (directed c d u) memory).memory
  unfolding step written access
  step_stores (command_byte byte) u memory = refl
  step_stores (data_written byte) u memory = refl
  step_stores data_read u memory = refl
  step_stores reset_pulse u memory = refl

-- answers that are alike in one way are so in any that follows from it
weaker : (R T : Registers → Registers → Type 0) → ((one other : Registers) → R one other → T one other) → (x y : Answer) → Alike R x y → Alike T x y
weaker R T f (Answer.Taken one) (Answer.Taken other) l = (l.0, l.1, f one.registers other.registers l.2)
weaker R T f (Answer.Refused one) (Answer.Refused other) l = l
weaker R T f (Answer.Taken one) (Answer.Refused other) l = l
weaker R T f (Answer.Refused one) (Answer.Taken other) l = l

-- what happened to chips that answer alike, and what a compared read made of them
happened_matches : (x y : Answer) (m n : List ℕ) → m ≡ n → Alike SameButDirections x y → Matches SameChips (happened x m) (happened y n)
unfolding happened
happened_matches (Answer.Taken one) (Answer.Taken other) m n e l = (e, l.2)
happened_matches (Answer.Refused one) (Answer.Refused other) m n e l = l
happened_matches (Answer.Taken one) (Answer.Refused other) m n e l = absurd l
happened_matches (Answer.Refused one) (Answer.Taken other) m n e l = absurd l

compared_matches : (byte : ℕ) (x y : Answer) (m n : List ℕ) → m ≡ n → Alike SameButDirections x y → Matches SameChips (compared byte x m) (compared byte y n)
unfolding compared
compared_matches byte (Answer.Taken one) (Answer.Taken other) m n e l = rw (l.0, l.1) (by (other.dummy || eqb other.byte byte))
  where
    by : (t : Bool) → Matches SameChips (cond t (gives (chip_of one.registers m)) (refuses read_differs)) (cond t (gives (chip_of other.registers n)) (refuses read_differs))
    by true = (e, l.2)
    by false = refl
compared_matches byte (Answer.Refused one) (Answer.Refused other) m n e l = l
compared_matches byte (Answer.Taken one) (Answer.Refused other) m n e l = absurd l
compared_matches byte (Answer.Refused one) (Answer.Taken other) m n e l = absurd l

-- one reply to answers that are alike
same_reply : (R : Registers → Registers → Type 0) (x y : Answer) → Alike R x y → reply_of x ≡ reply_of y
unfolding reply_of number_of byte_of dummy_of
same_reply R (Answer.Taken one) (Answer.Taken other) l = rw (l.0, l.1) refl
same_reply R (Answer.Refused one) (Answer.Refused other) l = rw l refl
same_reply R (Answer.Taken one) (Answer.Refused other) l = absurd l
same_reply R (Answer.Refused one) (Answer.Taken other) l = absurd l

-- what holds of the registers before and of those that a taken event leaves holds after it
left_so : (R : Registers → Registers → Type 0) (x y : Answer) (r s : Registers) → Alike R x y → R r s → R (registers_after x r) (registers_after y s)
unfolding registers_after
left_so R (Answer.Taken one) (Answer.Taken other) r s l h = l.2
left_so R (Answer.Refused one) (Answer.Refused other) r s l h = h
left_so R (Answer.Taken one) (Answer.Refused other) r s l h = absurd l
left_so R (Answer.Refused one) (Answer.Taken other) r s l h = absurd l

-- so for registers that are the same but for the directions
module _ (r s : Registers) (same : SameButDirections r s) where
  abbrev Kept : Registers → Registers → Type 0
  Kept = So r.column_direction r.row_direction s.column_direction s.row_direction

  alike : (what : Event) (memory : List ℕ) → Alike Kept (step what r memory).answer (step what s memory).answer
  alike what memory =
      subst (λ u. Alike Kept (step what r memory).answer (step what (directed s.column_direction s.row_direction u) memory).answer) same
      (step_alike r.column_direction r.row_direction s.column_direction s.row_direction what (undirected r) memory)

  left_alike : (what : Event) (memory : List ℕ) → Kept (after what r memory) (after what s memory)
  left_alike what memory = left_so Kept (step what r memory).answer (step what s memory).answer r s (alike what memory) (same, λ e. e, λ e. e)

  stores : (what : Event) (memory : List ℕ) → (step what r memory).memory ≡ (step what s memory).memory
  stores what memory =
      subst (λ u. (step what r memory).memory ≡ (step what (directed s.column_direction s.row_direction u) memory).memory) same
      (step_stores r.column_direction r.row_direction s.column_direction s.row_direction what (undirected r) memory)

  answers : (what : Event) (memory : List ℕ) → Alike SameButDirections (step what r memory).answer (step what s memory).answer
  answers what memory = weaker Kept SameButDirections (λ one other so. so.0) (step what r memory).answer (step what s memory).answer (alike what memory)

  same_answers : SameAnswers r s
  same_answers = record {
    replies = λ what memory. same_reply SameButDirections (step what r memory).answer (step what s memory).answer (answers what memory);
    stores = stores;
    leaves = λ what memory. (left_alike what memory).0;
    columns_stay = λ e what memory. (left_alike what memory).1 e;
    rows_stay = λ e what memory. (left_alike what memory).2 e;
    the_same = λ c d. ap (λ u. directed r.column_direction r.row_direction u) same ∙ ap (λ a. directed a r.row_direction (undirected s)) c ∙ ap (λ b. directed s.column_direction b (undirected s)) d;
  }

-- a chip with another memory that is the same
recorded : (what : Recorded) (c d : Chip) → SameChips c d → Matches SameChips (replay what c) (replay what d)
unfolding replay
recorded (event e) c d same =
    subst (λ m. Matches SameChips (replay (event e) c) (replay (event e) (chip_of d.registers m))) same.0
    (happened_matches _ _ _ _ (stores c.registers d.registers same.1 e c.memory) (answers c.registers d.registers same.1 e c.memory))
recorded (read_as byte) c d same =
    subst (λ m. Matches SameChips (replay (read_as byte) c) (replay (read_as byte) (chip_of d.registers m))) same.0
    (compared_matches byte _ _ _ _ (stores c.registers d.registers same.1 data_read c.memory) (answers c.registers d.registers same.1 data_read c.memory))

-- a place that is neither direction
undirected_there : (q : Registers) (place : ℕ) → place ≢ column_direction → place ≢ row_direction → get_or (image_of (undirected q)) place 0 ≡ get_or (image_of q) place 0
undirected_there q place c d =
    ap (λ image. get_or image place 0) (image_with (q with column_direction ≔ 0) row_direction 0) ∙
    get_or-set_other (image_of (q with column_direction ≔ 0)) row_direction place 0 0 d ∙
    ap (λ image. get_or image place 0) (image_with q column_direction 0) ∙
    get_or-set_other (image_of q) column_direction place 0 0 c

-- images that agree at every other place are of registers that are the same but for the directions
agreeing : (r s : Registers) → ((place : ℕ) → place ≢ column_direction → place ≢ row_direction → get_or (image_of r) place 0 ≡ get_or (image_of s) place 0) → SameButDirections r s
agreeing r s h =
    rw (at 0 refl, at 1 refl, at 2 refl, at 3 refl, at 4 refl, at 5 refl, at 6 refl, at 7 refl, at 8 refl, at 9 refl, at 10 refl, at 11 refl, at 14 refl, at 15 refl, at 16 refl, at 17 refl, at 18 refl, at 19 refl, at 20 refl, at 21 refl, at 22 refl) refl
  where
    at : (place : ℕ) → (eqb place column_direction || eqb place row_direction) ≡ false → get_or (image_of r) place 0 ≡ get_or (image_of s) place 0
    at place e = h place (λ c. true≢false (sym (rw c refl) ∙ e)) (λ d. true≢false (sym (rw d refl) ∙ e))

meaning : (r s : Registers) → SameButDirections r s ↔ ((place : ℕ) → place ≢ column_direction → place ≢ row_direction → get_or (image_of r) place 0 ≡ get_or (image_of s) place 0)
meaning r s = (λ same place c d. sym (undirected_there r place c d) ∙ ap (λ u. get_or (image_of u) place 0) same ∙ undirected_there s place c d, agreeing r s)

-- chips that are the same but for the directions stay so, event by event
events_same : (events : List Event) (c d : Chip) → SameChips c d → SameChips (after_events events c) (after_events events d)
unfolding after_events chip_after
events_same [] c d same = same
events_same (what ∷ rest) c d same =
    events_same rest (chip_after what c) (chip_after what d)
    (subst (λ m. SameChips (chip_after what c) (chip_after what (chip_of d.registers m))) same.0
    (stores c.registers d.registers same.1 what c.memory, (left_alike c.registers d.registers same.1 what c.memory).0))

pub the_starts : SameButDirections (registers_at_start Hung.UpsideDown) (registers_at_start Hung.Upright)
unfolding power_on
the_starts = refl

module _ (events : List Event) (state memory : List ℕ) (b : All IsByte events) (e : short state memory ≡ false) where
  abbrev chip_from : Hung → Chip
  chip_from hung = after_events events (chip_of (registers_at_start hung) (memory_at_start ++ drop memory_size memory))

  both : SameChips (chip_from Hung.UpsideDown) (chip_from Hung.Upright)
  both = events_same events _ _ (refl, the_starts)

  called_so : (hung : Hung) → from_start hung events state memory ≡ lent (imaged_in state (chip_from hung).registers) (chip_from hung).memory
  called_so hung = calls_on_chip.from_the_start hung events state memory b e

  calls : SameChips (chip_in (from_start Hung.UpsideDown events state memory).state (from_start Hung.UpsideDown events state memory).memory) (chip_in (from_start Hung.Upright events state memory).state (from_start Hung.Upright events state memory).memory)
  calls = rw (called_so Hung.UpsideDown, called_so Hung.Upright) both

  -- the chip that the start leaves
  begun : (hung : Hung) → chip_in (start_of hung state memory).state (start_of hung state memory).memory ≡ chip_of (registers_at_start hung) (memory_at_start ++ drop memory_size memory)
  unfolding start_of
  begun hung = ap (λ r. chip_of r (start_of hung state memory).memory) ((the_start hung state memory).registers e) ∙ rw e refl

  reply_so : (hung : Hung) (what : Event) → (call what (from_start hung events state memory).state (from_start hung events state memory).memory).reply ≡ reply_of (step what (chip_from hung).registers (chip_from hung).memory).answer
  reply_so hung what =
      calls_on_chip.the_next events what (start_of hung state memory).state (start_of hung state memory).memory b (stays_legal.the_start hung state memory e) ∙
      ap (λ c. reply_of (step what (after_events events c).registers (after_events events c).memory).answer) (begun hung)

  next_call : (what : Event) → (call what (from_start Hung.UpsideDown events state memory).state (from_start Hung.UpsideDown events state memory).memory).reply ≡ (call what (from_start Hung.Upright events state memory).state (from_start Hung.Upright events state memory).memory).reply
  next_call what =
      reply_so Hung.UpsideDown what ∙
      ap (λ m. reply_of (step what (chip_from Hung.UpsideDown).registers m).answer) both.0 ∙
      (same_answers (chip_from Hung.UpsideDown).registers (chip_from Hung.Upright).registers both.1).replies what (chip_from Hung.Upright).memory ∙
      sym (reply_so Hung.Upright what)

pub directions : Directions
unfolding command obeyed
directions = record {
  meaning = meaning;
  alike = same_answers;
  recorded = recorded;
  columns_set = λ r b value e. rw e refl;
  rows_set = λ r b value e. rw e refl;
  calls = calls;
  next_call = λ events what state memory b e. next_call events state memory b e what;
}
