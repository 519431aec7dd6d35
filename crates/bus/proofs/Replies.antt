-- The reply that a call gives, with its number by the tests that lead to it; and that no event on a legal state meets 1 or 2.
-- Assumes nothing.
use mathlib.Core.Path.{◌≡◌, refl, sym, ◌∙◌, ap, subst}
use mathlib.Core.Bool.{Bool, true, false, cond, not, ◌&&◌, ◌||◌, or-true, and-false, false≢true}
use mathlib.Core.List.{List, [], ◌∷◌}
use Prim.Native.Nat.{ℕ, ◌/◌, ◌≤◌, ◌<◌}
use native.Mathlib.Decide.{dec_lt}
use native.Mathlib.Omega.{arith}
use lib.Dec.{leb, eqb, lit<}
use lib.ListN.{length, get_or}
use borrow.Author.Tests.{le-leb, lt-leb, le-ltb, lt-ltb, eqb-true, not-false}
use Rattle.codes.specs.OneOf.{one_of}
use Rattle.codes.specs.Others.{others, among}
use Rattle.codes.specs.Table.{table, offset_of, frame_phases_of, command_of, operand_by, operand_of, meaning_of}
use Rattle.codes.specs.declared.Command.{Command}
use Rattle.codes.proofs.Tests.{chosen, one_of_each}
use Rattle.codes.proofs.Others.{sort_listed, past_all}
use Rattle.constants.specs.Sizes.{last_column, pages, memory_size}
use Rattle.constants.specs.Numbers.{taken, too_short, out_of_range, outside_table, no_page, not_allowed, test_mode}
use Rattle.bus.specs.Registers.{largest_values, registers_of}
use Rattle.bus.specs.Memory.{address, kept}
use Rattle.bus.specs.Events.{number_of, byte_of, dummy_of, access, dummy_read, byte_read, read}
use Rattle.bus.specs.Chip.{Event, command_byte, data_written, data_read, reset_pulse, step}
use Rattle.bus.specs.Image.{awaited_codes, short, legal, asked}
use Rattle.bus.specs.Calls.{reply_of, concluded, refused, asked_before, call_on, call}
use Rattle.bus.specs.declared.registers.Registers.{Registers}
use Rattle.bus.specs.Answer.{Answer}
use Rattle.bus.specs.Answer.{Asked}
use Rattle.bus.specs.Answer.{Reply}
use Rattle.bus.proofs.Legal.{long}
use Rattle.bus.specs.StaysLegal.{LegalRegisters}
use Rattle.bus.proofs.Kept.{bound, state_facts}
use Rattle.bus.proofs.Answers.{number_of_command, number_of_event, is_read, StandsFor, Silent, met_by, step_answers, step_silent}

-- 2 is not asked at a single reset-pin event
abbrev pub asks_ranges : Event → Bool
asks_ranges (command_byte b) = true
asks_ranges (data_written b) = true
asks_ranges data_read = true
asks_ranges reset_pulse = false

-- the number by the table, the lower of 1 and 2 first
abbrev pub number_given : Event → List ℕ → List ℕ → ℕ
number_given event state memory =
    cond (short state memory) too_short (cond (asks_ranges event && not (legal state)) out_of_range (number_of_event event (registers_of state)))

-- the reply with a number
abbrev pub reply_with : ℕ → Event → Registers → List ℕ → Reply
reply_with number event r memory =
    let read_taken = is_read event && eqb number taken in
    let dummy_read = eqb r.fresh 1 in
    record {
      number = number;
      byte = cond (read_taken && not dummy_read) (kept r.page (get_or memory (address r.page r.column) 0)) 0;
      dummy = read_taken && dummy_read;
    }

-- the whole reply
abbrev pub reply_given : Event → List ℕ → List ℕ → Reply
reply_given event state memory = reply_with (number_given event state memory) event (registers_of state) memory

-- the reply to an event by the number that it meets
read_reply : (r : Registers) (memory : List ℕ) → reply_of (read r memory) ≡ reply_with (access r (length memory)) data_read r memory
unfolding read reply_of number_of byte_of dummy_of
read_reply r memory = by (access r (length memory)) (eqb (access r (length memory)) taken) (eqb r.fresh 1) refl
  where
    byte : ℕ
    byte = kept r.page (get_or memory (address r.page r.column) 0)

    by : (number : ℕ) (t fresh : Bool) → eqb number taken ≡ t → reply_of (cond t (cond fresh (dummy_read r) (byte_read r memory)) (Answer.Refused number)) ≡ record { number = number; byte = cond (t && not fresh) byte 0; dummy = t && fresh }
    by number true true e = rw (eqb-true number taken e)
    by number true false e = rw (eqb-true number taken e)
    by number false fresh e = refl

silent_reply : (number : ℕ) (answer : Answer) → StandsFor number answer → Silent answer → reply_of answer ≡ record { number = number; byte = 0; dummy = false }
unfolding reply_of number_of byte_of dummy_of
silent_reply number (Answer.Taken after) n s = rw (n, s.0, s.1)
silent_reply number (Answer.Refused refusal) n s = rw n.0

step_reply : (event : Event) (r : Registers) (memory : List ℕ) → reply_of (step event r memory).answer ≡ reply_with (met_by event r (length memory)) event r memory
unfolding step
step_reply (command_byte b) r memory = silent_reply _ _ (step_answers (command_byte b) r memory) (step_silent (command_byte b) r memory refl)
step_reply (data_written b) r memory = silent_reply _ _ (step_answers (data_written b) r memory) (step_silent (data_written b) r memory refl)
step_reply data_read r memory = read_reply r memory
step_reply reset_pulse r memory = silent_reply _ _ (step_answers reset_pulse r memory) (step_silent reset_pulse r memory refl)

-- a refusal
refused_reply : (number : ℕ) (event : Event) (r : Registers) (memory : List ℕ) → eqb number taken ≡ false → reply_of (Answer.Refused number) ≡ reply_with number event r memory
unfolding reply_of number_of byte_of dummy_of
refused_reply number event r memory e = by (is_read event)
  where
    by : (t : Bool) → reply_of (Answer.Refused number) ≡ record { number = number; byte = cond (t && eqb number taken && not (eqb r.fresh 1)) (kept r.page (get_or memory (address r.page r.column) 0)) 0; dummy = t && eqb number taken && eqb r.fresh 1 }
    by true = rw e
    by false = refl

ranged : (s t : Bool) (r : Registers) → cond s (Asked.Refused too_short) (cond t (Asked.Found r) (Asked.Refused out_of_range)) ≡ cond s (Asked.Refused too_short) (cond (not t) (Asked.Refused out_of_range) (Asked.Found r))
ranged true t r = refl
ranged false true r = refl
ranged false false r = refl

-- with legal registers and a memory that is long enough, a data event meets 6 or 7 or is taken
access_number : (r : Registers) (size : ℕ) → LegalRegisters r → memory_size ≤ size → access r size ≡ number_of_event data_read r
unfolding access largest_values
access_number r size l m =
    let page : r.page < pages = omega (arith, bound r l 0 (lit< tt)) in
    rw (le-ltb size memory_size m, lt-ltb r.page pages page)

-- a state that is asked and not refused holds legal registers
kept_legal : (state memory : List ℕ) → short state memory ≡ false → not (legal state) ≡ false → LegalRegisters (registers_of state)
kept_legal state memory p q = state_facts state (long state memory p).0 (not-false (legal state) q)

-- what is asked before an event, as the table has it
asked_table : (event : Event) (state memory : List ℕ) → asked_before event state memory ≡ cond (short state memory) (Asked.Refused too_short) (cond (asks_ranges event && not (legal state)) (Asked.Refused out_of_range) (Asked.Found (registers_of state)))
unfolding asked_before asked
asked_table (command_byte b) state memory = ranged (short state memory) (legal state) _
asked_table (data_written b) state memory = ranged (short state memory) (legal state) _
asked_table data_read state memory = ranged (short state memory) (legal state) _
asked_table reset_pulse state memory = refl

-- where it is not refused, an event meets what the table says
met_number : (event : Event) (state memory : List ℕ) → short state memory ≡ false → asks_ranges event && not (legal state) ≡ false → met_by event (registers_of state) (length memory) ≡ number_of_event event (registers_of state)
met_number (command_byte b) state memory p q = refl
met_number (data_written b) state memory p q = access_number _ _ (kept_legal state memory p q) (long state memory p).1
met_number data_read state memory p q = access_number _ _ (kept_legal state memory p q) (long state memory p).1
met_number reset_pulse state memory p q = refl

-- the reply of a call is the one that the table gives
pub reply_given_lem : (event : Event) (state memory : List ℕ) → (call event state memory).reply ≡ reply_given event state memory
unfolding call call_on concluded refused
reply_given_lem event state memory = rw (asked_table event state memory) (by (short state memory) (asks_ranges event && not (legal state)) refl refl)
  where
    by : (s t : Bool) → short state memory ≡ s → asks_ranges event && not (legal state) ≡ t → (call_on (cond s (Asked.Refused too_short) (cond t (Asked.Refused out_of_range) (Asked.Found (registers_of state)))) event state memory).reply ≡ reply_with (cond s too_short (cond t out_of_range (number_of_event event (registers_of state)))) event (registers_of state) memory
    by true t p q = refused_reply too_short event (registers_of state) memory refl
    by false true p q = refused_reply out_of_range event (registers_of state) memory refl
    by false false p q = step_reply event (registers_of state) memory ∙ ap (λ number. reply_with number event (registers_of state) memory) (met_number event state memory p q)

-- so is its number
pub number_given_lem : (event : Event) (state memory : List ℕ) → (call event state memory).reply.number ≡ number_given event state memory
number_given_lem event state memory = ap (λ (reply : Reply). reply.number) (reply_given_lem event state memory)

-- a number that is neither 1 nor 2
abbrev pub Neither : ℕ → Type 0
Neither number = (eqb number too_short || eqb number out_of_range) ≡ false

abbrev NamesNeither : Command → Type 0
NamesNeither named = Neither (number_of_command named)

-- a command byte with no code awaited, by document 01's lists; a number past all bytes is outside the table too
abbrev pub is_other : ℕ → Bool
is_other b = among others b || leb 256 b

abbrev pub is_test : ℕ → Bool
is_test b = leb 0xF0 b && leb b 0xFF

abbrev pub names_no_page : ℕ → Bool
names_no_page b = leb 0xB9 b && leb b 0xBF

-- the number by these tests
abbrev pub number_by_lists : Bool → Bool → Bool → ℕ
number_by_lists other test none_named = cond other (cond test test_mode outside_table) (cond none_named no_page taken)

by_lists : (o t p : Bool) → get_or (taken ∷ no_page ∷ not_allowed ∷ out_of_range ∷ outside_table ∷ test_mode ∷ []) (cond o (cond t 5 4) (cond p 1 0)) taken ≡ number_by_lists (o || false) t p
by_lists true true p = refl
by_lists true false p = refl
by_lists false t true = refl
by_lists false t false = refl

pub first_number : (b : ℕ) → number_of_command (command_of b) ≡ number_by_lists (is_other b) (is_test b) (names_no_page b)
first_number b = by (dec_lt b 256)
  where
    by : Dec (b < 256) → number_of_command (command_of b) ≡ number_by_lists (is_other b) (is_test b) (names_no_page b)
    by (yes h) = rw (sort_listed b h, lt-leb 256 b h) (by_lists (among others b) (is_test b) (names_no_page b))
    by (no h) =
        let past : 256 ≤ b = omega (arith, h) in
        let test : is_test b ≡ false = rw (lt-leb b 0xFF (omega (arith, h))) (and-false (leb 0xF0 b)) in
        rw (← (past_all b past), le-leb 256 b past, or-true (among others b), test)

-- an n that its code allows
abbrev pub allows : ℕ → ℕ → Bool
allows code n = cond (eqb code 0xD3) (leb n 0x3F) (cond (eqb code 0xD4) (one_of (0x00 ∷ 0x10 ∷ 0x20 ∷ 0x30 ∷ []) n) true)

pub second_number : (code n : ℕ) → one_of awaited_codes code ≡ true → eqb code 0 ≡ false → number_of_command (operand_of code n) ≡ cond (allows code n) taken not_allowed
unfolding awaited_codes operand_of operand_by table offset_of frame_phases_of
second_number code n h none =
    one_of_each (λ code. eqb code 0 ≡ false → number_of_command (operand_of code n) ≡ cond (allows code n) taken not_allowed) awaited_codes code
    (λ z. absurd (false≢true (sym z)), (λ z. refl, (λ z. refl, (λ z. refl, (λ z. refl, (λ z. by (Command.Offset n) refl (leb n 0x3F), (λ z. by (Command.FramePhases (n / 16)) refl (one_of (0x00 ∷ 0x10 ∷ 0x20 ∷ 0x30 ∷ []) n), tt)))))))
    h none
  where
    by : (given : Command) → number_of_command given ≡ taken → (t : Bool) → number_of_command (cond t given Command.NotAllowed) ≡ cond t taken not_allowed
    by given e true = e
    by given e false = refl

-- no command byte is refused with 1 or 2 where its code may be awaited
command_neither : (b : ℕ) → NamesNeither (command_of b)
command_neither b = rw (first_number b) (chosen Neither (is_other b) _ _ (λ e. chosen Neither (is_test b) _ _ (λ e. refl) (λ e. refl)) (λ e. chosen Neither (names_no_page b) _ _ (λ e. refl) (λ e. refl)))

operand_neither : (code n : ℕ) → one_of awaited_codes code ≡ true → eqb code 0 ≡ false → NamesNeither (operand_of code n)
operand_neither code n h none = rw (second_number code n h none) (chosen Neither (allows code n) _ _ (λ e. refl) (λ e. refl))

data_neither : (r : Registers) → Neither (number_of_event data_read r)
data_neither r = chosen Neither (eqb r.awaited 0) _ _ (λ e. chosen Neither (leb r.column last_column) _ _ (λ e. refl) (λ e. refl)) (λ e. refl)

event_neither : (event : Event) (r : Registers) → LegalRegisters r → Neither (number_of_event event r)
unfolding meaning_of
event_neither (command_byte b) r l = chosen NamesNeither (eqb r.awaited 0) _ _ (λ e. command_neither b) (operand_neither r.awaited b l.code)
event_neither (data_written b) r l = data_neither r
event_neither data_read r l = data_neither r
event_neither reset_pulse r l = refl

-- with legal registers and a memory that is long enough, no event meets 1 or 2
pub met_neither : (event : Event) (r : Registers) (size : ℕ) → LegalRegisters r → memory_size ≤ size → Neither (met_by event r size)
met_neither (command_byte b) r size l m = event_neither (command_byte b) r l
met_neither (data_written b) r size l m = rw (access_number r size l m) (data_neither r)
met_neither data_read r size l m = rw (access_number r size l m) (data_neither r)
met_neither reset_pulse r size l m = refl

pub not_one : {number : ℕ} → Neither number → number ≡ too_short → ⊥
not_one h e = false≢true (sym (subst Neither e h))

pub not_two : {number : ℕ} → Neither number → number ≡ out_of_range → ⊥
not_two h e = false≢true (sym (subst Neither e h))
