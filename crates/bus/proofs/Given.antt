-- Document 01, "Numbers given": a single event's call gives each number exactly when the table says so, with the byte and the dummy mark that it says.
-- Assumes nothing.
use mathlib.Core.Path.{◌≡◌, refl, sym, ◌∙◌, ap, subst}
use mathlib.Core.Bool.{Bool, true, false, cond, not, ◌&&◌, or-false, and-false, true≢false, false≢true}
use mathlib.Core.Logic.{◌↔◌, ◌⊎◌, inl, inr, ⊎_elim, ◌≢◌}
use mathlib.Core.List.{List, [], ◌∷◌}
use Prim.Native.Nat.{ℕ, zero, suc, ◌≤◌, ◌<◌}
use native.Mathlib.Omega.{arith}
use lib.Dec.{leb, eqb}
use borrow.Author.Tests.{le-leb, lt-leb, leb-true, leb-false, eq-eqb, ne_eqb, eqb-true, eqb-false, not-false}
use Rattle.codes.specs.OneOf.{one_of}
use Rattle.codes.specs.Others.{others, among, TestModeByte, RemainingByte}
use Rattle.codes.specs.Table.{command_of, meaning_of}
use Rattle.codes.proofs.Tests.{refuted, both, chosen}
use Rattle.codes.proofs.Others.{the_others}
use Rattle.constants.specs.Sizes.{last_column}
use Rattle.constants.specs.Numbers.{taken, too_short, out_of_range, outside_table, no_page, not_allowed, code_awaited, column_above, test_mode}
use Rattle.bus.specs.Registers.{registers_of}
use Rattle.bus.specs.Chip.{Event, command_byte, data_written, data_read, reset_pulse}
use Rattle.bus.specs.Image.{short, legal}
use Rattle.bus.specs.Bytes.{IsByte}
use Rattle.bus.specs.Image.{Accepted}
use Rattle.bus.specs.Given.{NothingAgainst, FirstByte, SecondByte, IsData, NotAllowed, call_numbers, number_from, Given}
use Rattle.bus.specs.declared.registers.Registers.{Registers}
use Rattle.bus.proofs.Legal.{long}
use Rattle.bus.proofs.Kept.{state_facts}
use Rattle.bus.proofs.Answers.{number_of_command, number_of_event, is_read}
use Rattle.bus.proofs.Replies.{asks_ranges, number_given, reply_given, reply_given_lem, number_given_lem, is_other, is_test, names_no_page, first_number, allows, second_number}

-- an n that is not allowed fails its code's test, and one that fails it is not allowed
not_allowed_lem : (code n : ℕ) → allows code n ≡ false → NotAllowed code n
not_allowed_lem code n e = by (eqb code 0xD3) (eqb code 0xD4) refl refl e
  where
    by : (d e : Bool) → eqb code 0xD3 ≡ d → eqb code 0xD4 ≡ e → cond d (leb n 0x3F) (cond e (one_of (0x00 ∷ 0x10 ∷ 0x20 ∷ 0x30 ∷ []) n) true) ≡ false → NotAllowed code n
    by true e p q h = inl (eqb-true code 0xD3 p, leb-false n 0x3F h)
    by false true p q h = inr (eqb-true code 0xD4 q, h)
    by false false p q h = absurd (false≢true (sym h))

allows_not : (code n : ℕ) → NotAllowed code n → allows code n ≡ false
allows_not code n h = ⊎_elim (λ a. rw (eq-eqb code 0xD3 a.0) (lt-leb n 0x3F a.1)) (λ a. rw a.0 a.1) h

-- a byte of test mode passes its test, and one that is none fails it
test_mode_lem : (b : ℕ) → is_test b ≡ true → TestModeByte b
test_mode_lem b e = let ends = both (leb 0xF0 b) (leb b 0xFF) e in (leb-true _ _ ends.0, leb-true _ _ ends.1)

no_test_mode : (b : ℕ) → is_test b ≡ false → TestModeByte b → ⊥
no_test_mode b e ends = false≢true (sym e ∙ rw (le-leb 0xF0 b ends.0, le-leb b 0xFF ends.1))

is_no_test : (b : ℕ) → (TestModeByte b → ⊥) → is_test b ≡ false
is_no_test b h = refuted (is_test b) (λ e. h (test_mode_lem b e))

module _ (event : Event) (state memory : List ℕ) where
  -- what the tables of documents 01 and 02 say beside each number from 1 on
  abbrev Facts : ℕ → Type 0
  Facts zero = Unit {0}
  Facts (suc zero) = short state memory ≡ true
  Facts (suc (suc zero)) = (short state memory ≡ false) × (event ≢ reset_pulse) × (legal state ≡ false)
  Facts (suc (suc (suc zero))) = Accepted state memory × FirstByte (λ b. (is_other b ≡ true) × (is_test b ≡ false)) (registers_of state) event
  Facts (suc (suc (suc (suc zero)))) = Accepted state memory × FirstByte (λ b. (0xB9 ≤ b) × (b ≤ 0xBF)) (registers_of state) event
  Facts (suc (suc (suc (suc (suc zero))))) = Accepted state memory × SecondByte NotAllowed (registers_of state) event
  Facts (suc (suc (suc (suc (suc (suc zero)))))) = Accepted state memory × IsData event × ((registers_of state).awaited ≢ 0)
  Facts (suc (suc (suc (suc (suc (suc (suc zero))))))) = Accepted state memory × IsData event × ((registers_of state).awaited ≡ 0) × (last_column < (registers_of state).column)
  Facts (suc (suc (suc (suc (suc (suc (suc (suc n)))))))) = (suc (suc (suc (suc (suc (suc (suc (suc n))))))) ≡ test_mode) × Accepted state memory × FirstByte TestModeByte (registers_of state) event

-- the facts hold of the number that an accepted state gives, event by event
module _ (state memory : List ℕ) (a : Accepted state memory) where
  command_facts : (b : ℕ) → Facts (command_byte b) state memory (number_of_event (command_byte b) (registers_of state))
  unfolding meaning_of
  command_facts b =
      let l = state_facts state (long state memory a.long_enough).0 a.in_ranges in
      let code = (registers_of state).awaited in
      chosen (λ named. Facts (command_byte b) state memory (number_of_command named)) (eqb (registers_of state).awaited 0) _ _
      (λ none. rw (first_number b)
      (chosen (Facts (command_byte b) state memory) (is_other b) _ _
      (λ other. chosen (Facts (command_byte b) state memory) (is_test b) _ _ (λ t. (refl, a, (eqb-true _ _ none, test_mode_lem b t))) (λ t. (a, (eqb-true _ _ none, (other, t)))))
      (λ other. chosen (Facts (command_byte b) state memory) (names_no_page b) _ _ (λ p. let ends = both (leb 0xB9 b) (leb b 0xBF) p in (a, (eqb-true _ _ none, (leb-true _ _ ends.0, leb-true _ _ ends.1)))) (λ p. tt))))
      (λ some. rw (second_number (registers_of state).awaited b l.code some)
      (chosen (Facts (command_byte b) state memory) (allows (registers_of state).awaited b) _ _ (λ t. tt) (λ t. (a, (eqb-false _ _ some, not_allowed_lem _ b t)))))

  data_facts : (event : Event) → IsData event → Facts event state memory (cond (eqb (registers_of state).awaited 0) (cond (leb (registers_of state).column last_column) taken column_above) code_awaited)
  data_facts event d =
      chosen (Facts event state memory) (eqb (registers_of state).awaited 0) _ _
      (λ none. chosen (Facts event state memory) (leb (registers_of state).column last_column) _ _ (λ t. tt) (λ t. (a, d, eqb-true _ _ none, leb-false _ _ t)))
      (λ some. (a, d, eqb-false _ _ some))

-- what is not refused first is accepted
accepted : (state memory : List ℕ) → short state memory ≡ false → not (legal state) ≡ false → Accepted state memory
accepted state memory p q = record { long_enough = p; in_ranges = not-false (legal state) q }

event_facts : (event : Event) (state memory : List ℕ) → short state memory ≡ false → asks_ranges event && not (legal state) ≡ false → Facts event state memory (number_of_event event (registers_of state))
event_facts (command_byte b) state memory p q = command_facts state memory (accepted state memory p q) b
event_facts (data_written b) state memory p q = data_facts state memory (accepted state memory p q) (data_written b) tt
event_facts data_read state memory p q = data_facts state memory (accepted state memory p q) data_read tt
event_facts reset_pulse state memory p q = tt

not_true : (t : Bool) → not t ≡ true → t ≡ false
not_true true e = absurd (false≢true e)
not_true false e = refl

-- an event before which the ranges are asked is no pulse on the reset pin
asks : (event : Event) → asks_ranges event ≡ true → event ≢ reset_pulse
asks event e same = false≢true (subst (λ event. asks_ranges event ≡ true) same e)

asked_of : (event : Event) → event ≢ reset_pulse → asks_ranges event ≡ true
asked_of (command_byte b) n = refl
asked_of (data_written b) n = refl
asked_of data_read n = refl
asked_of reset_pulse n = absurd (n refl)

all_facts : (event : Event) (state memory : List ℕ) → Facts event state memory (number_given event state memory)
all_facts event state memory =
    chosen (Facts event state memory) (short state memory) _ _ (λ s. s)
    (λ s. chosen (Facts event state memory) (asks_ranges event && not (legal state)) _ _ (λ t. let halves = both (asks_ranges event) (not (legal state)) t in (s, asks event halves.0, not_true (legal state) halves.1)) (event_facts event state memory s))

-- and the number follows from the facts
module _ (state memory : List ℕ) (a : Accepted state memory) where
  given_accepted : (event : Event) → number_given event state memory ≡ number_of_event event (registers_of state)
  given_accepted (command_byte b) = rw (a.long_enough, a.in_ranges)
  given_accepted (data_written b) = rw (a.long_enough, a.in_ranges)
  given_accepted data_read = rw (a.long_enough, a.in_ranges)
  given_accepted reset_pulse = rw a.long_enough

  first_given : (n : ℕ) (P : ℕ → Type 0) → ((b : ℕ) → P b → number_of_command (command_of b) ≡ n) → (event : Event) → FirstByte P (registers_of state) event → number_of_event event (registers_of state) ≡ n
  unfolding meaning_of
  first_given n P p (command_byte b) f = rw (eq-eqb (registers_of state).awaited 0 f.0) (p b f.1)
  first_given n P p (data_written b) f = absurd f
  first_given n P p data_read f = absurd f
  first_given n P p reset_pulse f = absurd f

  second_given : (event : Event) → SecondByte NotAllowed (registers_of state) event → number_of_event event (registers_of state) ≡ not_allowed
  unfolding meaning_of
  second_given (command_byte b) f =
      let l = state_facts state (long state memory a.long_enough).0 a.in_ranges in
      let some = ne_eqb (registers_of state).awaited 0 f.0 in
      rw some (second_number (registers_of state).awaited b l.code some ∙ rw (allows_not (registers_of state).awaited b f.1))
  second_given (data_written b) f = absurd f
  second_given data_read f = absurd f
  second_given reset_pulse f = absurd f

  data_given : (n : ℕ) → cond (eqb (registers_of state).awaited 0) (cond (leb (registers_of state).column last_column) taken column_above) code_awaited ≡ n → (event : Event) → IsData event → number_of_event event (registers_of state) ≡ n
  data_given n e (command_byte b) d = absurd d
  data_given n e (data_written b) d = e
  data_given n e data_read d = e
  data_given n e reset_pulse d = absurd d

module _ (event : Event) (state memory : List ℕ) where
  exactly : (n : ℕ) → (Facts event state memory n → number_given event state memory ≡ n) → number_from event state memory ≡ n ↔ Facts event state memory n
  exactly n back =
      let same = number_given_lem event state memory in
      (λ e. subst (Facts event state memory) (sym same ∙ e) (all_facts event state memory), λ f. same ∙ back f)

  one : Facts event state memory too_short → number_given event state memory ≡ too_short
  one s = rw s

  two : Facts event state memory out_of_range → number_given event state memory ≡ out_of_range
  two f = rw (f.0, asked_of event f.1, f.2)

  three : Facts event state memory outside_table → number_given event state memory ≡ outside_table
  three f = given_accepted state memory f.0 event ∙ first_given state memory f.0 outside_table (λ b. (is_other b ≡ true) × (is_test b ≡ false)) (λ b other. first_number b ∙ rw (other.0, other.1)) event f.1

  four : Facts event state memory no_page → number_given event state memory ≡ no_page
  four f = given_accepted state memory f.0 event ∙ first_given state memory f.0 no_page (λ b. (0xB9 ≤ b) × (b ≤ 0xBF)) (λ b ends. ap number_of_command ((the_others.no_page b).1 ends)) event f.1

  five : Facts event state memory not_allowed → number_given event state memory ≡ not_allowed
  five f = given_accepted state memory f.0 event ∙ second_given state memory f.0 event f.1

  six : Facts event state memory code_awaited → number_given event state memory ≡ code_awaited
  six f = given_accepted state memory f.0 event ∙ data_given state memory f.0 code_awaited (rw (ne_eqb (registers_of state).awaited 0 f.2)) event f.1

  seven : Facts event state memory column_above → number_given event state memory ≡ column_above
  seven f = given_accepted state memory f.0 event ∙ data_given state memory f.0 column_above (rw (eq-eqb (registers_of state).awaited 0 f.2, lt-leb (registers_of state).column last_column f.3)) event f.1

  fifteen : Facts event state memory test_mode → number_given event state memory ≡ test_mode
  fifteen f = given_accepted state memory f.1 event ∙ first_given state memory f.1 test_mode TestModeByte (λ b ends. ap number_of_command ((the_others.test_mode b).1 ends)) event f.2

-- of a byte, what is outside the table and no test mode is of the remaining ones
of_a_byte : (r : Registers) (event : Event) → IsByte event → FirstByte (λ b. (is_other b ≡ true) × (is_test b ≡ false)) r event ↔ FirstByte RemainingByte r event
of_a_byte r (command_byte b) h =
    (λ f. (f.0, (rw (lt-leb 256 b h, or-false (among others b)) at f.1.0, no_test_mode b f.1.1)), λ f. (f.0, (rw f.1.0, is_no_test b f.1.1)))
of_a_byte r (data_written b) h = (λ f. absurd f, λ f. absurd f)
of_a_byte r data_read h = (λ f. absurd f, λ f. absurd f)
of_a_byte r reset_pulse h = (λ f. absurd f, λ f. absurd f)

-- what is outside the table is of test mode or of the remaining ones
one_of_two : (r : Registers) (event : Event) → FirstByte (λ b. among others b ≡ true) r event → FirstByte TestModeByte r event ⊎ FirstByte RemainingByte r event
one_of_two r (command_byte b) f = by (is_test b) refl
  where
    by : (t : Bool) → is_test b ≡ t → FirstByte TestModeByte r (command_byte b) ⊎ FirstByte RemainingByte r (command_byte b)
    by true t = inl (f.0, test_mode_lem b t)
    by false t = inr (f.0, (f.1, no_test_mode b t))
one_of_two r (data_written b) f = absurd f
one_of_two r data_read f = absurd f
one_of_two r reset_pulse f = absurd f

-- and either is outside the table
test_outside : (r : Registers) (event : Event) → FirstByte TestModeByte r event → FirstByte (λ b. among others b ≡ true) r event
test_outside r (command_byte b) f = (f.0, (the_others.outside b (omega (arith, f.1.1))).0 (inr ((the_others.test_mode b).1 f.1)))
test_outside r (data_written b) f = absurd f
test_outside r data_read f = absurd f
test_outside r reset_pulse f = absurd f

remaining_outside : (r : Registers) (event : Event) → FirstByte RemainingByte r event → FirstByte (λ b. among others b ≡ true) r event
remaining_outside r (command_byte b) f = (f.0, f.1.0)
remaining_outside r (data_written b) f = absurd f
remaining_outside r data_read f = absurd f
remaining_outside r reset_pulse f = absurd f

-- an event that is a command byte is no pulse on the reset pin, nor is a data write or read
first_no_pulse : (P : ℕ → Type 0) (r : Registers) (event : Event) → FirstByte P r event → event ≢ reset_pulse
first_no_pulse P r (command_byte b) f = asks (command_byte b) refl
first_no_pulse P r (data_written b) f = absurd f
first_no_pulse P r data_read f = absurd f
first_no_pulse P r reset_pulse f = absurd f

second_no_pulse : (r : Registers) (event : Event) → SecondByte NotAllowed r event → event ≢ reset_pulse
second_no_pulse r (command_byte b) f = asks (command_byte b) refl
second_no_pulse r (data_written b) f = absurd f
second_no_pulse r data_read f = absurd f
second_no_pulse r reset_pulse f = absurd f

data_no_pulse : (event : Event) → IsData event → event ≢ reset_pulse
data_no_pulse (command_byte b) d = absurd d
data_no_pulse (data_written b) d = asks (data_written b) refl
data_no_pulse data_read d = asks data_read refl
data_no_pulse reset_pulse d = absurd d

-- 0 is given exactly when none of the lines 1 to 7 and 15 holds
module _ (event : Event) (state memory : List ℕ) (h : IsByte event) where
  from_facts : NothingAgainst event state memory → (n : ℕ) → Facts event state memory n → n ≡ taken
  from_facts a zero f = refl
  from_facts a (suc zero) f = absurd (true≢false (sym f ∙ a.long_enough))
  from_facts a (suc (suc zero)) f = absurd (true≢false (sym (a.in_ranges f.1) ∙ f.2))
  from_facts a (suc (suc (suc zero))) f = absurd (a.in_the_table (remaining_outside (registers_of state) event ((of_a_byte (registers_of state) event h).0 f.1)))
  from_facts a (suc (suc (suc (suc zero)))) f = absurd (a.names_aPage f.1)
  from_facts a (suc (suc (suc (suc (suc zero))))) f = absurd (a.allowed f.1)
  from_facts a (suc (suc (suc (suc (suc (suc zero)))))) f = absurd (f.2 (a.no_code f.1))
  from_facts a (suc (suc (suc (suc (suc (suc (suc zero))))))) f = absurd (omega (arith, f.3, a.on_the_page f.1))
  from_facts a (suc (suc (suc (suc (suc (suc (suc (suc n)))))))) f = absurd (a.in_the_table (test_outside (registers_of state) event f.2))

  module _ (z : number_from event state memory ≡ taken) where
    is_long : short state memory ≡ false
    is_long = by (short state memory) refl
      where
        by : (s : Bool) → short state memory ≡ s → s ≡ false
        by true e = absurd (omega (arith, z, (exactly event state memory too_short (one event state memory)).1 e))
        by false e = refl

    in_ranges : event ≢ reset_pulse → legal state ≡ true
    in_ranges n = by (legal state) refl
      where
        by : (l : Bool) → legal state ≡ l → l ≡ true
        by true e = refl
        by false e = absurd (omega (arith, z, (exactly event state memory out_of_range (two event state memory)).1 (is_long, n, e)))

    ok : event ≢ reset_pulse → Accepted state memory
    ok n = record { long_enough = is_long; in_ranges = in_ranges n }

    no_code : IsData event → (registers_of state).awaited ≡ 0
    no_code d = by (eqb (registers_of state).awaited 0) refl
      where
        by : (t : Bool) → eqb (registers_of state).awaited 0 ≡ t → (registers_of state).awaited ≡ 0
        by true e = eqb-true _ _ e
        by false e = absurd (omega (arith, z, (exactly event state memory code_awaited (six event state memory)).1 (ok (data_no_pulse event d), d, eqb-false _ _ e)))

    on_the_page : IsData event → (registers_of state).column ≤ last_column
    on_the_page d = by (leb (registers_of state).column last_column) refl
      where
        by : (t : Bool) → leb (registers_of state).column last_column ≡ t → (registers_of state).column ≤ last_column
        by true e = leb-true _ _ e
        by false e = absurd (omega (arith, z, (exactly event state memory column_above (seven event state memory)).1 (ok (data_no_pulse event d), d, no_code d, leb-false _ _ e)))

    nothing_against : NothingAgainst event state memory
    nothing_against = record {
      long_enough = is_long;
      in_ranges = in_ranges;
      in_the_table = λ f. let a = ok (first_no_pulse _ (registers_of state) event f) in ⊎_elim (λ t. omega (arith, z, (exactly event state memory test_mode (fifteen event state memory)).1 (refl, a, t))) (λ o. omega (arith, z, (exactly event state memory outside_table (three event state memory)).1 (a, (of_a_byte (registers_of state) event h).1 o))) (one_of_two (registers_of state) event f);
      names_aPage = λ f. omega (arith, z, (exactly event state memory no_page (four event state memory)).1 (ok (first_no_pulse _ (registers_of state) event f), f));
      allowed = λ f. omega (arith, z, (exactly event state memory not_allowed (five event state memory)).1 (ok (second_no_pulse (registers_of state) event f), f));
      no_code = no_code;
      on_the_page = on_the_page;
    }

  taken_exactly : number_from event state memory ≡ taken ↔ NothingAgainst event state memory
  taken_exactly = (nothing_against, λ a. number_given_lem event state memory ∙ from_facts a (number_given event state memory) (all_facts event state memory))

listed : (event : Event) (state memory : List ℕ) → (n : ℕ) → Facts event state memory n → one_of call_numbers n ≡ true
listed event state memory zero f = refl
listed event state memory (suc zero) f = refl
listed event state memory (suc (suc zero)) f = refl
listed event state memory (suc (suc (suc zero))) f = refl
listed event state memory (suc (suc (suc (suc zero)))) f = refl
listed event state memory (suc (suc (suc (suc (suc zero))))) f = refl
listed event state memory (suc (suc (suc (suc (suc (suc zero)))))) f = refl
listed event state memory (suc (suc (suc (suc (suc (suc (suc zero))))))) f = refl
listed event state memory (suc (suc (suc (suc (suc (suc (suc (suc n)))))))) f = rw f.0

-- byte and dummy mark
not_read : (event : Event) → event ≢ data_read → is_read event ≡ false
not_read (command_byte b) n = refl
not_read (data_written b) n = refl
not_read data_read n = absurd (n refl)
not_read reset_pulse n = refl

module _ (event : Event) (state memory : List ℕ) where
  silent_reply : (is_read event && eqb (number_given event state memory) taken) ≡ false → ((reply_given event state memory).byte ≡ 0) × ((reply_given event state memory).dummy ≡ false)
  silent_reply e = (rw e, rw e)

  silent_when : (number_from event state memory ≢ taken) ⊎ (event ≢ data_read) → (is_read event && eqb (number_given event state memory) taken) ≡ false
  silent_when h =
      ⊎_elim
      (λ n. rw (ne_eqb (number_given event state memory) taken (λ e. n (number_given_lem event state memory ∙ e)), and-false (is_read event)))
      (λ n. rw (not_read event n))
      h

  read_reply : event ≡ data_read → number_from event state memory ≡ taken → (is_read event && eqb (number_given event state memory) taken) ≡ true
  read_reply e n = rw (sym (number_given_lem event state memory) ∙ n, ap is_read e)

  pub given : Given event state memory
  given =
      let reply = reply_given_lem event state memory in
      record {
        number0 = taken_exactly event state memory;
        number1 = exactly event state memory too_short (one event state memory);
        number2 = exactly event state memory out_of_range (two event state memory);
        number3 = λ h. let e = exactly event state memory outside_table (three event state memory) in let swap = of_a_byte (registers_of state) event h in (λ n. let f = e.0 n in (f.0, swap.0 f.1), λ f. e.1 (f.0, swap.1 f.1));
        number4 = exactly event state memory no_page (four event state memory);
        number5 = exactly event state memory not_allowed (five event state memory);
        number6 = exactly event state memory code_awaited (six event state memory);
        number7 = exactly event state memory column_above (seven event state memory);
        number15 = let e = exactly event state memory test_mode (fifteen event state memory) in (λ n. let f = e.0 n in (f.1, f.2), λ f. e.1 (refl, f.0, f.1));
        no_other = rw (number_given_lem event state memory) (listed event state memory (number_given event state memory) (all_facts event state memory));
        silent = λ h. rw reply (silent_reply (silent_when h));
        dummy_read = λ e n fresh. rw (reply, read_reply e n, fresh) (refl, refl);
        byte_read = λ e n fresh. rw (reply, read_reply e n, fresh) (refl, refl);
      }
