-- The bytes outside the table are those that document 01 lists, test mode's F0 to FF among them, and those that name no page are B9 to BF.
-- Assumes nothing.
use mathlib.Core.Path.{◌≡◌, refl, sym, ◌∙◌, ap}
use mathlib.Core.Bool.{Bool, true, false, cond, ◌&&◌, false≢true}
use mathlib.Core.Logic.{◌⊎◌, inl, inr, ⊎_elim}
use mathlib.Core.List.{List, [], ◌∷◌}
use Prim.Native.Nat.{ℕ, zero, suc, ◌≤◌, ◌<◌}
use native.Mathlib.Nat.{not-suc-le-zero, le_of_suc-le-suc, eq-or-lt_of_le}
use native.Mathlib.Decide.{dec_lt}
use native.Mathlib.Omega.{arith}
use lib.Dec.{leb, eqb}
use borrow.Author.Tests.{leb-true, eqb-true}
use Rattle.codes.proofs.Tests.{both, either}
use Rattle.codes.proofs.Rows.{in_row, in_gap}
use Rattle.codes.specs.Others.{others, among, TestModeByte, RemainingByte, Others}
use Rattle.codes.specs.Table.{table, command_by, command_of}
use Rattle.codes.specs.declared.Command.{Command}

-- what a byte is named for: a command, or one of the five that are none
abbrev pub a_command : ℕ
a_command = 0

abbrev pub no_page : ℕ
no_page = 1

abbrev pub not_allowed : ℕ
not_allowed = 2

abbrev pub not_awaited : ℕ
not_awaited = 3

abbrev pub outside : ℕ
outside = 4

abbrev pub test_mode : ℕ
test_mode = 5

abbrev pub sort_of : Command → ℕ
sort_of (Command.ColumnLow low) = a_command
sort_of (Command.ColumnHigh high) = a_command
sort_of (Command.ResistorRatio ratio) = a_command
sort_of (Command.PowerControl power) = a_command
sort_of (Command.StartLine line) = a_command
sort_of (Command.Contrast contrast) = a_command
sort_of (Command.ColumnDirection direction) = a_command
sort_of (Command.Bias bias) = a_command
sort_of (Command.EntireOn entire) = a_command
sort_of (Command.Reverse reverse) = a_command
sort_of (Command.Multiplex multiplex) = a_command
sort_of (Command.HeldByte byte) = a_command
sort_of (Command.QuarterBias bias) = a_command
sort_of Command.IndicatorOff = a_command
sort_of (Command.IndicatorMode mode) = a_command
sort_of (Command.DisplayOn on) = a_command
sort_of (Command.Page page) = a_command
sort_of Command.NoPage = no_page
sort_of (Command.RowDirection direction) = a_command
sort_of (Command.Offset offset) = a_command
sort_of (Command.FramePhases phases) = a_command
sort_of Command.EnterReadModifyWrite = a_command
sort_of Command.SoftwareReset = a_command
sort_of Command.Nothing = a_command
sort_of Command.LeaveReadModifyWrite = a_command
sort_of (Command.Await code) = a_command
sort_of Command.NotAllowed = not_allowed
sort_of Command.NotAwaited = not_awaited
sort_of Command.TestMode = test_mode
sort_of Command.Outside = outside

-- the sort of a byte by document 01's lists
abbrev pub listed : ℕ → ℕ
listed b = cond (among others b) (cond (leb 0xF0 b && leb b 0xFF) test_mode outside) (cond (leb 0xB9 b && leb b 0xBF) no_page a_command)

-- table and lists agree at every byte below n
agree : ℕ → Bool
agree zero = true
agree (suc n) = eqb (sort_of (command_of n)) (listed n) && agree n

agree_at : (n b : ℕ) → agree n ≡ true → b < n → sort_of (command_of b) ≡ listed b
unfolding agree
agree_at zero b e h = absurd (not-suc-le-zero h)
agree_at (suc n) b e h =
    let halves = both (eqb (sort_of (command_of n)) (listed n)) (agree n) e in
    ⊎_elim (λ same. rw same (eqb-true _ _ halves.0)) (λ less. agree_at n b halves.1 less) (eq-or-lt_of_le (le_of_suc-le-suc h))

pub sort_listed : (b : ℕ) → b < 256 → sort_of (command_of b) ≡ listed b
unfolding agree command_of command_by table
sort_listed b h = agree_at 256 b refl h

-- a number past all bytes is in no row
pub past_all : (b : ℕ) → 256 ≤ b → Command.Outside ≡ command_of b
unfolding table
past_all b h = in_gap 27 0 256 b b refl refl h (omega arith) tt

-- what holds from first to last of each span holds of what is among them
abbrev EachSpan : (ℕ → Type 0) → List (ℕ × ℕ) → Type 0
EachSpan P [] = Unit {0}
EachSpan P (span ∷ spans) = ((b : ℕ) → span.0 ≤ b → b ≤ span.1 → P b) × EachSpan P spans

by_span : (P : ℕ → Type 0) (spans : List (ℕ × ℕ)) (b : ℕ) → EachSpan P spans → among spans b ≡ true → P b
by_span P [] b p e = absurd (false≢true e)
by_span P (span ∷ spans) b p e =
    ⊎_elim (λ inside. let ends = both (leb span.0 b) (leb b span.1) inside in p.0 b (leb-true _ _ ends.0) (leb-true _ _ ends.1)) (λ later. by_span P spans b p.1 later) (either (leb span.0 b && leb b span.1) (among spans b) e)

test_mode_row : (b : ℕ) → TestModeByte b → command_of b ≡ Command.TestMode
unfolding table
test_mode_row b ends = sym (in_row 26 b refl refl ends.0 ends.1)

outside_listed : (b : ℕ) → among others b ≡ true → (command_of b ≡ Command.Outside) ⊎ (command_of b ≡ Command.TestMode)
unfolding table
outside_listed b e =
    by_span (λ b. (command_of b ≡ Command.Outside) ⊎ (command_of b ≡ Command.TestMode)) others b
    (λ b low high. inl (sym (in_gap 4 0 0x30 0x3F b refl refl low high tt)), (λ b low high. inl (sym (in_gap 5 0 0x80 0x80 b refl refl low high tt)), (λ b low high. inl (sym (in_gap 6 0 0x82 0x9F b refl refl low high tt)), (λ b low high. inl (sym (in_gap 20 0 0xD0 0xD2 b refl refl low high tt)), (λ b low high. inl (sym (in_gap 22 0 0xD5 0xDF b refl refl low high tt)), (λ b low high. inl (sym (in_gap 23 0 0xE1 0xE1 b refl refl low high tt)), (λ b low high. inl (sym (in_gap 25 0 0xE4 0xED b refl refl low high tt)), (λ b low high. inl (sym (in_gap 26 0 0xEF 0xEF b refl refl low high tt)), (λ b low high. inr (test_mode_row b (low, high)), tt)))))))))
    e

-- which list a byte of a sort is in: outside the table, of test mode, and without a page
listed_outside : (o t p : Bool) → cond o (cond t test_mode outside) (cond p no_page a_command) ≡ outside → (o ≡ true) × (t ≡ false)
listed_outside true true p e = absurd (omega (arith, e))
listed_outside true false p e = (refl, refl)
listed_outside false t true e = absurd (omega (arith, e))
listed_outside false t false e = absurd (omega (arith, e))

listed_test : (o t p : Bool) → cond o (cond t test_mode outside) (cond p no_page a_command) ≡ test_mode → (o ≡ true) × (t ≡ true)
listed_test true true p e = (refl, refl)
listed_test true false p e = absurd (omega (arith, e))
listed_test false t true e = absurd (omega (arith, e))
listed_test false t false e = absurd (omega (arith, e))

listed_page : (o t p : Bool) → cond o (cond t test_mode outside) (cond p no_page a_command) ≡ no_page → p ≡ true
listed_page true true p e = absurd (omega (arith, e))
listed_page true false p e = absurd (omega (arith, e))
listed_page false t true e = refl
listed_page false t false e = absurd (omega (arith, e))

-- a byte that is named for less than being outside is below 256
named_below : (b : ℕ) (named : Command) → (outside ≡ sort_of named → ⊥) → command_of b ≡ named → b < 256
named_below b named other e = by (dec_lt b 256)
  where
    by : Dec (b < 256) → b < 256
    by (yes h) = h
    by (no h) = absurd (other (ap sort_of (past_all b (omega (arith, h)) ∙ e)))

-- the sort of a byte with a name, by the lists
sort_of_named : (b : ℕ) (named : Command) → b < 256 → command_of b ≡ named → listed b ≡ sort_of named
sort_of_named b named h e = sym (sort_listed b h) ∙ ap sort_of e

no_page_listed : (b : ℕ) → command_of b ≡ Command.NoPage → (0xB9 ≤ b) × (b ≤ 0xBF)
no_page_listed b e =
    let h = named_below b Command.NoPage (λ z. omega (arith, z)) e in
    let ends = both (leb 0xB9 b) (leb b 0xBF) (listed_page (among others b) (leb 0xF0 b && leb b 0xFF) (leb 0xB9 b && leb b 0xBF) (sort_of_named b Command.NoPage h e)) in
    (leb-true _ _ ends.0, leb-true _ _ ends.1)

no_page_row : (b : ℕ) → 0xB9 ≤ b → b ≤ 0xBF → command_of b ≡ Command.NoPage
unfolding table
no_page_row b low high = sym (in_row 17 b refl refl low high)

test_mode_listed : (b : ℕ) → command_of b ≡ Command.TestMode → (among others b ≡ true) × TestModeByte b
test_mode_listed b e =
    let h = named_below b Command.TestMode (λ z. omega (arith, z)) e in
    let lists = listed_test (among others b) (leb 0xF0 b && leb b 0xFF) (leb 0xB9 b && leb b 0xBF) (sort_of_named b Command.TestMode h e) in
    let ends = both (leb 0xF0 b) (leb b 0xFF) lists.1 in
    (lists.0, (leb-true _ _ ends.0, leb-true _ _ ends.1))

outside_is_listed : (b : ℕ) → b < 256 → command_of b ≡ Command.Outside → among others b ≡ true
outside_is_listed b h e = (listed_outside (among others b) (leb 0xF0 b && leb b 0xFF) (leb 0xB9 b && leb b 0xBF) (sort_of_named b Command.Outside h e)).0

-- a byte outside the table is none of test mode
outside_no_test : (b : ℕ) → command_of b ≡ Command.Outside → TestModeByte b → ⊥
outside_no_test b e ends = let z : outside ≡ test_mode = ap sort_of (sym e ∙ test_mode_row b ends) in omega (arith, z)

remaining_outside : (b : ℕ) → RemainingByte b → command_of b ≡ Command.Outside
remaining_outside b r = ⊎_elim (λ e. e) (λ e. absurd (r.1 (test_mode_listed b e).1)) (outside_listed b r.0)

pub the_others : Others
the_others = record {
  outside = λ b h. (⊎_elim (outside_is_listed b h) (λ e. (test_mode_listed b e).0), outside_listed b);
  test_mode = λ b. (λ e. (test_mode_listed b e).1, test_mode_row b);
  remaining = λ b h. (λ e. (outside_is_listed b h e, outside_no_test b e), remaining_outside b);
  no_page = λ b. (no_page_listed b, λ ends. no_page_row b ends.0 ends.1);
}
