-- Document 01, "Numbers given", with document 02's Order 6, for the call of a single event: each number exactly when its line says so, and the byte and the dummy mark beside it.
use Rattle.std.specs.Prelude.{ℕ, ◌≤◌, ◌<◌, ◌≡◌, true, false, List, [], ◌∷◌, ◌↔◌, ◌⊎◌, ◌≢◌, get_or}
use Rattle.codes.specs.OneOf.{one_of}
use Rattle.codes.specs.Others.{others, among, TestModeByte, RemainingByte}
use Rattle.constants.specs.Sizes.{last_column}
use Rattle.constants.specs.Numbers.{taken, too_short, out_of_range, outside_table, no_page, not_allowed, code_awaited, column_above, test_mode}
use Rattle.bus.specs.Registers.{registers_of}
use Rattle.bus.specs.Memory.{address, kept}
use Rattle.bus.specs.Chip.{Event, command_byte, data_written, data_read, reset_pulse}
use Rattle.bus.specs.Image.{short, legal}
use Rattle.bus.specs.Calls.{call}
use Rattle.bus.specs.Bytes.{IsByte}
use Rattle.bus.specs.Image.{Accepted}
use Rattle.bus.specs.declared.registers.Registers.{Registers}

-- A command byte with no code awaited, of which this holds.
abbrev pub FirstByte : (ℕ → Type 0) → Registers → Event → Type 0
FirstByte P r (command_byte b) = (r.awaited ≡ 0) × P b
FirstByte P r (data_written b) = ⊥
FirstByte P r data_read = ⊥
FirstByte P r reset_pulse = ⊥

-- A command byte that is the n of an awaited code, of which this holds.
abbrev pub SecondByte : (ℕ → ℕ → Type 0) → Registers → Event → Type 0
SecondByte P r (command_byte n) = (r.awaited ≢ 0) × P r.awaited n
SecondByte P r (data_written b) = ⊥
SecondByte P r data_read = ⊥
SecondByte P r reset_pulse = ⊥

-- A data write or read.
abbrev pub IsData : Event → Type 0
IsData (command_byte b) = ⊥
IsData (data_written b) = Unit {0}
IsData data_read = Unit {0}
IsData reset_pulse = ⊥

-- An n that its code does not allow: D3 allows up to 3F, D4 00, 10, 20 and 30, and the others any.
abbrev pub NotAllowed : ℕ → ℕ → Type 0
NotAllowed code n = ((code ≡ 0xD3) × (0x3F < n)) ⊎ ((code ≡ 0xD4) × (one_of (0x00 ∷ 0x10 ∷ 0x20 ∷ 0x30 ∷ []) n ≡ false))

-- Nothing speaks against an event: none of the lines 1 to 7 and 15 holds.
pub record NothingAgainst (event : Event) (state memory : List ℕ) : Type 0 where
  pub long_enough : short state memory ≡ false
  pub in_ranges : event ≢ reset_pulse → legal state ≡ true
  pub in_the_table : FirstByte (λ b. among others b ≡ true) (registers_of state) event → ⊥
  pub names_aPage : FirstByte (λ b. (0xB9 ≤ b) × (b ≤ 0xBF)) (registers_of state) event → ⊥
  pub allowed : SecondByte NotAllowed (registers_of state) event → ⊥
  pub no_code : IsData event → (registers_of state).awaited ≡ 0
  pub on_the_page : IsData event → (registers_of state).column ≤ last_column

-- The numbers that an event is refused with by itself, where neither 1 nor 2 goes first.
abbrev pub event_numbers : List ℕ
event_numbers = outside_table ∷ no_page ∷ not_allowed ∷ code_awaited ∷ column_above ∷ test_mode ∷ []

-- All that the call of an event can give.
abbrev pub call_numbers : List ℕ
call_numbers = taken ∷ too_short ∷ out_of_range ∷ event_numbers

-- The number that the call of an event gives.
abbrev pub number_from : Event → List ℕ → List ℕ → ℕ
number_from event state memory = (call event state memory).reply.number

pub record Given (event : Event) (state memory : List ℕ) : Type 0 where
  -- 0: taken.
  pub number0 : IsByte event → number_from event state memory ≡ taken ↔ NothingAgainst event state memory
  -- 1: a lent state or memory is too short.
  pub number1 : number_from event state memory ≡ too_short ↔ short state memory ≡ true
  -- 2: the state image is out of its ranges (not asked at a single reset-pin event), where 1 does not go first.
  pub number2 : number_from event state memory ≡ out_of_range ↔ (short state memory ≡ false) × (event ≢ reset_pulse) × (legal state ≡ false)
  -- 3: a command byte outside the table, B9-BF and F0-FF apart, with no code awaited.
  pub number3 : IsByte event → number_from event state memory ≡ outside_table ↔ Accepted state memory × FirstByte RemainingByte (registers_of state) event
  -- 4: B9-BF with no code awaited.
  pub number4 : number_from event state memory ≡ no_page ↔ Accepted state memory × FirstByte (λ b. (0xB9 ≤ b) × (b ≤ 0xBF)) (registers_of state) event
  -- 5: n of D3 or D4 not allowed.
  pub number5 : number_from event state memory ≡ not_allowed ↔ Accepted state memory × SecondByte NotAllowed (registers_of state) event
  -- 6: a data write or read while a code is awaited.
  pub number6 : number_from event state memory ≡ code_awaited ↔ Accepted state memory × IsData event × ((registers_of state).awaited ≢ 0)
  -- 7: a data write or read with column above 131, where 6 does not go first.
  pub number7 : number_from event state memory ≡ column_above ↔ Accepted state memory × IsData event × ((registers_of state).awaited ≡ 0) × (last_column < (registers_of state).column)
  -- 15: F0-FF with no code awaited, in the place of 3.
  pub number15 : number_from event state memory ≡ test_mode ↔ Accepted state memory × FirstByte TestModeByte (registers_of state) event
  -- No other number is given.
  pub no_other : one_of call_numbers (number_from event state memory) ≡ true
  -- A refusal, and each taken event but a read, answers byte 0 and not "dummy".
  pub silent : (number_from event state memory ≢ taken) ⊎ (event ≢ data_read) → ((call event state memory).reply.byte ≡ 0) × ((call event state memory).reply.dummy ≡ false)
  -- A taken read with fresh 1 answers "dummy", byte 0.
  pub dummy_read : event ≡ data_read → number_from event state memory ≡ taken → (registers_of state).fresh ≡ 1 → ((call event state memory).reply.byte ≡ 0) × ((call event state memory).reply.dummy ≡ true)
  -- A taken read with fresh 0 answers the byte at page and column, of page 8 bit 0 alone.
  pub byte_read : event ≡ data_read → number_from event state memory ≡ taken → (registers_of state).fresh ≡ 0
      → ((call event state memory).reply.byte ≡ kept (registers_of state).page (get_or memory (address (registers_of state).page (registers_of state).column) 0))
      × ((call event state memory).reply.dummy ≡ false)
