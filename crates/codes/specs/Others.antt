-- Document 01's bytes that are no command: the list of those outside its table, of which document 02 (Order 6) tells F0-FF apart, and B9-BF, which name no page.
use Rattle.std.specs.Prelude.{ℕ, ◌≤◌, ◌<◌, ◌≡◌, Bool, true, false, ◌&&◌, ◌||◌, List, [], ◌∷◌, ◌↔◌, ◌⊎◌, leb}
use Rattle.codes.specs.Table.{command_of}
use Rattle.codes.specs.declared.Command.{Command}

-- From each first byte to each last.
abbrev pub others : List (ℕ × ℕ)
others =
    (0x30, 0x3F) ∷ (0x80, 0x80) ∷ (0x82, 0x9F) ∷ (0xD0, 0xD2) ∷ (0xD5, 0xDF) ∷ (0xE1, 0xE1) ∷ (0xE4, 0xED) ∷ (0xEF, 0xEF) ∷ (0xF0, 0xFF) ∷ []

abbrev pub among : List (ℕ × ℕ) → ℕ → Bool
among [] b = false
among (span ∷ spans) b = (leb span.0 b && leb b span.1) || among spans b

-- Order 6: the bytes of test mode.
abbrev pub TestModeByte : ℕ → Type 0
TestModeByte b = (0xF0 ≤ b) × (b ≤ 0xFF)

-- Order 6: "the remaining bytes outside the table".
abbrev pub RemainingByte : ℕ → Type 0
RemainingByte b = (among others b ≡ true) × (TestModeByte b → ⊥)

pub record Others : Type 0 where
  -- The bytes outside the table, those of test mode and the remaining ones together, are exactly those of the list.
  pub outside : (b : ℕ) → b < 256 → (command_of b ≡ Command.Outside) ⊎ (command_of b ≡ Command.TestMode) ↔ among others b ≡ true
  -- The bytes of test mode are exactly F0 to FF.
  pub test_mode : (b : ℕ) → command_of b ≡ Command.TestMode ↔ TestModeByte b
  -- The remaining ones are exactly the rest of the list.
  pub remaining : (b : ℕ) → b < 256 → command_of b ≡ Command.Outside ↔ RemainingByte b
  -- The bytes that name no page are exactly B9 to BF.
  pub no_page : (b : ℕ) → command_of b ≡ Command.NoPage ↔ (0xB9 ≤ b) × (b ≤ 0xBF)
