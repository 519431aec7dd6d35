-- Document 02, Order 3: the listing program begins with the new start, and with the old one where it is named.
use Rattle.std.specs.Prelude.{ℕ, ◌≤◌, ◌<◌, ◌≡◌, cond, ◌&&◌, List, [], ◌∷◌, Option, Some, None, ltb, eqb, length}
use Rattle.bus.specs.declared.start.Hung.{Hung}
use Rattle.framelisting.specs.Ascii.{ascii}
use Rattle.tracelisting.specs.Beginning.{begins}

-- A start, or nothing that the program knows.
pub data Asked : Type 0 where
  Start : Hung → Asked
  Unknown : Asked

-- The same, of what the code's function answers.
abbrev pub asked_of : Option Hung → Asked
asked_of (Some hung) = Asked.Start hung
asked_of None = Asked.Unknown

-- What is asked for by so many words, the program's own name among them, of which this is the second.
unfoldable pub start_asked : ℕ → List ℕ → Asked
start_asked count word =
    cond (ltb count 2) (Asked.Start Hung.UpsideDown)
    (cond (eqb count 2 && (eqb (length word) 9 && begins (ascii "--upright") word)) (Asked.Start Hung.Upright)
    Asked.Unknown)

-- `--upright`, in figures.
abbrev pub upright_argument : List ℕ
upright_argument = 0x2D ∷ 0x2D ∷ 0x75 ∷ 0x70 ∷ 0x72 ∷ 0x69 ∷ 0x67 ∷ 0x68 ∷ 0x74 ∷ []

pub record StartAsked : Type 0 where
  -- No argument: the new start.
  pub none : (count : ℕ) (word : List ℕ) → count < 2 → start_asked count word ≡ Asked.Start Hung.UpsideDown
  -- One argument, `--upright`: the old one.
  pub named : start_asked 2 upright_argument ≡ Asked.Start Hung.Upright
  -- Anything else is not known.
  pub other : (word : List ℕ) → (word ≡ upright_argument → ⊥) → start_asked 2 word ≡ Asked.Unknown
  pub more : (count : ℕ) (word : List ℕ) → 3 ≤ count → start_asked count word ≡ Asked.Unknown
