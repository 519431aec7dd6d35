-- Bytes put, and bytes compared, side by side.
use Rattle.std.specs.Prelude.{ℕ, ◌<◌, ◌≡◌, List, length, get_or}
use Rattle.bus.specs.Memory.{kept}

-- So many bytes are put, or compared, at once; no rule of the document.
abbrev pub chunk : ℕ
chunk = 32

-- What a page keeps in some places is what was read of them.
abbrev pub Agree : ℕ → List ℕ → List ℕ → Type 0
Agree page places bytes = (i : ℕ) → i < length bytes → kept page (get_or places i 0) ≡ get_or bytes i 0

-- Each byte is this one.
abbrev pub Repeats : ℕ → List ℕ → Type 0
Repeats byte bytes = (i : ℕ) → i < length bytes → byte ≡ get_or bytes i 0
