-- Document 01's refusals 1 and 2 where two chips are lent: each is asked of the left and of the right, whichever chips are selected. The laws of calls, runs and frames say them by these words.
use Rattle.std.specs.Prelude.{◌≡◌, true, false, ◌⊎◌}
use Rattle.bus.specs.Image.{short, legal}
use Rattle.widebus.specs.Pair.{Pair, Lent}

-- A lent state or memory is too short, of the left chip or of the right.
abbrev pub EitherShort : Pair Lent → Type 0
EitherShort all = (short all.left.state all.left.memory ≡ true) ⊎ (short all.right.state all.right.memory ≡ true)

-- Neither chip's is.
abbrev pub BothLong : Pair Lent → Type 0
BothLong all = (short all.left.state all.left.memory ≡ false) × (short all.right.state all.right.memory ≡ false)

-- The state image is out of its ranges, of the left chip or of the right.
abbrev pub EitherOutside : Pair Lent → Type 0
EitherOutside all = (legal all.left.state ≡ false) ⊎ (legal all.right.state ≡ false)

-- Both images are in their ranges.
abbrev pub BothLegal : Pair Lent → Type 0
BothLegal all = (legal all.left.state ≡ true) × (legal all.right.state ≡ true)
