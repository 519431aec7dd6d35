-- What the two chips' states and memories are asked first, by the tests of the code.
-- Assumes nothing.
use mathlib.Core.Path.{◌≡◌, refl, sym}
use mathlib.Core.Bool.{Bool, true, false, cond, ◌||◌, false≢true}
use Prim.Native.Nat.{ℕ, ◌≤◌}
use native.Mathlib.Omega.{arith}
use lib.ListN.{length}
use Rattle.constants.specs.Numbers.{too_short}
use Rattle.constants.specs.Sizes.{memory_size}
use Rattle.bus.specs.Image.{short}
use Rattle.bus.proofs.Legal.{long}
use Rattle.widebus.specs.Pair.{Pair, Lent}
use Rattle.widebus.specs.Asked.{BothAsked, any_short, asked_both}
use Rattle.widebus.specs.declared.both.Both.{Both}

-- neither of two tests
pub neither : (s t : Bool) → (s || t) ≡ false → (s ≡ false) × (t ≡ false)
neither true t e = absurd (false≢true (sym e))
neither false t e = (refl, e)

-- what was found is not too short
found_long : (t : Bool) (a : BothAsked) {registers : Both} → cond t (BothAsked.Refused too_short) a ≡ BothAsked.Found registers → t ≡ false
found_long true a e = let z : ◌≡◌ {A = ℕ} 0 1 = cc in absurd (omega arith)
found_long false a e = refl

-- the memories of what was found are long enough
pub memories_long : (all : Pair Lent) {registers : Both} → asked_both all ≡ BothAsked.Found registers → (memory_size ≤ length all.left.memory) × (memory_size ≤ length all.right.memory)
unfolding asked_both
memories_long all e =
    let shorts = neither (short all.left.state all.left.memory) (short all.right.state all.right.memory) (found_long (any_short all) _ e) in
    ((long all.left.state all.left.memory shorts.0).1, (long all.right.state all.right.memory shorts.1).1)
