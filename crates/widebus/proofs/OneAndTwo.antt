-- What the tests of two chips together say of the left and of the right.
-- Assumes nothing.
use mathlib.Core.Path.{◌≡◌, refl}
use mathlib.Core.Bool.{Bool, true, false, ◌&&◌, ◌||◌, false≢true, true≢false}
use mathlib.Core.Logic.{◌⊎◌, inl, inr}
use Rattle.codes.proofs.Tests.{either}
use Rattle.bus.specs.Image.{short, legal}
use Rattle.widebus.specs.Pair.{Pair, Lent}
use Rattle.widebus.specs.Asked.{any_short}
use Rattle.widebus.specs.OneAndTwo.{EitherShort, BothLong, EitherOutside}
use Rattle.widebus.proofs.Asking.{neither}

or_either : (s t : Bool) → (s ≡ true) ⊎ (t ≡ true) → (s || t) ≡ true
or_either true t h = refl
or_either false t (inl e) = absurd (false≢true e)
or_either false t (inr e) = e

fails : (s t : Bool) → (s && t) ≡ false → (s ≡ false) ⊎ (t ≡ false)
fails false t e = inl refl
fails true t e = inr e

and_fails : (s t : Bool) → (s ≡ false) ⊎ (t ≡ false) → (s && t) ≡ false
and_fails false t h = refl
and_fails true t (inl e) = absurd (true≢false e)
and_fails true t (inr e) = e

module _ (all : Pair Lent) where
  pub short_one : any_short all ≡ true → EitherShort all
  short_one = either (short all.left.state all.left.memory) (short all.right.state all.right.memory)

  pub one_short : EitherShort all → any_short all ≡ true
  one_short = or_either (short all.left.state all.left.memory) (short all.right.state all.right.memory)

  pub none_short : any_short all ≡ false → BothLong all
  none_short = neither (short all.left.state all.left.memory) (short all.right.state all.right.memory)

  pub long_both : BothLong all → any_short all ≡ false
  long_both h = rw (h.0, h.1)

  pub outside_one : (legal all.left.state && legal all.right.state) ≡ false → EitherOutside all
  outside_one = fails (legal all.left.state) (legal all.right.state)

  pub one_outside : EitherOutside all → (legal all.left.state && legal all.right.state) ≡ false
  one_outside = and_fails (legal all.left.state) (legal all.right.state)
