-- The byte and the dummy mark of a read, as C is handed them.
-- Assumes nothing.
use mathlib.Core.Path.{◌≡◌, refl}
use mathlib.Core.Bool.{Bool, true, false, not, true≢false, false≢true}
use Prim.Native.Nat.{ℕ}
use Rattle.std.specs.Prelude.{Option, Some, None, unwrap_or, is_some}
use Rattle.std.specs.Int.{from_bool}
use Rattle.bus.specs.Answer.{byte_answered, is_dummy}
use Rattle.hostwide.specs.Events.{flag}

pub byte_handed : (read : Option ℕ) → unwrap_or read 0 ≡ byte_answered read
byte_handed (Some byte) = refl
byte_handed None = refl

pub mark_handed : (read : Option ℕ) (none : Bool) → is_some read ≡ not none → from_bool none ≡ flag (is_dummy read)
unfolding flag
mark_handed (Some byte) true e = absurd (true≢false e)
mark_handed (Some byte) false e = refl
mark_handed None true e = refl
mark_handed None false e = absurd (false≢true e)
