-- `bus::same::repeats` meets its contract: the others are the bytes before them.
use Rattle.std.proofs.lemmas.Bool.Decides.{Decides-eqb}
use Rattle.std.proofs.lemmas.Slice.Eq.{slice_eq-Decides}
use Rattle.bus.proofs.SideBySide.{all_as_first}
use Rattle.bus.proofs.same.repeats.Goals as goal

pub returns-then-first-byte : goal.returns-then-first-byte
returns-then-first-byte c = λ t. all_as_first _ _ c.if-first-byte.true ((slice_eq-Decides Decides-eqb _ _ _ c.eq.ensures).0 t)
