-- `bus::same::agree` meets its contract: on every page but 8 a byte is kept whole.
use mathlib.Core.Path.{◌∙◌, ap}
use lib.ListN.{get_or}
use Rattle.std.proofs.lemmas.Bool.Decides.{Decides-eqb}
use Rattle.std.proofs.lemmas.Slice.Eq.{slice_eq-Decides}
use Rattle.bus.proofs.SideBySide.{kept_byte}
use Rattle.bus.proofs.same.agree.Goals as goal

pub returns : goal.returns
returns c = λ t i h. kept_byte _ _ c.if-page-eq-ICON_PAGE.false ∙ ap (λ l. get_or l i 0) ((slice_eq-Decides Decides-eqb _ _ _ c.eq.ensures).0 t)
