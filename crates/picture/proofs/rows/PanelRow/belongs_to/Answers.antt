-- `picture::rows::PanelRow::belongs_to` meets its contract: the sum fits two bytes.
use Rattle.picture.specs.Scan.{com_of}
use Rattle.picture.proofs.rows.PanelRow.belongs_to.Goals as goal

pub returns : goal.returns
unfolding com_of
returns c = rw (c.around.ensures, c.from.ensures, c.shifted_by.ensures)
