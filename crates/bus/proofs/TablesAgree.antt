-- What document 01 lists twice is the same both times.
-- Assumes nothing.
use mathlib.Core.Path.{refl}
use Rattle.codes.specs.Table.{table}
use Rattle.codes.specs.Values.{codes_of}
use Rattle.bus.specs.Registers.{ranges}
use Rattle.bus.specs.Image.{awaited_codes}
use Rattle.bus.specs.TablesAgree.{TablesAgree}

pub tables_agree : TablesAgree
unfolding ranges awaited_codes codes_of table
tables_agree = record { in_order = refl; codes = refl }
