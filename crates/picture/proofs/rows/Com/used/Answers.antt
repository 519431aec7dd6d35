-- `picture::rows::Com::used` meets its contract: below M is at most the multiplex register.
use native.Mathlib.Numerals.{add-one}
use mathlib.Core.Path.{sym}
use lib.Dec.{leb-suc-suc}
use Rattle.picture.specs.Scan.{used}
use Rattle.picture.proofs.rows.Com.used.Goals as goal

pub returns : goal.returns
unfolding used
returns c = rw add-one (sym (leb-suc-suc c.args.self.0 c.args.registers.multiplex))
