-- `listpack::pack::hung_by` meets its contract: the test of the word chooses.
use mathlib.Core.Path.{refl, sym, ◌∙◌}
use Rattle.framelisting.specs.Ascii.{ascii}
use Rattle.listpack.specs.Pack.{hung_by}
use Rattle.listpack.proofs.pack.hung_by.Goals as goal

pub returns-then-begins_with : goal.returns-then-begins_with
unfolding hung_by ascii
returns-then-begins_with c = rw (sym c.begins_with.ensures ∙ c.if-begins_with.true) refl

pub returns-else-begins_with : goal.returns-else-begins_with
unfolding hung_by ascii
returns-else-begins_with c = rw (sym c.begins_with.ensures ∙ c.if-begins_with.false) refl
