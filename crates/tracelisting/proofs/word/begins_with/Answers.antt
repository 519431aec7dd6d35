-- `tracelisting::word::begins_with` meets its contract: the library's word is the definition's.
use mathlib.Core.Path.{◌∙◌}
use Rattle.tracelisting.proofs.Beginning.{begins_with_it}
use Rattle.tracelisting.proofs.word.begins_with.Goals as goal

pub returns : goal.returns
returns c = c.starts_with.ensures.value ∙ begins_with_it c.args.word.now c.args.text.now
