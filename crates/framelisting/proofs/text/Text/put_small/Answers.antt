-- `framelisting::text::Text::put_small` meets its contract: one, two or three digits.
use Rattle.std.proofs.Common.{rules}
use Rattle.framelisting.proofs.SmallNumbers.{put_one, put_two, put_three}
use Rattle.framelisting.proofs.text.Text.put_small.Goals as goal

pub returns-then-number-lt10 : goal.returns-then-number-lt10
returns-then-number-lt10 c = search (rules, put_one)

pub returns-then-number-lt100 : goal.returns-then-number-lt100
returns-then-number-lt100 c = search (rules, put_two)

pub returns-else-number-lt100 : goal.returns-else-number-lt100
returns-else-number-lt100 c = search (rules, put_three)
