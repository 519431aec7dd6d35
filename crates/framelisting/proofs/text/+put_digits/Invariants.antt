-- `framelisting::text::put_digits` ends as the number falls.
use Rattle.framelisting.proofs.text.+put_digits.Given as goal

abbrev pub decreases-put_digits : goal.decreases-put_digits
decreases-put_digits l = l.number
