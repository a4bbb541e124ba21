-- A number's tenth is below it, where it has more digits than one. Assumes nothing.
use Rattle.compare.proofs.text.Text.+put_decimal.Given as goal

abbrev pub decreases-put_decimal : goal.decreases-put_decimal
decreases-put_decimal l = l.n
