-- By recursion on n: the digits of n / 10, and the last one.
use Rattle.text.proofs.Text.+decimal.Given as goal

abbrev pub decreases-decimal : goal.decreases-decimal
decreases-decimal l = l.n
