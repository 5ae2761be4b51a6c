-- By recursion on the number of digits: those of n / 16, and the last one.
use Rattle.text.proofs.Text.+hex.Given as goal

abbrev pub decreases-hex : goal.decreases-hex
decreases-hex l = l.digits
