use mathlib.Core.Path.{sym}
use Rattle.text.proofs.Laws.{written_then, written_as}
use Rattle.text.proofs.Digits.{decimal_low, decimal_step}
use Rattle.text.proofs.Text.+decimal.Goals as goal

pub returns-then-n-lt10 : goal.returns-then-n-lt10
returns-then-n-lt10 t c = written_as (sym (decimal_low c.args.n c.if-n-lt10.true)) c.byte.ensures

pub returns-else-n-lt10 : goal.returns-else-n-lt10
returns-else-n-lt10 t c = written_as (sym (decimal_step c.args.n c.if-n-lt10.false)) (written_then c.decimal.ensures c.byte-else-n-lt10.ensures)
