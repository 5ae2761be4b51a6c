use Rattle.std.proofs.Common.{rules}
use Rattle.std.specs.Prelude.{get_or}
use Rattle.std.specs.Float.{nan}
use Rattle.float.proofs.Made.{made_by}
use Rattle.scaled.proofs.Built.{logs_are}
use Rattle.scaled.specs.Scaled.{log_size_of}
use Rattle.scaled.proofs.Shift.log_sizes.Goals as goal

pub returns : goal.returns
returns c =
    let s = c.args.self in
    let l = c.log2_five-l.result in
    logs_are _ _ _ _ _ l _ c.if-self-lt3.false c.sizes.ensures c.log2_five-l.ensures
    (made_by _ (λ i. log_size_of (get_or l i nan) s.d s.e s.top i) _ _ _ (λ i y q n k. search rules) c.from_fn.ensures.items)
