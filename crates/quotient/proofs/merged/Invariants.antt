use Rattle.std.proofs.Common.{◌≡◌, ◌-◌}
use Rattle.facts.specs.Count.{count_up}
use Rattle.quotient.specs.Quotient.{back_lin, back_quad}
use Rattle.quotient.proofs.merged.Given as goal

abbrev pub invariant-loop-r : goal.invariant-loop-r
invariant-loop-r l =
    let n = l.fn.inner.nlin in
    let turn = back_lin l.fn.inner l.e in
    count_up n turn (n - l.r-index) l.m ≡ count_up n turn n l.initial.m

abbrev pub invariant-loop-q : goal.invariant-loop-q
invariant-loop-q l =
    let n = l.fn.inner.nquad in
    let turn = back_quad l.fn.inner l.e in
    count_up n turn (n - l.q-index) l.m ≡ count_up n turn n l.initial.m
