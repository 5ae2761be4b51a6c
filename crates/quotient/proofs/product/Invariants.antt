use Rattle.std.proofs.Common.{◌≡◌, ◌+◌, ◌-◌, ◌*◌}
use Rattle.facts.specs.Count.{count_up}
use Rattle.quotient.specs.Quotient.{mul_lin, mul_quad, monic_one}
use Rattle.quotient.proofs.product.Given as goal

abbrev pub invariant-loop-r : goal.invariant-loop-r
invariant-loop-r l =
    let n = l.fn.large.nlin in
    let turn = mul_lin l.fn.large in
    (l.p.dl ≡ l.r-index) × (count_up n turn (n - l.r-index) l.p ≡ count_up n turn n monic_one)

abbrev pub invariant-loop-q : goal.invariant-loop-q
invariant-loop-q l =
    let n = l.fn.large.nquad in
    let turn = mul_quad l.fn.large in
    (l.p.dl ≡ l.fn.large.nlin + 2 * l.q-index) × (count_up n turn (n - l.q-index) l.p ≡ count_up n turn n l.initial.p)
