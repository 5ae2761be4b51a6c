use mathlib.Core.Path.{◌≡◌}
use Prim.Native.Nat.{◌-◌}
use Rattle.facts.specs.Count.{count_up}
use Rattle.poly.specs.Found.{with_quad_in}
use Rattle.poly.proofs.Stripped.with_quads.Given as goal

abbrev pub invariant-loop-i : goal.invariant-loop-i
invariant-loop-i l =
    let n = l.r.f.nquad in
    let turn = with_quad_in l.self.poly.now l.r.f l.self.tol in
    count_up n turn (n - l.i) l.s ≡ count_up n turn n l.fn.start
