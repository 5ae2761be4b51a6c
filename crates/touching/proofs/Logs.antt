-- What is asked and listed does not depend on the logarithms of the polynomial.
use mathlib.Core.Path.{◌≡◌, refl}
use mathlib.Core.List.{List}
use lib.Ieee.{Float}
use Rattle.roots.specs.declared.RealRoot.{RealRoot}
use Rattle.roots.specs.declared.Pair.{Pair}
use Rattle.scaled.specs.declared.Scaled.{Scaled}
use Rattle.critical.specs.Critical.{critical_point_of, extremum_of}
use Rattle.poly.specs.Brief.{other_logs}
use Rattle.touching.specs.Touching.{pair_at, pair_turn, item_turn, chained, touching}

pub same_touching : (lg : List Float) (sc : Scaled) (tol : Float) (roots : List RealRoot) (pairs : List Pair)
    → touching (other_logs lg sc) tol roots pairs ≡ touching sc tol roots pairs
unfolding touching chained item_turn pair_turn pair_at extremum_of critical_point_of
same_touching lg sc tol roots pairs = refl
