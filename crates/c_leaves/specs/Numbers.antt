-- The numbers of a third angle. Definitions only.
use Rattle.std.specs.Prelude.{List, [], ◌∷◌, Float}
use Rattle.angle.specs.declared.ThirdAngle.{ThirdAngle}

abbrev pub angle_numbers : ThirdAngle → List Float
angle_numbers t = t.cos ∷ t.sin ∷ []
