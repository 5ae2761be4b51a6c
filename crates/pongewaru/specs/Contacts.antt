-- What the C function for pin contacts answers. Definitions only.
use Rattle.std.specs.Prelude.{List, Float, Result}
use Rattle.angle.specs.declared.Sine.{Sine}
use Rattle.refusals.specs.declared.Refusal.{Refusal}
use Rattle.roots.specs.declared.Roots.{Roots}
use Rattle.poly.specs.RealRoots.{roots_in}
use Rattle.contact.specs.declared.Path.{Path}
use Rattle.contact.specs.declared.Circle.{Circle}
use Rattle.contact.specs.Contact.{pin_contact_of, pin_contact_systems_of}
use Rattle.pongewaru.specs.Lists.{told_numbers}

abbrev pub path_of : Float → Float → Float → Float → Float → Float → Path
path_of x0 x1 x2 y0 y1 y2 = record { x0 = x0; x1 = x1; x2 = x2; y0 = y0; y1 = y1; y2 = y2 }

abbrev pub circle_of : Float → Float → Float → Circle
circle_of cx cy r = record { cx = cx; cy = cy; r = r }

-- the answer to these numbers
abbrev pub contact_of : Sine → Float → Float → Float → Float → Float → Float → Float → Float → Float → Float → Result Roots Refusal
contact_of sine confusion x0 x1 x2 y0 y1 y2 cx cy r = pin_contact_of sine confusion (path_of x0 x1 x2 y0 y1 y2) (circle_of cx cy r)

-- what is stored of it
abbrev pub contact_numbers : Sine → Float → Float → Float → Float → Float → Float → Float → Float → Float → Float → List Float
contact_numbers sine confusion x0 x1 x2 y0 y1 y2 cx cy r =
    let systems = pin_contact_systems_of sine confusion (path_of x0 x1 x2 y0 y1 y2) (circle_of cx cy r) in
    told_numbers (roots_in (contact_of sine confusion x0 x1 x2 y0 y1 y2 cx cy r)) systems
