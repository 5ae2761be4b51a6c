-- `QuadraticSolution` of equation.rs: what an answer says, `shifted` and `touching_at`. Definitions only.
use Rattle.std.specs.Prelude.{◌≡◌, Bool, cond, ◌&&◌, List, [], ◌∷◌, ℕ, Float}
use Rattle.float.specs.Rounded.{◌+ᶠ◌}
use Rattle.float.specs.Methods.{is_finite_of}
use Rattle.solution.specs.declared.QuadraticSolution.{QuadraticSolution}
use Rattle.solution.specs.declared.QuadraticSolution.TheVariants.{Two, One, Linear, Degenerate, Empty}

-- its word's place among `two`, `one`, `linear`, `degenerate`, `empty`
unfoldable pub number_of : QuadraticSolution → ℕ
number_of (Two x y) = 0
number_of (One x) = 1
number_of (Linear x) = 2
number_of Degenerate = 3
number_of Empty = 4

-- its places
unfoldable pub values_of : QuadraticSolution → List Float
values_of (Two x y) = x ∷ y ∷ []
values_of (One x) = x ∷ []
values_of (Linear x) = x ∷ []
values_of Degenerate = []
values_of Empty = []

-- t is s with each place taken to another, by f
unfoldable pub Mapped : (Float → Float → Type 0) → QuadraticSolution → QuadraticSolution → Type 0
Mapped f (Two x y) t = (u v : Float) × f x u × f y v × (t ≡ Two u v)
Mapped f (One x) t = (u : Float) × f x u × (t ≡ One u)
Mapped f (Linear x) t = (u : Float) × f x u × (t ≡ Linear u)
Mapped f Degenerate t = t ≡ Degenerate
Mapped f Empty t = t ≡ Empty

-- `shifted`: `Self::Two(t1, t2) => Self::Two(t0 + t1, t0 + t2),` and so on: every place moved by t0
unfoldable pub shifted_of : QuadraticSolution → Float → QuadraticSolution
shifted_of (Two t1 t2) t0 = Two (t0 +ᶠ t1) (t0 +ᶠ t2)
shifted_of (One t) t0 = One (t0 +ᶠ t)
shifted_of (Linear t) t0 = Linear (t0 +ᶠ t)
shifted_of Degenerate t0 = Degenerate
shifted_of Empty t0 = Empty

-- `touching_at`: `Self::Two(..) | Self::Empty if vertex.is_finite() && touches(vertex) => { Self::One(vertex) }`, where the reply stands for `touches(vertex)`
unfoldable pub touching_at_of : QuadraticSolution → Float → Bool → QuadraticSolution
touching_at_of (Two x y) vertex reply = cond (is_finite_of vertex && reply) (One vertex) (Two x y)
touching_at_of (One x) vertex reply = One x
touching_at_of (Linear x) vertex reply = Linear x
touching_at_of Degenerate vertex reply = Degenerate
touching_at_of Empty vertex reply = cond (is_finite_of vertex && reply) (One vertex) Empty
