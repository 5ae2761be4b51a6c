-- two_prod and discriminant of poly.rs. Definitions only.
use Rattle.std.specs.Prelude.{Float}
use Rattle.float.specs.Rounded.{◌+ᶠ◌, ◌-ᶠ◌, ◌*ᶠ◌}
use Rattle.float.specs.Literals.{four64, split64}
use Rattle.horner.specs.declared.TwoProd.{TwoProd}

-- `let hi = c - (c - x);` of the closure `split` in `two_prod`: the upper half of x's digits by Veltkamp's splitting; the lower half is `x - hi`
unfoldable pub split_high : Float → Float
split_high x =
    -- let c = SPLIT * x;
    let c = split64 *ᶠ x in
    c -ᶠ (c -ᶠ x)

-- `((ah * bh - p) + ah * bl + al * bh) + al * bl`: Dekker's formula (1971) for the rounding error of the product p of a and b
unfoldable pub product_error : Float → Float → Float → Float
product_error a b p =
    -- let (ah, al) = split(a);
    let ah = split_high a in
    let al = a -ᶠ ah in
    -- let (bh, bl) = split(b);
    let bh = split_high b in
    let bl = b -ᶠ bh in
    ah *ᶠ bh -ᶠ p +ᶠ ah *ᶠ bl +ᶠ al *ᶠ bh +ᶠ al *ᶠ bl

-- `let p = a * b;`, and `(p, ((ah * bh - p) + ah * bl + al * bh) + al * bl)`: `two_prod` without fma, in its words 'a * b and its exact rounding error'
unfoldable pub two_prod_of : Float → Float → TwoProd
two_prod_of a b = let p = a *ᶠ b in record { prod = p; err = product_error a b p }

-- `let (sq, err) = two_prod(al, al);`, and `(sq - 4.0 * be) + err`
unfoldable pub discriminant_of : Float → Float → Float
discriminant_of al be =
    let square = two_prod_of al al in
    let sq = square.prod in
    let err = square.err in
    sq -ᶠ four64 *ᶠ be +ᶠ err
