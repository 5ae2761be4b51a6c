-- `solve_trig` of equation.rs up to its quartic: a2*cos 2t + b2*sin 2t + c1*cos t + d1*sin t + e in u, where t = k*PI/4 + 2*atan(u). Definitions only.
use Rattle.std.specs.Prelude.{cond, List, [], ◌∷◌, ℕ, ◌+◌, ◌*◌, ◌%◌, get_or, Float, Result, Ok, Err}
use Rattle.std.specs.Float.{nan}
use Rattle.std.specs.Float.Ieee.{neg}
use Rattle.facts.specs.Count.{count_up}
use Rattle.refusals.specs.declared.Refusal.{Refusal}
use Rattle.refusals.specs.declared.Refusal.TheVariants.{NotFinite, AnswerNotFinite}
use Rattle.float.specs.Rounded.{◌+ᶠ◌, ◌-ᶠ◌, ◌*ᶠ◌}
use Rattle.float.specs.Literals.{zero64, root_half64, one64, two64, four64, six64}
use Rattle.float.specs.Methods.{abs_of, total_le_of, all_finite_of}
use Rattle.trig_quartic.specs.declared.CosSin.{CosSin}
use Rattle.trig_quartic.specs.declared.TrigEquation.{TrigEquation}
use Rattle.trig_quartic.specs.declared.Crank.{Crank}

-- an entry of `UNIT`: (cos, sin)
abbrev pub cos_sin : Float → Float → CosSin
cos_sin c s = record { cos = c; sin = s }

-- `const UNIT: [(f64, f64); 8] = [ .. ];`: cos and sin of k*PI/4, where H is 1/√2
unfoldable pub eighth_of : ℕ → CosSin
eighth_of k =
    get_or
    (cos_sin one64 zero64
    ∷ cos_sin root_half64 root_half64
    ∷ cos_sin zero64 one64
    ∷ cos_sin (neg root_half64) root_half64
    ∷ cos_sin (neg one64) zero64
    ∷ cos_sin (neg root_half64) (neg root_half64)
    ∷ cos_sin zero64 (neg one64)
    ∷ cos_sin root_half64 (neg root_half64)
    ∷ [])
    k
    (cos_sin nan nan)

-- the numbers of an equation
abbrev pub numbers_of : TrigEquation → List Float
numbers_of trig = trig.a2 ∷ trig.b2 ∷ trig.c1 ∷ trig.d1 ∷ trig.e ∷ []

-- `let f_at = |k: usize| { .. };`, `a2 * cos2 + b2 * sin2 + c1 * cos1 + d1 * sin1 + e`: the equation's left side at k*PI/4
unfoldable pub f_at_of : TrigEquation → ℕ → Float
f_at_of trig k =
    -- let ((cos1, sin1), (cos2, sin2)) = (UNIT[k % 8], UNIT[2 * k % 8]);
    let cos1 = (eighth_of (k % 8)).cos in
    let sin1 = (eighth_of (k % 8)).sin in
    let cos2 = (eighth_of (2 * k % 8)).cos in
    let sin2 = (eighth_of (2 * k % 8)).sin in
    trig.a2 *ᶠ cos2 +ᶠ trig.b2 *ᶠ sin2 +ᶠ trig.c1 *ᶠ cos1 +ᶠ trig.d1 *ᶠ sin1 +ᶠ trig.e

-- `if v.total_cmp(&largest).is_ge() { (k, largest) = (j, v); }`, where `let v = f_at(j + 4).abs();`: 'on equal sizes the last sample wins; a NaN counts as
-- larger than infinity'
abbrev pub sampled_of : TrigEquation → ℕ → ℕ × Float → ℕ × Float
sampled_of trig j s = let v = abs_of (f_at_of trig (j + 4)) in cond (total_le_of s.1 v) (j, v) s

-- `let (mut k, mut largest) = (0, f_at(4).abs());`, then `for j in 1..8`: at k*PI/4 + PI, where u is infinite, the left side is largest in size
unfoldable pub sample_of : TrigEquation → ℕ
sample_of trig = (count_up 8 (sampled_of trig) 7 (0, abs_of (f_at_of trig 4))).0

-- `q`, ascending: the equation in s = t - k*PI/4, whose coefficients are a, b, c and d, and then in u
unfoldable pub quartic_of : TrigEquation → ℕ → List Float
quartic_of trig k =
    -- let ((cos1, sin1), (cos2, sin2)) = (UNIT[k], UNIT[2 * k % 8]);
    let cos1 = (eighth_of k).cos in
    let sin1 = (eighth_of k).sin in
    let cos2 = (eighth_of (2 * k % 8)).cos in
    let sin2 = (eighth_of (2 * k % 8)).sin in
    -- let (a2, b2) = (a2 * cos2 + b2 * sin2, b2 * cos2 - a2 * sin2);
    let a = trig.a2 *ᶠ cos2 +ᶠ trig.b2 *ᶠ sin2 in
    let b = trig.b2 *ᶠ cos2 -ᶠ trig.a2 *ᶠ sin2 in
    -- let (c1, d1) = (c1 * cos1 + d1 * sin1, d1 * cos1 - c1 * sin1);
    let c = trig.c1 *ᶠ cos1 +ᶠ trig.d1 *ᶠ sin1 in
    let d = trig.d1 *ᶠ cos1 -ᶠ trig.c1 *ᶠ sin1 in
    -- let q = [a2 + c1 + e, 4.0 * b2 + 2.0 * d1, -6.0 * a2 + 2.0 * e, -4.0 * b2 + 2.0 * d1, a2 - c1 + e,];
    a +ᶠ c +ᶠ trig.e
    ∷ four64 *ᶠ b +ᶠ two64 *ᶠ d
    ∷ neg six64 *ᶠ a +ᶠ two64 *ᶠ trig.e
    ∷ neg four64 *ᶠ b +ᶠ two64 *ᶠ d
    ∷ a -ᶠ c +ᶠ trig.e
    ∷ []

-- 'Crank start: 1, one of the five not finite; 5, a quartic coefficient not finite'
unfoldable pub crank_front_of : TrigEquation → Result Crank Refusal
crank_front_of trig =
    let k = sample_of trig in
    let q = quartic_of trig k in
    cond (all_finite_of (numbers_of trig)) (cond (all_finite_of q) (Ok (record { k = k; q = q })) (Err AnswerNotFinite)) (Err NotFinite)
