use Rattle.std.proofs.Common.{refl}
use Rattle.angle.proofs.Tests.{small_passes, small_within, low_passes, low_within, high_within, high_fails, high_none}
use Rattle.angle.proofs.exact.test_sin.Goals as goal

pub returns-then-below : goal.returns-then-below
returns-then-below c = small_passes _ _ _ _ c.requires.t_high c.requires.k_low c.requires.k_high c.if-k-gt60.true c.if-below.true

pub returns-else-below : goal.returns-else-below
returns-else-below c =
    small_within _ _ _ _ c.requires.t_high c.requires.k_low c.requires.k_high c.if-k-gt60.true _ _ c.if-below.false
    c.tripled_small.ensures c.is_within.ensures

pub returns-then-u-le576460752303423488 : goal.returns-then-u-le576460752303423488
returns-then-u-le576460752303423488 c =
    low_passes _ _ _ _ c.requires.t_high c.requires.k_low c.requires.k_high _ c.if-k-gt60.false refl c.if-below-2.true
    c.if-u-le576460752303423488.true

pub returns-then-u-le998459311558907193 : goal.returns-then-u-le998459311558907193
returns-then-u-le998459311558907193 c =
    high_within _ _ _ _ c.requires.t_high c.requires.k_low c.requires.k_high _ c.if-k-gt60.false refl _ _ c.tripled_large.ensures
    c.if-below-2.true c.if-u-le576460752303423488.false c.if-u-le998459311558907193.true
    c.is_within-then-u-le998459311558907193.ensures

pub returns-else-u-le998459311558907193 : goal.returns-else-u-le998459311558907193
returns-else-u-le998459311558907193 c =
    high_fails _ _ _ _ c.requires.t_high c.requires.k_low c.requires.k_high _ c.if-k-gt60.false refl c.if-below-2.true
    c.if-u-le576460752303423488.false c.if-u-le998459311558907193.false

pub returns-then-u-le576460752303423488-2 : goal.returns-then-u-le576460752303423488-2
returns-then-u-le576460752303423488-2 c =
    low_within _ _ _ _ c.requires.t_high c.requires.k_low c.requires.k_high _ c.if-k-gt60.false refl _ _
    c.tripled_large-then-u-le576460752303423488-2.ensures c.if-below-2.false c.if-u-le576460752303423488-2.true
    c.is_within-then-u-le576460752303423488-2.ensures

pub returns-else-u-le576460752303423488-2 : goal.returns-else-u-le576460752303423488-2
returns-else-u-le576460752303423488-2 c =
    high_none _ _ _ _ c.requires.t_high c.requires.k_low c.requires.k_high _ c.if-k-gt60.false refl c.if-below-2.false
    c.if-u-le576460752303423488-2.false
