-- That a matrix of at most four rows is no large one.
use Rattle.std.proofs.Common.{ℕ, zero, suc, ◌*◌, ◌^◌, ◌<◌, ◌≤◌, arith}

pub square_small : (n : ℕ) → n ≤ 4 → n * (n * 8) < 2 ^ 63
square_small zero h = omega arith
square_small (suc zero) h = omega arith
square_small (suc (suc zero)) h = omega arith
square_small (suc (suc (suc zero))) h = omega arith
square_small (suc (suc (suc (suc zero)))) h = omega arith
square_small (suc (suc (suc (suc (suc n))))) h = absurd (omega arith)
