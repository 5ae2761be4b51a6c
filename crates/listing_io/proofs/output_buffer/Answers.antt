-- For any n, so that nothing counts to 524,328.
use Rattle.std.proofs.Common.{◌≡◌, ℕ, length, replicate, sym}
use Rattle.std.proofs.lemmas.List.{length-replicate}
use Rattle.listing_io.proofs.output_buffer.Goals as goal

zeros : (n b : ℕ) → n ≡ length (replicate n b)
zeros n b = sym (length-replicate n b)

pub returns : goal.returns
returns c = zeros 524328 0
