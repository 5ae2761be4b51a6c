-- Every listing fits (`listing_fits`).
use Rattle.std.proofs.Common.{rules, ◌≡◌, ◌≤◌, length, take, sym, arith, length-take-le}
use Rattle.angle.specs.declared.Sine.TheVariants.{OfExact}
use Rattle.listing.proofs.Bound.{listing_fits}
use Rattle.listing_io.proofs.list_fd.Goals as goal

pub returns-clause-prefix_len : goal.returns-clause-prefix_len
returns-clause-prefix_len g c =
    let count = c.list_file-len.ensures.value in
    let room : length c.list_file-len.new.out ≡ 524328 = search rules in
    let fits : c.list_file-len.result ≤ length c.list_file-len.new.out =
    omega (arith, count, room, listing_fits OfExact (take c.in_ok-read.read c.read_file.new.buf)) in
    (fits, sym (length-take-le _ c.list_file-len.new.out fits))
