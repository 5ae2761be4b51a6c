-- A turn writes the line of one record, of 60 bytes at most, or the last line.
use Rattle.std.proofs.Common.{length, ◌+◌, ◌*◌, ◌<◌, ◌≤◌}
use Rattle.leafcases.proofs.Files.{Sofar}
use Rattle.leafcases.proofs.lines.put_records.Given as goal

abbrev pub invariant-loop-at : goal.invariant-loop-at
invariant-loop-at l = Sofar l.fn.out l.s l.out l.at × (l.at < length l.s + 14) × (14 * l.out.at ≤ 60 * l.at)
