-- After i turns the first i words are written.
use Rattle.std.proofs.Common.{take, ◌+◌, ◌*◌, ◌≤◌}
use Rattle.text.specs.Written.{Written}
use Rattle.leafcases.specs.Lines.{words_of}
use Rattle.leafcases.proofs.lines.put_words.Given as goal

abbrev pub invariant-loop-word : goal.invariant-loop-word
invariant-loop-word l = Written l.fn.out (words_of (take l.word-index l.words)) l.out × (l.out.at ≤ l.fn.out.at + 17 * l.word-index)
