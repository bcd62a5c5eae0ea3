use Rattle.std.proofs.Common.{◌≡◌, ◌||◌, drop}
use Rattle.vi_words.specs.Words.{has_bad_byte}
use Rattle.vi_words.proofs.words.has_bad_byte.Given as goal

abbrev pub invariant-loop-byte : goal.invariant-loop-byte
invariant-loop-byte l = (l.bad || has_bad_byte (drop l.byte-index l.line)) ≡ has_bad_byte l.line
