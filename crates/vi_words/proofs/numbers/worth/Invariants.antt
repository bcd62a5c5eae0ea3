use Rattle.std.proofs.Common.{◌≡◌, ◌<◌, ◌^◌, drop}
use Rattle.vi_words.specs.Numbers.{bounded, digits_in}
use Rattle.vi_words.proofs.NumberLemmas.{more_worth}
use Rattle.vi_words.proofs.numbers.worth.Given as goal

abbrev pub invariant-loop-byte : goal.invariant-loop-byte
invariant-loop-byte l = record {
  worth : bounded (digits_in l.base l.word) ≡ more_worth l.base l.worth (drop l.byte-index l.word);
  fits : l.worth < 2 ^ 64;
}
