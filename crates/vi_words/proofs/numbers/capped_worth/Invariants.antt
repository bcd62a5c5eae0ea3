use Rattle.std.specs.Option.{option_map}
use Rattle.std.proofs.Common.{◌≡◌, ◌≤◌, drop}
use Rattle.vi_words.specs.Numbers.{digits_in, capped}
use Rattle.vi_words.proofs.NumberLemmas.{more_capped}
use Rattle.vi_words.proofs.numbers.capped_worth.Given as goal

abbrev pub invariant-loop-byte : goal.invariant-loop-byte
invariant-loop-byte l = record {
  worth : option_map capped (digits_in 10 l.word) ≡ more_capped l.worth (drop l.byte-index l.word);
  most : l.worth ≤ 4294967296;
}
