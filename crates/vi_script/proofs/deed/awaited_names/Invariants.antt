use Rattle.std.proofs.Common.{◌≡◌, length}
use Rattle.vi_script.specs.Forms.{awaits_in_words}
use Rattle.vi_script.specs.Names.{all_awaited}
use Rattle.vi_script.proofs.ReadLemmas.{behind}
use Rattle.vi_script.proofs.deed.awaited_names.Given as goal

abbrev pub invariant-loop-word : goal.invariant-loop-word
invariant-loop-word l = awaits_in_words l.initial.words ≡ behind (all_awaited l.names.items) (awaits_in_words l.words)

abbrev pub decreases-loop-word : goal.decreases-loop-word
decreases-loop-word l = length l.words
