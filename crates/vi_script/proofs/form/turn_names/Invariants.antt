use Rattle.std.proofs.Common.{◌≡◌, length}
use Rattle.vi_script.specs.Forms.{turns_in_words}
use Rattle.vi_script.specs.Names.{all_turned}
use Rattle.vi_script.proofs.ReadLemmas.{behind}
use Rattle.vi_script.proofs.form.turn_names.Given as goal

abbrev pub invariant-loop-word : goal.invariant-loop-word
invariant-loop-word l = turns_in_words l.initial.words ≡ behind (all_turned l.names.items) (turns_in_words l.words)

abbrev pub decreases-loop-word : goal.decreases-loop-word
decreases-loop-word l = length l.words
