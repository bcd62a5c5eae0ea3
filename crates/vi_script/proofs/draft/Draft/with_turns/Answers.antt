use Rattle.std.proofs.Common.{refl}
use Rattle.vi_script.proofs.NameLemmas.{kept_turns}
use Rattle.vi_script.proofs.draft.Draft.with_turns.Goals as goal

pub returns : goal.returns
returns c = rw (← c.self.view_is, c.in_ok-add_turns.ensures, kept_turns c.args.names.now c.requires.fit c.requires.drivers) refl
