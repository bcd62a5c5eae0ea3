use Rattle.std.proofs.Common.{rules, ◌+◌, refl}
use Rattle.vi_turns.proofs.Closing.{opens_at}
use Rattle.vi_turns.proofs.shared.Shared.build.Goals as goal

pub laid-requires : goal.laid-requires
laid-requires c =
    let control = c.requires.control in
    opens_at _ c.args.control c.args.pages.items (c.len-count.result + 2) _ _ c.requires.playable control.0 control.1 c.requires.pages (search rules) refl c.in_ok-slots.ensures.slots
