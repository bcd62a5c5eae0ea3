use Rattle.vi_removals.proofs.Takes.{is_some-what}
use Rattle.vi_removals.proofs.removals.Removals.what_of.Goals as goal

pub unwrap-requires : goal.unwrap-requires
unwrap-requires c =
    let taking = rw (← c.self.view_is) at c.requires in
    rw (c.what_of.ensures, c.as_slice.ensures.value) (is_some-what c.self.inside.ids.items c.args.task.now taking)
