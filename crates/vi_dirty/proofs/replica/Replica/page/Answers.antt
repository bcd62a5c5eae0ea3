use Rattle.std.proofs.Common.{◌<◌, ◌∙◌, [], length}
use Rattle.vi_bytes.specs.declared.span.TheConstants.{PAGE}
use Rattle.vi_state.proofs.Pages.{take_whole, same_at}
use Rattle.vi_dirty.proofs.replica.Replica.page.Goals as goal

pub returns : goal.returns
returns c =
    let pages = c.self.inside.pages.items in
    let known : c.args.page < length pages = rw (← c.self.view_is) at c.requires in
    let all = c.read.ensures.bytes ∙ take_whole PAGE c.index.result.now c.read.ensures.whole ∙ c.index.ensures ∙ same_at pages c.args.page c.index.result.now [] known in
    rw (← c.self.view_is) all
