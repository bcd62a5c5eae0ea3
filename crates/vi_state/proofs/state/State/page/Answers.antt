use Rattle.std.proofs.Common.{◌<◌, ◌∙◌, [], length, arith}
use Rattle.vi_bytes.specs.declared.span.TheConstants.{PAGE}
use Rattle.vi_state.proofs.Pages.{take_whole, same_at}
use Rattle.vi_state.proofs.state.State.page.Goals as goal

pub returns-clause-bytes : goal.returns-clause-bytes
returns-clause-bytes c =
    let pages = c.self.inside.pages.items in
    let known : c.args.page < c.self.inside.device.dev.pages = rw (← c.self.view_is) at c.requires in
    let within : c.args.page < length pages = omega (arith, known, c.self.invariant.pages) in
    let all = c.read.ensures.bytes ∙ take_whole PAGE c.index.result.now c.read.ensures.whole ∙ c.index.ensures ∙ same_at pages c.args.page c.index.result.now [] within in
    rw (← c.self.view_is) all
