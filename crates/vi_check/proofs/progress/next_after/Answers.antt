use Rattle.std.proofs.Common.{sym}
use Rattle.vi_lines.proofs.IndexLemmas.{line_of-caller}
use Rattle.vi_check.proofs.progress.next_after.Goals as goal

pub parts-parts-requires : goal.parts-parts-requires
parts-parts-requires c =
    (line_of-caller c.args.script.now c.args.entry.now.mark.caller c.args.entry.now.mark.line c.in-Some.line.now c.requires.transfers (sym c.in-Some.ensures)).1
