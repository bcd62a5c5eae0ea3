use Rattle.std.proofs.Common.{◌∷◌, [], ◌++◌}
use Rattle.vi_script.specs.Names.{named}
use Rattle.vi_script.proofs.TallyLemmas.{table_small, table_by, open_calls-table}
use Rattle.vi_script.proofs.tally.Tally.open_calls_with.Goals as goal

pub with_line-requires-clause-few : goal.with_line-requires-clause-few
with_line-requires-clause-few c = rw c.self.invariant.batches (table_small c.self.inside.lines.items c.self.invariant.few)

pub returns : goal.returns
returns c = λ l caller add.
    let lines = c.self.inside.lines.items in
    rw (← c.self.view_is, c.calls_in.ensures, c.with_line.ensures, c.self.invariant.batches, ← add, ← table_by lines l (named c.args.caller) caller c.requires) (open_calls-table (lines ++ l ∷ []))
