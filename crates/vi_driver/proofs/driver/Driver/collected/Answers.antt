use Rattle.std.proofs.Common.{◌∙◌}
use Rattle.vi_driver.proofs.Finished.{others_submitted}
use Rattle.vi_driver.proofs.driver.Driver.collected.Goals as goal

pub finished_first-requires : goal.finished_first-requires
finished_first-requires c =
    others_submitted c.self.inside.open.items c.deref.result.now c.args.line c.self.inside.submitted (c.deref.ensures.0 ∙ c.close.ensures) c.self.invariant.open_each

pub invariant_of-self : goal.invariant_of-self
invariant_of-self c = record {
  open_each = others_submitted c.self.inside.open.items c.close.new.open_lines.items c.args.line c.self.inside.submitted c.close.ensures c.self.invariant.open_each;
  submitted = c.self.invariant.submitted;
  few = c.self.invariant.few;
}
