use Rattle.vi_bytes.specs.Spans.{meets}
use Rattle.vi_device.proofs.TableLemmas.{is_some-find}
use Rattle.vi_device.proofs.table.Table.meets.Goals as goal

pub returns : goal.returns
returns c = rw (← c.self.view_is, ← is_some-find (λ m. meets m.span c.args.span.now) c.self.inside.tree.mappings, ← c.meeting.ensures.found) c.is_some.ensures
