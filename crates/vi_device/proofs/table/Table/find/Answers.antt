use Rattle.vi_bytes.specs.Spans.{has}
use Rattle.vi_device.specs.Tables.{IsInRange}
use Rattle.vi_device.proofs.TableLemmas.{All-find, Has-find}
use Rattle.vi_device.proofs.table.Table.find.Goals as goal

pub returns-clause-within : goal.returns-clause-within
returns-clause-within c = rw c.find.ensures.found (Has-find c.args.address c.self.inside.tree.mappings)

pub returns-clause-ranges : goal.returns-clause-ranges
returns-clause-ranges c = rw c.find.ensures.found (All-find IsInRange (λ m. has m.span c.args.address) c.self.inside.tree.mappings c.self.invariant.ranges)
