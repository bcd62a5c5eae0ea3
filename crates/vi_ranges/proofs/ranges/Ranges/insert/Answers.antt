use Rattle.std.proofs.Common.{◌≤◌, arith, sym}
use Rattle.vi_bytes.specs.Mappings.{AreApart}
use Rattle.vi_ranges.proofs.MappingLemmas.{AreApart-with_mapping}
use Rattle.vi_ranges.proofs.ranges.Ranges.insert.Goals as goal
use Rattle.vi_ranges.proofs.ranges.Ranges.insert.Goals.{After-put_among}

apart : (c : After-put_among) → AreApart c.put_among.new.mappings.items
apart c =
    rw c.put_among.ensures.items
    (AreApart-with_mapping c.args.m c.self.inside.mappings.items c.requires.proper c.self.invariant.0 (rw c.deref.ensures.value at (sym c.in-None.ensures)))

pub invariant_of-self : goal.invariant_of-self
invariant_of-self c =
    let room : 1 ≤ c.self.inside.spare = rw (← c.self.view_is) at (c.requires.room) in
    (apart (goal.at.invariant_of-self c).After-put_among, omega arith, omega arith)

pub returns-in-None-clause-apart : goal.returns-in-None-clause-apart
returns-in-None-clause-apart c = apart (goal.at.returns-in-None-clause-apart c).After-put_among
