use Rattle.std.proofs.Common.{ap, subst, refl}
use Rattle.vi_bytes.specs.Mappings.{AreApart}
use Rattle.vi_device.proofs.TableLemmas.{cut_by_ends}
use Rattle.vi_device.proofs.table.Table.is_cut.Goals as goal

pub returns-then-reaches_out : goal.returns-then-reaches_out
returns-then-reaches_out c =
    let apart = subst AreApart (ap (λ v. v.mappings) c.self.view_is) c.len.ensures.apart in
    rw (cut_by_ends c.args.span.now c.args.self.now.mappings apart c.requires, ← c.reaches_out.ensures, c.if-reaches_out.true) refl

pub returns-else-reaches_out : goal.returns-else-reaches_out
returns-else-reaches_out c =
    let apart = subst AreApart (ap (λ v. v.mappings) c.self.view_is) c.len.ensures.apart in
    rw (cut_by_ends c.args.span.now c.args.self.now.mappings apart c.requires, ← c.reaches_out.ensures, c.if-reaches_out.false) c.reaches_out-else-reaches_out.ensures
