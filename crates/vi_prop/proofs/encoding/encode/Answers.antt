use Rattle.std.proofs.Common.{◌≡◌, length, ap, sym, ◌∙◌, subst, arith}
use Rattle.vi_bytes.specs.Properties.{ReadsFrom, Regions}
use Rattle.vi_bytes.proofs.PropertyLemmas.{ReadsFrom-property_bytes}
use Rattle.vi_prop.proofs.Filled.{filled, IsFilled-start, IsFilled-more, filled-all}
use Rattle.vi_prop.proofs.encoding.encode.Goals as goal

pub loop-i-init : goal.loop-i-init
loop-i-init c = IsFilled-start c.args.regions.now

pub loop-i-preserved : goal.loop-i-preserved
loop-i-preserved c =
    rw c.put_property.ensures.bytes (IsFilled-more c.args.regions.now c.loop-i.i c.loop-i.bytes _ c.loop-i-test.true c.loop-i.invariant c.put_property.ensures.within)

pub returns-clause-bytes : goal.returns-clause-bytes
returns-clause-bytes c =
    let all : c.loop-i.i ≡ length c.args.regions.now = omega arith in
    c.loop-i.invariant.filled_to ∙ ap (filled c.args.regions.now) all ∙ filled-all c.args.regions.now c.requires

pub returns-clause-reads : goal.returns-clause-reads
returns-clause-reads c = λ proper.
    subst (λ bytes. ReadsFrom bytes 0 (Regions c.args.regions.now)) (sym (returns-clause-bytes c)) (ReadsFrom-property_bytes c.args.regions.now c.requires proper (λ k d h. c.loop-i.invariant.within k d (omega arith)))
