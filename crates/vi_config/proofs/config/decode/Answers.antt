use Rattle.std.proofs.Common.{sym, ◌∙◌, arith}
use Rattle.vi_config.proofs.Reading.{accepted, refused}
use Rattle.vi_config.proofs.config.decode.Goals as goal

pub returns-clause-accepted : goal.returns-clause-accepted
returns-clause-accepted c =
    let granule = c.in-Some.ensures.found in
    let input = c.in-Some-new.ensures in
    accepted c.args.bytes.now c.in-Some.granule _ _ c.in-Some-new.input (omega arith) granule.0 (sym c.u64_at-mask.ensures ∙ granule.1) c.u64_at-first.ensures c.u64_at-last.ensures input.span input.proper

pub returns-clause-refused : goal.returns-clause-refused
returns-clause-refused c =
    let granule = c.in-Some.ensures.found in
    let input = c.in-Some-new.ensures in
    refused c.args.bytes.now c.in-Some.granule _ _ c.in-Some-new.input (omega arith) granule.0 (sym c.u64_at-mask.ensures ∙ granule.1) c.u64_at-first.ensures c.u64_at-last.ensures input.span input.proper
