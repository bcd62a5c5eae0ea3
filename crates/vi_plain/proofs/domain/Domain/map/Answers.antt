use Rattle.std.proofs.lemmas.List.Elements.{All-same}
use Rattle.std.proofs.lemmas.Result.{on_ok_weaker, on_err_weaker}
use Rattle.vi_plain.specs.Kept.{IsSound}
use Rattle.vi_plain.proofs.Insertions.{All-with_mapping}
use Rattle.vi_plain.proofs.Outcomes.{either_way}
use Rattle.vi_plain.proofs.domain.Domain.map.Goals as goal

pub invariant_of-self : goal.invariant_of-self
invariant_of-self c =
    let more = All-with_mapping IsSound c.args.mapping c.self.inside.mappings.items c.requires c.self.invariant in
    either_way c.insert.result
    (on_ok_weaker c.insert.result (λ now. All-same IsSound _ _ now more) c.insert.ensures.ok)
    (on_err_weaker c.insert.result (λ now. All-same IsSound _ _ now c.self.invariant) c.insert.ensures.err)
