use Rattle.std.proofs.Common.{sym, ◌∙◌}
use Rattle.std.proofs.lemmas.Result.{on_ok_weaker}
use Rattle.vi_bytes.specs.Mappings.{with_mapping}
use Rattle.vi_plain.proofs.Domains.{with_mappings-none, with_mappings-set}
use Rattle.vi_plain.proofs.device.effects.map.Goals as goal

pub returns-in-None-clause-ok : goal.returns-in-None-clause-ok
returns-in-None-clause-ok c =
    sym (with_mappings-none c.args.id (with_mapping c.args.mapping) c.args.domains.now (sym c.place_of.ensures ∙ c.in-None.is))

pub returns-in-Some-clause-ok : goal.returns-in-Some-clause-ok
returns-in-Some-clause-ok c = on_ok_weaker c.map.result (λ now.
    rw now (with_mappings-set c.args.id (with_mapping c.args.mapping) c.args.domains.now c.in-Some.place c.index-domains-place.result c.requires.own_ids (sym c.place_of.ensures ∙ c.in-Some.is))) c.map.ensures.ok
