use Rattle.std.proofs.Common.{not}
use Rattle.std.proofs.lemmas.List.Elements.{All-same, All-filter}
use Rattle.vi_bytes.specs.Spans.{covers}
use Rattle.vi_plain.specs.Kept.{IsSound}
use Rattle.vi_bytes.specs.declared.lease.Mapping.{Mapping}
use Rattle.vi_plain.proofs.domain.Domain.unmap_if.Goals as goal

pub invariant_of-self : goal.invariant_of-self
invariant_of-self c =
    All-same IsSound _ _ c.remove_within.ensures (All-filter (λ (m : Mapping). not (covers c.args.span.now m.span)) IsSound c.self.inside.mappings.items c.self.invariant)
