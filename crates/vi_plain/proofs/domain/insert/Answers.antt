use Rattle.std.proofs.Common.{sym}
use Rattle.std.proofs.lemmas.List.Sums.{prefix_len-le-length}
use Rattle.vi_plain.proofs.Insertions.{begins_by, with_mapping-insert}
use Rattle.vi_plain.proofs.domain.insert.Goals as goal

pub insert-requires : goal.insert-requires
insert-requires c = rw (c.place_of-place.ensures, ← c.deref.ensures.len) (prefix_len-le-length (begins_by c.args.mapping.span.first) c.deref.result.now)

pub returns-clause-ok : goal.returns-clause-ok
returns-clause-ok c =
    rw (c.in_ok-insert.ensures.items, c.place_of-place.ensures, c.deref.ensures.value) (sym (with_mapping-insert c.args.mapping c.args.mappings.now.items))
