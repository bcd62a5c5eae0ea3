use Rattle.std.proofs.Common.{refl, sym}
use Rattle.vi_lines.proofs.IndexLemmas.{row_places-set, row_places_push}
use Rattle.vi_lines.proofs.index.add_place.Goals as goal

pub returns-in_ok-push-in-Some : goal.returns-in_ok-push-in-Some
returns-in_ok-push-in-Some c = λ other.
    row_places-set c.args.rows.now.items c.in-Some.at c.index_mut-row.result.now _ c.args.caller c.args.place (cc) (sym c.index_mut-row.ensures.value) refl c.in_ok-push-in-Some.ensures.items other

pub returns-in_ok-push-in-None-2 : goal.returns-in_ok-push-in-None-2
returns-in_ok-push-in-None-2 c = λ other.
    let more = c.in_ok-push-in-None-2.ensures.items in
    let places = c.in_ok-push-in-None.ensures.items in
    rw more (row_places_push c.args.rows.now.items _ c.args.caller c.args.place (cc) refl (cc) other)
