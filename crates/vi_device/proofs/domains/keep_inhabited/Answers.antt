use Rattle.std.proofs.Common.{◌≡◌, ◌<◌, false, [], length, get_or, sym, ap, ◌∙◌, arith}
use Rattle.vi_history.specs.Effects.{is_inhabited}
use Rattle.vi_device.proofs.KeptLemmas.{Passed-removed, AreKept-removed}
use Rattle.vi_device.proofs.domains.keep_inhabited.Goals as goal

pub loop-place-preserved : goal.loop-place-preserved
loop-place-preserved c =
    let held = c.loop-place.held.items in
    let place = c.loop-place.place in
    let out = c.index.result.now in
    let lt : place < length held = omega (arith, c.loop-place-test.true, c.len.ensures, c.loop-place.held.ok.0) in
    let gone : is_inhabited c.args.endpoints.now (get_or held place out).id ≡ false = rw (← c.index.ensures) (sym c.if-is_inhabited.ensures) in
    let empty = c.clear.ensures ∙ ap (λ h. record { mappings = []; maps = h.table.maps }) c.remove-table.ensures.value in
    record {
      passed = rw c.remove-table.ensures.items (Passed-removed c.args.endpoints.now c.args.held.now.items held place out c.loop-place.invariant.passed lt gone);
      tables = λ maps kept. rw (c.remove-table.ensures.items, c.push_reserved.ensures.items)
          (AreKept-removed maps held c.loop-place.unused.items place c.remove-table.result c.clear.new.self (c.loop-place.invariant.tables maps kept) lt empty);
      count = omega (arith, c.loop-place.invariant.count, c.remove-table.ensures.len, c.push_reserved.ensures.len);
      held_room = c.remove-table.ensures.capacity ∙ c.loop-place.invariant.held_room;
      unused_room = c.push_reserved.ensures.capacity ∙ c.loop-place.invariant.unused_room;
    }
