use Rattle.std.proofs.Common.{◌∙◌, ap, map, length, rules}
use Rattle.std.proofs.lemmas.List.{length-replicate}
use Rattle.vi_state.proofs.Opening.{start_state}
use Rattle.vi_state.proofs.state.State.new.Goals as goal

pub invariant_of-result : goal.invariant_of-result
invariant_of-result c =
    let ids = c.in_ok-ids.ensures ∙ ap (map (λ e. e.id)) c.as_slice.ensures in
    let size = ap length c.in_ok-pages.ensures ∙ length-replicate c.args.setup.now.memory _ in
    rw (c.in_ok-device.ensures.device, ids, size) (start_state c.args.setup.now c.args.maps c.requires (search rules))
