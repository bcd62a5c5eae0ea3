use Rattle.std.proofs.Common.{◌≡◌, ◌*◌, sym, ap, ◌∙◌, subst}
use Rattle.vi_bytes.specs.declared.span.TheConstants.{PAGE}
use Rattle.vi_history.specs.Runs.{mapping_by}
use Rattle.vi_device.specs.Seated.{endpoint_at}
use Rattle.vi_device.proofs.SeatLemmas.{IsOwn, mapping_through_at}
use Rattle.vi_device.proofs.device.Device.mapping_through.Goals as goal

pub returns : goal.returns
returns c =
    let dev = c.args.self.now.dev in
    let seen : c.self.inside.endpoints ≡ dev.endpoints = ap (λ v. v.dev.endpoints) c.self.view_is in
    let own = subst (λ es. IsOwn es c.args.place) seen c.domain.ensures.own_id in
    let domain : c.domain.result ≡ (endpoint_at dev.endpoints c.args.place).domain = c.domain.ensures.domain ∙ ap (λ es. (endpoint_at es c.args.place).domain) seen in
    c.mapping_by.ensures ∙ ap (mapping_by dev (PAGE * c.args.page)) domain ∙ sym (mapping_through_at dev c.args.place c.args.page own)
