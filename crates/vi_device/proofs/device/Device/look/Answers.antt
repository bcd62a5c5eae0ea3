use Rattle.std.proofs.Common.{◌≡◌, sym, ap, ◌∙◌, subst}
use Rattle.vi_history.specs.Translation.{look_by}
use Rattle.vi_device.specs.Seated.{endpoint_at}
use Rattle.vi_device.proofs.SeatLemmas.{IsOwn, look_at}
use Rattle.vi_device.proofs.device.Device.look.Goals as goal

pub returns-clause-aim : goal.returns-clause-aim
returns-clause-aim c =
    let dev = c.args.self.now.dev in
    let seen : c.self.inside.endpoints ≡ dev.endpoints = ap (λ v. v.dev.endpoints) c.self.view_is in
    let own = subst (λ es. IsOwn es c.args.place) seen c.domain.ensures.own_id in
    let domain : c.domain.result ≡ (endpoint_at dev.endpoints c.args.place).domain = c.domain.ensures.domain ∙ ap (λ es. (endpoint_at es c.args.place).domain) seen in
    c.look_by.ensures.aim ∙ ap (look_by dev c.args.address (endpoint_at dev.endpoints c.args.place).regions) domain ∙ sym (look_at dev c.args.place c.args.address own)
