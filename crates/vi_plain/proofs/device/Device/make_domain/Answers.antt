use Rattle.std.proofs.Common.{◌≡◌, None, sym, ap, ◌∙◌}
use Rattle.std.specs.Option.{option_copied}
use Rattle.vi_history.specs.Device.{domain_of}
use Rattle.vi_plain.proofs.Domains.{HaveOwnIds-same, HaveOwnIds-push}
use Rattle.vi_plain.proofs.device.Device.make_domain.Goals as goal

pub invariant_of-self-in-None : goal.invariant_of-self-in-None
invariant_of-self-in-None c =
    let none : domain_of c.args.self.now c.args.id ≡ None = sym c.domain.ensures ∙ ap option_copied c.in-None.is in
    let new = rw (← c.self.view_is) at none in
    (c.self.invariant.0, HaveOwnIds-same _ _ c.in_ok-push-in-None.ensures.items (HaveOwnIds-push c.self.inside.domains.items c.new.result (rw c.new.ensures new) c.self.invariant.1))
