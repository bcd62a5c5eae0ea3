use Rattle.std.proofs.Common.{◌≡◌, ◌==◌, true, None, is_some, refl, sym, ap, ◌∙◌, arith}
use Rattle.std.specs.List.{find}
use Rattle.vi_bytes.specs.declared.region.Membership.TheVariants.{Member}
use Rattle.vi_history.specs.Effects.{moved, inhabited}
use Rattle.vi_device.specs.Kept.{domain_in}
use Rattle.vi_device.proofs.TableLemmas.{none_by_test}
use Rattle.vi_device.proofs.EffectLemmas.{joined, joined_new, joined_old, joined_room}
use Rattle.vi_device.proofs.device.Device.attach.Goals as goal

pub add-requires-clause-room : goal.add-requires-clause-room
add-requires-clause-room c =
    let es = c.self.inside.endpoints in
    let ds = c.self.inside.domains.domains in
    let now = c.move_to.ensures.moved in
    let known : is_some (find (λ x. x.id == c.args.endpoint) es) ≡ true = rw (← c.self.view_is) at c.requires in
    let lives = joined c.args.endpoint c.args.domain es known in
    let after = moved c.args.endpoint (Member c.args.domain) es in
    let kept : c.keep_inhabited.new.self.domains ≡ inhabited after ds = ap (λ d. d.domains) c.keep_inhabited.ensures.kept ∙ ap (λ s. inhabited s ds) now in
    let none : domain_in c.args.domain (inhabited after ds) ≡ None = none_by_test (domain_in c.args.domain (inhabited after ds)) (rw (← kept) (sym c.exists.ensures ∙ c.if-not-exists.true)) in
    let room = joined_room after c.args.domain ds c.keep_inhabited.ensures.distinct lives none in
    let few = rw now at c.move_to.ensures.few in
    rw kept (omega (arith, room, few))

pub returns-then-not-exists : goal.returns-then-not-exists
returns-then-not-exists c =
    let es = c.self.inside.endpoints in
    let ds = c.self.inside.domains.domains in
    let now = c.move_to.ensures.moved in
    let known : is_some (find (λ x. x.id == c.args.endpoint) es) ≡ true = rw (← c.self.view_is) at c.requires in
    let lives = joined c.args.endpoint c.args.domain es known in
    let after = moved c.args.endpoint (Member c.args.domain) es in
    let kept : c.keep_inhabited.new.self.domains ≡ inhabited after ds = ap (λ d. d.domains) c.keep_inhabited.ensures.kept ∙ ap (λ s. inhabited s ds) now in
    let none : domain_in c.args.domain (inhabited after ds) ≡ None = none_by_test (domain_in c.args.domain (inhabited after ds)) (rw (← kept) (sym c.exists.ensures ∙ c.if-not-exists.true)) in
    rw (sym c.is_in.ensures ∙ c.if-is_in.false, ← c.self.view_is, c.add.ensures, c.keep_inhabited.ensures.kept, now, joined_new after c.args.domain c.args.bypass ds lives none) refl

pub returns-else-not-exists : goal.returns-else-not-exists
returns-else-not-exists c =
    let es = c.self.inside.endpoints in
    let ds = c.self.inside.domains.domains in
    let now = c.move_to.ensures.moved in
    let known : is_some (find (λ x. x.id == c.args.endpoint) es) ≡ true = rw (← c.self.view_is) at c.requires in
    let lives = joined c.args.endpoint c.args.domain es known in
    let after = moved c.args.endpoint (Member c.args.domain) es in
    let kept : c.keep_inhabited.new.self.domains ≡ inhabited after ds = ap (λ d. d.domains) c.keep_inhabited.ensures.kept ∙ ap (λ s. inhabited s ds) now in
    let some : is_some (domain_in c.args.domain (inhabited after ds)) ≡ true = rw (← kept) (sym c.exists.ensures ∙ c.if-not-exists.false) in
    rw (sym c.is_in.ensures ∙ c.if-is_in.false, ← c.self.view_is, c.keep_inhabited.ensures.kept, now, joined_old after c.args.domain c.args.bypass ds lives some) refl
