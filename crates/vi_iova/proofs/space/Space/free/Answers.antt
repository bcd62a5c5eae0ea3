use Rattle.std.proofs.Common.{◌≡◌, true, refl, rules}
use Rattle.std.specs.List.{list_any}
use Rattle.vi_iova.specs.Spaces.{is_same}
use Rattle.vi_iova.proofs.Keeping.{kept_without}
use Rattle.vi_iova.proofs.Same.{found}
use Rattle.vi_iova.proofs.space.Space.free.Goals as goal

pub invariant_of-self : goal.invariant_of-self
invariant_of-self c = kept_without c.self.inside.granule c.self.inside.regions.items c.self.inside.kept_off.items c.self.inside.live.items c.take_out.new.live.items _ c.self.invariant c.take_out.ensures

pub returns-clause-was : goal.returns-clause-was
returns-clause-was c =
    let test : list_any (λ u. is_same u c.args.span.now) c.args.self.now.live ≡ true = search rules in
    (λ _. (found c.args.span.now c.args.self.now.live).0 test, λ _. refl)
