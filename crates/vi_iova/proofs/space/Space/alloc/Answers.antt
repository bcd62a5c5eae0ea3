use Rattle.vi_iova.proofs.Keeping.{kept_put}
use Rattle.vi_iova.proofs.space.Space.alloc.Goals as goal

pub invariant_of-self : goal.invariant_of-self
invariant_of-self c =
    kept_put c.self.inside.granule c.self.inside.regions.items c.self.inside.kept_off.items c.self.inside.live.items c.put_among.new.live.items c.in-Some.span c.put_among.result
    c.self.invariant c.put_among.ensures.put c.put_among.ensures.err
