use Rattle.vi_backend.proofs.Cached.{granted_cached}
use Rattle.vi_backend.proofs.backend.Backend.next.Goals as goal

pub wish-requires : goal.wish-requires
wish-requires c = rw (c.peek.ensures, c.page_of.ensures.page) (granted_cached _ _ c.self.invariant.leases)
