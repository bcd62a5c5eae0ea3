use Rattle.vi_bytes.specs.declared.lease.Need.TheVariants.{Write}
use Rattle.vi_state.proofs.Reaching.{keeps_offset}
use Rattle.vi_state.proofs.state.State.translate.Goals as goal

pub returns-clause-offset : goal.returns-clause-offset
returns-clause-offset c = rw (c.translate.ensures, ← c.self.view_is) (keeps_offset c.self.inside.device.maps c.self.inside.spare c.self.inside.device.dev _ c.args.address Write c.self.invariant.kept)
