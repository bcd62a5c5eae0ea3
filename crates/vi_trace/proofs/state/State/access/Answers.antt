use Rattle.std.proofs.Common.{sym, ◌∙◌, refl}
use Rattle.vi_trace.proofs.Stepping.{moves_use, not_permitted}
use Rattle.vi_trace.proofs.state.State.access.Goals as goal

pub returns-then-permits : goal.returns-then-permits
returns-then-permits c = λ known holds.
    moves_use known c.args.address c.args.need c.args.self.now _ holds refl (sym (c.permits.ensures known.cache holds.cache) ∙ c.if-permits.true)

pub returns-else-permits : goal.returns-else-permits
returns-else-permits c = λ known holds.
    not_permitted known c.args.address c.args.need (sym (c.permits.ensures known.cache holds.cache) ∙ c.if-permits.false)
