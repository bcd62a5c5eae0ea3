use Rattle.std.proofs.Common.{◌∙◌, sym}
use Rattle.std.proofs.lemmas.Bool.{false≢true}
use Rattle.vi_trace.proofs.Stepping.{no_ack, none_open, no_items, moves_ack}
use Rattle.vi_trace.proofs.state.State.up.Goals as goal

pub returns-then-not-is_ack : goal.returns-then-not-is_ack
returns-then-not-is_ack c = λ known holds. no_ack known c.args.bytes.now (λ reads. false≢true (sym c.if-not-is_ack.true ∙ c.is_ack.ensures.1 reads))

pub returns-in-Some : goal.returns-in-Some
returns-in-Some c = λ known holds.
    moves_ack known c.args.bytes.now c.in-Some.span c.args.self.now (record { waiting = c.pop_front.new.self; cache = c.forget.new.cache }) holds (c.is_ack.ensures.0 c.if-not-is_ack.false)
    c.in-Some.ensures.items c.forget.ensures.taken c.forget.ensures.kept

pub returns-in-None : goal.returns-in-None
returns-in-None c = λ known holds.
    none_open known c.args.bytes.now c.args.self.now holds (c.is_ack.ensures.0 c.if-not-is_ack.false) (no_items c.args.self.now.waiting.items (c.in-None.ensures.items ∙ c.in-None.ensures.rest))
