use Rattle.std.proofs.Common.{◌∙◌, sym, refl, subst, inl, inr}
use Rattle.vi_iotlb.specs.Frames.{ReadAs}
use Rattle.vi_iotlb.specs.declared.frame.Frame.{Frame}
use Rattle.vi_trace.specs.Rules.{GoesDown}
use Rattle.vi_trace.proofs.Stepping.{not_sent, over_open, moves_update, moves_invalidate}
use Rattle.vi_trace.proofs.state.State.send.Goals as goal

pub returns-then-is_open : goal.returns-then-is_open
returns-then-is_open c = λ known holds.
    let u = c.in-Update in
    let reads = subst (λ (f : Frame). ReadAs c.args.bytes.now f) u.is c.requires in
    over_open known c.args.bytes.now u.page u.count u.target u.perm c.args.self.now holds reads (sym c.is_open.ensures ∙ c.if-is_open.true)

pub returns-in_ok-keep-in-Update : goal.returns-in_ok-keep-in-Update
returns-in_ok-keep-in-Update c = λ known holds.
    let u = c.in-Update in
    let reads = subst (λ (f : Frame). ReadAs c.args.bytes.now f) u.is c.requires in
    moves_update known c.args.bytes.now u.page u.count u.target u.perm c.args.self.now (record { waiting = c.args.self.now.waiting; cache = c.keep.new.cache }) holds reads
    (sym c.is_open.ensures ∙ c.if-is_open.false) refl c.in_ok-keep-in-Update.ensures

pub returns-in_ok-push_back-in-Invalidate : goal.returns-in_ok-push_back-in-Invalidate
returns-in_ok-push_back-in-Invalidate c = λ known holds.
    let reads = subst (λ (f : Frame). ReadAs c.args.bytes.now f) c.in-Invalidate.is c.requires in
    moves_invalidate known c.args.bytes.now c.in-Invalidate.span c.args.self.now (record { waiting = c.push_back.new.self; cache = c.args.self.now.cache }) holds reads
    c.in_ok-push_back-in-Invalidate.ensures.items refl

pub returns-in-Miss : goal.returns-in-Miss
returns-in-Miss c = λ known holds. not_sent known c.args.bytes.now c.args.frame c.requires (λ goes. elim c.in-Miss.is [
  | inl is ↦ subst GoesDown is.3 goes
  | inr is ↦ subst GoesDown is.3 goes
])

pub returns-in-Ack : goal.returns-in-Ack
returns-in-Ack c = λ known holds. not_sent known c.args.bytes.now c.args.frame c.requires (λ goes. elim c.in-Ack.is [
  | inl is ↦ subst GoesDown is goes
  | inr is ↦ subst GoesDown is.1 goes
])
