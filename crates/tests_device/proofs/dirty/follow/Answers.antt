use Rattle.std.proofs.Common.{[], ◌∷◌, ◌∙◌, length, sym, ap}
use Rattle.vi_dirty.specs.Tracked.{TrackerValue}
use Rattle.tests_device.proofs.dirty.follow.Goals as goal

pub follow-requires-clause-pages : goal.follow-requires-clause-pages
follow-requires-clause-pages c =
    let w = c.replicas_follow.ensures c.args.tracker.now (c.args.call.now ∷ []) (c.args.entry.now ∷ []) (c.requires.right, tt) in
    rw (c.feed.ensures, c.requires.equal) (sym w.2)

pub follow-requires-clause-others : goal.follow-requires-clause-others
follow-requires-clause-others c =
    let w = c.replicas_follow.ensures c.args.tracker.now (c.args.call.now ∷ []) (c.args.entry.now ∷ []) (c.requires.right, tt) in
    rw (c.feed.ensures, c.requires.equal) w.1

pub returns-clause-size : goal.returns-clause-size
returns-clause-size c =
    let w = c.replicas_follow.ensures c.args.tracker.now (c.args.call.now ∷ []) (c.args.entry.now ∷ []) (c.requires.right, tt) in
    ap length (c.in_ok-pages.ensures.equal ∙ ap (λ (t : TrackerValue). t.one.memory) c.feed.ensures) ∙ w.2 ∙ ap length (sym c.requires.equal)
