use Rattle.std.proofs.Common.{◌<◌, ◌∙◌, ℕ, All, sym, ap, subst}
use Rattle.vi_dirty.specs.Tracked.{TrackerValue}
use Rattle.vi_dirty.proofs.Leading.{led_pages}
use Rattle.vi_dirty.proofs.rounds.push_round.Goals as goal

pub extend-requires : goal.extend-requires
extend-requires c =
    let size = ap (λ (t : TrackerValue). t.one.dev.pages) c.in_ok-feed_all.ensures ∙ led_pages c.args.script.now c.args.round.now c.args.course.now.tracker ∙ sym c.requires.room in
    let below = subst (λ (n : ℕ). All (λ p. p < n) c.feed_all.new.tracker.set) size c.in_ok-pages.ensures.below in
    let are = c.as_slice.ensures.value ∙ c.in_ok-pages.ensures.pages in
    rw are below
