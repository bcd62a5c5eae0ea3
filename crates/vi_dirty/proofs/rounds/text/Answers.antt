use Rattle.std.proofs.Common.{◌++◌, ◌∙◌, ℕ, List, ap, Vec, Global}
use Rattle.vi_history.specs.Device.{One}
use Rattle.vi_dirty.specs.Rounds.{dirty_text, text_from}
use Rattle.vi_dirty.proofs.rounds.text.Goals as goal

pub returns : goal.returns
unfolding dirty_text
returns c = λ calls are.
    c.from_vec.ensures ∙ ap (λ (v : Vec ℕ Global). v.items) c.into_bytes.ensures.value ∙ c.in_ok-push_text.ensures calls are
    ∙ ap (λ (l : List ℕ). l ++ text_from c.args.every c.in_ok-course.course.tracker.one calls) c.new-out.ensures.bytes ∙ ap (λ (one : One). text_from c.args.every one calls) c.in_ok-course.ensures.one
