use Rattle.std.proofs.Common.{◌≡◌, ◌<◌, length, map, drop, Some, None, refl, sym, ◌∙◌, arith}
use Rattle.std.specs.Prelude.{slice_get}
use Rattle.std.proofs.lemmas.List.{drop-map, length-map, length-drop}
use Rattle.std.proofs.lemmas.Option.{slice_get-map, slice_get_within}
use Rattle.vi_history.specs.declared.outcome.Shown.{Shown}
use Rattle.vi_events.proofs.Waiting.{drop-one_more, empty-from_image}
use Rattle.vi_events.proofs.queue.EventQueue.take.Goals as goal

pub returns-in_err-bytes-clause-none : goal.returns-in_err-bytes-clause-none
returns-in_err-bytes-clause-none c =
    let waiting = drop c.self.inside.taken c.self.inside.shown.items in
    let none : slice_get (map (λ (s : Shown). s.bytes) waiting) 0 ≡ None = rw c.self.invariant.records (sym c.take.ensures.oldest ∙ c.in_err-bytes.was) in
    rw (← c.self.view_is, c.from_residual.ensures) (λ was. empty-from_image (λ (s : Shown). s.bytes) waiting none, λ was. refl)

pub invariant_of-self-2 : goal.invariant_of-self-2
invariant_of-self-2 c =
    let items = c.self.inside.shown.items in
    let waiting = drop c.self.inside.taken items in
    let first : slice_get (map (λ (s : Shown). s.bytes) waiting) 0 ≡ Some c.in_ok-bytes.bytes = rw c.self.invariant.records (sym c.take.ensures.oldest ∙ c.in_ok-bytes.was) in
    let some : 0 < length (map (λ (s : Shown). s.bytes) waiting) = slice_get_within _ 0 _ first in
    record {
      taken = omega (arith, some, length-map waiting (λ (s : Shown). s.bytes), length-drop c.self.inside.taken items);
      records = rw (c.take.ensures.rest, drop-one_more c.self.inside.taken items, ← c.self.invariant.records) (sym (drop-map (λ (s : Shown). s.bytes) 1 waiting));
      room = c.self.invariant.room;
    }

pub returns-clause-oldest : goal.returns-clause-oldest
returns-clause-oldest c =
    let waiting = drop c.self.inside.taken c.self.inside.shown.items in
    let first : slice_get (map (λ (s : Shown). s.bytes) waiting) 0 ≡ Some c.in_ok-bytes.bytes = rw c.self.invariant.records (sym c.take.ensures.oldest ∙ c.in_ok-bytes.was) in
    rw (← c.self.view_is) (sym first ∙ slice_get-map (λ (s : Shown). s.bytes) waiting 0)

pub returns-clause-rest : goal.returns-clause-rest
returns-clause-rest c = rw (← c.self.view_is, c.take.ensures.rest, drop-one_more c.self.inside.taken c.self.inside.shown.items) refl
