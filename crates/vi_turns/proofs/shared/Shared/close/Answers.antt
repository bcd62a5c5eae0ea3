use Rattle.std.proofs.Common.{rules, arith, ap, ◌∙◌, subst}
use Rattle.vi_turns.specs.Passes.{PassValue, Board}
use Rattle.vi_turns.specs.Views.{remembered}
use Rattle.vi_turns.specs.Ended.{IsClosed}
use Rattle.vi_turns.proofs.Ends.{keeps_last}
use Rattle.vi_turns.proofs.Closing.{closes_as, is_shelf, whole, is_closed}
use Rattle.vi_turns.proofs.shared.Shared.close.Goals as goal

pub split_seat-keepsake-requires : goal.split_seat-keepsake-requires
split_seat-keepsake-requires c = (search rules, omega arith, keeps_last _ _ _)

pub emptied-control-requires-clause-shelf : goal.emptied-control-requires-clause-shelf
emptied-control-requires-clause-shelf c =
    is_shelf _ _ _
    (closes_as _ _ _ c.pass.inside.seat.me.0 _ _ _ c.close_with.ensures.values.2 (ap (λ m. m.0) c.split_seat-keepsake.ensures.2)
    c.pass.invariant.1 (ap (λ (p : PassValue). p.view) c.pass.view_is) c.requires.first c.requires.all)

pub of-requires : goal.of-requires
of-requires c =
    let e = closes_as _ _ _ c.pass.inside.seat.me.0 _ _ _ c.close_with.ensures.values.2 (ap (λ m. m.0) c.split_seat-keepsake.ensures.2)
    c.pass.invariant.1 (ap (λ (p : PassValue). p.view) c.pass.view_is) c.requires.first c.requires.all in
    whole _ _ _ _ e (ap (λ m. remembered m.0.remembers) c.split_seat-keepsake.ensures.4)

pub returns-clause-closed : goal.returns-clause-closed
returns-clause-closed c =
    let e = closes_as _ _ _ c.pass.inside.seat.me.0 _ _ _ c.close_with.ensures.values.2 (ap (λ m. m.0) c.split_seat-keepsake.ensures.2)
    c.pass.invariant.1 (ap (λ (p : PassValue). p.view) c.pass.view_is) c.requires.first c.requires.all in
    let is = c.of-2.ensures.last ∙ (c.of.ensures ∙ ap (λ m. remembered m.0.remembers) c.split_seat-keepsake.ensures.4) in
    let parts = c.of-2.ensures.parts in
    subst (λ (b : Board). IsClosed b.script c.of-2.result.last c.of-2.result.control c.of-2.result.pages.items) c.self.view_is
    (is_closed _ _ _ _ _ _ _ _ e is parts.0 parts.1 c.emptied-control.ensures)
