use Rattle.std.proofs.Common.{◌&&◌, ap, sym, ◌∙◌}
use Rattle.std.specs.List.{list_all}
use Rattle.vi_driver.specs.Drivers.{OwnDriver}
use Rattle.vi_driver.specs.Drivers as driver
use Rattle.vi_backend.specs.Own.{Own}
use Rattle.vi_backend.specs.Wishes as back
use Rattle.vi_core.specs.Inner.{parts_of}
use Rattle.vi_core.proofs.Ending.{all_finished}
use Rattle.vi_core.proofs.Moving.{true_false}
use Rattle.vi_core.proofs.Well.{kept_well, finished_ordered}
use Rattle.vi_core.proofs.world.World.finished.Goals as goal

pub returns-then-are_drivers_finished-clause-finished : goal.returns-then-are_drivers_finished-clause-finished
returns-then-are_drivers_finished-clause-finished c =
    let drivers = sym c.if-are_drivers_finished.true ∙ c.are_drivers_finished.ensures ∙ ap (list_all (λ (d : OwnDriver). driver.is_finished d)) c.deref.ensures.value in
    let backs = c.are_backs_finished.ensures ∙ ap (list_all (λ (b : Own). back.is_finished b)) c.deref-then-are_drivers_finished.ensures.value in
    rw (← c.self.view_is) (backs ∙ ap (λ b. b && list_all (λ (x : Own). back.is_finished x) c.self.inside.backs.items) drivers ∙ all_finished (parts_of c.self.inside) c.self.invariant)

pub returns-else-are_drivers_finished-clause-finished : goal.returns-else-are_drivers_finished-clause-finished
returns-else-are_drivers_finished-clause-finished c =
    let drivers = sym c.if-are_drivers_finished.false ∙ c.are_drivers_finished.ensures ∙ ap (list_all (λ (d : OwnDriver). driver.is_finished d)) c.deref.ensures.value in
    rw (← c.self.view_is) (c.if-are_drivers_finished.false ∙ ap (λ b. b && list_all (λ (x : Own). back.is_finished x) c.self.inside.backs.items) drivers ∙ all_finished (parts_of c.self.inside) c.self.invariant)

pub returns-then-are_drivers_finished-clause-well : goal.returns-then-are_drivers_finished-clause-well
returns-then-are_drivers_finished-clause-well c = rw (← c.self.view_is) (kept_well (parts_of c.self.inside) c.self.invariant)

pub returns-else-are_drivers_finished-clause-well : goal.returns-else-are_drivers_finished-clause-well
returns-else-are_drivers_finished-clause-well c = rw (← c.self.view_is) (kept_well (parts_of c.self.inside) c.self.invariant)

pub returns-then-are_drivers_finished-clause-ordered : goal.returns-then-are_drivers_finished-clause-ordered
returns-then-are_drivers_finished-clause-ordered c = λ done.
    let backs = c.are_backs_finished.ensures ∙ ap (list_all (λ (b : Own). back.is_finished b)) c.deref-then-are_drivers_finished.ensures.value in
    let drivers = sym c.if-are_drivers_finished.true ∙ c.are_drivers_finished.ensures ∙ ap (list_all (λ (d : OwnDriver). driver.is_finished d)) c.deref.ensures.value in
    rw (← c.self.view_is) (finished_ordered (parts_of c.self.inside) c.self.invariant
    (sym (backs ∙ ap (λ b. b && list_all (λ (x : Own). back.is_finished x) c.self.inside.backs.items) drivers ∙ all_finished (parts_of c.self.inside) c.self.invariant) ∙ done))

pub returns-else-are_drivers_finished-clause-ordered : goal.returns-else-are_drivers_finished-clause-ordered
returns-else-are_drivers_finished-clause-ordered c = λ done. absurd (true_false (sym done ∙ c.if-are_drivers_finished.false))
