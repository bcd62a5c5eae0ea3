use Rattle.std.proofs.Common.{◌<◌, length, refl, ap, sym, ◌∙◌}
use Rattle.vi_core.specs.DriverTurns.{first_of, line_in}
use Rattle.vi_core.proofs.DriverTurns.{collected_none, collected_open, collects, collects_nothing}
use Rattle.vi_core.proofs.driving.collect_first.Goals as goal

pub collected-finished-requires : goal.collected-finished-requires
collected-finished-requires c =
    let e = rw c.number-number.ensures at c.collect.ensures.line in
    collected_open (first_of c.args.control.now.state c.args.driver.now) c.in-Some.line _ (ap line_in (sym e) ∙ sym c.line_of.ensures ∙ c.in-Some.is) c.requires.answered

pub returns-in-None : goal.returns-in-None
returns-in-None c =
    let e = rw c.number-number.ensures at c.collect.ensures.line in
    let r = rw c.number-number.ensures at c.collect.ensures.rest in
    let none = collected_none (first_of c.args.control.now.state c.args.driver.now) (ap line_in (sym e) ∙ sym c.line_of.ensures ∙ c.in-None.is) in
    collects_nothing c.args.control.now c.collect.new.self c.args.driver.now r none

pub returns-in-Some : goal.returns-in-Some
returns-in-Some c =
    let e = rw c.number-number.ensures at c.collect.ensures.line in
    let r = rw c.number-number.ensures at c.collect.ensures.rest in
    let p = rw (c.number-number.ensures, r) at c.post.ensures in
    let lt : c.args.driver.now.number < length c.args.control.now.state.ports = rw c.requires.ports (c.requires.number) in
    collects _ _ _ _ (first_of c.args.control.now.state c.args.driver.now) c.in-Some.line c.collected-finished.result lt refl (ap line_in (sym e) ∙ sym c.line_of.ensures ∙ c.in-Some.is) p c.collected-finished.ensures.closed c.collected-finished.ensures.finished
