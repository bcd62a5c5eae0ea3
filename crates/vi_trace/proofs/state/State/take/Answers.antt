use Rattle.std.proofs.Common.{List, ℕ, subst, sym, ap, ◌∙◌}
use Rattle.vi_trace.specs.declared.trace.Event.{Event}
use Rattle.vi_trace.specs.declared.trace.Event.TheVariants.{Up}
use Rattle.vi_trace.specs.Steps.{Steps}
use Rattle.vi_trace.proofs.state.State.take.Goals as goal

pub returns-in-Up : goal.returns-in-Up
returns-in-Up c = λ known holds.
    subst (λ (e : Event). Steps known e c.up.new.self c.up.result) (ap (λ (bytes : List ℕ). Up bytes) c.as_slice-in-Up.ensures ∙ sym c.in-Up.is) (c.up.ensures known holds)

pub returns-in-Access : goal.returns-in-Access
returns-in-Access c = λ known holds.
    subst (λ (e : Event). Steps known e c.access.new.self c.access.result) (sym c.in-Access.is) (c.access.ensures known holds)
