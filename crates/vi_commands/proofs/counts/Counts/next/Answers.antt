use Rattle.std.proofs.Common.{◌≡◌, ℕ, ◌+◌, Some, None, refl, sym, arith, ◌∙◌, ap}
use Rattle.std.specs.Prelude.{position}
use Rattle.vi_lines.specs.Calls.{same_caller}
use Rattle.vi_commands.proofs.CountLemmas.{number_for-found, number_for-none, number_for-set, number_for-push}
use Rattle.vi_commands.proofs.counts.Counts.next.Goals as goal

pub overflow_add-row : goal.overflow_add-row
overflow_add-row c =
    let found : position (λ row. same_caller row.caller c.args.caller) c.self.inside.rows.items ≡ Some c.in-Some.at = rw (← c.deref.ensures.value) (sym c.row_of.ensures ∙ c.in-Some.is) in
    let n = number_for-found c.self.inside.rows.items c.args.caller c.in-Some.at c.index_mut-row.result.now found c.index_mut-row.ensures.value in
    omega (arith, n, rw (← c.self.view_is) at c.requires)

pub returns-in-Some-clause-number : goal.returns-in-Some-clause-number
returns-in-Some-clause-number c =
    let found : position (λ row. same_caller row.caller c.args.caller) c.self.inside.rows.items ≡ Some c.in-Some.at = rw (← c.deref.ensures.value) (sym c.row_of.ensures ∙ c.in-Some.is) in
    let n = number_for-found c.self.inside.rows.items c.args.caller c.in-Some.at c.index_mut-row.result.now found c.index_mut-row.ensures.value in
    rw (← c.self.view_is) (ap (λ (k : ℕ). k + 1) (sym n))

pub returns-in-Some-clause-counted : goal.returns-in-Some-clause-counted
returns-in-Some-clause-counted c = λ other.
    let found : position (λ row. same_caller row.caller c.args.caller) c.self.inside.rows.items ≡ Some c.in-Some.at = rw (← c.deref.ensures.value) (sym c.row_of.ensures ∙ c.in-Some.is) in
    rw (← c.self.view_is) (number_for-set c.self.inside.rows.items c.args.caller c.in-Some.at c.index_mut-row.result.now _ found c.index_mut-row.ensures.value refl refl other)

pub returns-in_ok-push-in-None-clause-number : goal.returns-in_ok-push-in-None-clause-number
returns-in_ok-push-in-None-clause-number c =
    let none : position (λ row. same_caller row.caller c.args.caller) c.self.inside.rows.items ≡ None = rw (← c.deref.ensures.value) (sym c.row_of.ensures ∙ c.in-None.is) in
    rw (← c.self.view_is) (ap (λ (k : ℕ). k + 1) (sym (number_for-none c.self.inside.rows.items c.args.caller none)))

pub returns-in_ok-push-in-None-clause-counted : goal.returns-in_ok-push-in-None-clause-counted
returns-in_ok-push-in-None-clause-counted c = λ other.
    let none : position (λ row. same_caller row.caller c.args.caller) c.self.inside.rows.items ≡ None = rw (← c.deref.ensures.value) (sym c.row_of.ensures ∙ c.in-None.is) in
    rw (← c.self.view_is, c.in_ok-push-in-None.ensures.items) (number_for-push c.self.inside.rows.items c.args.caller _ none refl refl other)
