use Rattle.std.proofs.Common.{◌≡◌, not, length, refl, arith}
use Rattle.vi_grants.specs.Rows.{GrantRow, is_met}
use Rattle.vi_grants.proofs.Finds.{count_by-from_lengths}
use Rattle.vi_grants.proofs.RowLemmas.{IsRow-filter}
use Rattle.vi_grants.proofs.MarkLemmas.{AreMarked-filter}
use Rattle.vi_grants.proofs.row.Row.take_span.Goals as goal

pub invariant_of-self : goal.invariant_of-self
invariant_of-self c =
    let row : GrantRow = record { grants = c.self.inside.grants.items; spare = c.self.inside.spare } in (
      rw c.leave_unmet.ensures.items (IsRow-filter (λ g. not (is_met c.args.span.now g)) row _ c.self.invariant.0),
      omega (arith, c.self.invariant.1, c.len-had.ensures, c.len.ensures, c.leave_unmet.ensures.fewer, c.leave_unmet.ensures.capacity),
      omega (arith, c.self.invariant.2, c.len-had.ensures, c.len.ensures, c.leave_unmet.ensures.fewer),
      c.self.invariant.3,
      rw c.leave_unmet.ensures.items (AreMarked-filter c.self.inside.marks (λ g. not (is_met c.args.span.now g)) c.self.inside.grants.items c.self.invariant.4),
    )

pub returns-clause-answer : goal.returns-clause-answer
returns-clause-answer c =
    let had : c.len-had.result ≡ length c.self.inside.grants.items = omega (arith, c.len-had.ensures, c.self.inside.grants.ok.0) in
    let left : c.len.result ≡ length c.leave_unmet.new.grants.items = omega (arith, c.len.ensures, c.leave_unmet.new.grants.ok.0) in
    rw (← c.self.view_is) (count_by-from_lengths (is_met c.args.span.now) c.self.inside.grants.items c.leave_unmet.new.grants.items c.len-had.result c.len.result had left c.leave_unmet.ensures.items)

pub returns-clause-rest : goal.returns-clause-rest
returns-clause-rest c =
    let taken = rw (← c.self.view_is) at (returns-clause-answer c) in
    rw (← c.self.view_is, taken, c.leave_unmet.ensures.items) refl

pub returns-clause-row : goal.returns-clause-row
returns-clause-row c = (invariant_of-self c).0
