use Rattle.std.proofs.Common.{◌≡◌, None, is_some, sym, ap, ◌∙◌}
use Rattle.vi_grants.specs.Rows.{grant_of}
use Rattle.vi_grants.proofs.MarkLemmas.{unmarked_none, others-none}
use Rattle.vi_grants.proofs.row.take_out.Goals as goal
use Rattle.vi_grants.proofs.row.take_out.Goals.{Then-not-has}

none : (c : Then-not-has) → grant_of c.args.asked c.args.grants.now.items ≡ None
none c = unmarked_none c.args.marks.now c.args.asked c.args.grants.now.items c.requires (sym c.has.ensures ∙ c.if-not-has.true)

pub returns-then-not-has-clause-had : goal.returns-then-not-has-clause-had
returns-then-not-has-clause-had c = ap is_some (sym (none c))

pub returns-then-not-has-clause-items : goal.returns-then-not-has-clause-items
returns-then-not-has-clause-items c = sym (others-none c.args.asked c.args.grants.now.items (none c))
