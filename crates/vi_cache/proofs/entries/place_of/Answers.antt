use Rattle.std.proofs.Common.{sym, ◌∙◌}
use Rattle.vi_bytes.specs.Leases.{has_page}
use Rattle.vi_cache.proofs.Lists.{find-drop_here}
use Rattle.vi_cache.proofs.entries.place_of.Goals as goal

pub returns-then-has_page-clause-found : goal.returns-then-has_page-clause-found
returns-then-has_page-clause-found c =
    let entries = c.args.entries.now in
    sym c.loop-at.invariant ∙ find-drop_here (λ l. has_page l c.args.page) entries c.loop-at.at _ c.loop-at-test.true (sym c.has_page.ensures.test ∙ c.if-has_page.true)
