use Rattle.std.proofs.Common.{leb-true, le-leb}
use Rattle.vi_bytes.proofs.LeaseLemmas.{ReachesInto-from_pages, pages-from_ReachesInto}
use Rattle.vi_bytes.proofs.lease.Lease.meets.Goals as goal

pub returns-then-self-page_of-clause-reaches : goal.returns-then-self-page_of-clause-reaches
returns-then-self-page_of-clause-reaches c =
    let l = c.args.self.now in
    let s = c.args.span.now in
    rw (c.page_of-then-self-page_of.ensures.page, c.last_page.ensures) (
      (λ test. ReachesInto-from_pages l s c.requires.lease c.requires.proper (rw c.page_of.ensures.page at c.if-self-page_of.true) (leb-true _ _ test)),
      (λ reaches. le-leb _ _ (pages-from_ReachesInto l s reaches).1),
    )
