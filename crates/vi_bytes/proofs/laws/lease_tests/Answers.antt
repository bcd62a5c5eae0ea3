use Rattle.vi_bytes.specs.Leases.{ReachesInto}
use Rattle.vi_bytes.proofs.LeaseLemmas.{SharePage-from_ends, share_page-from_SharePage, ReachesInto-from_pages, pages-from_ReachesInto, reaches_into-from_pages, pages-from_reaches_into}
use Rattle.vi_bytes.proofs.laws.lease_tests.Goals as goal

pub returns-clause-share_page : goal.returns-clause-share_page
returns-clause-share_page c = λ l k l_lease k_lease. (SharePage-from_ends l k l_lease k_lease, share_page-from_SharePage l k)

pub returns-clause-reaches_into : goal.returns-clause-reaches_into
returns-clause-reaches_into c = λ l s lease proper. (
  (λ test. let h = pages-from_reaches_into l s lease test in ReachesInto-from_pages l s lease proper h.0 h.1),
  (λ (reaches : ReachesInto l s). let h = pages-from_ReachesInto l s reaches in reaches_into-from_pages l s lease h.0 h.1),
)
