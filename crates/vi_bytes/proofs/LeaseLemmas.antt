-- Leases as sets of pages, and their tests.
use Rattle.std.proofs.Common.{◌+◌, ◌-◌, ◌*◌, ◌/◌, ◌≤◌, ◌<◌, max, IsTrue, arith}
use Rattle.std.proofs.lemmas.Bool.Decides.{nat_tests}
use Rattle.vi_bytes.specs.declared.span.Span.{Span}
use Rattle.vi_bytes.specs.declared.lease.Lease.{Lease}
use Rattle.vi_bytes.specs.Spans.{IsProper, Has, page_span}
use Rattle.vi_bytes.specs.Leases.{IsLease, HasPage, SharePage, ReachesInto, share_page, reaches_into}

-- the later of the lease's first page and the span's first page is in both
pub ReachesInto-from_pages : (l : Lease) (s : Span) → IsLease l → IsProper s → l.page ≤ s.last / 4096 → s.first / 4096 ≤ l.page + l.count - 1 → ReachesInto l s
ReachesInto-from_pages l s lease proper below above =
    let some : 1 ≤ l.count = lease.some in
    let page = max l.page (s.first / 4096) in
    let address = max (4096 * page) s.first in
    let in_lease : HasPage l page = (omega arith, omega arith) in
    let in_page : Has (page_span page) address = (omega arith, omega arith) in
    let in_span : Has s address = (omega arith, omega arith) in
    (page, in_lease, (address, in_page, in_span))

pub pages-from_ReachesInto : (l : Lease) (s : Span) → ReachesInto l s → (l.page ≤ s.last / 4096) × (s.first / 4096 ≤ l.page + l.count - 1)
pages-from_ReachesInto l s reaches =
    let page = reaches.0 in
    let from : l.page ≤ page = reaches.1.0 in
    let to : page < l.page + l.count = reaches.1.1 in
    let address = reaches.2.0 in
    let page_from : 4096 * page ≤ address = reaches.2.1.0 in
    let page_to : address ≤ 4096 * page + 4095 = reaches.2.1.1 in
    let span_from : s.first ≤ address = reaches.2.2.0 in
    let span_to : address ≤ s.last = reaches.2.2.1 in
    (omega arith, omega arith)

-- leases that begin before the other ends share the later of their first pages
pub SharePage-from_ends : (l k : Lease) → IsLease l → IsLease k → IsTrue (share_page l k) → SharePage l k
SharePage-from_ends l k l_lease k_lease test =
    let l_some : 1 ≤ l.count = l_lease.some in
    let k_some : 1 ≤ k.count = k_lease.some in
    let l_below : l.page < k.page + k.count = grind (arith, nat_tests) in
    let k_below : k.page < l.page + l.count = grind (arith, nat_tests) in
    let page = max l.page k.page in
    let in_l : HasPage l page = (omega arith, omega arith) in
    let in_k : HasPage k page = (omega arith, omega arith) in
    (page, in_l, in_k)

pub share_page-from_SharePage : (l k : Lease) → SharePage l k → IsTrue (share_page l k)
share_page-from_SharePage l k shares =
    let page = shares.0 in
    let l_from : l.page ≤ page = shares.1.0 in
    let l_to : page < l.page + l.count = shares.1.1 in
    let k_from : k.page ≤ page = shares.2.0 in
    let k_to : page < k.page + k.count = shares.2.1 in
    let l_below : l.page < k.page + k.count = omega arith in
    let k_below : k.page < l.page + l.count = omega arith in
    grind (arith, nat_tests)

-- the test of addresses is that of pages
pub reaches_into-from_pages : (l : Lease) (s : Span) → IsLease l → l.page ≤ s.last / 4096 → s.first / 4096 ≤ l.page + l.count - 1 → IsTrue (reaches_into l s)
reaches_into-from_pages l s lease below above =
    let some : 1 ≤ l.count = lease.some in
    let from : 4096 * l.page ≤ s.last = omega arith in
    let to : s.first ≤ 4096 * (l.page + l.count - 1) + 4095 = omega arith in
    grind (arith, nat_tests)

pub pages-from_reaches_into : (l : Lease) (s : Span) → IsLease l → IsTrue (reaches_into l s) → (l.page ≤ s.last / 4096) × (s.first / 4096 ≤ l.page + l.count - 1)
pages-from_reaches_into l s lease test =
    let from : 4096 * l.page ≤ s.last = grind (arith, nat_tests) in
    let to : s.first ≤ 4096 * (l.page + l.count - 1) + 4095 = grind (arith, nat_tests) in
    (omega arith, omega arith)
