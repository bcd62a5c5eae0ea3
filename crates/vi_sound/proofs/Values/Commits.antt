-- What a call leaves of the leases that its removal doesn't close, and of what other open removals close.
use Rattle.std.proofs.Common.{◌≡◌, ◌≢◌, ◌==◌, ℕ, ◌*◌, Bool, true, false, cond, ◌&&◌, not, nat_lt, Option, Some, None, refl, arith, ◌∙◌, ap, sym}
use Rattle.std.proofs.lemmas.Bool.Decides.{nat_tests}
use Rattle.std.proofs.lemmas.Bool.{eqb-true}
use Rattle.vi_bytes.specs.Spans.{meets, page_span}
use Rattle.vi_bytes.specs.declared.span.TheConstants.{PAGE}
use Rattle.vi_bytes.specs.declared.lease.Lease.{Lease}
use Rattle.vi_bytes.specs.declared.region.Membership.{Membership}
use Rattle.vi_bytes.specs.declared.region.Membership.TheVariants.{Unattached, Member}
use Rattle.vi_history.specs.Device.{Dev, Endpoint, Domain, endpoint_of, domain_of}
use Rattle.vi_history.specs.declared.reading.Reading.TheVariants.{Silent, Malformed, Asks}
use Rattle.vi_history.specs.Statuses.{status, map_into, any_mapping_meets}
use Rattle.vi_history.specs.Effects.{with_domain, endpoint_is_in, attached, effect, commit, with_bypass}
use Rattle.vi_history.specs.Translation.{Look, Leads, Nowhere, look, look_of, look_by, lease, lease_for}
use Rattle.vi_history.specs.declared.status.TheConstants.{OK, INVAL}
use Rattle.vi_history.specs.declared.request.Request.{Request}
use Rattle.vi_history.specs.declared.request.Request.TheVariants.{Attach, Detach, Map, Unmap, Probe}
use Rattle.vi_model.specs.Tasks.{task_commit, removes, request_removes, closes, request_closes, is_unattached}
use Rattle.vi_model.specs.declared.task.Task.{Task}
use Rattle.vi_model.specs.declared.task.Task.TheVariants.{Reads, Sets}
use Rattle.vi_sound.proofs.Values.Finds.{find_moved_other, find_made}
use Rattle.vi_sound.proofs.Values.Keeps.{keep_map, keep_unmap, keep_moved}

-- the bypass field
keep_setting : (dev : Dev) (on : Bool) (e a t f : ℕ) → (not on ≡ true → is_unattached (endpoint_of dev e) ≡ false) → look dev e a ≡ Leads t f → look (with_bypass dev on) e a ≡ Leads t f
unfolding look
keep_setting dev on e a t f far h = go (endpoint_of dev e) refl
  where
    go : (o : Option Endpoint) → endpoint_of dev e ≡ o → look_of (with_bypass dev on) a (endpoint_of dev e) ≡ Leads t f
    go None e = grind (arith, nat_tests)
    go (Some x) e = ap (look_of (with_bypass dev on) a) e ∙ here x.domain refl
      where
        here : (d : Membership) → x.domain ≡ d → look_by (with_bypass dev on) a x.regions x.domain ≡ Leads t f
        here Unattached k = grind (arith, nat_tests)
        here (Member d) k = grind (arith, nat_tests)

map_free : (dev : Dev) (d first last g : ℕ) (y : Domain) (o : Option Domain) → o ≡ Some y → map_into dev d (record { first = first; last = last }) g o ≡ OK → any_mapping_meets (record { first = first; last = last }) y.mappings ≡ false
map_free dev d first last g y None e h = absurd cc
map_free dev d first last g y (Some x) e h =
    let same : x ≡ y = cc in
    let far : any_mapping_meets (record { first = first; last = last }) x.mappings ≡ false = grind (arith, nat_tests) in
    ap (λ (z : Domain). any_mapping_meets (record { first = first; last = last }) z.mappings) (sym same) ∙ far

pub mapped_into : (dev : Dev) (d first last g flags : ℕ) → status dev (Map d first last g flags) ≡ OK → map_into dev d (record { first = first; last = last }) g (domain_of dev d) ≡ OK
unfolding status
mapped_into dev d first last g flags ok = go (nat_lt flags 4) ok
  where
    go : (b : Bool) → cond b (map_into dev d (record { first = first; last = last }) g (domain_of dev d)) INVAL ≡ OK → map_into dev d (record { first = first; last = last }) g (domain_of dev d) ≡ OK
    go true e = e
    go false e = absurd (omega (arith, e))

keep_effect : (dev : Dev) (q : Request) (e p t f : ℕ) → status dev q ≡ OK → (request_removes dev q ≡ true → request_closes dev q e p ≡ false) → look dev e (PAGE * p) ≡ Leads t f → look (effect dev q) e (PAGE * p) ≡ Leads t f
keep_effect dev (Attach d x flags) e p t f ok far h = go (endpoint_is_in d (endpoint_of dev x)) refl
  where
    go : (v : Bool) → endpoint_is_in d (endpoint_of dev x) ≡ v → look (cond (endpoint_is_in d (endpoint_of dev x)) dev (attached dev d (flags == 1) x)) e (PAGE * p) ≡ Leads t f
    go true k = rw k h
    go false k =
        let ne : e ≢ x = grind (arith, nat_tests) in
        rw k (keep_moved dev x (Member d) (with_domain d (flags == 1) dev.domains (domain_of dev d)) e (PAGE * p) t f ne (λ c y i. find_made d c (flags == 1) y dev.domains (domain_of dev d) i) h)
keep_effect dev (Detach d x) e p t f ok far h =
    let ne : e ≢ x = grind (arith, nat_tests) in
    keep_moved dev x Unattached dev.domains e (PAGE * p) t f ne (λ c y i. i) h
keep_effect dev (Map d first last g flags) e p t f ok far h = keep_map dev d first last g flags e (PAGE * p) t f (λ y i. map_free dev d first last g y (domain_of dev d) i (mapped_into dev d first last g flags ok)) h
keep_effect dev (Unmap d first last) e p t f ok far h = keep_unmap dev d first last e p t f (grind (arith, nat_tests)) h
keep_effect dev (Probe x) e p t f ok far h = h

keep_commit : (dev : Dev) (q : Request) (e p t f : ℕ) → (request_removes dev q ≡ true → request_closes dev q e p ≡ false) → look dev e (PAGE * p) ≡ Leads t f → look (commit dev q) e (PAGE * p) ≡ Leads t f
unfolding commit
keep_commit dev q e p t f far h = go (status dev q == OK) refl
  where
    go : (v : Bool) → (status dev q == OK) ≡ v → look (cond (status dev q == OK) (effect dev q) dev) e (PAGE * p) ≡ Leads t f
    go true k = rw k (keep_effect dev q e p t f (eqb-true (status dev q) OK k) far h)
    go false k = rw k h

keep_task : (dev : Dev) (q : Task) (e p t f : ℕ) → (removes dev q ≡ true → closes dev q e p ≡ false) → look dev e (PAGE * p) ≡ Leads t f → look (task_commit dev q) e (PAGE * p) ≡ Leads t f
unfolding removes closes
keep_task dev (Reads Silent) e p t f far h = h
keep_task dev (Reads (Malformed probe)) e p t f far h = h
keep_task dev (Reads (Asks q)) e p t f far h = keep_commit dev q e p t f far h
keep_task dev (Sets on) e p t f far h = keep_setting dev on e (PAGE * p) t f (λ n. grind (arith, nat_tests, n, far n)) h

commit_pages : (dev : Dev) (q : Task) → (task_commit dev q).pages ≡ dev.pages
unfolding commit
commit_pages dev (Reads Silent) = refl
commit_pages dev (Reads (Malformed probe)) = refl
commit_pages dev (Reads (Asks (Attach d x flags))) = grind (arith, nat_tests)
commit_pages dev (Reads (Asks (Detach d x))) = grind (arith, nat_tests)
commit_pages dev (Reads (Asks (Map d first last g flags))) = grind (arith, nat_tests)
commit_pages dev (Reads (Asks (Unmap d first last))) = grind (arith, nat_tests)
commit_pages dev (Reads (Asks (Probe x))) = grind (arith, nat_tests)
commit_pages dev (Sets on) = refl

-- a lease that the removal doesn't close stays as it is
pub keep_lease : (dev : Dev) (q : Task) (e p : ℕ) (l : Lease) → (removes dev q ≡ true → closes dev q e p ≡ false) → lease dev e p ≡ Some l → lease (task_commit dev q) e p ≡ Some l
keep_lease dev q e p l far h = go (look dev e (PAGE * p)) refl
  where
    go : (o : Look) → look dev e (PAGE * p) ≡ o → lease (task_commit dev q) e p ≡ Some l
    go (Nowhere reason) k = absurd (cc (ap (lease_for dev.pages p) k, h))
    go (Leads t f) k =
        let now : look (task_commit dev q) e (PAGE * p) ≡ Leads t f = keep_task dev q e p t f far k in
        let size : (task_commit dev q).pages ≡ dev.pages = commit_pages dev q in
        cc (ap (lease_for dev.pages p) k, ap (lease_for dev.pages p) now, ap (λ n. lease_for n p (look (task_commit dev q) e (PAGE * p))) size)

-- who is where, after a call
endpoint_same : (dev : Dev) (q : Task) (e p : ℕ) → (removes dev q ≡ true → closes dev q e p ≡ false) → endpoint_of (task_commit dev q) e ≡ endpoint_of dev e
unfolding removes closes commit
endpoint_same dev (Reads Silent) e p far = refl
endpoint_same dev (Reads (Malformed probe)) e p far = refl
endpoint_same dev (Reads (Asks (Attach d x flags))) e p far = grind (arith, nat_tests, find_moved_other)
endpoint_same dev (Reads (Asks (Detach d x))) e p far = grind (arith, nat_tests, find_moved_other)
endpoint_same dev (Reads (Asks (Map d first last g flags))) e p far = grind (arith, nat_tests)
endpoint_same dev (Reads (Asks (Unmap d first last))) e p far = grind (arith, nat_tests)
endpoint_same dev (Reads (Asks (Probe x))) e p far = grind (arith, nat_tests)
endpoint_same dev (Sets on) e p far = refl

-- what another open removal closes for an endpoint that this call's removal leaves alone is what it closed before
pub closes_same : (dev : Dev) (q o : Task) (e p : ℕ) → (removes dev q ≡ true → closes dev q e p ≡ false) → closes (task_commit dev q) o e p ≡ closes dev o e p
unfolding closes
closes_same dev q (Reads Silent) e p far = refl
closes_same dev q (Reads (Malformed probe)) e p far = refl
closes_same dev q (Reads (Asks (Attach d x flags))) e p far = refl
closes_same dev q (Reads (Asks (Detach d x))) e p far = refl
closes_same dev q (Reads (Asks (Map d first last g flags))) e p far = refl
closes_same dev q (Reads (Asks (Unmap d first last))) e p far =
    let same = endpoint_same dev q e p far in ap (λ x. endpoint_is_in d x && meets (record { first = first; last = last }) (page_span p)) same
closes_same dev q (Reads (Asks (Probe x))) e p far = refl
closes_same dev q (Sets on) e p far = let same = endpoint_same dev q e p far in ap (λ x. is_unattached x && not on) same
