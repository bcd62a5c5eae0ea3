-- Calls keep all regions and mappings whole pages, and a domain's mappings apart.
use Rattle.std.proofs.Common.{◌≡◌, ◌==◌, ℕ, ◌+◌, ◌<◌, ◌≤◌, Bool, true, false, cond, not, nat_lt, List, [], ◌∷◌, ◌++◌, Option, Some, None, refl, arith, ◌⊎◌, inl, inr, ap, sym, ◌∙◌}
use Rattle.std.specs.List.{AllByRecursion}
use Rattle.std.proofs.lemmas.Bool.Decides.{nat_tests}
use Rattle.std.proofs.lemmas.Bool.{eqb-true, or_parts}
use Rattle.vi_bytes.specs.Spans.{IsProper, meets, covers}
use Rattle.vi_bytes.specs.Mappings.{AreBehind, AreApart, with_mapping, without_span}
use Rattle.vi_bytes.specs.declared.span.Span.{Span}
use Rattle.vi_bytes.specs.declared.lease.Mapping.{Mapping}
use Rattle.vi_bytes.specs.declared.region.Membership.{Membership}
use Rattle.vi_bytes.specs.declared.region.Membership.TheVariants.{Unattached, Member}
use Rattle.vi_history.specs.Device.{Dev, Endpoint, Domain, endpoint_of, domain_of}
use Rattle.vi_history.specs.declared.reading.Reading.TheVariants.{Silent, Malformed, Asks}
use Rattle.vi_history.specs.Statuses.{are_multiples, any_mapping_meets, status, map_into}
use Rattle.vi_history.specs.Effects.{moved, is_inhabited, inhabited, with_domain, with_mappings, endpoint_is_in, attached, effect, commit}
use Rattle.vi_history.specs.declared.status.TheConstants.{OK}
use Rattle.vi_history.specs.declared.request.Request.{Request}
use Rattle.vi_history.specs.declared.request.Request.TheVariants.{Attach, Detach, Map, Unmap, Probe}
use Rattle.vi_model.specs.Tasks.{task_commit}
use Rattle.vi_model.specs.declared.task.Task.{Task}
use Rattle.vi_model.specs.declared.task.Task.TheVariants.{Reads, Sets}
use Rattle.vi_model.specs.Whole.{IsWholeMapping, IsWholeEndpoint, IsWholeDomain, HaveOwnIds, IsWholeDev}
use Rattle.vi_sound.proofs.Values.Finds.{find_domain}
use Rattle.vi_sound.proofs.Values.Commits.{mapped_into}

moved_whole : (e : ℕ) (to : Membership) (xs : List Endpoint) → AllByRecursion IsWholeEndpoint xs → AllByRecursion IsWholeEndpoint (moved e to xs)
moved_whole e to [] ok = tt
moved_whole e to (x ∷ xs) ok = (go (x.id == e), moved_whole e to xs ok.1)
  where
    go : (v : Bool) → IsWholeEndpoint (cond v (record x { domain = to }) x)
    go true = ok.0
    go false = ok.0

kept_whole : (xs : List Endpoint) (ys : List Domain) → AllByRecursion IsWholeDomain ys → AllByRecursion IsWholeDomain (inhabited xs ys)
kept_whole xs [] ok = tt
kept_whole xs (y ∷ ys) ok = go (is_inhabited xs y.id) (kept_whole xs ys ok.1)
  where
    go : (v : Bool) → AllByRecursion IsWholeDomain (inhabited xs ys) → AllByRecursion IsWholeDomain (cond v (y ∷ inhabited xs ys) (inhabited xs ys))
    go true r = (ok.0, r)
    go false r = r

more_whole : (ys : List Domain) (y : Domain) → AllByRecursion IsWholeDomain ys → IsWholeDomain y → AllByRecursion IsWholeDomain (ys ++ y ∷ [])
more_whole [] y ok m = (m, tt)
more_whole (x ∷ ys) y ok m = (ok.0, more_whole ys y ok.1 m)

made_whole : (d : ℕ) (b : Bool) (ys : List Domain) (o : Option Domain) → AllByRecursion IsWholeDomain ys → AllByRecursion IsWholeDomain (with_domain d b ys o)
made_whole d b ys None ok = more_whole ys _ ok (tt, tt)
made_whole d b ys (Some y) ok = ok

maps_more : (ms : List Mapping) (m : Mapping) → AllByRecursion IsWholeMapping ms → IsWholeMapping m → AllByRecursion IsWholeMapping (with_mapping m ms)
maps_more [] m ok a = (a, tt)
maps_more (x ∷ ms) m ok a = go (nat_lt m.span.first x.span.first) (maps_more ms m ok.1 a)
  where
    go : (b : Bool) → AllByRecursion IsWholeMapping (with_mapping m ms) → AllByRecursion IsWholeMapping (cond b (m ∷ (x ∷ ms)) (x ∷ with_mapping m ms))
    go true r = (a, ok)
    go false r = (ok.0, r)

behind_lower : (a b : ℕ) (ms : List Mapping) → a ≤ b → AreBehind b ms → AreBehind a ms
behind_lower a b [] le ok = tt
behind_lower a b (m ∷ ms) le ok = (omega (arith, le, ok.0), behind_lower a b ms le ok.1)

behind_more : (a : ℕ) (m : Mapping) (ms : List Mapping) → a < m.span.first → AreBehind a ms → AreBehind a (with_mapping m ms)
behind_more a m [] lt ok = (lt, tt)
behind_more a m (x ∷ ms) lt ok = go (nat_lt m.span.first x.span.first) (behind_more a m ms lt ok.1)
  where
    go : (b : Bool) → AreBehind a (with_mapping m ms) → AreBehind a (cond b (m ∷ (x ∷ ms)) (x ∷ with_mapping m ms))
    go true r = (lt, ok)
    go false r = (ok.0, r)

-- a mapping that meets none stays apart from them
apart_more : (m : Mapping) (ms : List Mapping) → AreApart ms → IsProper m.span → any_mapping_meets m.span ms ≡ false → AreApart (with_mapping m ms)
apart_more m [] ok proper far = (proper, tt, tt)
apart_more m (x ∷ ms) ok proper far = go (nat_lt m.span.first x.span.first) refl (apart_more m ms ok.2 proper both.1)
  where
    both : (meets x.span m.span ≡ false) × (any_mapping_meets m.span ms ≡ false)
    both = or_parts (meets x.span m.span) (any_mapping_meets m.span ms) far

    go : (b : Bool) → nat_lt m.span.first x.span.first ≡ b → AreApart (with_mapping m ms) → AreApart (cond b (m ∷ (x ∷ ms)) (x ∷ with_mapping m ms))
    go true e r =
        let lt : m.span.last < x.span.first = grind (arith, nat_tests, both.0, e, proper, ok.0) in
        (proper, (lt, behind_lower m.span.last x.span.last ms (omega (arith, lt, ok.0)) ok.1), ok)
    go false e r =
        let lt : x.span.last < m.span.first = grind (arith, nat_tests, both.0, e, proper, ok.0) in
        (ok.0, behind_more x.span.last m ms lt ok.1, r)

behind_without : (a : ℕ) (s : Span) (ms : List Mapping) → AreBehind a ms → AreBehind a (without_span s ms)
behind_without a s [] ok = tt
behind_without a s (m ∷ ms) ok = go (covers s m.span) (behind_without a s ms ok.1)
  where
    go : (v : Bool) → AreBehind a (without_span s ms) → AreBehind a (cond (not v) (m ∷ without_span s ms) (without_span s ms))
    go true r = r
    go false r = (ok.0, r)

without_whole : (s : Span) (ms : List Mapping) → AllByRecursion IsWholeMapping ms × AreApart ms → AllByRecursion IsWholeMapping (without_span s ms) × AreApart (without_span s ms)
without_whole s [] ok = (tt, tt)
without_whole s (m ∷ ms) ok = go (covers s m.span) (without_whole s ms (ok.0.1, ok.1.2))
  where
    go : (v : Bool) → AllByRecursion IsWholeMapping (without_span s ms) × AreApart (without_span s ms)
        → AllByRecursion IsWholeMapping (cond (not v) (m ∷ without_span s ms) (without_span s ms)) × AreApart (cond (not v) (m ∷ without_span s ms) (without_span s ms))
    go true r = r
    go false r = ((ok.0.0, r.0), (ok.1.0, behind_without m.span.last s ms ok.1.1, r.1))

-- where no domain has the id, none changes
changed_none : (d : ℕ) (change : List Mapping → List Mapping) (ys : List Domain) → find_domain d ys ≡ None → AllByRecursion IsWholeDomain ys → AllByRecursion IsWholeDomain (with_mappings d change ys)
changed_none d change [] none ok = tt
changed_none d change (y ∷ ys) none ok = go (y.id == d) none (λ e. changed_none d change ys e ok.1)
  where
    go : (v : Bool) → cond v (Some y) (find_domain d ys) ≡ None → (find_domain d ys ≡ None → AllByRecursion IsWholeDomain (with_mappings d change ys))
        → IsWholeDomain (cond v (record y { mappings = change y.mappings }) y) × AllByRecursion IsWholeDomain (with_mappings d change ys)
    go true e rest = absurd cc
    go false e rest = (ok.0, rest e)

-- the mappings of one domain are changed
changed_whole : (d : ℕ) (change : List Mapping → List Mapping) (ys : List Domain)
    → ((y : Domain) → find_domain d ys ≡ Some y → IsWholeDomain y → IsWholeDomain (record y { mappings = change y.mappings }))
    → HaveOwnIds ys → AllByRecursion IsWholeDomain ys → AllByRecursion IsWholeDomain (with_mappings d change ys)
changed_whole d change [] keeps own ok = tt
changed_whole d change (y ∷ ys) keeps own ok = go (y.id == d) refl keeps (λ k. changed_whole d change ys k own.1 ok.1)
  where
    go : (v : Bool) → (y.id == d) ≡ v
        → ((z : Domain) → cond v (Some y) (find_domain d ys) ≡ Some z → IsWholeDomain z → IsWholeDomain (record z { mappings = change z.mappings }))
        → (((z : Domain) → find_domain d ys ≡ Some z → IsWholeDomain z → IsWholeDomain (record z { mappings = change z.mappings })) → AllByRecursion IsWholeDomain (with_mappings d change ys))
        → IsWholeDomain (cond v (record y { mappings = change y.mappings }) y) × AllByRecursion IsWholeDomain (with_mappings d change ys)
    go true e k rest =
        let none : find_domain d ys ≡ None = ap (λ n. find_domain n ys) (sym (eqb-true y.id d e)) ∙ own.0 in
        (k y refl ok.0, changed_none d change ys none ok.1)
    go false e k rest = (ok.0, rest k)

-- ---- domains keep their ids

find_none_kept : (d : ℕ) (xs : List Endpoint) (ys : List Domain) → find_domain d ys ≡ None → find_domain d (inhabited xs ys) ≡ None
find_none_kept d xs [] h = refl
find_none_kept d xs (y ∷ ys) h = go (y.id == d) refl h (is_inhabited xs y.id) (find_none_kept d xs ys)
  where
    go : (v : Bool) → (y.id == d) ≡ v → cond v (Some y) (find_domain d ys) ≡ None → (b : Bool) → (find_domain d ys ≡ None → find_domain d (inhabited xs ys) ≡ None)
        → find_domain d (cond b (y ∷ inhabited xs ys) (inhabited xs ys)) ≡ None
    go true e h b rest = absurd cc
    go false e h true rest = rw e (rest h)
    go false e h false rest = rest h

kept_ids : (xs : List Endpoint) (ys : List Domain) → HaveOwnIds ys → HaveOwnIds (inhabited xs ys)
kept_ids xs [] own = tt
kept_ids xs (y ∷ ys) own = go (is_inhabited xs y.id) (kept_ids xs ys own.1)
  where
    go : (b : Bool) → HaveOwnIds (inhabited xs ys) → HaveOwnIds (cond b (y ∷ inhabited xs ys) (inhabited xs ys))
    go true r = (find_none_kept y.id xs ys own.0, r)
    go false r = r

find_none_more : (d : ℕ) (ys : List Domain) (z : Domain) → (z.id == d) ≡ false → find_domain d ys ≡ None → find_domain d (ys ++ z ∷ []) ≡ None
find_none_more d [] z ne h = rw ne refl
find_none_more d (y ∷ ys) z ne h = go (y.id == d) h (find_none_more d ys z ne)
  where
    go : (v : Bool) → cond v (Some y) (find_domain d ys) ≡ None → (find_domain d ys ≡ None → find_domain d (ys ++ z ∷ []) ≡ None) → cond v (Some y) (find_domain d (ys ++ z ∷ [])) ≡ None
    go true h rest = absurd cc
    go false h rest = rest h

more_ids : (ys : List Domain) (z : Domain) → HaveOwnIds ys → find_domain z.id ys ≡ None → HaveOwnIds (ys ++ z ∷ [])
more_ids [] z own none = (refl, tt)
more_ids (y ∷ ys) z own none = go (y.id == z.id) refl none (more_ids ys z own.1)
  where
    go : (v : Bool) → (y.id == z.id) ≡ v → cond v (Some y) (find_domain z.id ys) ≡ None → (find_domain z.id ys ≡ None → HaveOwnIds (ys ++ z ∷ [])) → HaveOwnIds (y ∷ (ys ++ z ∷ []))
    go true e h rest = absurd cc
    go false e h rest = (find_none_more y.id ys z (grind (arith, nat_tests, e)) own.0, rest h)

made_ids : (d : ℕ) (b : Bool) (ys : List Domain) (o : Option Domain) → find_domain d ys ≡ o → HaveOwnIds ys → HaveOwnIds (with_domain d b ys o)
made_ids d b ys None e own = more_ids ys _ own e
made_ids d b ys (Some y) e own = own

find_none_changed : (c d : ℕ) (change : List Mapping → List Mapping) (ys : List Domain) → find_domain d ys ≡ None → find_domain d (with_mappings c change ys) ≡ None
find_none_changed c d change [] h = refl
find_none_changed c d change (y ∷ ys) h = go (y.id == d) refl h (y.id == c) (find_none_changed c d change ys)
  where
    go : (v : Bool) → (y.id == d) ≡ v → cond v (Some y) (find_domain d ys) ≡ None → (b : Bool) → (find_domain d ys ≡ None → find_domain d (with_mappings c change ys) ≡ None)
        → find_domain d (cond b (record y { mappings = change y.mappings }) y ∷ with_mappings c change ys) ≡ None
    go true e h b rest = absurd cc
    go false e h true rest = rw e (rest h)
    go false e h false rest = rw e (rest h)

changed_ids : (c : ℕ) (change : List Mapping → List Mapping) (ys : List Domain) → HaveOwnIds ys → HaveOwnIds (with_mappings c change ys)
changed_ids c change [] own = tt
changed_ids c change (y ∷ ys) own = (go (y.id == c), changed_ids c change ys own.1)
  where
    go : (b : Bool) → find_domain (let z : Domain = cond b (record y { mappings = change y.mappings }) y in z.id) (with_mappings c change ys) ≡ None
    go true = find_none_changed c y.id change ys own.0
    go false = find_none_changed c y.id change ys own.0

-- ---- calls

-- whole granules are whole pages
whole_pages : (g first behind t : ℕ) → (g ≡ 4096) ⊎ ((g ≡ 16384) ⊎ (g ≡ 65536)) → are_multiples g first behind t ≡ true → are_multiples 4096 first behind t ≡ true
whole_pages g f b t (inl e) h = ap (λ n. are_multiples n f b t) (sym e) ∙ h
whole_pages g f b t (inr (inl e)) h = let k : are_multiples 16384 f b t ≡ true = ap (λ n. are_multiples n f b t) (sym e) ∙ h in grind (arith, nat_tests, k)
whole_pages g f b t (inr (inr e)) h = let k : are_multiples 65536 f b t ≡ true = ap (λ n. are_multiples n f b t) (sym e) ∙ h in grind (arith, nat_tests, k)

-- what a MAP with status OK was tested for
map_tested : (dev : Dev) (d first last t : ℕ) (y : Domain) (o : Option Domain) → o ≡ Some y → map_into dev d (record { first = first; last = last }) t o ≡ OK
    → (first ≤ last) × (are_multiples dev.granule first (last + 1) t ≡ true) × (any_mapping_meets (record { first = first; last = last }) y.mappings ≡ false)
map_tested dev d first last t y None e h = absurd cc
map_tested dev d first last t y (Some x) e h =
    let same : x ≡ y = cc in
    let far : any_mapping_meets (record { first = first; last = last }) x.mappings ≡ false = grind (arith, nat_tests) in
    (grind (arith, nat_tests), grind (arith, nat_tests), ap (λ (z : Domain). any_mapping_meets (record { first = first; last = last }) z.mappings) (sym same) ∙ far)

effect_whole : (dev : Dev) (q : Request) → IsWholeDev dev → status dev q ≡ OK → IsWholeDev (effect dev q)
effect_whole dev (Attach d x flags) ok h = go (endpoint_is_in d (endpoint_of dev x))
  where
    go : (v : Bool) → IsWholeDev (cond v dev (attached dev d (flags == 1) x))
    go true = ok
    go false = record {
      granule = ok.granule;
      endpoints = moved_whole x (Member d) dev.endpoints ok.endpoints;
      domains = kept_whole (moved x (Member d) dev.endpoints) (with_domain d (flags == 1) dev.domains (domain_of dev d)) (made_whole d (flags == 1) dev.domains (domain_of dev d) ok.domains);
      ids = kept_ids (moved x (Member d) dev.endpoints) (with_domain d (flags == 1) dev.domains (domain_of dev d)) (made_ids d (flags == 1) dev.domains (domain_of dev d) refl ok.ids);
    }
effect_whole dev (Detach d x) ok h = record {
  granule = ok.granule;
  endpoints = moved_whole x Unattached dev.endpoints ok.endpoints;
  domains = kept_whole (moved x Unattached dev.endpoints) dev.domains ok.domains;
  ids = kept_ids (moved x Unattached dev.endpoints) dev.domains ok.ids;
}
effect_whole dev (Map d first last t flags) ok h =
    let m : Mapping = record { span = record { first = first; last = last }; target = t; flags = flags } in record {
      granule = ok.granule;
      endpoints = ok.endpoints;
      domains = changed_whole d (with_mapping m) dev.domains
          (λ y e w. let tested = map_tested dev d first last t y (domain_of dev d) e (mapped_into dev d first last t flags h) in (maps_more y.mappings m w.0 (whole_pages dev.granule first (last + 1) t ok.granule tested.1), apart_more m y.mappings w.1 tested.0 tested.2))
          ok.ids ok.domains;
      ids = changed_ids d (with_mapping m) dev.domains ok.ids;
    }
effect_whole dev (Unmap d first last) ok h =
    let s : Span = record { first = first; last = last } in record {
      granule = ok.granule;
      endpoints = ok.endpoints;
      domains = changed_whole d (without_span s) dev.domains (λ y e w. without_whole s y.mappings w) ok.ids ok.domains;
      ids = changed_ids d (without_span s) dev.domains ok.ids;
    }
effect_whole dev (Probe x) ok h = ok

request_whole : (dev : Dev) (q : Request) → IsWholeDev dev → IsWholeDev (commit dev q)
unfolding commit
request_whole dev q ok = go (status dev q == OK) refl
  where
    go : (v : Bool) → (status dev q == OK) ≡ v → IsWholeDev (cond (status dev q == OK) (effect dev q) dev)
    go true e = rw e (effect_whole dev q ok (eqb-true (status dev q) OK e))
    go false e = rw e ok

pub commit_whole : (dev : Dev) (q : Task) → IsWholeDev dev → IsWholeDev (task_commit dev q)
commit_whole dev (Reads Silent) ok = ok
commit_whole dev (Reads (Malformed probe)) ok = ok
commit_whole dev (Reads (Asks q)) ok = request_whole dev q ok
commit_whole dev (Sets on) ok = record { granule = ok.granule; endpoints = ok.endpoints; domains = ok.domains; ids = ok.ids }
