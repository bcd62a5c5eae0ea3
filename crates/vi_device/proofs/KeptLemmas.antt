-- The domains with their tables, as some are made or cease to exist and as their mappings change.
use Rattle.std.proofs.Common.{◌≡◌, ℕ, ◌+◌, ◌≤◌, ◌<◌, ◌==◌, ◌||◌, Bool, true, false, zero, suc, List, [], ◌∷◌, ◌++◌, length, map, set, take, drop, get_or, Option, Some, None, is_some, refl, sym, ap, ◌∙◌, subst, arith}
use Rattle.std.specs.List.{filter, list_any, position_or_len, remove}
use Rattle.std.specs.Option.{option_to_list}
use Rattle.std.proofs.Math.Seq.{drop-cons, map-set_same}
use Rattle.std.proofs.Math.ListN.{get_or-map}
use Rattle.std.proofs.lemmas.List.{map-set, map-append, map_more, take-append-drop, length-append, length-map, length-set}
use Rattle.std.proofs.lemmas.List.Edits.{length-remove}
use Rattle.std.proofs.lemmas.List.Elements.{All-append, All-take, All-drop, All-push, All-pop, All-set, All-get_or, filter-append}
use Rattle.vi_bytes.specs.declared.lease.Mapping.{Mapping}
use Rattle.vi_history.specs.Device.{Endpoint, Domain}
use Rattle.vi_history.specs.Effects.{is_inhabited, inhabited, with_mappings}
use Rattle.vi_device.specs.Kept.{AreKept, domain_seen, domain_in}
use Rattle.vi_device.specs.Tables.{TableValue, empty_table}
use Rattle.vi_device.specs.Values.{AreDistinct, ExistsWith}
use Rattle.vi_device.specs.declared.held.Held.{Held}
use Rattle.vi_device.proofs.ListLemmas.{found_within, found_there}
use Rattle.vi_device.proofs.DistinctLemmas.{distinct_without, distinct_push, changed_at}
use Rattle.vi_device.proofs.TableLemmas.{is_some-find}

pub any_of_map : {A B : Type 0} (p : B → Bool) (f : A → B) (xs : List A) → list_any p (map f xs) ≡ list_any (λ x. p (f x)) xs
any_of_map p f [] = refl
any_of_map p f (x ∷ xs) = ap (λ b. p (f x) || b) (any_of_map p f xs)

get_or_seen : (held : List Held) (k : ℕ) (h : Held) → get_or (map domain_seen held) k (domain_seen h) ≡ domain_seen (get_or held k h)
get_or_seen held k h = get_or-map domain_seen held k h

-- what a pass over the domains has come to that keeps those that are inhabited
pub record Passed (seats : List Endpoint) (first now : List Held) (place : ℕ) : Type 0 where
  pub kept : inhabited seats (map domain_seen now) ≡ inhabited seats (map domain_seen first)
  pub passed : inhabited seats (map domain_seen (take place now)) ≡ map domain_seen (take place now)
  pub within : place ≤ length now

-- it keeps one more
pub Passed-kept : (seats : List Endpoint) (first now : List Held) (place : ℕ) (d : Held) → Passed seats first now place → place < length now → is_inhabited seats (get_or now place d).id ≡ true → Passed seats first now (place + 1)
Passed-kept seats first now place d so lt test =
    let p = λ (y : Domain). is_inhabited seats y.id in
    let parts = map_more domain_seen now place d lt in
    let last : filter p (domain_seen (get_or now place d) ∷ []) ≡ domain_seen (get_or now place d) ∷ [] = rw test refl in
    record {
      kept = so.kept;
      passed = rw (parts, filter-append p (map domain_seen (take place now)) (domain_seen (get_or now place d) ∷ []), so.passed, last) refl;
      within = omega arith;
    }

-- it leaves one out
split : (now : List Held) (place : ℕ) (d : Held) → place < length now → now ≡ take place now ++ get_or now place d ∷ drop (suc place) now
split now place d lt = sym (take-append-drop place now) ∙ ap (λ ys. take place now ++ ys) (drop-cons now place d lt)

pub Passed-removed : (seats : List Endpoint) (first now : List Held) (place : ℕ) (d : Held) → Passed seats first now place → place < length now → is_inhabited seats (get_or now place d).id ≡ false → Passed seats first (remove now place) place
Passed-removed seats first now place d so lt test =
    let p = λ (y : Domain). is_inhabited seats y.id in
    let low = map domain_seen (take place now) in
    let high = map domain_seen (drop (suc place) now) in
    let without : inhabited seats (map domain_seen (remove now place)) ≡ filter p low ++ filter p high = rw (map-append domain_seen (take place now) (drop (suc place) now), filter-append p low high) refl in
    let whole : inhabited seats (map domain_seen now) ≡ filter p low ++ filter p (domain_seen (get_or now place d) ∷ high) =
    ap (λ hs. inhabited seats (map domain_seen hs)) (split now place d lt) ∙ (rw (map-append domain_seen (take place now) (get_or now place d ∷ drop (suc place) now), filter-append p low (domain_seen (get_or now place d) ∷ high)) refl) in
    let out : filter p (domain_seen (get_or now place d) ∷ high) ≡ filter p high = rw test refl in
    let size = length-remove now place lt in
    record {
      kept = without ∙ sym (whole ∙ ap (λ ys. filter p low ++ ys) out) ∙ so.kept;
      passed = rw (taken now place lt) so.passed;
      within = omega arith;
    }
  where
    taken : (now : List Held) (place : ℕ) → place < length now → take place (remove now place) ≡ take place now
    taken [] place lt = absurd (omega arith)
    taken (h ∷ hs) zero lt = refl
    taken (h ∷ hs) (suc place) lt = let below : place < length hs = omega arith in ap (λ ys. h ∷ ys) (taken hs place below)

-- the tables, once a domain has ceased to exist
pub AreKept-removed : (maps : ℕ) (held : List Held) (unused : List TableValue) (place : ℕ) (d : Held) (t : TableValue) → AreKept maps held unused → place < length held → t ≡ empty_table (get_or held place d).table.maps → AreKept maps (remove held place) (unused ++ t ∷ [])
AreKept-removed maps held unused place d t kept lt empty =
    let size = length-remove held place lt in
    let more : length (unused ++ t ∷ []) ≡ length unused + 1 = length-append unused (t ∷ []) in
    let same : (get_or held place d).table.maps ≡ maps = All-get_or (λ h. h.table.maps ≡ maps) held place d lt kept.tables in
    let ids = λ (hs : List Held). map (λ y. y.id) (map domain_seen hs) in
    let parts : ids held ≡ ids (take place held) ++ (get_or held place d).id ∷ ids (drop (suc place) held) =
    ap ids (split held place d lt) ∙ ap (map (λ y. y.id)) (map-append domain_seen (take place held) (get_or held place d ∷ drop (suc place) held))
    ∙ map-append (λ y. y.id) (map domain_seen (take place held)) (domain_seen (get_or held place d) ∷ map domain_seen (drop (suc place) held)) in
    let rest : ids (remove held place) ≡ ids (take place held) ++ ids (drop (suc place) held) =
    ap (map (λ y. y.id)) (map-append domain_seen (take place held) (drop (suc place) held)) ∙ map-append (λ y. y.id) (map domain_seen (take place held)) (map domain_seen (drop (suc place) held)) in
    record {
      count = omega (arith, kept.count);
      distinct = subst AreDistinct (sym rest) (distinct_without (ids (take place held)) (get_or held place d).id (ids (drop (suc place) held)) (subst AreDistinct parts kept.distinct));
      tables = All-append (λ h. h.table.maps ≡ maps) (take place held) (drop (suc place) held) (All-take (λ h. h.table.maps ≡ maps) place held kept.tables) (All-drop (λ h. h.table.maps ≡ maps) (suc place) held kept.tables);
      empty = All-push (λ x. x ≡ empty_table maps) unused t kept.empty (empty ∙ ap empty_table same);
    }

-- the tables, once a domain was made
pub AreKept-added : (maps : ℕ) (held : List Held) (unused left : List TableValue) (id : ℕ) (bypass : Bool) (t : TableValue) → AreKept maps held unused → unused ≡ left ++ option_to_list (Some t) → domain_in id (map domain_seen held) ≡ None
    → AreKept maps (held ++ record { id = id; bypass = bypass; table = t } ∷ []) left × (t ≡ empty_table maps)
AreKept-added maps held unused left id bypass t kept taken none =
    let h : Held = record { id = id; bypass = bypass; table = t } in
    let parts = All-pop (λ x. x ≡ empty_table maps) unused left (Some t) taken kept.empty in
    let empty : t ≡ empty_table maps = parts.1 in
    let size : length unused ≡ length left + 1 = ap length taken ∙ length-append left (t ∷ []) in
    let more : length (held ++ h ∷ []) ≡ length held + 1 = length-append held (h ∷ []) in
    let ids = λ (hs : List Held). map (λ y. y.id) (map domain_seen hs) in
    let names : ids (held ++ h ∷ []) ≡ ids held ++ id ∷ [] = ap (map (λ y. y.id)) (map-append domain_seen held (h ∷ [])) ∙ map-append (λ y. y.id) (map domain_seen held) (domain_seen h ∷ []) in
    let new : list_any (λ w. w == id) (ids held) ≡ false = any_of_map (λ w. w == id) (λ y. y.id) (map domain_seen held) ∙ sym (is_some-find (λ y. y.id == id) (map domain_seen held)) ∙ ap is_some none in (
      record {
        count = omega (arith, kept.count);
        distinct = subst AreDistinct (sym names) (distinct_push (ids held) id kept.distinct new);
        tables = All-push (λ x. x.table.maps ≡ maps) held h kept.tables (ap (λ x. x.maps) empty);
        empty = parts.0;
      },
      empty,
    )

-- the tables, once the mappings of a domain have changed
pub AreKept-set : (maps : ℕ) (held : List Held) (unused : List TableValue) (k : ℕ) (h now : Held) → AreKept maps held unused → k < length held → h ≡ get_or held k h → now.id ≡ h.id → now.table.maps ≡ h.table.maps → AreKept maps (set held k now) unused
AreKept-set maps held unused k h now kept lt at same same_maps =
    let size = length-set held k now in
    let there : h.table.maps ≡ maps = ap (λ x. x.table.maps) at ∙ All-get_or (λ x. x.table.maps ≡ maps) held k h lt kept.tables in
    let ids : map (λ y. y.id) (map domain_seen (set held k now)) ≡ map (λ y. y.id) (map domain_seen held) =
    ap (map (λ y. y.id)) (map-set domain_seen held k now) ∙ map-set_same (λ y. y.id) (map domain_seen held) k (domain_seen now) (domain_seen h) (same ∙ ap (λ x. x.id) at ∙ sym (ap (λ y. y.id) (get_or_seen held k h))) in
    record {
      count = omega (arith, kept.count);
      distinct = subst AreDistinct (sym ids) kept.distinct;
      tables = All-set (λ x. x.table.maps ≡ maps) held k now (same_maps ∙ there) kept.tables;
      empty = kept.empty;
    }

pub domains_set : (id : ℕ) (change : List Mapping → List Mapping) (held : List Held) (k : ℕ) (h : Held) → AreDistinct (map (λ y. y.id) (map domain_seen held)) → k ≡ position_or_len (λ y. y.id == id) (map domain_seen held) → h ≡ get_or held k h
    → map domain_seen (set held k (record { id = h.id; bypass = h.bypass; table = record { mappings = change h.table.mappings; maps = h.table.maps } })) ≡ with_mappings id change (map domain_seen held)
domains_set id change held k h distinct place at =
    let now : Held = record { id = h.id; bypass = h.bypass; table = record { mappings = change h.table.mappings; maps = h.table.maps } } in
    let g : Domain → Domain = λ y. record y { mappings = change y.mappings } in
    let here : domain_seen h ≡ get_or (map domain_seen held) k (domain_seen h) = ap domain_seen at ∙ sym (get_or_seen held k h) in
    map-set domain_seen held k now ∙ ap (λ y. set (map domain_seen held) k (g y)) here ∙ ap (λ n. set (map domain_seen held) n (g (get_or (map domain_seen held) n (domain_seen h)))) place
    ∙ sym (changed_at (λ y. y.id) g id (map domain_seen held) (domain_seen h) distinct)

-- a domain that exists stands at the first place with its id
pub at_place : (P : Domain → Type 0) (id : ℕ) (held : List Held) (k : ℕ) → k ≡ position_or_len (λ y. y.id == id) (map domain_seen held) → ExistsWith P (domain_in id (map domain_seen held))
    → (k < length held) × ((h : Held) → h ≡ get_or held k h → P (domain_seen h))
at_place P id held k place exists =
    let found = there P (domain_in id (map domain_seen held)) exists in
    let p = λ (y : Domain). y.id == id in
    let below = found_within p (map domain_seen held) found.0 found.1 in
    let size : length (map domain_seen held) ≡ length held = length-map held domain_seen in
    let within : k < length held = omega arith in (
      within,
      λ h at.
          let same : Some found.0 ≡ Some (domain_seen h) = sym found.1 ∙ found_there p (map domain_seen held) (domain_seen h) below ∙ ap (λ n. Some (get_or (map domain_seen held) n (domain_seen h))) (sym place) ∙ ap Some (get_or_seen held k h ∙ ap domain_seen (sym at)) in
          let is : found.0 ≡ domain_seen h = cc in
          subst P is found.2,
    )
  where
    there : (P : Domain → Type 0) (o : Option Domain) → ExistsWith P o → (y : Domain) × (o ≡ Some y) × P y
    there P None h = absurd h
    there P (Some y) h = (y, refl, h)

pub maps_at : (maps : ℕ) (held : List Held) (unused : List TableValue) (k : ℕ) (h : Held) → AreKept maps held unused → k < length held → h ≡ get_or held k h → h.table.maps ≡ maps
maps_at maps held unused k h kept lt at = ap (λ x. x.table.maps) at ∙ All-get_or (λ x. x.table.maps ≡ maps) held k h lt kept.tables
