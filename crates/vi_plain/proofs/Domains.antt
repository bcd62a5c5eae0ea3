-- The domains of a device, no two of which have the same id.
use Rattle.std.proofs.Common.{◌≡◌, ◌≢◌, ℕ, ◌<◌, ◌≤◌, ◌==◌, Bool, true, false, cond, List, [], ◌∷◌, ◌++◌, Some, None, length, filter, find, nat_lt, get_or, set, take, drop, ◌⊎◌, inl, inr, refl, sym, ◌∙◌, ap, arith}
use Rattle.std.specs.List.{position, position_or_len, slice_get}
use Rattle.std.proofs.Math.Seq.{take-append_seam}
use Rattle.std.proofs.lemmas.Bool.{cases_eq, cases_order}
use Rattle.std.proofs.lemmas.Bool.Decides.{nat_tests}
use Rattle.std.proofs.lemmas.List.{length-set, length-map, get_or-set_same, get_or-set_other, get_or-map, same_lists}
use Rattle.std.proofs.lemmas.List.Folds.{find_at}
use Rattle.std.proofs.lemmas.List.Kept.{AllPairs-filter}
use Rattle.std.proofs.lemmas.List.Quantifiers.{all_pairs_push, position-Some}
use Rattle.std.proofs.lemmas.List.Sums.{fails_before_first}
use Rattle.std.proofs.lemmas.Option.{slice_get_cases}
use Rattle.vi_bytes.specs.declared.lease.Mapping.{Mapping}
use Rattle.vi_history.specs.Device.{Domain}
use Rattle.vi_history.specs.Effects.{changed_if, with_mappings}
use Rattle.vi_plain.specs.Kept.{HaveOwnIds}

-- the domain has this id
abbrev pub has_id : ℕ → Domain → Bool
has_id id y = y.id == id

-- a domain keeps its id, whatever becomes of its mappings
id-changed : (id : ℕ) (change : List Mapping → List Mapping) (y : Domain) → (changed_if id change y).id ≡ y.id
id-changed id change y = by_test (y.id == id) where
  by_test : (b : Bool) → (cond b (record y { mappings = change y.mappings }) y).id ≡ y.id
  by_test true = refl
  by_test false = refl

-- one of another id stays
changed-other : (id : ℕ) (change : List Mapping → List Mapping) (y : Domain) → (y.id == id) ≡ false → changed_if id change y ≡ y
changed-other id change y other = rw other refl

differ-from_test : (a b : ℕ) → (a == b) ≡ false → a ≢ b
differ-from_test a b other = grind (arith, nat_tests)

some-none : {y : Domain} → Some y ≡ None → ⊥
some-none e = cc

-- the first place that passes is the end, and so none passes
fails_at-all : (p : Domain → Bool) (ys : List Domain) → length ys ≤ position_or_len p ys → (k : ℕ) (d : Domain) → k < length ys → p (get_or ys k d) ≡ false
fails_at-all p ys end k d within = fails_before_first p ys k d (omega (arith, end, within))

end-from_position : (place end : ℕ) → cond (nat_lt place end) (Some place) None ≡ None → end ≤ place
end-from_position place end none = grind (arith, nat_tests)

end-from_slice_get : (ys : List Domain) (place : ℕ) → slice_get ys place ≡ None → length ys ≤ place
end-from_slice_get ys place none = by_case (slice_get_cases ys place).1 where
  by_case : ((y : Domain) × (place < length ys) × (slice_get ys place ≡ Some y) × (get_or ys place y ≡ y)) ⊎ ((length ys ≤ place) × (slice_get ys place ≡ None)) → length ys ≤ place
  by_case (inl within) = absurd (some-none (sym within.2 ∙ none))
  by_case (inr past) = past.0

pub HaveOwnIds-same : (xs ys : List Domain) → xs ≡ ys → HaveOwnIds ys → HaveOwnIds xs
HaveOwnIds-same xs ys same own = rw same own

pub HaveOwnIds-filter : (p : Domain → Bool) (ys : List Domain) → HaveOwnIds ys → HaveOwnIds (filter p ys)
HaveOwnIds-filter p ys own = AllPairs-filter (λ (y z : Domain). y.id ≢ z.id) p ys own

pub HaveOwnIds-with_mappings : (id : ℕ) (change : List Mapping → List Mapping) (ys : List Domain) → HaveOwnIds ys → HaveOwnIds (with_mappings id change ys)
HaveOwnIds-with_mappings id change ys own i j d below within =
    let within_ys : j < length ys = rw (length-map ys (changed_if id change)) at within in
    rw (get_or-map (changed_if id change) ys i d d (omega (arith, below, within_ys)), get_or-map (changed_if id change) ys j d d within_ys, id-changed id change (get_or ys i d), id-changed id change (get_or ys j d))
    (own i j d below within_ys)

-- as many domains as before, no two with the same id
abbrev pub Keeps : List Domain → List Domain → Type 0
Keeps old new = (length new ≡ length old) × HaveOwnIds new

pub Keeps-same : (old new : List Domain) → HaveOwnIds old → new ≡ old → Keeps old new
Keeps-same old new own same = (ap length same, HaveOwnIds-same new old same own)

pub Keeps-with_mappings : (id : ℕ) (change : List Mapping → List Mapping) (old new : List Domain) → HaveOwnIds old → new ≡ with_mappings id change old → Keeps old new
Keeps-with_mappings id change old new own is =
    (ap length is ∙ length-map old (changed_if id change), HaveOwnIds-same new (with_mappings id change old) is (HaveOwnIds-with_mappings id change old own))

-- all domains of a vector, written back over it
pub HaveOwnIds-back : (len : ℕ) (taken new old : List Domain) → length taken ≡ len → taken ≡ old → Keeps taken new → HaveOwnIds (take len (new ++ drop (length new) old))
HaveOwnIds-back len taken new old is same keeps =
    HaveOwnIds-same _ new (rw (sym (keeps.0 ∙ is)) (take-append_seam new (drop (length new) old))) keeps.1

-- a look-up that finds nothing passes all by
fails-from_find : (p : Domain → Bool) (ys : List Domain) → find p ys ≡ None → (k : ℕ) (d : Domain) → k < length ys → p (get_or ys k d) ≡ false
fails-from_find p ys none = fails_at-all p ys (end-from_slice_get ys (position_or_len p ys) (sym (find_at p ys) ∙ none))

pub HaveOwnIds-push : (ys : List Domain) (y : Domain) → find (has_id y.id) ys ≡ None → HaveOwnIds ys → HaveOwnIds (ys ++ y ∷ [])
HaveOwnIds-push ys y new own = all_pairs_push (λ (y z : Domain). y.id ≢ z.id) ys y own (λ k d within. differ-from_test (get_or ys k d).id y.id (fails-from_find (has_id y.id) ys new k d within))

-- where no domain has the id, none changes
pub with_mappings-none : (id : ℕ) (change : List Mapping → List Mapping) (ys : List Domain) → position (has_id id) ys ≡ None → with_mappings id change ys ≡ ys
with_mappings-none id change ys none =
    let end = end-from_position (position_or_len (has_id id) ys) (length ys) none in
    same_lists (with_mappings id change ys) ys (length-map ys (changed_if id change)) (λ k d within.
    let within_ys : k < length ys = rw (length-map ys (changed_if id change)) at within in
    get_or-map (changed_if id change) ys k d d within_ys ∙ changed-other id change (get_or ys k d) (fails_at-all (has_id id) ys end k d within_ys))

-- a domain of the id changes
changed-own : (id : ℕ) (change : List Mapping → List Mapping) (y : Domain) → (y.id == id) ≡ true → changed_if id change y ≡ record y { mappings = change y.mappings }
changed-own id change y own = rw own refl

other-from_own : (id a b : ℕ) → (a == id) ≡ true → a ≢ b → (b == id) ≡ false
other-from_own id a b own differ = grind (arith, nat_tests)

-- at every other place is a domain of another id
other_id : (id : ℕ) (ys : List Domain) (i : ℕ) → HaveOwnIds ys → position (has_id id) ys ≡ Some i → (k : ℕ) (d : Domain) → k ≢ i → k < length ys → ((get_or ys k d).id == id) ≡ false
other_id id ys i own at k d other within =
    let found = position-Some (has_id id) ys i d at in
    elim (cases_order k i) [
      | inl same ↦ absurd (other same)
      | inr (inl below) ↦ found.2 k below
      | inr (inr above) ↦ other-from_own id (get_or ys i d).id (get_or ys k d).id found.1 (own i k d above within)
    ]

-- the domain of the id is the only one that changes
pub with_mappings-set : (id : ℕ) (change : List Mapping → List Mapping) (ys : List Domain) (i : ℕ) (y : Domain) → HaveOwnIds ys → position (has_id id) ys ≡ Some i
    → set ys i (record (get_or ys i y) { mappings = change (get_or ys i y).mappings }) ≡ with_mappings id change ys
with_mappings-set id change ys i y own at =
    let f = changed_if id change in
    let found = position-Some (has_id id) ys i y at in
    let changed : Domain = record (get_or ys i y) { mappings = change (get_or ys i y).mappings } in
    same_lists (set ys i changed) (with_mappings id change ys) (length-set ys i changed ∙ sym (length-map ys f)) (λ k d within.
    let within_ys : k < length ys = rw (length-set ys i changed) at within in
    elim (cases_eq k i) [
      | inl same ↦ rw same (get_or-set_same ys i changed d found.0 ∙ sym (get_or-map f ys i y d found.0 ∙ changed-own id change (get_or ys i y) found.1))
      | inr other ↦ get_or-set_other ys i k changed d other ∙ sym (get_or-map f ys k d d within_ys ∙ changed-other id change (get_or ys k d) (other_id id ys i own at k d other within_ys))
    ])
