-- Properties that are written one after the other over zeros.
use Rattle.std.proofs.Common.{◌≡◌, ℕ, ◌+◌, ◌*◌, ◌-◌, ◌≤◌, ◌<◌, ◌^◌, List, [], ◌∷◌, ◌++◌, length, take, drop, replicate, get_or, refl, sym, ap, ◌∙◌, inl, inr, arith, append_assoc, length-take}
use Rattle.std.specs.List.{flat_map}
use Rattle.std.proofs.lemmas.List.{flat_map_more, take_more, take_at, drop_at, drop-drop, drop-replicate, get_or_default, take_all}
use Rattle.std.proofs.lemmas.Bool.{cases_lt}
use Rattle.vi_bytes.specs.Properties.{property, property_bytes}
use Rattle.vi_bytes.specs.declared.region.Region.{Region}
use Rattle.vi_bytes.proofs.PropertyLemmas.{length-flat_map-property, property_bytes-filled}

written : List Region → ℕ → List ℕ
written regions i = flat_map property (take i regions)

-- the properties of the first i regions, and zeros up to 512 bytes
pub filled : List Region → ℕ → List ℕ
filled regions i = written regions i ++ replicate (512 - 24 * i) 0

length-written : (regions : List Region) (i : ℕ) → i ≤ length regions → length (written regions i) ≡ 24 * i
unfolding written
length-written regions i h = length-flat_map-property (take i regions) ∙ ap (λ n. 24 * n) (omega (arith, length-take i regions))

written-more : (regions : List Region) (i : ℕ) (r : Region) → i < length regions → r ≡ get_or regions i r → written regions (i + 1) ≡ written regions i ++ property r
unfolding written
written-more regions i r h is =
    ap (flat_map property) (take_more regions i r h ∙ ap (λ x. take i regions ++ x ∷ []) (sym is)) ∙ sym (flat_map_more property [] (take i regions) r)

pub filled-more : (regions : List Region) (i : ℕ) (bytes : List ℕ) (r : Region) → i < length regions → bytes ≡ filled regions i → r ≡ get_or regions i r → take (24 * i) bytes ++ (property r ++ drop (24 * i + 24) bytes) ≡ filled regions (i + 1)
unfolding filled
filled-more regions i bytes r h e is =
    let front = written regions i in
    let zeros : List ℕ = replicate (512 - 24 * i) 0 in
    let long = length-written regions i (omega arith) in
    let fewer : 512 - 24 * i - 24 ≡ 512 - 24 * (i + 1) = omega arith in
    rw (e, take_at front zeros (24 * i) long, sym (drop-drop 24 (24 * i) (front ++ zeros)), drop_at front zeros (24 * i) long, drop-replicate {X = ℕ} 24 (512 - 24 * i) 0, fewer, written-more regions i r h is, append_assoc front (property r) (replicate (512 - 24 * (i + 1)) 0)) refl

pub filled-none : (regions : List Region) → filled regions 0 ≡ replicate 512 0
unfolding filled written
filled-none regions = refl

pub filled-all : (regions : List Region) → length regions ≤ 16 → filled regions (length regions) ≡ property_bytes regions
unfolding filled written
filled-all regions few =
    let all = take_all (length regions) regions (omega arith) in
    rw (all, property_bytes-filled regions (omega arith), length-flat_map-property regions) refl

-- the properties of the first i regions are written, and the addresses of these have 64 bits
pub record IsFilled (regions : List Region) (i : ℕ) (bytes : List ℕ) : Type 0 where
  pub filled_to : bytes ≡ filled regions i
  pub within : (k : ℕ) (d : Region) → k < i → (get_or regions k d).span.last < 2 ^ 64

pub IsFilled-start : (regions : List Region) → IsFilled regions 0 (replicate 512 0)
IsFilled-start regions = record { filled_to = sym (filled-none regions); within = λ k d h. absurd (omega arith) }

pub IsFilled-more : (regions : List Region) (i : ℕ) (bytes : List ℕ) (d : Region) → i < length regions → IsFilled regions i bytes → (get_or regions i d).span.last < 2 ^ 64 → IsFilled regions (i + 1) (take (24 * i) bytes ++ (property (get_or regions i d) ++ drop (24 * i + 24) bytes))
IsFilled-more regions i bytes d h so_far small =
    let is : get_or regions i d ≡ get_or regions i (get_or regions i d) = get_or_default regions i d (get_or regions i d) h in
    record {
      filled_to = filled-more regions i bytes (get_or regions i d) h so_far.filled_to is;
      within = λ k e below. elim (cases_lt k i) [ inl before ↦ so_far.within k e before | inr after ↦ last_within k e below after ];
    }
  where
    last_within : (k : ℕ) (e : Region) → k < i + 1 → i ≤ k → (get_or regions k e).span.last < 2 ^ 64
    last_within k e below after =
        let here : k ≡ i = omega arith in
        rw (here, get_or_default regions i e d h) small
