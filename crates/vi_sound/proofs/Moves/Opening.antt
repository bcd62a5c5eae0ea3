-- The world in which nothing has happened is sound.
use Rattle.std.proofs.Common.{◌≡◌, ◌==◌, ℕ, zero, suc, ◌<◌, true, ◌||◌, ◌⊎◌, inl, inr, List, [], ◌∷◌, get_or, replicate, length, map, None, refl, arith, ◌∙◌, sym, subst, ap}
use Rattle.std.specs.Prelude.{nat_le}
use Rattle.std.specs.List.{AllByRecursion, list_all}
use Rattle.std.proofs.lemmas.Bool.Decides.{nat_tests}
use Rattle.std.proofs.lemmas.Bool.{and_parts, or_cases, eqb-true}
use Rattle.vi_bytes.specs.declared.region.Region.{Region}
use Rattle.vi_bytes.specs.declared.region.EndpointSetup.{EndpointSetup}
use Rattle.vi_history.specs.Start.{unattached, start_dev, start}
use Rattle.vi_history.specs.Records.{records}
use Rattle.vi_lines.specs.Value.{ScriptValue}
use Rattle.vi_lines.specs.Valid.{is_region, AreEndpoints, IsValid}
use Rattle.vi_lines.specs.Rules.{is_aligned}
use Rattle.vi_lines.specs.Limits.{is_granule}
use Rattle.vi_model.specs.Control.{Link, Port, driver_count, no_port, no_lanes, joined}
use Rattle.vi_model.specs.Places.{place_count}
use Rattle.vi_model.specs.Drivers.{no_stand}
use Rattle.vi_model.specs.Backs.{no_seat}
use Rattle.vi_model.specs.Worlds.{World, opening}
use Rattle.vi_model.specs.Whole.{IsWholeRegion, IsWholeEndpoint, IsWholeDev}
use Rattle.vi_model.specs.Rooms.{all_parts}
use Rattle.vi_model.specs.Asking.{one_if}
use Rattle.vi_model.specs.Held.{count_held, SettingIsCall, is_among_first, IsSoundDriver}
use Rattle.vi_model.specs.Playable.{IsPlayable}
use Rattle.vi_model.specs.Sound.{IsTold, IsSoundBack, SoundParts}
use Rattle.vi_sound.proofs.Space.Pages.{opening_room}

-- ---- the device at the start

whole_region : (g : ℕ) (r : Region) → (g ≡ 4096) ⊎ ((g ≡ 16384) ⊎ (g ≡ 65536)) → is_region g r ≡ true → IsWholeRegion r
whole_region g r size h = go size
  where
    aligned : is_aligned g r.span ≡ true
    aligned = (and_parts (nat_le r.span.first r.span.last) (is_aligned g r.span) h).1

    go : (g ≡ 4096) ⊎ ((g ≡ 16384) ⊎ (g ≡ 65536)) → IsWholeRegion r
    go (inl e) = let k : is_aligned 4096 r.span ≡ true = ap (λ n. is_aligned n r.span) (sym e) ∙ aligned in grind (arith, nat_tests, k)
    go (inr (inl e)) = let k : is_aligned 16384 r.span ≡ true = ap (λ n. is_aligned n r.span) (sym e) ∙ aligned in grind (arith, nat_tests, k)
    go (inr (inr e)) = let k : is_aligned 65536 r.span ≡ true = ap (λ n. is_aligned n r.span) (sym e) ∙ aligned in grind (arith, nat_tests, k)

whole_regions : (g : ℕ) (rs : List Region) → (g ≡ 4096) ⊎ ((g ≡ 16384) ⊎ (g ≡ 65536)) → list_all (λ r. is_region g r) rs ≡ true → AllByRecursion IsWholeRegion rs
whole_regions g [] size h = tt
whole_regions g (r ∷ rs) size h = let b = and_parts (is_region g r) (list_all (λ r. is_region g r) rs) h in (whole_region g r size b.0, whole_regions g rs size b.1)

whole_endpoints : (g : ℕ) (es : List EndpointSetup) → (g ≡ 4096) ⊎ ((g ≡ 16384) ⊎ (g ≡ 65536)) → AreEndpoints g es → AllByRecursion IsWholeEndpoint (map (λ e. unattached e) es)
whole_endpoints g [] size are = tt
whole_endpoints g (e ∷ es) size are = (whole_regions g e.regions size are.0.regions_each, whole_endpoints g es size are.2)

granule_size : (g : ℕ) → is_granule g ≡ true → (g ≡ 4096) ⊎ ((g ≡ 16384) ⊎ (g ≡ 65536))
granule_size g h = go (or_cases (g == 4096) ((g == 16384) || (g == 65536)) h)
  where
    go : ((g == 4096) ≡ true) ⊎ (((g == 16384) || (g == 65536)) ≡ true) → (g ≡ 4096) ⊎ ((g ≡ 16384) ⊎ (g ≡ 65536))
    go (inl e) = inl (eqb-true g 4096 e)
    go (inr f) = by (or_cases (g == 16384) (g == 65536) f)
      where
        by : ((g == 16384) ≡ true) ⊎ ((g == 65536) ≡ true) → (g ≡ 4096) ⊎ ((g ≡ 16384) ⊎ (g ≡ 65536))
        by (inl e) = inr (inl (eqb-true g 16384 e))
        by (inr e) = inr (inr (eqb-true g 65536 e))

start_whole : (s : ScriptValue) → IsValid s → IsWholeDev (start_dev s.setup)
start_whole s valid =
    let size = granule_size s.setup.granule valid.setup_valid.granule_fits in
    record { granule = size; endpoints = whole_endpoints s.setup.granule s.setup.endpoints size valid.setup_valid.endpoints_each; domains = tt; ids = tt }

-- ---- the world

pub same_all : {A : Type 0} (n k : ℕ) (d : A) → get_or (replicate n d) k d ≡ d
same_all zero k d = refl
same_all (suc n) zero d = refl
same_all (suc n) (suc k) d = same_all n k d

all_length : {A : Type 0} (n : ℕ) (d : A) → length (replicate n d) ≡ n
all_length zero d = refl
all_length (suc n) d = ap suc (all_length n d)

abbrev pub fresh_link : ℕ → Link
fresh_link f = record { grants = []; spare = f; down = []; acks = 0; up = []; replies = []; parked = None; posted = 0 }

pub opening_link : (n k f : ℕ) → k < n → joined (get_or (replicate n []) k []) (get_or (replicate n f) k 0) (get_or (replicate n no_lanes) k no_lanes) (get_or (replicate n None) k None) (get_or (replicate n 0) k 0) ≡ fresh_link f
opening_link zero k f lt = absurd (omega (arith, lt))
opening_link (suc n) zero f lt = refl
opening_link (suc n) (suc k) f lt = opening_link n k f (omega (arith, lt))

fresh_back : (s : ScriptValue) (k : ℕ) → IsSoundBack s (start_dev s.setup) [] [] k (fresh_link (all_parts s)) no_seat
fresh_back s k = record {
  link = record { distinct = tt; asked = λ p l f. absurd cc; cached = tt; updates = tt; current = λ p l f. absurd cc; wait = tt; gone = []; count = refl; order = refl; clear = tt; behind = tt };
  miss = record { one = omega arith; up = tt; parked = tt; updates = omega arith; posted = λ o. absurd cc; told = refl; low = omega arith };
  room = opening_room s k;
  track = record { at = refl; ready = λ o. absurd cc; opened = λ o. absurd cc; faulted = λ f. absurd cc };
}

none_first : (line : ℕ) → one_if (is_among_first line 0) ≡ 0
none_first line = grind (arith, nat_tests)

fresh_driver : (s : ScriptValue) (j : ℕ) → IsSoundDriver s j (count_held [] [] None j) [] [] 0 no_stand
fresh_driver s j = record {
  one = λ line. omega arith;
  once = λ line. omega arith;
  lines = omega arith;
  below = λ line o. absurd (omega (arith, o));
  batch = λ a b i k. absurd (omega (arith, i));
  told = tt;
  entered = λ line. let n = none_first line in omega (arith, n);
  opened = λ line o. absurd (omega (arith, o));
  posted_is = refl;
}

fresh_told : (s : ScriptValue) → IsTold s (start_dev s.setup) (start s.setup).memory (let w : World = opening s in w.control.events) []
unfolding start records opening
fresh_told s = record {
  calls = [];
  named = refl;
  legal = tt;
  ordered = tt;
  one = refl;
  shown = record { taken = tt; count = omega arith; enough = λ o. absurd (omega arith); first = λ i b o. absurd (omega arith); read = []; last = refl; few = omega arith };
}

pub opening_sound : (s : ScriptValue) → IsPlayable s → SoundParts s (opening s)
unfolding opening
opening_sound s play = record {
  told = fresh_told s;
  whole = start_whole s play.valid;
  maps = omega arith;
  records = omega arith;
  tables = record { of_grants = all_length (place_count s) []; of_spares = all_length (place_count s) (all_parts s); of_mail = all_length (place_count s) no_lanes; of_parked = all_length (place_count s) None; of_posted = all_length (place_count s) 0 };
  seats = all_length (place_count s) no_seat;
  ports = all_length driver_count no_port;
  stands = all_length driver_count no_stand;
  queue = tt;
  removals = tt;
  settings = λ j below. subst (λ (p : Port). SettingIsCall s j p.setting) (sym (same_all driver_count j no_port)) tt;
  backs = λ k below. subst (λ x. IsSoundBack s (start_dev s.setup) [] [] k x (get_or (replicate (place_count s) no_seat) k no_seat)) (sym (opening_link (place_count s) k (all_parts s) below))
      (subst (λ z. IsSoundBack s (start_dev s.setup) [] [] k (fresh_link (all_parts s)) z) (sym (same_all (place_count s) k no_seat)) (fresh_back s k));
  drivers = λ j below. subst (λ (p : Port). IsSoundDriver s j (count_held [] [] p.setting j) [] p.answered p.posted (get_or (replicate driver_count no_stand) j no_stand)) (sym (same_all driver_count j no_port))
      (subst (λ d. IsSoundDriver s j (count_held [] [] None j) [] [] 0 d) (sym (same_all driver_count j no_stand)) (fresh_driver s j));
}
