-- What a text is read as is valid: it is so of nothing, and each line that is taken keeps it.
use Rattle.std.proofs.Common.{◌≡◌, ◌==◌, ℕ, suc, ◌+◌, ◌<◌, ◌≤◌, true, false, not, ◌&&◌, ◌||◌, List, [], ◌∷◌, ◌++◌, length, refl, ap, sym, subst, ◌∙◌, arith, inl, inr, length-append, append_assoc}
use Rattle.std.specs.Prelude.{nat_lt, nat_le, map}
use Rattle.std.specs.List.{list_any, list_all, find}
use Rattle.std.proofs.lemmas.Bool.{cases_Bool, and_parts, or_parts, not-false, leb-true, ltb-false, le-leb, eqb-true}
use Rattle.std.proofs.lemmas.Bool.Decides.{nat_tests}
use Rattle.std.proofs.lemmas.List.{append-nil}
use Rattle.std.proofs.lemmas.List.Folds.{list_all-append, list_any-append}
use Rattle.vi_bytes.specs.Spans.{meets}
use Rattle.vi_bytes.specs.declared.region.Region.{Region}
use Rattle.vi_bytes.specs.declared.region.EndpointSetup.{EndpointSetup}
use Rattle.vi_history.specs.declared.call.Caller.{Caller}
use Rattle.vi_history.specs.declared.call.Caller.TheVariants.{Driver, Back}
use Rattle.vi_lines.specs.declared.line.Line.{Line}
use Rattle.vi_lines.specs.declared.line.Who.{Who}
use Rattle.vi_lines.specs.declared.line.Who.TheVariants as who
use Rattle.vi_lines.specs.Rules.{is_aligned, job_runs_over, awaits_well}
use Rattle.vi_script.specs.Judging.{is_declared, turn_is_declared, turn_is_driver, regions_in, is_bad_region, line_fits}
use Rattle.vi_lines.specs.Limits.{is_job, is_driver, bytes_in, transferred, open_calls}
use Rattle.vi_script.specs.Said.{Said, reserved_if, declared_endpoint}
use Rattle.vi_lines.specs.Valid.{is_region, AreDisjoint, IsEndpoint, has_endpoint, AreEndpoints, is_caller_in, is_turn_in, does, is_line, AwaitAbove}

-- regions, with one more at the end
disjoint_push : (rs : List Region) (r : Region) → AreDisjoint rs → list_any (λ q. meets q.span r.span) rs ≡ false → AreDisjoint (rs ++ r ∷ [])
disjoint_push [] r apart none = (refl, tt)
disjoint_push (q ∷ qs) r apart none =
    let parts = or_parts (meets q.span r.span) (list_any (λ q. meets q.span r.span) qs) none in
    let here : list_any (λ (p : Region). meets q.span p.span) (qs ++ r ∷ []) ≡ false =
    list_any-append (λ (p : Region). meets q.span p.span) qs (r ∷ []) ∙ rw (apart.0, parts.0) refl in
    (here, disjoint_push qs r apart.1 parts.1)

regions_push : (granule : ℕ) (rs : List Region) (r : Region) → list_all (λ r. is_region granule r) rs ≡ true → is_region granule r ≡ true → list_all (λ r. is_region granule r) (rs ++ r ∷ []) ≡ true
regions_push granule rs r each here = list_all-append (λ (r : Region). is_region granule r) rs (r ∷ []) ∙ rw (each, here) refl

good_region : (granule : ℕ) (rs : List Region) (r : Region) → is_bad_region granule rs r.span ≡ false → (is_region granule r ≡ true) × (list_any (λ q. meets q.span r.span) rs ≡ false)
good_region granule rs r h =
    let parts = or_parts (nat_lt r.span.last r.span.first) (not (is_aligned granule r.span) || list_any (λ q. meets q.span r.span) rs) h in
    let more = or_parts (not (is_aligned granule r.span)) (list_any (λ (q : Region). meets q.span r.span) rs) parts.1 in
    let proper : nat_le r.span.first r.span.last ≡ true = le-leb r.span.first r.span.last (ltb-false r.span.last r.span.first parts.0) in
    (rw (proper, not-false (is_aligned granule r.span) more.0) refl, more.1)

endpoint_push : (granule : ℕ) (e : EndpointSetup) (r : Region) → IsEndpoint granule e → length e.regions < 16 → is_bad_region granule e.regions r.span ≡ false
    → IsEndpoint granule (record e { regions = e.regions ++ r ∷ [] })
endpoint_push granule e r ok room good =
    let parts = good_region granule e.regions r good in
    record {
      few = omega (arith, length-append {A = Region});
      regions_each = regions_push granule e.regions r ok.regions_each parts.0;
      disjoint = disjoint_push e.regions r ok.disjoint parts.1;
    }

-- the ids stay where a region is added
has_endpoint-reserved : (es : List EndpointSetup) (id : ℕ) (r : Region) (n : ℕ) → has_endpoint (map (λ e. reserved_if id r e) es) n ≡ has_endpoint es n
has_endpoint-reserved [] id r n = refl
has_endpoint-reserved (e ∷ es) id r n =
    elim (cases_Bool (e.id == id)) [
      | inl y ↦ rw y (ap (λ b. (e.id == n) || b) (has_endpoint-reserved es id r n))
      | inr other ↦ rw other (ap (λ b. (e.id == n) || b) (has_endpoint-reserved es id r n))
    ]

-- endpoints of other ids stay
reserved_others : (es : List EndpointSetup) (id : ℕ) (r : Region) → has_endpoint es id ≡ false → map (λ e. reserved_if id r e) es ≡ es
reserved_others [] id r none = refl
reserved_others (e ∷ es) id r none =
    let parts = or_parts (e.id == id) (has_endpoint es id) none in
    rw parts.0 (ap (λ xs. e ∷ xs) (reserved_others es id r parts.1))

same_id : (a b : ℕ) → (a == b) ≡ true → a ≡ b
same_id a b h = eqb-true a b h

pub endpoints_reserved : (granule : ℕ) (es : List EndpointSetup) (id : ℕ) (r : Region) → AreEndpoints granule es → length (regions_in (find (λ e. e.id == id) es)) < 16
    → is_bad_region granule (regions_in (find (λ e. e.id == id) es)) r.span ≡ false → AreEndpoints granule (map (λ e. reserved_if id r e) es)
endpoints_reserved granule [] id r each room good = tt
endpoints_reserved granule (e ∷ es) id r each room good =
    elim (cases_Bool (e.id == id)) [
      | inl y ↦
          let is : e.id ≡ id = same_id e.id id y in
          let others : has_endpoint es id ≡ false = subst (λ n. has_endpoint es n ≡ false) is each.1 in
          let few : length e.regions < 16 = rw y at room in
          let fine : is_bad_region granule e.regions r.span ≡ false = rw y at good in
          rw (y, reserved_others es id r others) (endpoint_push granule e r each.0 few fine, each.1, each.2)
      | inr other ↦
          let few : length (regions_in (find (λ e. e.id == id) es)) < 16 = rw other at room in
          let fine : is_bad_region granule (regions_in (find (λ e. e.id == id) es)) r.span ≡ false = rw other at good in
          rw other (each.0, has_endpoint-reserved es id r e.id ∙ each.1, endpoints_reserved granule es id r each.2 few fine)
    ]

pub length-reserved : (es : List EndpointSetup) (id : ℕ) (r : Region) → length (map (λ e. reserved_if id r e) es) ≡ length es
length-reserved [] id r = refl
length-reserved (e ∷ es) id r = ap suc (length-reserved es id r)

-- one more endpoint, without regions
has_endpoint-push : (es : List EndpointSetup) (id n : ℕ) → has_endpoint (es ++ declared_endpoint id ∷ []) n ≡ (has_endpoint es n || ((id == n) || false))
has_endpoint-push es id n = list_any-append (λ (e : EndpointSetup). e.id == n) es (declared_endpoint id ∷ [])

differ : (a b : ℕ) → (a == b) ≡ false → (b == a) ≡ false
differ a b h = grind (arith, nat_tests)

pub endpoints_push : (granule : ℕ) (es : List EndpointSetup) (id : ℕ) → AreEndpoints granule es → has_endpoint es id ≡ false → AreEndpoints granule (es ++ declared_endpoint id ∷ [])
endpoints_push granule [] id each fresh = (record { few = omega arith; regions_each = refl; disjoint = tt }, refl, tt)
endpoints_push granule (e ∷ es) id each fresh =
    let parts = or_parts (e.id == id) (has_endpoint es id) fresh in
    let here : has_endpoint (es ++ declared_endpoint id ∷ []) e.id ≡ false = has_endpoint-push es id e.id ∙ rw (each.1, differ e.id id parts.0) refl in
    (each.0, here, endpoints_push granule es id each.2 parts.1)

-- another granule, where there are no regions
regions_nil : (rs : List Region) → nat_lt 0 (length rs) ≡ false → rs ≡ []
regions_nil [] h = refl
regions_nil (r ∷ rs) h = let e = ltb-false 0 (length (r ∷ rs)) h in absurd (omega arith)

no_region : (g h : ℕ) (e : EndpointSetup) → IsEndpoint g e → nat_lt 0 (length e.regions) ≡ false → IsEndpoint h e
no_region g h e ok none =
    let is = regions_nil e.regions none in
    record { few = ok.few; regions_each = rw is refl; disjoint = ok.disjoint }

pub without_regions : (g h : ℕ) (es : List EndpointSetup) → AreEndpoints g es → list_any (λ e. nat_lt 0 (length e.regions)) es ≡ false → AreEndpoints h es
without_regions g h [] each none = tt
without_regions g h (e ∷ es) each none =
    let parts = or_parts (nat_lt 0 (length e.regions)) (list_any (λ e. nat_lt 0 (length e.regions)) es) none in
    (no_region g h e each.0 parts.0, each.1, without_regions g h es each.2 parts.1)

-- turns and lines, with one more endpoint and with one more region
turn_push : (es : List EndpointSetup) (id : ℕ) (t : Who) → is_turn_in es t ≡ true → is_turn_in (es ++ declared_endpoint id ∷ []) t ≡ true
turn_push es id (who.Driver number) h = h
turn_push es id (who.Back n) h = has_endpoint-push es id n ∙ rw h refl
turn_push es id who.Device h = refl
turn_push es id who.Events h = refl

pub turns_push : (es : List EndpointSetup) (id : ℕ) (ts : List Who) → list_all (λ t. is_turn_in es t) ts ≡ true → list_all (λ t. is_turn_in (es ++ declared_endpoint id ∷ []) t) ts ≡ true
turns_push es id [] h = refl
turns_push es id (t ∷ ts) h =
    let parts = and_parts (is_turn_in es t) (list_all (λ t. is_turn_in es t) ts) h in
    rw (turn_push es id t parts.0) (turns_push es id ts parts.1)

turn_reserved : (es : List EndpointSetup) (id : ℕ) (r : Region) (t : Who) → is_turn_in (map (λ e. reserved_if id r e) es) t ≡ is_turn_in es t
turn_reserved es id r (who.Driver number) = refl
turn_reserved es id r (who.Back n) = has_endpoint-reserved es id r n
turn_reserved es id r who.Device = refl
turn_reserved es id r who.Events = refl

pub turns_reserved : (es : List EndpointSetup) (id : ℕ) (r : Region) (ts : List Who) → list_all (λ t. is_turn_in (map (λ e. reserved_if id r e) es) t) ts ≡ list_all (λ t. is_turn_in es t) ts
turns_reserved es id r [] = refl
turns_reserved es id r (t ∷ ts) =
    ap (λ b. b && list_all (λ t. is_turn_in (map (λ e. reserved_if id r e) es) t) ts) (turn_reserved es id r t) ∙ ap (λ b. is_turn_in es t && b) (turns_reserved es id r ts)

-- turns that are taken
taken_turn : (above : Said) (t : Who) → turn_is_declared above t ≡ true → turn_is_driver t ≡ true → is_turn_in above.endpoints t ≡ true
taken_turn above (who.Driver number) d f = f
taken_turn above (who.Back id) d f = d
taken_turn above who.Device d f = refl
taken_turn above who.Events d f = refl

pub taken_turns : (above : Said) (ts : List Who) → list_all (λ t. turn_is_declared above t) ts ≡ true → list_all (λ t. turn_is_driver t) ts ≡ true → list_all (λ t. is_turn_in above.endpoints t) ts ≡ true
taken_turns above [] d f = refl
taken_turns above (t ∷ ts) d f =
    let ds = and_parts (turn_is_declared above t) (list_all (λ t. turn_is_declared above t) ts) d in
    let fs = and_parts (turn_is_driver t) (list_all (λ t. turn_is_driver t) ts) f in
    rw (taken_turn above t ds.0 fs.0) (taken_turns above ts ds.1 fs.1)

-- a line that is taken
declared_caller : (above : Said) (c : Caller) → is_declared above c ≡ true → is_driver c ≡ true → is_caller_in above.endpoints c ≡ true
declared_caller above (Driver number) d f = f
declared_caller above (Back id) d f = d

pub record Fits (lines : List Line) (l : Line) : Type 0 where
  pub driver : is_driver l.caller ≡ true
  pub job : is_job l.job ≡ true
  pub bytes : bytes_in lines + transferred l.job ≤ 16777216
  pub few_awaits : nat_le (length l.awaits) 16 ≡ true
  pub calls : open_calls (lines ++ l ∷ []) ≤ 8

pub fits : (lines : List Line) (l : Line) → line_fits lines l ≡ true → Fits lines l
fits lines l h =
    let calls = nat_le (open_calls (lines ++ l ∷ [])) 8 in
    let few = nat_le (length l.awaits) 16 in
    let bytes = nat_le (bytes_in lines + transferred l.job) 16777216 in
    let drivers = list_all (λ a. is_driver a.caller) l.awaits in
    let a = and_parts (is_driver l.caller) (drivers && (is_job l.job && (bytes && (few && calls)))) h in
    let b = and_parts drivers (is_job l.job && (bytes && (few && calls))) a.1 in
    let c = and_parts (is_job l.job) (bytes && (few && calls)) b.1 in
    let d = and_parts bytes (few && calls) c.1 in
    let e = and_parts few calls d.1 in
    record {
      driver = a.0;
      job = c.0;
      bytes = leb-true (bytes_in lines + transferred l.job) 16777216 d.0;
      few_awaits = e.0;
      calls = leb-true (open_calls (lines ++ l ∷ [])) 8 e.1;
    }

pub taken_line : (above : Said) (l : Line) → is_declared above l.caller ≡ true → does l.caller l.add l.job ≡ true → job_runs_over l.job ≡ false → Fits above.lines l → is_line above.endpoints l ≡ true
taken_line above l d k over f = rw (declared_caller above l.caller d f.driver, k, f.job, over, f.few_awaits) refl

pub lines_push : (es : List EndpointSetup) (lines : List Line) (l : Line) → list_all (λ l. is_line es l) lines ≡ true → is_line es l ≡ true → list_all (λ l. is_line es l) (lines ++ l ∷ []) ≡ true
lines_push es lines l each here = list_all-append (λ (l : Line). is_line es l) lines (l ∷ []) ∙ rw (each, here) refl

awaits_push : (before lines : List Line) (l : Line) → AwaitAbove before lines → list_all (λ a. awaits_well (before ++ lines) l.caller a) l.awaits ≡ true → AwaitAbove before (lines ++ l ∷ [])
awaits_push before [] l each here = (subst (λ xs. list_all (λ a. awaits_well xs l.caller a) l.awaits ≡ true) (append-nil before) here, tt)
awaits_push before (k ∷ ks) l each here =
    (each.0, awaits_push (before ++ k ∷ []) ks l each.1 (subst (λ xs. list_all (λ a. awaits_well xs l.caller a) l.awaits ≡ true) (sym (append_assoc before (k ∷ []) ks)) here))

pub all_awaits_push : (lines : List Line) (l : Line) → AwaitAbove [] lines → list_all (λ a. awaits_well lines l.caller a) l.awaits ≡ true → AwaitAbove [] (lines ++ l ∷ [])
all_awaits_push lines l each here = awaits_push [] lines l each here
