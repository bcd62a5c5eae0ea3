-- The steps of a walk over what is taken.
use Rattle.std.proofs.Common.{◌≡◌, ℕ, ◌+◌, ◌-◌, ◌^◌, ◌≤◌, ◌<◌, ◌||◌, false, List, [], ◌∷◌, Option, Some, None, refl, sym, ap, ◌∙◌, subst, arith, le_refl}
use Rattle.std.proofs.lemmas.Bool.{or_parts}
use Rattle.std.proofs.lemmas.Bool.Decides.{nat_tests}
use Rattle.vi_bytes.specs.Spans.{meets, IsMultiple}
use Rattle.vi_bytes.specs.declared.span.Span.{Span}
use Rattle.vi_iova.specs.declared.walk.Wanted.{Wanted}
use Rattle.vi_iova.specs.Spaces.{span_of}
use Rattle.vi_iova.specs.Order.{BeginFrom, AreRising}
use Rattle.vi_iova.specs.Walks.{BeginAbove, any_meets, IsClear, Finds, IsPast}

-- what begins above a span's end doesn't meet it
none_from : (address : ℕ) (span : Span) (ts : List Span) → span.last < address → BeginFrom address ts → any_meets span ts ≡ false
none_from address span [] below from = refl
none_from address span (t ∷ ts) below from =
    let above : address ≤ t.first = from.0 in
    let here : meets t span ≡ false = grind (arith, nat_tests) in
    ap (λ b. b || any_meets span ts) here ∙ none_from address span ts below from.1

pub none_above : (span : Span) (ts : List Span) → AreRising ts → BeginAbove span.last ts → any_meets span ts ≡ false
none_above span [] rising above = refl
none_above span (t ∷ ts) rising above = none_from t.first span (t ∷ ts) above (le_refl t.first, rising.0)

-- A taken span that begins by the end of the first place is passed: what is clear of it begins above it, and the other way
-- round.
clear_of : (t : Span) (rest : List Span) (a first len : ℕ) → t.first ≤ a + (len - 1) → a ≤ first → any_meets (span_of first len) (t ∷ rest) ≡ false → (t.last < first) × (any_meets (span_of first len) rest ≡ false)
clear_of t rest a first len begins from none =
    let parts = or_parts (meets t (span_of first len)) (any_meets (span_of first len) rest) none in
    let here : meets t (span_of first len) ≡ false = parts.0 in
    (grind (arith, nat_tests), parts.1)

clear_again : (t : Span) (rest : List Span) (first len : ℕ) → t.last < first → any_meets (span_of first len) rest ≡ false → any_meets (span_of first len) (t ∷ rest) ≡ false
clear_again t rest first len above none =
    let here : meets t (span_of first len) ≡ false = grind (arith, nat_tests) in
    ap (λ b. b || any_meets (span_of first len) rest) here ∙ none

-- where the same places are clear of less that is taken, the walk goes on there
moved : (w : Wanted) (live kept live' kept' : List Span) (a next : ℕ) (r : Option Span) → a ≤ next
    → ((first : ℕ) → a ≤ first → IsClear w live kept first → (next ≤ first) × IsClear w live' kept' first)
    → ((first : ℕ) → next ≤ first → IsClear w live' kept' first → IsClear w live kept first)
    → Finds w live' kept' next r → Finds w live kept a r
moved w live kept live' kept' a next None up forth back found = λ first from clear. let h = forth first from clear in found first h.0 h.1
moved w live kept live' kept' a next (Some span) up forth back found =
    let from : next ≤ span.first = found.begins in
    record {
      is = found.is;
      begins = omega arith;
      clear = back span.first from found.clear;
      lowest = λ first at clear. let h = forth first at clear in found.lowest first h.0 h.1;
    }

pub past_live : (w : Wanted) (live rest kept : List Span) (t : Span) (a next : ℕ) (r : Option Span) → live ≡ t ∷ rest → t.first ≤ a + (w.len - 1) → IsPast w.granule a t.last next → Finds w rest kept next r → Finds w live kept a r
past_live w live rest kept t a next r is begins past found =
    subst (λ ts. Finds w ts kept a r) (sym is) (moved w (t ∷ rest) kept rest kept a next r past.from forth back found)
  where
    forth : (first : ℕ) → a ≤ first → IsClear w (t ∷ rest) kept first → (next ≤ first) × IsClear w rest kept first
    forth first from clear =
        let h = clear_of t rest a first w.len begins from clear.apart in
        (past.lowest first clear.whole from h.0, record { whole = clear.whole; ends = clear.ends; apart = h.1; kept = clear.kept })

    back : (first : ℕ) → next ≤ first → IsClear w rest kept first → IsClear w (t ∷ rest) kept first
    back first from clear =
        let above : t.last < next = past.above in
        record { whole = clear.whole; ends = clear.ends; apart = clear_again t rest first w.len (omega arith) clear.apart; kept = clear.kept }

pub past_region : (w : Wanted) (live kept rest : List Span) (t : Span) (a next : ℕ) (r : Option Span) → kept ≡ t ∷ rest → t.first ≤ a + (w.len - 1) → IsPast w.granule a t.last next → Finds w live rest next r → Finds w live kept a r
past_region w live kept rest t a next r is begins past found =
    subst (λ ts. Finds w live ts a r) (sym is) (moved w live (t ∷ rest) live rest a next r past.from forth back found)
  where
    forth : (first : ℕ) → a ≤ first → IsClear w live (t ∷ rest) first → (next ≤ first) × IsClear w live rest first
    forth first from clear =
        let h = clear_of t rest a first w.len begins from clear.kept in
        (past.lowest first clear.whole from h.0, record { whole = clear.whole; ends = clear.ends; apart = clear.apart; kept = h.1 })

    back : (first : ℕ) → next ≤ first → IsClear w live rest first → IsClear w live (t ∷ rest) first
    back first from clear =
        let above : t.last < next = past.above in
        record { whole = clear.whole; ends = clear.ends; apart = clear.apart; kept = clear_again t rest first w.len (omega arith) clear.kept }

-- no address above the taken span is a multiple
pub end_of_live : (w : Wanted) (live rest kept : List Span) (t : Span) (a : ℕ) → live ≡ t ∷ rest → t.first ≤ a + (w.len - 1) → w.last < 2 ^ 64 → ((n : ℕ) → IsMultiple w.granule n → t.last < n → 2 ^ 64 ≤ n) → Finds w live kept a None
end_of_live w live rest kept t a is begins small none = λ first from clear.
    let h = clear_of t rest a first w.len begins from (subst (λ ts. any_meets (span_of first w.len) ts ≡ false) is clear.apart) in
    let large : 2 ^ 64 ≤ first = none first clear.whole h.0 in
    let ends : first + (w.len - 1) ≤ w.last = clear.ends in
    absurd (omega arith)

pub end_of_regions : (w : Wanted) (live kept rest : List Span) (t : Span) (a : ℕ) → kept ≡ t ∷ rest → t.first ≤ a + (w.len - 1) → w.last < 2 ^ 64 → ((n : ℕ) → IsMultiple w.granule n → t.last < n → 2 ^ 64 ≤ n) → Finds w live kept a None
end_of_regions w live kept rest t a is begins small none = λ first from clear.
    let h = clear_of t rest a first w.len begins from (subst (λ ts. any_meets (span_of first w.len) ts ≡ false) is clear.kept) in
    let large : 2 ^ 64 ≤ first = none first clear.whole h.0 in
    let ends : first + (w.len - 1) ≤ w.last = clear.ends in
    absurd (omega arith)

-- what is wanted doesn't fit from here on
pub end_of_range : (w : Wanted) (live kept : List Span) (a : ℕ) → w.last < a + (w.len - 1) → Finds w live kept a None
end_of_range w live kept a over = λ first from clear.
    let ends : first + (w.len - 1) ≤ w.last = clear.ends in
    absurd (omega arith)

-- nothing that is still taken begins by the end of this place
pub clear_here : (w : Wanted) (live kept : List Span) (a : ℕ) (span : Span) → IsMultiple w.granule a → span ≡ span_of a w.len → span.last ≤ w.last → AreRising live → AreRising kept → BeginAbove span.last live → BeginAbove span.last kept → Finds w live kept a (Some span)
clear_here w live kept a span whole is ends live_rising kept_rising live_above kept_above =
    subst (λ s. Finds w live kept a (Some s)) (sym is) (record {
      is = refl;
      begins = le_refl a;
      clear = record {
        whole = whole;
        ends = subst (λ s. s.last ≤ w.last) is ends;
        apart = subst (λ s. any_meets s live ≡ false) is (none_above span live live_rising live_above);
        kept = subst (λ s. any_meets s kept ≡ false) is (none_above span kept kept_rising kept_above);
      };
      lowest = λ first from clear. from;
    })

-- A walk from a place on, through these taken spans, stands at this place before these ones: what is found of the rest is
-- what is found of the whole.
pub record IsWalked (w : Wanted) (live kept : List Span) (start : ℕ) (ahead regions : List Span) (place : ℕ) : Type 0 where
  pub whole : IsMultiple w.granule place
  pub ahead_rise : AreRising ahead
  pub regions_rise : AreRising regions
  pub found : (r : Option Span) → Finds w ahead regions place r → Finds w live kept start r

pub walked-start : (w : Wanted) (live kept : List Span) (start : ℕ) → IsMultiple w.granule start → AreRising live → AreRising kept → IsWalked w live kept start live kept start
walked-start w live kept start whole live_rises kept_rises = record { whole = whole; ahead_rise = live_rises; regions_rise = kept_rises; found = λ r f. f }

rest_rises : (ts rest : List Span) (t : Span) → ts ≡ t ∷ rest → AreRising ts → AreRising rest
rest_rises ts rest t is rises = (subst AreRising is rises).1

pub walked-live : (w : Wanted) (live kept : List Span) (start : ℕ) (ahead rest regions : List Span) (place next : ℕ) (span t : Span) → IsWalked w live kept start ahead regions place → span ≡ span_of place w.len → ahead ≡ t ∷ rest → t.first ≤ span.last → IsPast w.granule place t.last next → IsWalked w live kept start rest regions next
walked-live w live kept start ahead rest regions place next span t walked here is begins past = record {
  whole = past.whole;
  ahead_rise = rest_rises ahead rest t is walked.ahead_rise;
  regions_rise = walked.regions_rise;
  found = λ r f. walked.found r (past_live w ahead rest regions t place next r is (subst (λ s. t.first ≤ s.last) here begins) past f);
}

pub walked-region : (w : Wanted) (live kept : List Span) (start : ℕ) (ahead regions rest : List Span) (place next : ℕ) (span t : Span) → IsWalked w live kept start ahead regions place → span ≡ span_of place w.len → regions ≡ t ∷ rest → t.first ≤ span.last → IsPast w.granule place t.last next → IsWalked w live kept start ahead rest next
walked-region w live kept start ahead regions rest place next span t walked here is begins past = record {
  whole = past.whole;
  ahead_rise = walked.ahead_rise;
  regions_rise = rest_rises regions rest t is walked.regions_rise;
  found = λ r f. walked.found r (past_region w ahead regions rest t place next r is (subst (λ s. t.first ≤ s.last) here begins) past f);
}

pub walked-over : (w : Wanted) (live kept : List Span) (start : ℕ) (ahead regions : List Span) (place : ℕ) → IsWalked w live kept start ahead regions place → w.last < place + (w.len - 1) → Finds w live kept start None
walked-over w live kept start ahead regions place walked over = walked.found None (end_of_range w ahead regions place over)

pub walked-live_end : (w : Wanted) (live kept : List Span) (start : ℕ) (ahead rest regions : List Span) (place : ℕ) (span t : Span) → IsWalked w live kept start ahead regions place → span ≡ span_of place w.len → ahead ≡ t ∷ rest → t.first ≤ span.last → w.last < 2 ^ 64 → ((n : ℕ) → IsMultiple w.granule n → t.last < n → 2 ^ 64 ≤ n) → Finds w live kept start None
walked-live_end w live kept start ahead rest regions place span t walked here is begins small none =
    walked.found None (end_of_live w ahead rest regions t place is (subst (λ s. t.first ≤ s.last) here begins) small none)

pub walked-region_end : (w : Wanted) (live kept : List Span) (start : ℕ) (ahead regions rest : List Span) (place : ℕ) (span t : Span) → IsWalked w live kept start ahead regions place → span ≡ span_of place w.len → regions ≡ t ∷ rest → t.first ≤ span.last → w.last < 2 ^ 64 → ((n : ℕ) → IsMultiple w.granule n → t.last < n → 2 ^ 64 ≤ n) → Finds w live kept start None
walked-region_end w live kept start ahead regions rest place span t walked here is begins small none =
    walked.found None (end_of_regions w ahead regions rest t place is (subst (λ s. t.first ≤ s.last) here begins) small none)

pub walked-found : (w : Wanted) (live kept : List Span) (start : ℕ) (ahead regions : List Span) (place : ℕ) (span : Span) → IsWalked w live kept start ahead regions place → span ≡ span_of place w.len → span.last ≤ w.last → BeginAbove span.last ahead → BeginAbove span.last regions → Finds w live kept start (Some span)
walked-found w live kept start ahead regions place span walked here ends ahead_above regions_above =
    walked.found (Some span) (clear_here w ahead regions place span walked.whole here ends walked.ahead_rise walked.regions_rise ahead_above regions_above)

pub ruleset steps = (walked-start, walked-live, walked-region, walked-over, walked-live_end, walked-region_end, walked-found)
