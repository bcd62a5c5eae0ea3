-- Lists of mappings that lie apart, split at one of them.
use Rattle.std.proofs.Common.{◌≡◌, ℕ, ◌+◌, ◌≤◌, ◌<◌, ◌&&◌, Bool, true, false, not, cond, nat_lt, ◌==◌, List, [], ◌∷◌, ◌++◌, length, Option, Some, None, refl, sym, ap, ◌∙◌, arith, subst}
use Rattle.std.specs.List.{find}
use Rattle.std.specs.Option.{option_or}
use Rattle.std.proofs.lemmas.Bool.{le-ltb, lt-ltb, cond-true, cond-false, ne_eqb, eq-eqb}
use Rattle.std.proofs.lemmas.Bool.Decides.{nat_tests}
use Rattle.std.proofs.lemmas.List.Elements.{filter-append}
use Rattle.std.proofs.lemmas.List.Folds.{find-append}
use Rattle.vi_bytes.specs.declared.span.Span.{Span}
use Rattle.vi_bytes.specs.declared.lease.Mapping.{Mapping}
use Rattle.vi_bytes.specs.Spans.{IsProper, has, meets, covers}
use Rattle.vi_bytes.specs.Mappings.{AreBehind, AreApart, mapping_at, mapping_meeting, is_cut, mapping_cut, with_mapping, within_span, without_span}
use Rattle.vi_tree.specs.Trees.{others_than, cut_of}
use Rattle.vi_ranges.proofs.MappingLemmas.{by_test, AreBehind-lower, find_nothing}

-- each mapping of the list ends before the address
abbrev pub AreBefore : ℕ → List Mapping → Type 0
AreBefore address [] = Unit {0}
AreBefore address (m ∷ ms) = IsProper m.span × (m.span.last < address) × AreBefore address ms

behind_left : (a : ℕ) (xs ys : List Mapping) → AreBehind a (xs ++ ys) → AreBehind a xs
behind_left a [] ys behind = tt
behind_left a (x ∷ xs) ys behind = (behind.0, behind_left a xs ys behind.1)

behind_right : (a : ℕ) (xs ys : List Mapping) → AreBehind a (xs ++ ys) → AreBehind a ys
behind_right a [] ys behind = behind
behind_right a (x ∷ xs) ys behind = behind_right a xs ys behind.1

-- the parts of a list that lies apart
pub AreApart-left : (xs ys : List Mapping) → AreApart (xs ++ ys) → AreApart xs
AreApart-left [] ys apart = tt
AreApart-left (x ∷ xs) ys apart = (apart.0, behind_left x.span.last xs ys apart.1, AreApart-left xs ys apart.2)

pub AreApart-right : (xs ys : List Mapping) → AreApart (xs ++ ys) → AreApart ys
AreApart-right [] ys apart = apart
AreApart-right (x ∷ xs) ys apart = AreApart-right xs ys apart.2

pub AreBefore-from_apart : (xs : List Mapping) (x : Mapping) (ys : List Mapping) → AreApart (xs ++ x ∷ ys) → AreBefore x.span.first xs
AreBefore-from_apart [] x ys apart = tt
AreBefore-from_apart (y ∷ xs) x ys apart = (apart.0, (behind_right y.span.last xs (x ∷ ys) apart.1).0, AreBefore-from_apart xs x ys apart.2)

-- where a mapping goes by the first address of one that is there
pub with_mapping-lower : (m x : Mapping) (xs ys : List Mapping) → m.span.first < x.span.first → with_mapping m (xs ++ x ∷ ys) ≡ with_mapping m xs ++ x ∷ ys
with_mapping-lower m x [] ys lower = cond-true (nat_lt m.span.first x.span.first) (m ∷ x ∷ ys) (x ∷ with_mapping m ys) (lt-ltb m.span.first x.span.first lower)
with_mapping-lower m x (y ∷ xs) ys lower =
    let rest = with_mapping-lower m x xs ys lower in
    elim (nat_lt m.span.first y.span.first) as (λ b. cond b (m ∷ y ∷ (xs ++ x ∷ ys)) (y ∷ with_mapping m (xs ++ x ∷ ys)) ≡ cond b (m ∷ y ∷ xs) (y ∷ with_mapping m xs) ++ x ∷ ys) [ true ↦ refl | false ↦ ap (λ zs. y ∷ zs) rest ]

pub with_mapping-higher : (m x : Mapping) (xs ys : List Mapping) → AreBefore x.span.first xs → x.span.first ≤ m.span.first → with_mapping m (xs ++ x ∷ ys) ≡ xs ++ x ∷ with_mapping m ys
with_mapping-higher m x [] ys before higher = cond-false (nat_lt m.span.first x.span.first) (m ∷ x ∷ ys) (x ∷ with_mapping m ys) (le-ltb m.span.first x.span.first higher)
with_mapping-higher m x (y ∷ xs) ys before higher =
    let proper : y.span.first ≤ y.span.last = before.0 in
    let ends : y.span.last < x.span.first = before.1 in
    cond-false (nat_lt m.span.first y.span.first) (m ∷ y ∷ (xs ++ x ∷ ys)) (y ∷ with_mapping m (xs ++ x ∷ ys)) (le-ltb m.span.first y.span.first (omega arith))
    ∙ ap (λ zs. y ∷ zs) (with_mapping-higher m x xs ys before.2 higher)

-- nothing behind the span or before it meets the span
pub meeting_behind : (span : Span) (ms : List Mapping) → AreBehind span.last ms → mapping_meeting span ms ≡ None
meeting_behind span [] behind = refl
meeting_behind span (m ∷ ms) behind =
    let begins : span.last < m.span.first = behind.0 in
    let clear : meets m.span span ≡ false = grind (arith, nat_tests) in
    cond-false (meets m.span span) (Some m) (mapping_meeting span ms) clear ∙ meeting_behind span ms behind.1

pub meeting_before : (span : Span) (address : ℕ) (ms : List Mapping) → AreBefore address ms → address ≤ span.first → mapping_meeting span ms ≡ None
meeting_before span address [] before le = refl
meeting_before span address (m ∷ ms) before le =
    let ends : m.span.last < address = before.1 in
    let clear : meets m.span span ≡ false = grind (arith, nat_tests) in
    cond-false (meets m.span span) (Some m) (mapping_meeting span ms) clear ∙ meeting_before span address ms before.2 le

pub or_none : (o : Option Mapping) → option_or o None ≡ o
or_none None = refl
or_none (Some m) = refl

-- the lowest that meets a span, by one of the mappings
pub meeting_lower : (span : Span) (xs : List Mapping) (x : Mapping) (ys : List Mapping) → AreApart (xs ++ x ∷ ys) → span.last < x.span.first → mapping_meeting span (xs ++ x ∷ ys) ≡ mapping_meeting span xs
meeting_lower span xs x ys apart lower =
    let tail : AreApart (x ∷ ys) = AreApart-right xs (x ∷ ys) apart in
    let proper : x.span.first ≤ x.span.last = tail.0 in
    let none = meeting_behind span (x ∷ ys) (lower, AreBehind-lower span.last x.span.last ys (omega arith) tail.1) in
    find-append (λ m. meets m.span span) xs (x ∷ ys) ∙ ap (λ o. option_or (mapping_meeting span xs) o) none ∙ or_none (mapping_meeting span xs)

pub meeting_higher : (span : Span) (xs : List Mapping) (x : Mapping) (ys : List Mapping) → AreApart (xs ++ x ∷ ys) → x.span.last < span.first → mapping_meeting span (xs ++ x ∷ ys) ≡ mapping_meeting span ys
meeting_higher span xs x ys apart higher =
    let tail : AreApart (x ∷ ys) = AreApart-right xs (x ∷ ys) apart in
    let proper : x.span.first ≤ x.span.last = tail.0 in
    let none = meeting_before span x.span.first xs (AreBefore-from_apart xs x ys apart) (omega arith) in
    let clear : meets x.span span ≡ false = grind (arith, nat_tests) in
    find-append (λ m. meets m.span span) xs (x ∷ ys) ∙ ap (λ o. option_or o (mapping_meeting span (x ∷ ys))) none ∙ cond-false (meets x.span span) (Some x) (mapping_meeting span ys) clear

pub meeting_here : (span : Span) (xs : List Mapping) (x : Mapping) (ys : List Mapping) → x.span.first ≤ span.last → span.first ≤ x.span.last → mapping_meeting span (xs ++ x ∷ ys) ≡ option_or (mapping_meeting span xs) (Some x)
meeting_here span xs x ys begins ends =
    let here : meets x.span span ≡ true = grind (arith, nat_tests) in
    find-append (λ m. meets m.span span) xs (x ∷ ys) ∙ ap (λ o. option_or (mapping_meeting span xs) o) (cond-true (meets x.span span) (Some x) (mapping_meeting span ys) here)

-- one that begins at or before the span has no lower one beside it that meets the span
pub meeting_first : (span : Span) (xs : List Mapping) (x : Mapping) (ys : List Mapping) → AreApart (xs ++ x ∷ ys) → x.span.first ≤ span.first → x.span.first ≤ span.last → span.first ≤ x.span.last
    → mapping_meeting span (xs ++ x ∷ ys) ≡ Some x
meeting_first span xs x ys apart low begins ends =
    meeting_here span xs x ys begins ends
    ∙ ap (λ o. option_or o (Some x)) (meeting_before span x.span.first xs (AreBefore-from_apart xs x ys apart) low)

others_behind : (first address : ℕ) (ms : List Mapping) → first ≤ address → AreBehind address ms → others_than first ms ≡ ms
others_behind first address [] le behind = refl
others_behind first address (m ∷ ms) le behind =
    let begins : address < m.span.first = behind.0 in
    let kept : not (m.span.first == first) ≡ true = ap not (ne_eqb m.span.first first (λ e. omega arith)) in
    cond-true (not (m.span.first == first)) (m ∷ others_than first ms) (others_than first ms) kept ∙ ap (λ zs. m ∷ zs) (others_behind first address ms le behind.1)

others_before : (first address : ℕ) (ms : List Mapping) → address ≤ first → AreBefore address ms → others_than first ms ≡ ms
others_before first address [] le before = refl
others_before first address (m ∷ ms) le before =
    let proper : m.span.first ≤ m.span.last = before.0 in
    let ends : m.span.last < address = before.1 in
    let kept : not (m.span.first == first) ≡ true = ap not (ne_eqb m.span.first first (λ e. omega arith)) in
    cond-true (not (m.span.first == first)) (m ∷ others_than first ms) (others_than first ms) kept ∙ ap (λ zs. m ∷ zs) (others_before first address ms le before.2)

pub others_lower : (first : ℕ) (xs : List Mapping) (x : Mapping) (ys : List Mapping) → AreApart (xs ++ x ∷ ys) → first < x.span.first → others_than first (xs ++ x ∷ ys) ≡ others_than first xs ++ x ∷ ys
others_lower first xs x ys apart lower =
    let tail : AreApart (x ∷ ys) = AreApart-right xs (x ∷ ys) apart in
    let proper : x.span.first ≤ x.span.last = tail.0 in
    let same = others_behind first first (x ∷ ys) (omega arith) (lower, AreBehind-lower first x.span.last ys (omega arith) tail.1) in
    filter-append (λ m. not (m.span.first == first)) xs (x ∷ ys) ∙ ap (λ zs. others_than first xs ++ zs) same

pub others_higher : (first : ℕ) (xs : List Mapping) (x : Mapping) (ys : List Mapping) → AreApart (xs ++ x ∷ ys) → x.span.first < first → others_than first (xs ++ x ∷ ys) ≡ xs ++ x ∷ others_than first ys
others_higher first xs x ys apart higher =
    let same = others_before first x.span.first xs (omega arith) (AreBefore-from_apart xs x ys apart) in
    let kept : not (x.span.first == first) ≡ true = ap not (ne_eqb x.span.first first (λ e. omega arith)) in
    filter-append (λ m. not (m.span.first == first)) xs (x ∷ ys) ∙ ap (λ zs. zs ++ others_than first (x ∷ ys)) same ∙ ap (λ zs. xs ++ zs) (cond-true (not (x.span.first == first)) (x ∷ others_than first ys) (others_than first ys) kept)

pub others_here : (first : ℕ) (xs : List Mapping) (x : Mapping) (ys : List Mapping) → AreApart (xs ++ x ∷ ys) → x.span.first ≡ first → others_than first (xs ++ x ∷ ys) ≡ xs ++ ys
others_here first xs x ys apart here =
    let tail : AreApart (x ∷ ys) = AreApart-right xs (x ∷ ys) apart in
    let proper : x.span.first ≤ x.span.last = tail.0 in
    let front = others_before first x.span.first xs (omega arith) (AreBefore-from_apart xs x ys apart) in
    let back = others_behind first x.span.last ys (omega arith) tail.1 in
    let gone : not (x.span.first == first) ≡ false = ap not (eq-eqb x.span.first first here) in
    filter-append (λ m. not (m.span.first == first)) xs (x ∷ ys) ∙ ap (λ zs. zs ++ others_than first (x ∷ ys)) front ∙ ap (λ zs. xs ++ zs) (cond-false (not (x.span.first == first)) (x ∷ others_than first ys) (others_than first ys) gone ∙ back)

-- what a search finds behind an address begins behind it
found_behind : (p : Mapping → Bool) (address : ℕ) (ms : List Mapping) (met : Mapping) → AreBehind address ms → find p ms ≡ Some met → address < met.span.first
found_behind p address [] met behind found = absurd (cc)
found_behind p address (m ∷ ms) met behind found =
    let P : Bool → Type 0 = λ b. cond b (Some m) (find p ms) ≡ Some met → address < met.span.first in
    let begins : address < m.span.first = behind.0 in
    let case : (b : Bool) → P b = λ b. elim b as P [ true ↦ λ (same : Some m ≡ Some met). let is : m ≡ met = cc in (rw is at begins) | false ↦ λ (rest : find p ms ≡ Some met). found_behind p address ms met behind.1 rest ] in
    case (p m) found

-- what taking out the lowest mapping that meets a span leaves, where none is cut
pub record TakesOne (span : Span) (ms : List Mapping) (met : Mapping) : Type 0 where
  pub one : length (others_than met.span.first ms) + 1 ≡ length ms
  pub kept : without_span span (others_than met.span.first ms) ≡ without_span span ms
  pub within : length (within_span span (others_than met.span.first ms)) + 1 ≡ length (within_span span ms)
  pub uncut : mapping_cut span (others_than met.span.first ms) ≡ None

takes_first : (span : Span) (x : Mapping) (xs : List Mapping) → AreApart (x ∷ xs) → covers span x.span ≡ true → mapping_cut span xs ≡ None → TakesOne span (x ∷ xs) x
takes_first span x xs apart covered uncut =
    let proper : x.span.first ≤ x.span.last = apart.0 in
    let gone : not (x.span.first == x.span.first) ≡ false = ap not (eq-eqb x.span.first x.span.first refl) in
    let rest : others_than x.span.first (x ∷ xs) ≡ xs = cond-false (not (x.span.first == x.span.first)) (x ∷ others_than x.span.first xs) (others_than x.span.first xs) gone ∙ others_behind x.span.first x.span.last xs proper apart.1 in
    let outside : without_span span (x ∷ xs) ≡ without_span span xs = cond-false (not (covers span x.span)) (x ∷ without_span span xs) (without_span span xs) (ap not covered) in
    let inside : within_span span (x ∷ xs) ≡ x ∷ within_span span xs = cond-true (covers span x.span) (x ∷ within_span span xs) (within_span span xs) covered in
    record {
      one = ap (λ zs. length zs + 1) rest ∙ omega arith;
      kept = ap (λ zs. without_span span zs) rest ∙ sym outside;
      within = omega (arith, ap (λ zs. length (within_span span zs)) rest, ap length inside);
      uncut = ap (λ zs. mapping_cut span zs) rest ∙ uncut;
    }

takes_later : (span : Span) (x : Mapping) (xs : List Mapping) (met : Mapping) → AreApart (x ∷ xs) → meets x.span span ≡ false → IsProper span → x.span.last < met.span.first → TakesOne span xs met → TakesOne span (x ∷ xs) met
takes_later span x xs met apart clear proper behind later =
    let x_proper : x.span.first ≤ x.span.last = apart.0 in
    let out : covers span x.span ≡ false = grind (arith, nat_tests) in
    let stays : not (x.span.first == met.span.first) ≡ true = ap not (ne_eqb x.span.first met.span.first (λ e. omega arith)) in
    let rest : others_than met.span.first (x ∷ xs) ≡ x ∷ others_than met.span.first xs = cond-true (not (x.span.first == met.span.first)) (x ∷ others_than met.span.first xs) (others_than met.span.first xs) stays in
    let outside : (zs : List Mapping) → without_span span (x ∷ zs) ≡ x ∷ without_span span zs = λ zs. cond-true (not (covers span x.span)) (x ∷ without_span span zs) (without_span span zs) (ap not out) in
    let inside : (zs : List Mapping) → within_span span (x ∷ zs) ≡ within_span span zs = λ zs. cond-false (covers span x.span) (x ∷ within_span span zs) (within_span span zs) out in
    let uncut_x : is_cut span x ≡ false = ap (λ b. b && not (covers span x.span)) clear in
    record {
      one = omega (arith, ap length rest, later.one);
      kept = ap (λ zs. without_span span zs) rest ∙ outside (others_than met.span.first xs) ∙ ap (λ zs. x ∷ zs) later.kept ∙ sym (outside xs);
      within = omega (arith, ap (λ zs. length (within_span span zs)) rest, ap length (inside (others_than met.span.first xs)), later.within, ap length (inside xs));
      uncut = ap (λ zs. mapping_cut span zs) rest ∙ cond-false (is_cut span x) (Some x) (mapping_cut span (others_than met.span.first xs)) uncut_x ∙ later.uncut;
    }

pub takes_one : (span : Span) (ms : List Mapping) (met : Mapping) → AreApart ms → IsProper span → mapping_meeting span ms ≡ Some met → mapping_cut span ms ≡ None → TakesOne span ms met
takes_one span [] met apart proper found uncut = absurd (cc)
takes_one span (x ∷ xs) met apart proper found uncut =
    let nothing = find_nothing (is_cut span) x xs uncut in
    let here : is_cut span x ≡ false = nothing.0 in
    let later = takes_one span xs met apart.2 proper in
    let P : Bool → Type 0 = λ b. cond b (Some x) (mapping_meeting span xs) ≡ Some met → TakesOne span (x ∷ xs) met in
    by_test (meets x.span span) P
    (λ (meet : meets x.span span ≡ true) (same : Some x ≡ Some met).
    let covered : covers span x.span ≡ true = grind (arith, nat_tests) in
    let is : x ≡ met = cc in
    let Q : Mapping → Type 0 = λ m. TakesOne span (x ∷ xs) m in
    subst Q is (takes_first span x xs apart covered nothing.1))
    (λ (clear : meets x.span span ≡ false) (rest : mapping_meeting span xs ≡ Some met).
    takes_later span x xs met apart clear proper (found_behind (λ m. meets m.span span) x.span.last xs met apart.1 rest) (later rest nothing.1))
    found

-- where none meets the span, none lies in it
pub none_within : (span : Span) (ms : List Mapping) → AreApart ms → IsProper span → mapping_meeting span ms ≡ None → (without_span span ms ≡ ms) × (within_span span ms ≡ [])
none_within span [] apart proper none = (refl, refl)
none_within span (x ∷ xs) apart proper none =
    let nothing = find_nothing (λ m. meets m.span span) x xs none in
    let clear : meets x.span span ≡ false = nothing.0 in
    let x_proper : x.span.first ≤ x.span.last = apart.0 in
    let out : covers span x.span ≡ false = grind (arith, nat_tests) in
    let rest = none_within span xs apart.2 proper nothing.1 in (
      cond-true (not (covers span x.span)) (x ∷ without_span span xs) (without_span span xs) (ap not out) ∙ ap (λ zs. x ∷ zs) rest.0,
      cond-false (covers span x.span) (x ∷ within_span span xs) (within_span span xs) out ∙ rest.1,
    )

-- nothing behind an address has it
at_behind : (address low : ℕ) (ms : List Mapping) → AreBehind low ms → address ≤ low → mapping_at address ms ≡ None
at_behind address low [] behind le = refl
at_behind address low (m ∷ ms) behind le =
    let begins : low < m.span.first = behind.0 in
    let clear : has m.span address ≡ false = grind (arith, nat_tests) in
    cond-false (has m.span address) (Some m) (mapping_at address ms) clear ∙ at_behind address low ms behind.1 le

cut_behind : (span : Span) (low : ℕ) (ms : List Mapping) → AreBehind low ms → span.last ≤ low → mapping_cut span ms ≡ None
cut_behind span low [] behind le = refl
cut_behind span low (m ∷ ms) behind le =
    let begins : low < m.span.first = behind.0 in
    let clear : is_cut span m ≡ false = grind (arith, nat_tests) in
    cond-false (is_cut span m) (Some m) (mapping_cut span ms) clear ∙ cut_behind span low ms behind.1 le

-- a mapping that is cut has an end of the span, so the lowest such is found at the ends
pub cut_at_ends : (span : Span) (ms : List Mapping) → AreApart ms → IsProper span → mapping_cut span ms ≡ option_or (cut_of span (mapping_at span.first ms)) (cut_of span (mapping_at span.last ms))
cut_at_ends span [] apart proper = refl
cut_at_ends span (x ∷ xs) apart proper =
    let x_proper : x.span.first ≤ x.span.last = apart.0 in
    let rest = cut_at_ends span xs apart.2 proper in
    let at_first = cond-true (has x.span span.first) (Some x) (mapping_at span.first xs) in
    let past_first = cond-false (has x.span span.first) (Some x) (mapping_at span.first xs) in
    let at_last = cond-true (has x.span span.last) (Some x) (mapping_at span.last xs) in
    let past_last = cond-false (has x.span span.last) (Some x) (mapping_at span.last xs) in
    let cut_here = cond-true (is_cut span x) (Some x) (mapping_cut span xs) in
    let cut_later = cond-false (is_cut span x) (Some x) (mapping_cut span xs) in
    let covered = cond-true (covers span x.span) None (Some x) in
    let uncovered = cond-false (covers span x.span) None (Some x) in
    let Goal : Type 0 = mapping_cut span (x ∷ xs) ≡ option_or (cut_of span (mapping_at span.first (x ∷ xs))) (cut_of span (mapping_at span.last (x ∷ xs))) in
    let both = λ (first last : Option Mapping). option_or (cut_of span first) (cut_of span last) in
    by_test (has x.span span.first) (λ _. Goal)
    (λ (f : has x.span span.first ≡ true). by_test (covers span x.span) (λ _. Goal)
    (λ (c : covers span x.span ≡ true). by_test (has x.span span.last) (λ _. Goal)
    (λ (l : has x.span span.last ≡ true).
    let here : is_cut span x ≡ false = grind (arith, nat_tests) in
    let ends : span.last ≤ x.span.last = grind (arith, nat_tests) in
    cut_later here ∙ cut_behind span x.span.last xs apart.1 ends ∙ sym (ap (λ o. option_or (cut_of span o) (cut_of span (mapping_at span.last (x ∷ xs)))) (at_first f) ∙ ap (λ o. option_or o (cut_of span (mapping_at span.last (x ∷ xs)))) (covered c) ∙ ap (cut_of span) (at_last l) ∙ covered c))
    (λ (l : has x.span span.last ≡ false).
    let here : is_cut span x ≡ false = grind (arith, nat_tests) in
    let begins : span.first ≤ x.span.last = grind (arith, nat_tests) in
    cut_later here ∙ rest ∙ ap (λ o. option_or (cut_of span o) (cut_of span (mapping_at span.last xs))) (at_behind span.first x.span.last xs apart.1 begins)
    ∙ sym (ap (λ o. option_or (cut_of span o) (cut_of span (mapping_at span.last (x ∷ xs)))) (at_first f) ∙ ap (λ o. option_or o (cut_of span (mapping_at span.last (x ∷ xs)))) (covered c) ∙ ap (cut_of span) (past_last l))))
    (λ (c : covers span x.span ≡ false).
    let here : is_cut span x ≡ true = grind (arith, nat_tests) in
    cut_here here ∙ sym (ap (λ o. option_or (cut_of span o) (cut_of span (mapping_at span.last (x ∷ xs)))) (at_first f) ∙ ap (λ o. option_or o (cut_of span (mapping_at span.last (x ∷ xs)))) (uncovered c))))
    (λ (f : has x.span span.first ≡ false). by_test (has x.span span.last) (λ _. Goal)
    (λ (l : has x.span span.last ≡ true).
    let ends : span.last ≤ x.span.last = grind (arith, nat_tests) in
    let none : mapping_at span.first xs ≡ None = at_behind span.first x.span.last xs apart.1 (omega arith) in
    let right : option_or (cut_of span (mapping_at span.first (x ∷ xs))) (cut_of span (mapping_at span.last (x ∷ xs))) ≡ cut_of span (Some x) =
    ap (λ o. option_or (cut_of span o) (cut_of span (mapping_at span.last (x ∷ xs)))) (past_first f ∙ none) ∙ ap (cut_of span) (at_last l) in
    by_test (covers span x.span) (λ _. Goal)
    (λ (c : covers span x.span ≡ true). let here : is_cut span x ≡ false = grind (arith, nat_tests) in cut_later here ∙ cut_behind span x.span.last xs apart.1 ends ∙ sym (right ∙ covered c))
    (λ (c : covers span x.span ≡ false). let here : is_cut span x ≡ true = grind (arith, nat_tests) in cut_here here ∙ sym (right ∙ uncovered c)))
    (λ (l : has x.span span.last ≡ false).
    let here : is_cut span x ≡ false = grind (arith, nat_tests) in
    cut_later here ∙ rest ∙ sym (ap (λ o. both o (mapping_at span.last (x ∷ xs))) (past_first f) ∙ ap (λ o. both (mapping_at span.first xs) o) (past_last l))))
