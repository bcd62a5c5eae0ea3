-- A replica that follows has the memory of the one-thread device.
use Rattle.std.proofs.Common.{◌≡◌, ◌==◌, ℕ, ◌/◌, ◌%◌, ◌<◌, Bool, true, false, not, cond, List, [], ◌∷◌, ◌++◌, length, inl, inr, refl, arith, sym, subst, ◌∙◌}
use Rattle.std.proofs.lemmas.Bool.{cases_Bool, cases_eq, or_from, or_left, or_right, or_parts, eq-eqb, ne_eqb, false≢true}
use Rattle.std.proofs.lemmas.Bool.Decides.{nat_tests}
use Rattle.std.proofs.lemmas.List.{length-set, get_or-set_other}
use Rattle.std.proofs.lemmas.List.Folds.{list_any-append}
use Rattle.vi_bytes.specs.declared.lease.Need.{Need}
use Rattle.vi_bytes.specs.declared.lease.Need.TheVariants as need
use Rattle.vi_bytes.specs.declared.span.TheConstants.{PAGE}
use Rattle.vi_history.specs.Device.{Dev, One}
use Rattle.vi_history.specs.Replies.{page_at, memory_after_write, next, written}
use Rattle.vi_history.specs.Translation.{permits, Look, Leads, Nowhere, look, is_in_memory, found_for, translate}
use Rattle.vi_history.specs.declared.call.Call.{Call}
use Rattle.vi_history.specs.declared.call.Call.TheVariants as call
use Rattle.vi_history.specs.declared.entry.Entry.{Entry}
use Rattle.vi_history.specs.declared.found.Found.{Found}
use Rattle.vi_history.specs.declared.found.Found.TheVariants.{At, Fault}
use Rattle.vi_history.specs.declared.reason.TheConstants.{UNKNOWN, MAPPING}
use Rattle.vi_state.specs.Written.{page_found, writes}
use Rattle.vi_state.proofs.Staying.{next_ids}
use Rattle.vi_dirty.specs.Followed.{ReplicasFollow}
use Rattle.vi_dirty.specs.Tracked.{TrackerValue, fed, fed_all, is_among}
use Rattle.vi_dirty.proofs.Sets.{among_set}

-- ---- an access leads into the memory

abbrev pub IsBelow : ℕ → Found → Type 0
IsBelow pages (At target) = target / PAGE < pages
IsBelow pages (Fault reason) = Unit {0}

found_below : (pages : ℕ) (n : Need) (l : Look) → IsBelow pages (found_for pages n l)
found_below pages n (Nowhere reason) = tt
found_below pages n (Leads target flags) = go (permits n flags) (is_in_memory pages target) refl
  where
    go : (p m : Bool) → is_in_memory pages target ≡ m → IsBelow pages (cond (not p) (Fault MAPPING) (cond (not m) (Fault UNKNOWN) (At target)))
    go false m e = tt
    go true false e = tt
    go true true e = grind (arith, nat_tests, e)

pub translate_below : (dev : Dev) (e a : ℕ) (n : Need) → IsBelow dev.pages (translate dev e a n)
translate_below dev e a n = found_below dev.pages n (look dev e a)

-- ---- one call

found_writes : (pages : ℕ) (f : Found) (p : ℕ) → IsBelow pages f → is_among p (page_found f) ≡ true → p < pages
found_writes pages (At target) p below is = elim (cases_eq (target / PAGE) p) [
  | inl e ↦ subst (λ n. n < pages) e below
  | inr differ ↦ absurd (false≢true (sym (or_from (target / PAGE == p) false (ne_eqb (target / PAGE) p differ) refl) ∙ is))
]
found_writes pages (Fault reason) p below is = absurd (false≢true is)

-- the pages that a call writes are of the memory
pub writes_below : (one : One) (c : Call) (p : ℕ) → is_among p (writes one c) ≡ true → p < one.dev.pages
writes_below one (call.Ask request) p is = absurd (false≢true is)
writes_below one (call.Raw read write) p is = absurd (false≢true is)
writes_below one (call.Bypass on) p is = absurd (false≢true is)
writes_below one (call.Read endpoint part) p is = absurd (false≢true is)
writes_below one (call.Write endpoint part bytes) p is = found_writes one.dev.pages (translate one.dev endpoint part.iova need.Write) p (translate_below one.dev endpoint part.iova need.Write) is

found_keeps : (memory : List (List ℕ)) (bytes : List ℕ) (f : Found) (p : ℕ) → is_among p (page_found f) ≡ false → page_at memory p ≡ page_at (memory_after_write memory bytes f) p
found_keeps memory bytes (Fault reason) p out = refl
found_keeps memory bytes (At target) p out = sym (get_or-set_other memory (target / PAGE) p (written (page_at memory (target / PAGE)) (target % PAGE) bytes) [] (λ e. false≢true (sym (or_parts (target / PAGE == p) false out).0 ∙ eq-eqb (target / PAGE) p (sym e))))

-- the other pages keep their bytes
writes_keep : (one : One) (c : Call) (p : ℕ) → is_among p (writes one c) ≡ false → page_at one.memory p ≡ page_at (next one c).memory p
unfolding next
writes_keep one (call.Ask request) p out = refl
writes_keep one (call.Raw read write) p out = refl
writes_keep one (call.Bypass on) p out = refl
writes_keep one (call.Read endpoint part) p out = refl
writes_keep one (call.Write endpoint part bytes) p out = found_keeps one.memory bytes (translate one.dev endpoint part.iova need.Write) p out

found_size : (memory : List (List ℕ)) (bytes : List ℕ) (f : Found) → length (memory_after_write memory bytes f) ≡ length memory
found_size memory bytes (Fault reason) = refl
found_size memory bytes (At target) = length-set memory (target / PAGE) (written (page_at memory (target / PAGE)) (target % PAGE) bytes)

next_size : (one : One) (c : Call) → length (next one c).memory ≡ length one.memory
unfolding next
next_size one (call.Ask request) = refl
next_size one (call.Raw read write) = refl
next_size one (call.Bypass on) = refl
next_size one (call.Read endpoint part) = refl
next_size one (call.Write endpoint part bytes) = found_size one.memory bytes (translate one.dev endpoint part.iova need.Write)

-- ---- all calls

-- a page that was written stays so
stays_among : (calls : List Call) (entries : List Entry) (t : TrackerValue) (p : ℕ) → p < t.one.dev.pages → is_among p t.set ≡ true → is_among p (fed_all t calls entries).set ≡ true
stays_among [] entries t p lt is = is
stays_among (c ∷ cs) [] t p lt is = is
stays_among (c ∷ cs) (h ∷ hs) t p lt is =
    stays_among cs hs (fed t c h) p (subst (λ n. p < n) (sym (next_ids t.one c).1) lt)
    (among_set t.one.dev.pages p (t.set ++ writes t.one c) lt ∙ list_any-append (λ q. q == p) t.set (writes t.one c) ∙ or_left (is_among p t.set) (is_among p (writes t.one c)) is)

-- a page that isn't written in the end wasn't by the first call
not_first : (c : Call) (h : Entry) (cs : List Call) (hs : List Entry) (t : TrackerValue) (p : ℕ) → is_among p (fed_all (fed t c h) cs hs).set ≡ false → is_among p (writes t.one c) ≡ false
not_first c h cs hs t p out = elim (cases_Bool (is_among p (writes t.one c))) [
  | inl is ↦ absurd (false≢true (sym out ∙ written_then is))
  | inr differ ↦ differ
]
  where
    written_then : is_among p (writes t.one c) ≡ true → is_among p (fed_all (fed t c h) cs hs).set ≡ true
    written_then is =
        let lt = writes_below t.one c p is in
        stays_among cs hs (fed t c h) p (subst (λ n. p < n) (sym (next_ids t.one c).1) lt)
        (among_set t.one.dev.pages p (t.set ++ writes t.one c) lt ∙ list_any-append (λ q. q == p) t.set (writes t.one c) ∙ or_right (is_among p t.set) (is_among p (writes t.one c)) is)

pub replicas_follow : ReplicasFollow
replicas_follow t [] entries legal = (refl, (λ p out. refl), refl)
replicas_follow t (c ∷ cs) [] legal = absurd legal
replicas_follow t (c ∷ cs) (h ∷ hs) legal =
    let rest = replicas_follow (fed t c h) cs hs legal.1 in
    (rest.0, (λ p out. writes_keep t.one c p (not_first c h cs hs t p out) ∙ rest.1 p out), rest.2 ∙ next_size t.one c)
