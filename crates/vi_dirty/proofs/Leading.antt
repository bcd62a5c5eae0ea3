-- A tracker that is led through entries: it can be, and what it has then.
use Rattle.std.proofs.Common.{◌≡◌, ℕ, zero, suc, ◌+◌, ◌-◌, ◌≤◌, List, [], ◌∷◌, ◌++◌, length, take, drop, Option, Some, None, append_assoc, refl, arith, ap, ap₂, sym, subst, ◌∙◌}
use Rattle.std.proofs.lemmas.List.Sums.{sum_by-cons}
use Rattle.vi_history.specs.Device.{One}
use Rattle.vi_history.specs.Histories.{answer_of, after, IsLegal}
use Rattle.vi_history.specs.Replies.{reply, next}
use Rattle.vi_history.specs.Start.{start}
use Rattle.vi_history.specs.declared.call.Call.{Call}
use Rattle.vi_history.specs.declared.entry.Entry.{Entry}
use Rattle.vi_lines.specs.Legal.{AreCalls, IsLegalHistory}
use Rattle.vi_lines.specs.Valid.{IsValid}
use Rattle.vi_lines.specs.Value.{ScriptValue}
use Rattle.vi_state.specs.Followed.{IsFollowed, maps_made}
use Rattle.vi_state.specs.Written.{writes, written, page_set}
use Rattle.vi_state.proofs.Staying.{next_ids, stays_followed}
use Rattle.vi_dirty.specs.Led.{called, fed_if, led, maps_by, maps_in, IsReady}
use Rattle.vi_dirty.specs.Tracked.{TrackerValue, fed}
use Rattle.vi_dirty.proofs.Calls.{called_followed}
use Rattle.vi_dirty.proofs.Sets.{set_adds, set_again, set_nil}

-- ---- entries and their calls

head_call : (s : ScriptValue) (h : Entry) (hs : List Entry) (c : Call) (cs : List Call) → AreCalls s (h ∷ hs) (c ∷ cs) → called s h ≡ Some c
head_call s h hs c cs are = cc

tail_calls : (s : ScriptValue) (h : Entry) (hs : List Entry) (c : Call) (cs : List Call) → AreCalls s (h ∷ hs) (c ∷ cs) → AreCalls s hs cs
tail_calls s h hs c cs are = cc

pub calls_split : (s : ScriptValue) (n : ℕ) (hs : List Entry) (cs : List Call) → AreCalls s hs cs → AreCalls s (take n hs) (take n cs) × AreCalls s (drop n hs) (drop n cs)
calls_split s zero hs cs are = (refl, are)
calls_split s (suc n) [] [] are = (refl, refl)
calls_split s (suc n) [] (c ∷ cs) are = absurd (cc are)
calls_split s (suc n) (h ∷ hs) [] are = absurd (cc are)
calls_split s (suc n) (h ∷ hs) (c ∷ cs) are =
    let r = calls_split s n hs cs (tail_calls s h hs c cs are) in
    (ap₂ (λ x xs. x ∷ xs) (head_call s h hs c cs are) r.0, r.1)

pub calls_length : (s : ScriptValue) (hs : List Entry) (cs : List Call) → AreCalls s hs cs → length hs ≡ length cs
calls_length s [] [] are = refl
calls_length s [] (c ∷ cs) are = absurd (cc are)
calls_length s (h ∷ hs) [] are = absurd (cc are)
calls_length s (h ∷ hs) (c ∷ cs) are = let r = calls_length s hs cs (tail_calls s h hs c cs are) in omega (arith, r)

pub written_split : (n : ℕ) (one : One) (cs : List Call) → written one cs ≡ written one (take n cs) ++ written (after one (take n cs)) (drop n cs)
written_split zero one cs = refl
written_split (suc n) one [] = refl
written_split (suc n) one (c ∷ cs) = ap (λ ps. writes one c ++ ps) (written_split n (next one c) cs) ∙ sym (append_assoc (writes one c) (written (next one c) (take n cs)) (written (after (next one c) (take n cs)) (drop n cs)))

-- ---- what a tracker that was led has

pub led_one : (s : ScriptValue) (hs : List Entry) (cs : List Call) (t : TrackerValue) → AreCalls s hs cs → (led s t hs).one ≡ after t.one cs
led_one s [] [] t are = refl
led_one s [] (c ∷ cs) t are = absurd (cc are)
led_one s (h ∷ hs) [] t are = absurd (cc are)
led_one s (h ∷ hs) (c ∷ cs) t are =
    ap (λ o. (led s (fed_if t h o) hs).one) (head_call s h hs c cs are) ∙ led_one s hs cs (fed t c h) (tail_calls s h hs c cs are)

pub led_set : (s : ScriptValue) (hs : List Entry) (cs : List Call) (t : TrackerValue) → AreCalls s hs cs → page_set t.one.dev.pages t.set ≡ t.set
    → (led s t hs).set ≡ page_set t.one.dev.pages (t.set ++ written t.one cs)
led_set s [] [] t are is = sym (set_nil t.one.dev.pages t.set is)
led_set s [] (c ∷ cs) t are is = absurd (cc are)
led_set s (h ∷ hs) [] t are is = absurd (cc are)
led_set s (h ∷ hs) (c ∷ cs) t are is =
    ap (λ o. (led s (fed_if t h o) hs).set) (head_call s h hs c cs are)
    ∙ led_set s hs cs (fed t c h) (tail_calls s h hs c cs are) again
    ∙ ap (λ n. page_set n (page_set t.one.dev.pages (t.set ++ writes t.one c) ++ written (next t.one c) cs)) (next_ids t.one c).1
    ∙ set_adds t.one.dev.pages (t.set ++ writes t.one c) (written (next t.one c) cs)
    ∙ ap (λ ps. page_set t.one.dev.pages ps) (append_assoc t.set (writes t.one c) (written (next t.one c) cs))
  where
    again : page_set (next t.one c).dev.pages (page_set t.one.dev.pages (t.set ++ writes t.one c)) ≡ page_set t.one.dev.pages (t.set ++ writes t.one c)
    again = ap (λ n. page_set n (page_set t.one.dev.pages (t.set ++ writes t.one c))) (next_ids t.one c).1 ∙ set_again t.one.dev.pages (t.set ++ writes t.one c)

fed_pages : (t : TrackerValue) (h : Entry) (o : Option Call) → (fed_if t h o).one.dev.pages ≡ t.one.dev.pages
fed_pages t h None = refl
fed_pages t h (Some c) = (next_ids t.one c).1

pub led_pages : (s : ScriptValue) (hs : List Entry) (t : TrackerValue) → (led s t hs).one.dev.pages ≡ t.one.dev.pages
led_pages s [] t = refl
led_pages s (h ∷ hs) t = led_pages s hs (fed_if t h (called s h)) ∙ fed_pages t h (called s h)

-- ---- what is ready stays so

-- the tracker before the first entry can be fed
pub record First (s : ScriptValue) (t : TrackerValue) (h : Entry) (hs : List Entry) (c : Call) : Type 0 where
  pub followed : IsFollowed t.one c
  pub right : answer_of h ≡ reply t.one c
  pub room : maps_made c h ≤ t.spare
  pub rest : IsReady s (fed t c h).one (fed t c h).spare hs

pub first_ready : (s : ScriptValue) (t : TrackerValue) (h : Entry) (hs : List Entry) (c : Call) → IsReady s t.one t.spare (h ∷ hs) → called s h ≡ Some c → First s t h hs c
first_ready s t h hs c ready is =
    let same : ready.0 ≡ c = let both : Some ready.0 ≡ Some c = sym ready.1 ∙ is in cc in
    subst (First s t h hs) same (record { followed = ready.2; right = ready.3; room = ready.4; rest = ready.5 })

pub no_first : (s : ScriptValue) (one : One) (spare : ℕ) (h : Entry) (hs : List Entry) → IsReady s one spare (h ∷ hs) → called s h ≡ None → ⊥
no_first s one spare h hs ready is = let both : Some ready.0 ≡ None = sym ready.1 ∙ is in absurd (cc both)

pub ready_split : (s : ScriptValue) (n : ℕ) (hs : List Entry) (t : TrackerValue) → IsReady s t.one t.spare hs
    → IsReady s t.one t.spare (take n hs) × IsReady s (led s t (take n hs)).one (led s t (take n hs)).spare (drop n hs)
ready_split s zero hs t ready = (tt, ready)
ready_split s (suc n) [] t ready = (tt, tt)
ready_split s (suc n) (h ∷ hs) t ready =
    let r = ready_split s n hs (fed t ready.0 h) ready.5 in (
      (ready.0, ready.1, ready.2, ready.3, ready.4, r.0),
      subst (λ (o : Option Call). IsReady s (led s (fed_if t h o) (take n hs)).one (led s (fed_if t h o) (take n hs)).spare (drop n hs)) (sym ready.1) r.1,
    )

-- ---- a legal history is ready

ready_from : (s : ScriptValue) (hs : List Entry) (cs : List Call) (one : One) (spare : ℕ) → AreCalls s hs cs → IsLegal one cs hs
    → ((h : Entry) (c : Call) → called s h ≡ Some c → IsFollowed one c) → maps_in s hs ≤ spare → IsReady s one spare hs
ready_from s [] cs one spare are legal follow room = tt
ready_from s (h ∷ hs) [] one spare are legal follow room = absurd (cc are)
ready_from s (h ∷ hs) (c ∷ cs) one spare are legal follow room =
    let is = head_call s h hs c cs are in
    let maps : maps_in s (h ∷ hs) ≡ maps_made c h + maps_in s hs = sum_by-cons (λ h. maps_by h (called s h)) h hs ∙ ap (λ o. maps_by h o + maps_in s hs) is in (
      c,
      is,
      follow h c is,
      legal.0,
      omega (arith, maps, room),
      ready_from s hs cs (next one c) (spare - maps_made c h) (tail_calls s h hs c cs are) legal.1 (λ g d e. stays_followed one d c (follow g d e)) (omega (arith, maps, room)),
    )

pub history_ready : (s : ScriptValue) (hs : List Entry) → IsValid s → IsLegalHistory s hs → IsReady s (start s.setup) (maps_in s hs) hs
history_ready s hs v ok = ready_from s hs ok.calls (start s.setup) (maps_in s hs) ok.named ok.legal (λ h c is. (called_followed s h c v is).0) (omega arith)
