-- A history is gone through round by round.
use Rattle.std.proofs.Common.{◌≡◌, ℕ, suc, ◌+◌, ◌-◌, ◌*◌, ◌<◌, ◌≤◌, List, [], ◌∷◌, ◌++◌, length, take, drop, append_assoc, append-nil, refl, arith, ap, ap₂, sym, subst, ◌∙◌, suc-mul, zero-mul, length-drop}
use Rattle.std.specs.Int.{div_ceil}
use Rattle.std.proofs.lemmas.Grind.{div_ceil_times}
use Rattle.vi_history.specs.Device.{One}
use Rattle.vi_history.specs.Histories.{after}
use Rattle.vi_history.specs.declared.call.Call.{Call}
use Rattle.vi_history.specs.declared.entry.Entry.{Entry}
use Rattle.vi_history.specs.Start.{start}
use Rattle.vi_history.specs.declared.setup.Setup.{Setup}
use Rattle.vi_lines.specs.Legal.{AreCalls, IsLegalHistory}
use Rattle.vi_lines.specs.Valid.{IsValid}
use Rattle.vi_lines.specs.Value.{ScriptValue}
use Rattle.vi_state.specs.Written.{written, page_set}
use Rattle.vi_dirty.specs.Led.{led, maps_in, CanGo}
use Rattle.vi_dirty.specs.Marks.{PageSetValue}
use Rattle.vi_dirty.specs.Rounds.{pages_written, round_count, round_line, round_lines}
use Rattle.vi_dirty.specs.Tracked.{TrackerValue}
use Rattle.vi_dirty.proofs.Leading.{calls_split, calls_length, written_split, led_one, led_set, led_pages, ready_split, history_ready}
use Rattle.vi_dirty.proofs.Marking.{set_of}
use Rattle.vi_dirty.proofs.Sets.{set_none, set_again, set_nil, set_adds, set_added}

-- ---- one round

-- where a tracker that has no page is led
pub round_set : (s : ScriptValue) (hs : List Entry) (cs : List Call) (t : TrackerValue) → AreCalls s hs cs → t.set ≡ [] → (led s t hs).set ≡ pages_written t.one cs
round_set s hs cs t are fresh =
    led_set s hs cs t are (subst (λ (l : List ℕ). page_set t.one.dev.pages l ≡ l) (sym fresh) (set_none t.one.dev.pages))
    ∙ ap (λ l. page_set t.one.dev.pages (l ++ written t.one cs)) fresh

-- the pages of the rounds so far with those of one more, and of what is left
more_pages : (n : ℕ) (all now rest : List ℕ) → page_set n (page_set n (all ++ page_set n now) ++ rest) ≡ page_set n (all ++ (now ++ rest))
more_pages n all now rest =
    ap (λ l. page_set n (l ++ rest)) (set_added n all now) ∙ set_adds n (all ++ now) rest ∙ ap (λ l. page_set n l) (append_assoc all now rest)

-- ---- all rounds

-- calls that are left: their lines and those so far are all lines, and so are the pages
pub record Rest (s : ScriptValue) (every count i room : ℕ) (first : One) (start written_first : List ℕ) (calls : List Call) (one : One) (all out : List ℕ) (rest : List Entry) : Type 0 where
  pub more : List Call
  pub are : AreCalls s rest more
  pub lines : out ++ round_lines every (i + 1) (count - i) one more ≡ start ++ round_lines every 1 count first calls
  pub pages : page_set room (all ++ written one more) ≡ page_set room (written_first ++ written first calls)

-- so many rounds were gone through, and the entries that are left make the others
pub record Going (s : ScriptValue) (every count i room : ℕ) (first : One) (start before : List ℕ) (entries : List Entry) (t : TrackerValue) (all : PageSetValue) (out : List ℕ) (rest : List Entry) : Type 0 where
  pub go : CanGo s t all rest
  pub same : all.room ≡ room
  pub few : length rest ≤ (count - i) * every
  pub text : (calls : List Call) → AreCalls s entries calls → Rest s every count i room first start before calls t.one all.pages out rest

pub begins : (s : ScriptValue) (every : ℕ) (start : List ℕ) (entries : List Entry) (t : TrackerValue) (all : PageSetValue) → 1 ≤ every → CanGo s t all entries
    → Going s every (div_ceil (length entries) every) 0 all.room t.one start all.pages entries t all start entries
begins s every start entries t all some go = record {
  go = go;
  same = refl;
  few = subst (λ n. length entries ≤ n * every) (sym whole) (div_ceil_times (length entries) every (omega (arith, some))).0;
  text = λ calls are. record { more = calls; are = are; lines = ap (λ n. start ++ round_lines every 1 n t.one calls) whole; pages = refl };
}
  where
    whole : div_ceil (length entries) every - 0 ≡ div_ceil (length entries) every
    whole = omega arith

pub goes_on : (s : ScriptValue) (every count i room : ℕ) (first : One) (start before : List ℕ) (entries : List Entry) (t : TrackerValue) (all : PageSetValue) (out : List ℕ) (rest : List Entry) → i < count
    → Going s every count i room first start before entries t all out rest
    → Going s every count (i + 1) room first start before entries (record (led s t (take every rest)) { set = [] }) (record all { pages = page_set all.room (all.pages ++ (led s t (take every rest)).set) })
    (out ++ round_line (i + 1) (led s t (take every rest)).set) (drop every rest)
goes_on s every count i room first start before entries t all out rest more g = record {
  go = record {
    ready = (ready_split s every rest t g.go.ready).1;
    fresh = refl;
    room = g.go.room ∙ sym (led_pages s (take every rest) t);
    set = set_again all.room (all.pages ++ (led s t (take every rest)).set);
  };
  same = g.same;
  few = fewer (subst (λ n. length rest ≤ n) (ap (λ n. n * every) left ∙ suc-mul (count - (i + 1)) every) g.few);
  text = λ calls are. next_rest calls (g.text calls are);
}
  where
    left : count - i ≡ suc (count - (i + 1))
    left = omega (arith, more)

    fewer : length rest ≤ (count - (i + 1)) * every + every → length (drop every rest) ≤ (count - (i + 1)) * every
    fewer le = omega (arith, le, length-drop every rest)

    next_rest : (calls : List Call) → Rest s every count i room first start before calls t.one all.pages out rest
        → Rest s every count (i + 1) room first start before calls (led s t (take every rest)).one (page_set all.room (all.pages ++ (led s t (take every rest)).set)) (out ++ round_line (i + 1) (led s t (take every rest)).set) (drop every rest)
    next_rest calls r = record {
      more = drop every r.more;
      are = split.1;
      lines = lines;
      pages = pages;
    }
      where
        split : AreCalls s (take every rest) (take every r.more) × AreCalls s (drop every rest) (drop every r.more)
        split = calls_split s every rest r.more r.are

        set_is : (led s t (take every rest)).set ≡ pages_written t.one (take every r.more)
        set_is = round_set s (take every rest) (take every r.more) t split.0 g.go.fresh

        one_is : (led s t (take every rest)).one ≡ after t.one (take every r.more)
        one_is = led_one s (take every rest) (take every r.more) t split.0

        lines : (out ++ round_line (i + 1) (led s t (take every rest)).set) ++ round_lines every (i + 1 + 1) (count - (i + 1)) (led s t (take every rest)).one (drop every r.more) ≡ start ++ round_lines every 1 count first calls
        lines =
            ap₂ (λ ps o. (out ++ round_line (i + 1) ps) ++ round_lines every (i + 1 + 1) (count - (i + 1)) o (drop every r.more)) set_is one_is
            ∙ append_assoc out (round_line (i + 1) (pages_written t.one (take every r.more))) (round_lines every (i + 1 + 1) (count - (i + 1)) (after t.one (take every r.more)) (drop every r.more))
            ∙ sym (ap (λ n. out ++ round_lines every (i + 1) n t.one r.more) left)
            ∙ r.lines

        in_room : pages_written t.one (take every r.more) ≡ page_set room (written t.one (take every r.more))
        in_room = ap (λ n. page_set n (written t.one (take every r.more))) (sym g.go.room ∙ g.same)

        pages : page_set room (page_set all.room (all.pages ++ (led s t (take every rest)).set) ++ written (led s t (take every rest)).one (drop every r.more)) ≡ page_set room (before ++ written first calls)
        pages =
            ap (λ n. page_set room (page_set n (all.pages ++ (led s t (take every rest)).set) ++ written (led s t (take every rest)).one (drop every r.more))) g.same
            ∙ ap₂ (λ ps o. page_set room (page_set room (all.pages ++ ps) ++ written o (drop every r.more))) (set_is ∙ in_room) one_is
            ∙ more_pages room all.pages (written t.one (take every r.more)) (written (after t.one (take every r.more)) (drop every r.more))
            ∙ ap (λ ps. page_set room (all.pages ++ ps)) (sym (written_split every t.one r.more))
            ∙ r.pages

no_calls : (cs : List Call) → length cs ≡ 0 → cs ≡ []
no_calls [] is = refl
no_calls (c ∷ cs) is = absurd (omega (arith, is))

-- once all rounds were gone through no call is left
pub ends : (s : ScriptValue) (every count i room : ℕ) (first : One) (start before : List ℕ) (entries : List Entry) (t : TrackerValue) (all : PageSetValue) (out : List ℕ) (rest : List Entry) (calls : List Call) → count ≤ i
    → Going s every count i room first start before entries t all out rest → AreCalls s entries calls
    → (out ≡ start ++ round_lines every 1 count first calls) × (all.pages ≡ page_set room (before ++ written first calls))
ends s every count i room first start before entries t all out rest calls done g are = (
  sym (append-nil out) ∙ sym (ap₂ (λ n cs. out ++ round_lines every (i + 1) n t.one cs) none no_more) ∙ r.lines,
  sym (set_nil room all.pages (subst (λ n. page_set n all.pages ≡ all.pages) g.same g.go.set)) ∙ sym (ap (λ cs. page_set room (all.pages ++ written t.one cs)) no_more) ∙ r.pages,
)
  where
    r : Rest s every count i room first start before calls t.one all.pages out rest
    r = g.text calls are

    none : count - i ≡ 0
    none = omega (arith, done)

    few : length rest ≤ 0
    few = subst (λ n. length rest ≤ n) (ap (λ n. n * every) none ∙ zero-mul every) g.few

    no_more : r.more ≡ []
    no_more = no_calls r.more (omega (arith, few, calls_length s rest r.more r.are))

-- as many rounds by the entries as by the calls
pub count_is : (s : ScriptValue) (every : ℕ) (entries : List Entry) (calls : List Call) → AreCalls s entries calls → div_ceil (length entries) every ≡ round_count every calls
count_is s every entries calls are = ap (λ n. div_ceil n every) (calls_length s entries calls are)

-- ---- before the first entry

abbrev pub begun : Setup → ℕ → TrackerValue
begun setup maps = record { one = start setup; set = []; spare = maps }

pub can_begin : (s : ScriptValue) (hs : List Entry) (t : TrackerValue) (all : PageSetValue) → IsValid s → IsLegalHistory s hs → t ≡ begun s.setup (maps_in s hs) → all ≡ set_of s.setup.memory [] → CanGo s t all hs
unfolding start
can_begin s hs t all v ok t_is all_is = rw (t_is, all_is) (record {
  ready = history_ready s hs v ok;
  fresh = refl;
  room = refl;
  set = set_none s.setup.memory;
})
