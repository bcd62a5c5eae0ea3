-- A text that is read is a valid script.
use Rattle.std.proofs.Common.{◌≡◌, ℕ, ◌+◌, ◌<◌, ◌≤◌, Bool, true, false, not, cond, List, [], ◌∷◌, ◌++◌, length, Option, Some, None, Result, Ok, Err, refl, ap, subst, ◌∙◌, arith, length-append}
use Rattle.std.specs.Prelude.{nat_lt}
use Rattle.std.specs.List.{list_all}
use Rattle.std.proofs.lemmas.Bool.{or_parts, not-false, ltb-true, ltb-false}
use Rattle.std.proofs.lemmas.List.Folds.{list_all-append}
use Rattle.std.proofs.lemmas.List.Sums.{sum_by_push}
use Rattle.vi_bytes.specs.declared.span.Span.{Span}
use Rattle.vi_bytes.specs.declared.region.Region.{Region}
use Rattle.vi_bytes.specs.declared.region.EndpointSetup.{EndpointSetup}
use Rattle.vi_words.specs.Words.{lines_of_text, words_of, says_nothing, has_bad_byte}
use Rattle.vi_script.specs.declared.fault.BadKind.{BadKind}
use Rattle.vi_script.specs.declared.fault.BadKind.TheVariants as bad
use Rattle.vi_lines.specs.declared.line.Line.{Line}
use Rattle.vi_lines.specs.declared.line.Who.{Who}
use Rattle.vi_lines.specs.Value.{ScriptValue}
use Rattle.vi_script.specs.Forms.{Form, SetsMemory, SetsQueue, SetsCache, SetsGranule, SetsInput, StartsBypass, StartsEvents, DeclaresEndpoint, Reserves, TakesTurns, Acts, form_of}
use Rattle.vi_lines.specs.Rules.{awaits_well}
use Rattle.vi_script.specs.Judging.{is_late, is_again, is_undeclared, has_bad_span, is_beyond, is_within, awaits_badly, taken, has_actors, has_regions, declares, regions_of, is_declared, turn_is_declared}
use Rattle.vi_lines.specs.Limits.{bytes_in, transferred}
use Rattle.vi_script.specs.Said.{Said, nothing_said, says, setup_of, script_of, granule_of}
use Rattle.vi_script.specs.Statements.{Statement, Memory, Queue, Cache, Granule, Input, Bypass, Events, Endpoint, Reserve, Turns, Actor, statement_of, number_at, id_at, span_at, turn_fits, line_with, ◌>>=◌}
use Rattle.vi_script.specs.Texts.{Bad, judge_words, judge, judged, said_from, script_from, script}
use Rattle.vi_lines.specs.Valid.{IsValid, is_turn_in, does}
use Rattle.vi_script.proofs.FormLemmas.{Passes, Succeeds, form_fits, form_of-fits, statement_fits, statement_of-fits}
use Rattle.vi_script.proofs.ReadingLemmas.{says_lines}
use Rattle.vi_script.proofs.ValidLemmas.{endpoints_push, endpoints_reserved, length-reserved, without_regions, turns_push, turns_reserved, taken_turns, fits, taken_line, lines_push, all_awaits_push}

-- a statement that passed all tests, on a line that isn't late
pub record IsTaken (above : Said) (n : ℕ) (s : Statement) : Type 0 where
  pub first : is_again above s ≡ false
  pub declared : is_undeclared above s ≡ false
  pub spans : has_bad_span above s ≡ false
  pub within : is_within above s ≡ true
  pub number : n ≤ 10000
  pub awaits : awaits_badly above s ≡ false

abbrev Cascade : Said → ℕ → Statement → (again undeclared spans beyond badly : Bool) → Result Statement BadKind
Cascade above n s again undeclared spans beyond badly =
    cond again (Err bad.Again) (cond undeclared (Err bad.Endpoint) (cond spans (Err bad.Span) (cond beyond (Err bad.Limit) (cond badly (Err bad.After) (Ok s)))))

passed : (above : Said) (n : ℕ) (s t : Statement) (a u p b w : Bool) → Cascade above n s a u p b w ≡ Ok t → (s ≡ t) × (a ≡ false) × (u ≡ false) × (p ≡ false) × (b ≡ false) × (w ≡ false)
passed above n s t true u p b w h = absurd (cc)
passed above n s t false true p b w h = absurd (cc)
passed above n s t false false true b w h = absurd (cc)
passed above n s t false false false true w h = absurd (cc)
passed above n s t false false false false true h = absurd (cc)
passed above n s t false false false false false h = (cc, refl, refl, refl, refl, refl)

taken_passed : (above : Said) (n : ℕ) (s t : Statement) → taken above n s ≡ Ok t → (s ≡ t) × IsTaken above n s
taken_passed above n s t h =
    let p = passed above n s t (is_again above s) (is_undeclared above s) (has_bad_span above s) (is_beyond above n s) (awaits_badly above s) h in
    let beyond = or_parts (nat_lt 10000 n) (not (is_within above s)) p.4 in
    (p.0, record { first = p.1; declared = p.2; spans = p.3; within = not-false (is_within above s) beyond.1; number = ltb-false 10000 n beyond.0; awaits = p.5 })

-- what was said is valid, as far as it goes
abbrev IsSound : Said → Type 0
IsSound said = IsValid (script_of said)

pub nothing_sound : IsSound nothing_said
unfolding script_of setup_of
nothing_sound = record {
  setup_valid = record { memory_fits = refl; queue_fits = refl; cache_fits = refl; granule_fits = refl; proper = omega arith; few = omega arith; endpoints_each = tt };
  turns_each = refl;
  lines_each = refl;
  few = omega arith;
  bytes = omega arith;
  calls = omega arith;
  awaits_each = tt;
}

-- above a setup line there are no lines
no_lines_yet : (lines : List Line) → nat_lt 0 (length lines) ≡ false → lines ≡ []
no_lines_yet [] h = refl
no_lines_yet (l ∷ ls) h = let e = ltb-false 0 (length (l ∷ ls)) h in absurd (omega arith)

-- each statement that is taken keeps it; for settings there is one more number within its limits
memory_sound : (above : Said) (n : ℕ) → IsSound above → is_within above (Memory n) ≡ true → IsSound (says above (Memory n))
unfolding script_of setup_of
memory_sound above n v w =
    record { setup_valid = record { memory_fits = w; queue_fits = v.setup_valid.queue_fits; cache_fits = v.setup_valid.cache_fits; granule_fits = v.setup_valid.granule_fits; proper = v.setup_valid.proper; few = v.setup_valid.few; endpoints_each = v.setup_valid.endpoints_each }; turns_each = v.turns_each; lines_each = v.lines_each; few = v.few; bytes = v.bytes; calls = v.calls; awaits_each = v.awaits_each }

queue_sound : (above : Said) (n : ℕ) → IsSound above → is_within above (Queue n) ≡ true → IsSound (says above (Queue n))
unfolding script_of setup_of
queue_sound above n v w =
    record { setup_valid = record { memory_fits = v.setup_valid.memory_fits; queue_fits = w; cache_fits = v.setup_valid.cache_fits; granule_fits = v.setup_valid.granule_fits; proper = v.setup_valid.proper; few = v.setup_valid.few; endpoints_each = v.setup_valid.endpoints_each }; turns_each = v.turns_each; lines_each = v.lines_each; few = v.few; bytes = v.bytes; calls = v.calls; awaits_each = v.awaits_each }

cache_sound : (above : Said) (n : ℕ) → IsSound above → is_within above (Cache n) ≡ true → IsSound (says above (Cache n))
unfolding script_of setup_of
cache_sound above n v w =
    record { setup_valid = record { memory_fits = v.setup_valid.memory_fits; queue_fits = v.setup_valid.queue_fits; cache_fits = w; granule_fits = v.setup_valid.granule_fits; proper = v.setup_valid.proper; few = v.setup_valid.few; endpoints_each = v.setup_valid.endpoints_each }; turns_each = v.turns_each; lines_each = v.lines_each; few = v.few; bytes = v.bytes; calls = v.calls; awaits_each = v.awaits_each }

granule_sound : (above : Said) (n : ℕ) → IsSound above → is_within above (Granule n) ≡ true → has_regions above ≡ false → IsSound (says above (Granule n))
unfolding script_of setup_of
granule_sound above n v w none =
    record { setup_valid = record { memory_fits = v.setup_valid.memory_fits; queue_fits = v.setup_valid.queue_fits; cache_fits = v.setup_valid.cache_fits; granule_fits = w; proper = v.setup_valid.proper; few = v.setup_valid.few; endpoints_each = without_regions (granule_of above) n above.endpoints v.setup_valid.endpoints_each none }; turns_each = v.turns_each; lines_each = v.lines_each; few = v.few; bytes = v.bytes; calls = v.calls; awaits_each = v.awaits_each }

input_sound : (above : Said) (span : Span) → IsSound above → nat_lt span.last span.first ≡ false → IsSound (says above (Input span))
unfolding script_of setup_of
input_sound above span v proper =
    record { setup_valid = record { memory_fits = v.setup_valid.memory_fits; queue_fits = v.setup_valid.queue_fits; cache_fits = v.setup_valid.cache_fits; granule_fits = v.setup_valid.granule_fits; proper = ltb-false span.last span.first proper; few = v.setup_valid.few; endpoints_each = v.setup_valid.endpoints_each }; turns_each = v.turns_each; lines_each = v.lines_each; few = v.few; bytes = v.bytes; calls = v.calls; awaits_each = v.awaits_each }

bypass_sound : (above : Said) (on : Bool) → IsSound above → IsSound (says above (Bypass on))
unfolding script_of setup_of
bypass_sound above on v =
    record { setup_valid = record { memory_fits = v.setup_valid.memory_fits; queue_fits = v.setup_valid.queue_fits; cache_fits = v.setup_valid.cache_fits; granule_fits = v.setup_valid.granule_fits; proper = v.setup_valid.proper; few = v.setup_valid.few; endpoints_each = v.setup_valid.endpoints_each }; turns_each = v.turns_each; lines_each = v.lines_each; few = v.few; bytes = v.bytes; calls = v.calls; awaits_each = v.awaits_each }

events_sound : (above : Said) (on : Bool) → IsSound above → IsSound (says above (Events on))
unfolding script_of setup_of
events_sound above on v =
    record { setup_valid = record { memory_fits = v.setup_valid.memory_fits; queue_fits = v.setup_valid.queue_fits; cache_fits = v.setup_valid.cache_fits; granule_fits = v.setup_valid.granule_fits; proper = v.setup_valid.proper; few = v.setup_valid.few; endpoints_each = v.setup_valid.endpoints_each }; turns_each = v.turns_each; lines_each = v.lines_each; few = v.few; bytes = v.bytes; calls = v.calls; awaits_each = v.awaits_each }

endpoint_sound : (above : Said) (id : ℕ) → IsSound above → has_actors above ≡ false → declares above id ≡ false → is_within above (Endpoint id) ≡ true → IsSound (says above (Endpoint id))
unfolding script_of setup_of
endpoint_sound above id v none fresh w =
    let room = ltb-true (length above.endpoints) 16 w in
    record { setup_valid = record { memory_fits = v.setup_valid.memory_fits; queue_fits = v.setup_valid.queue_fits; cache_fits = v.setup_valid.cache_fits; granule_fits = v.setup_valid.granule_fits; proper = v.setup_valid.proper; few = omega (arith, length-append {A = EndpointSetup}); endpoints_each = endpoints_push (granule_of above) above.endpoints id v.setup_valid.endpoints_each fresh }; turns_each = turns_push above.endpoints id above.turns v.turns_each; lines_each = rw (no_lines_yet above.lines none) refl; few = v.few; bytes = v.bytes; calls = v.calls; awaits_each = v.awaits_each }

reserve_sound : (above : Said) (id : ℕ) (r : Region) → IsSound above → has_actors above ≡ false → has_bad_span above (Reserve id r) ≡ false → is_within above (Reserve id r) ≡ true → IsSound (says above (Reserve id r))
unfolding script_of setup_of
reserve_sound above id r v none good w =
    let room = ltb-true (length (regions_of above id)) 16 w in
    record { setup_valid = record { memory_fits = v.setup_valid.memory_fits; queue_fits = v.setup_valid.queue_fits; cache_fits = v.setup_valid.cache_fits; granule_fits = v.setup_valid.granule_fits; proper = v.setup_valid.proper; few = rw (length-reserved above.endpoints id r) v.setup_valid.few; endpoints_each = endpoints_reserved (granule_of above) above.endpoints id r v.setup_valid.endpoints_each room good }; turns_each = turns_reserved above.endpoints id r above.turns ∙ v.turns_each; lines_each = rw (no_lines_yet above.lines none) refl; few = v.few; bytes = v.bytes; calls = v.calls; awaits_each = v.awaits_each }

turns_sound : (above : Said) (ts : List Who) → IsSound above → is_undeclared above (Turns ts) ≡ false → is_within above (Turns ts) ≡ true → IsSound (says above (Turns ts))
unfolding script_of setup_of
turns_sound above ts v d w =
    let each = taken_turns above ts (not-false (list_all (λ t. turn_is_declared above t) ts) d) w in
    record { setup_valid = record { memory_fits = v.setup_valid.memory_fits; queue_fits = v.setup_valid.queue_fits; cache_fits = v.setup_valid.cache_fits; granule_fits = v.setup_valid.granule_fits; proper = v.setup_valid.proper; few = v.setup_valid.few; endpoints_each = v.setup_valid.endpoints_each }; turns_each = list_all-append (λ (t : Who). is_turn_in above.endpoints t) above.turns ts ∙ rw (v.turns_each, each) refl; lines_each = v.lines_each; few = v.few; bytes = v.bytes; calls = v.calls; awaits_each = v.awaits_each }

line_sound : (above : Said) (n : ℕ) (l : Line) → IsSound above → length above.lines < n → IsTaken above n (Actor l) → does l.caller l.add l.job ≡ true → IsSound (says above (Actor l))
unfolding script_of setup_of
line_sound above n l v below t d =
    let f = fits above.lines l t.within in
    let declared = not-false (is_declared above l.caller) t.declared in
    let here = taken_line above l declared d t.spans f in
    let number = t.number in
    let bytes : bytes_in (above.lines ++ l ∷ []) ≡ bytes_in above.lines + transferred l.job = sum_by_push (λ (l : Line). transferred l.job) above.lines l in
    record { setup_valid = record { memory_fits = v.setup_valid.memory_fits; queue_fits = v.setup_valid.queue_fits; cache_fits = v.setup_valid.cache_fits; granule_fits = v.setup_valid.granule_fits; proper = v.setup_valid.proper; few = v.setup_valid.few; endpoints_each = v.setup_valid.endpoints_each }; turns_each = v.turns_each; lines_each = lines_push above.endpoints above.lines l v.lines_each here; few = omega (arith, length-append {A = Line}); bytes = rw bytes f.bytes; calls = f.calls; awaits_each = all_awaits_push above.lines l v.awaits_each (not-false (list_all (λ a. awaits_well above.lines l.caller a) l.awaits) t.awaits) }

-- by the statement: what stands above it, and that its line isn't late
abbrev NotLate : Said → Statement → Type 0
NotLate above (Memory n) = Unit {0}
NotLate above (Queue n) = Unit {0}
NotLate above (Cache n) = Unit {0}
NotLate above (Granule n) = has_regions above ≡ false
NotLate above (Input s) = Unit {0}
NotLate above (Bypass on) = Unit {0}
NotLate above (Events on) = Unit {0}
NotLate above (Endpoint n) = has_actors above ≡ false
NotLate above (Reserve e r) = has_actors above ≡ false
NotLate above (Turns ts) = Unit {0}
NotLate above (Actor l) = Unit {0}

statement_sound : (above : Said) (n : ℕ) (s : Statement) → IsSound above → length above.lines < n → IsTaken above n s → NotLate above s → statement_fits s ≡ true → IsSound (says above s)
statement_sound above n (Memory p) v below t late f = memory_sound above p v t.within
statement_sound above n (Queue p) v below t late f = queue_sound above p v t.within
statement_sound above n (Cache p) v below t late f = cache_sound above p v t.within
statement_sound above n (Granule p) v below t late f = granule_sound above p v t.within late
statement_sound above n (Input s) v below t late f = input_sound above s v t.spans
statement_sound above n (Bypass on) v below t late f = bypass_sound above on v
statement_sound above n (Events on) v below t late f = events_sound above on v
statement_sound above n (Endpoint id) v below t late f = endpoint_sound above id v late t.first t.within
statement_sound above n (Reserve id r) v below t late f = reserve_sound above id r v late t.spans t.within
statement_sound above n (Turns ts) v below t late f = turns_sound above ts v t.declared t.within
statement_sound above n (Actor l) v below t late f = line_sound above n l v below t f

-- a form whose line isn't late has such a statement
abbrev Kept : Said → Result Statement BadKind → Type 0
Kept above (Err kind) = Unit {0}
Kept above (Ok s) = NotLate above s

then_kept : {A : Type 0} (above : Said) (r : Result A BadKind) (f : A → Result Statement BadKind) → ((x : A) → Kept above (f x)) → Kept above (r >>= f)
then_kept above (Err kind) f h = tt
then_kept above (Ok x) f h = h x

turns_kept : (above : Said) (b : Bool) (ts : List Who) → Kept above (cond b (Ok (Turns ts)) (Err bad.Number))
turns_kept above true ts = tt
turns_kept above false ts = tt

not_late : (above : Said) (form : Form) → is_late above form ≡ false → Kept above (statement_of form)
not_late above (SetsMemory w) h = then_kept above (number_at w) _ (λ n. tt)
not_late above (SetsQueue w) h = then_kept above (number_at w) _ (λ n. tt)
not_late above (SetsCache w) h = then_kept above (number_at w) _ (λ n. tt)
not_late above (SetsGranule w) h = then_kept above (number_at w) _ (λ n. (or_parts (has_actors above) (has_regions above) h).1)
not_late above (SetsInput a b) h = then_kept above (span_at a b) _ (λ s. tt)
not_late above (StartsBypass on) h = tt
not_late above (StartsEvents on) h = tt
not_late above (DeclaresEndpoint w) h = then_kept above (id_at w) _ (λ n. h)
not_late above (Reserves e k a b) h = then_kept above (id_at e) _ (λ n. then_kept above (span_at a b) _ (λ s. h))
not_late above (TakesTurns ts) h = turns_kept above (list_all (λ t. turn_fits t) ts) ts
not_late above (Acts c act) h = then_kept above (line_with c act) _ (λ l. tt)

-- a line that is read
abbrev IsSaid : ℕ → Said → Type 0
IsSaid n said = IsSound said × (length said.lines < n)

says_if : (above : Said) (n : ℕ) (s : Statement) (r : Result Statement BadKind) (more : Said) → taken above n s ≡ r → IsSaid n above → NotLate above s → statement_fits s ≡ true
    → (r >>= (λ s. Ok (says above s))) ≡ Ok more → IsSaid (n + 1) more
says_if above n s (Err kind) more t v late f h = absurd (cc)
says_if above n s (Ok u) more t v late f h =
    let p = taken_passed above n s u t in
    let is : says above s ≡ more = ap (λ x. says above x) p.0 ∙ (let e : says above u ≡ more = cc in e) in
    let lines : length (says above s).lines < n + 1 = omega (arith, says_lines above s, v.1) in
    subst (λ m. IsSaid (n + 1) m) is (statement_sound above n s v.0 v.1 p.1 late f, lines)

read_if : (above : Said) (n : ℕ) (r : Result Statement BadKind) (more : Said) → IsSaid n above → Kept above r → Succeeds statement_fits r
    → (r >>= (λ s. taken above n s) >>= (λ s. Ok (says above s))) ≡ Ok more → IsSaid (n + 1) more
read_if above n (Err kind) more v kept f h = absurd (cc)
read_if above n (Ok s) more v kept f h = says_if above n s (taken above n s) more refl v kept f h

form_if : (above : Said) (n : ℕ) (form : Form) (late : Bool) (more : Said) → is_late above form ≡ late → IsSaid n above → form_fits form ≡ true
    → cond late (Err bad.Late) (statement_of form >>= (λ s. taken above n s) >>= (λ s. Ok (says above s))) ≡ Ok more → IsSaid (n + 1) more
form_if above n form true more e v f h = absurd (cc)
form_if above n form false more e v f h = read_if above n (statement_of form) more v (not_late above form e) (statement_of-fits form f) h

words_if : (above : Said) (n : ℕ) (form : Option Form) (more : Said) → IsSaid n above → Passes form_fits form → judge_words above n form ≡ Ok more → IsSaid (n + 1) more
words_if above n None more v f h = absurd (cc)
words_if above n (Some form) more v f h = form_if above n form (is_late above form) more refl v f h

said_more : (n : ℕ) (above : Said) → IsSaid n above → IsSaid (n + 1) above
said_more n above v = (v.0, omega (arith, v.1))

nothing_if : (above : Said) (n : ℕ) (beyond : Bool) (more : Said) → IsSaid n above → cond beyond (Err bad.Limit) (Ok above) ≡ Ok more → IsSaid (n + 1) more
nothing_if above n true more v h = absurd (cc)
nothing_if above n false more v h = subst (λ m. IsSaid (n + 1) m) (let e : above ≡ more = cc in e) (said_more n above v)

line_if : (above : Said) (n : ℕ) (words : List (List ℕ)) (dirty nothing : Bool) (more : Said) → IsSaid n above
    → cond dirty (Err bad.Byte) (cond nothing (cond (nat_lt 10000 n) (Err bad.Limit) (Ok above)) (judge_words above n (form_of words))) ≡ Ok more → IsSaid (n + 1) more
line_if above n words true nothing more v h = absurd (cc)
line_if above n words false true more v h = nothing_if above n (nat_lt 10000 n) more v h
line_if above n words false false more v h = words_if above n (form_of words) more v (form_of-fits words) h

judge_sound : (above : Said) (n : ℕ) (line : List ℕ) (more : Said) → IsSaid n above → judge above n line ≡ Ok more → IsSaid (n + 1) more
unfolding judge
judge_sound above n line more v h = line_if above n (words_of line) (has_bad_byte line) (says_nothing (words_of line)) more v h

go_on : (n : ℕ) (above : Said) (line : List ℕ) (lines : List (List ℕ)) (r : Result Said BadKind) (said : Said) → judge above n line ≡ r
    → ((more : Said) → judge above n line ≡ Ok more → said_from (n + 1) more lines ≡ Ok said → IsSound said)
    → judged n r (λ more. said_from (n + 1) more lines) ≡ Ok said → IsSound said
go_on n above line lines (Err kind) said e rest h = absurd (cc)
go_on n above line lines (Ok more) said e rest h = rest more e h

said_sound : (n : ℕ) (above : Said) (lines : List (List ℕ)) (said : Said) → IsSaid n above → said_from n above lines ≡ Ok said → IsSound said
said_sound n above [] said v h = subst IsSound (let e : above ≡ said = cc in e) v.0
said_sound n above (line ∷ lines) said v h =
    go_on n above line lines (judge above n line) said refl (λ more e k. said_sound (n + 1) more lines said (judge_sound above n line more v e) k) h

script_if : (r : Result Said Bad) (s : ScriptValue) → ((said : Said) → r ≡ Ok said → IsSound said) → script_from r ≡ Ok s → IsValid s
script_if (Err b) s each h = absurd (cc)
script_if (Ok said) s each h = subst IsValid (let e : script_of said ≡ s = cc in e) (each said refl)

-- a script that was read is valid
pub script-valid : (bytes : List ℕ) (s : ScriptValue) → script bytes ≡ Ok s → IsValid s
unfolding script
script-valid bytes s h =
    script_if (said_from 1 nothing_said (lines_of_text bytes)) s
    (λ said e. said_sound 1 nothing_said (lines_of_text bytes) said (nothing_sound, omega arith) e) h
