-- What a line's words may do: a driver's line is a request or a bypass setting, and a back end's a transfer.
use Rattle.std.proofs.Common.{◌≡◌, ℕ, Bool, true, false, not, cond, List, [], ◌∷◌, Option, Some, None, Result, Ok, Err, codes, refl}
use Rattle.std.specs.List.{list_all}
use Rattle.vi_history.specs.declared.call.Caller.{Caller}
use Rattle.vi_history.specs.declared.call.Caller.TheVariants.{Driver, Back}
use Rattle.vi_words.specs.Words.{is_word}
use Rattle.vi_script.specs.declared.fault.BadKind.{BadKind}
use Rattle.vi_script.specs.declared.fault.BadKind.TheVariants as bad
use Rattle.vi_lines.specs.declared.line.Line.{Line}
use Rattle.vi_script.specs.Forms.{Act, Form, SetsMemory, SetsQueue, SetsCache, SetsGranule, SetsInput, StartsBypass, StartsEvents, DeclaresEndpoint, Reserves, TakesTurns, Acts, Deed, Attaches, Detaches, Maps, Unmaps, Probes, SetsBypass, SendsRaw, Reads, Writes, ending_of, switch_of, kind_of, turns_in_words, act_with, attach_act, detach_act, map_act, unmap_act, probe_act, raw_act, bypass_act, read_act, write_act, request_act, driver_act, back_act, act_of, number_form, switch_form, input_form, reserve_form, turns_form, actor_form, line_form, caller_of, form_of}
use Rattle.vi_script.specs.Forms as option
use Rattle.vi_script.specs.Statements.{Statement, Memory, Queue, Cache, Granule, Input, Bypass, Events, Endpoint, Reserve, Turns, Actor, number_at, id_at, bytes_at, raw_bytes_at, span_at, names_fit, turn_fits, job_of, line_with, statement_of}
use Rattle.vi_script.specs.Statements as result
use Rattle.vi_lines.specs.Valid.{driver_does, back_does, does}

-- what is there passes the test
abbrev pub Passes : {A : Type 0} → (A → Bool) → Option A → Type 0
Passes test None = Unit {0}
Passes test (Some x) = test x ≡ true

abbrev pub Succeeds : {A : Type 0} → (A → Bool) → Result A BadKind → Type 0
Succeeds test (Err kind) = Unit {0}
Succeeds test (Ok x) = test x ≡ true

cond_passes : {A : Type 0} (test : A → Bool) (b : Bool) (x y : Option A) → Passes test x → Passes test y → Passes test (cond b x y)
cond_passes test true x y p q = p
cond_passes test false x y p q = q

then_passes : {A B : Type 0} (test : B → Bool) (o : Option A) (f : A → Option B) → ((x : A) → Passes test (f x)) → Passes test (option.◌>>=◌ o f)
then_passes test None f h = tt
then_passes test (Some x) f h = h x

some_passes : {A B : Type 0} (test : A → Bool) (more : B → Bool) (o : Option A) (g : A → B) → Passes test o → ((x : A) → test x ≡ true → more (g x) ≡ true) → Passes more (option.◌>>=◌ o (λ x. Some (g x)))
some_passes test more None g p h = tt
some_passes test more (Some x) g p h = h x p

then_succeeds : {A B : Type 0} (test : B → Bool) (r : Result A BadKind) (f : A → Result B BadKind) → ((x : A) → Succeeds test (f x)) → Succeeds test (result.◌>>=◌ r f)
then_succeeds test (Err kind) f h = tt
then_succeeds test (Ok x) f h = h x

ok_succeeds : {A B : Type 0} (test : A → Bool) (more : B → Bool) (r : Result A BadKind) (g : A → B) → Succeeds test r → ((x : A) → test x ≡ true → more (g x) ≡ true) → Succeeds more (result.◌>>=◌ r (λ x. Ok (g x)))
ok_succeeds test more (Err kind) g p h = tt
ok_succeeds test more (Ok x) g p h = h x p

-- the deeds of drivers and of back ends
abbrev driver_deed : Bool → Deed → Bool
driver_deed add (Attaches domain endpoint bypass) = true
driver_deed add (Detaches domain endpoint) = true
driver_deed add (Maps domain first last target flags) = true
driver_deed add (Unmaps domain first last) = true
driver_deed add (Probes endpoint) = true
driver_deed add (SetsBypass on) = not add
driver_deed add (SendsRaw hex writable) = true
driver_deed add (Reads iova len) = false
driver_deed add (Writes iova hex) = false

abbrev back_deed : Bool → Deed → Bool
back_deed add (Attaches domain endpoint bypass) = false
back_deed add (Detaches domain endpoint) = false
back_deed add (Maps domain first last target flags) = false
back_deed add (Unmaps domain first last) = false
back_deed add (Probes endpoint) = false
back_deed add (SetsBypass on) = false
back_deed add (SendsRaw hex writable) = false
back_deed add (Reads iova len) = not add
back_deed add (Writes iova hex) = not add

abbrev act_fits : Caller → Act → Bool
act_fits (Driver number) a = driver_deed a.add a.deed
act_fits (Back id) a = back_deed a.add a.deed

abbrev pub form_fits : Form → Bool
form_fits (Acts caller act) = act_fits caller act
form_fits (SetsMemory w) = true
form_fits (SetsQueue w) = true
form_fits (SetsCache w) = true
form_fits (SetsGranule w) = true
form_fits (SetsInput a b) = true
form_fits (StartsBypass on) = true
form_fits (StartsEvents on) = true
form_fits (DeclaresEndpoint w) = true
form_fits (Reserves e k a b) = true
form_fits (TakesTurns ts) = true

act_with_fits : (test : Bool → Deed → Bool) (add : Bool) (deed : Deed) (words : List (List ℕ)) → test add deed ≡ true → Passes (λ act. test act.add act.deed) (act_with add deed words)
act_with_fits test add deed words h = then_passes (λ (act : Act). test act.add act.deed) (ending_of words) _ (λ awaits. h)

attach_fits : (add : Bool) (words : List (List ℕ)) → Passes (λ act. driver_deed act.add act.deed) (attach_act add words)
attach_fits add [] = tt
attach_fits add (d ∷ []) = tt
attach_fits add (d ∷ e ∷ []) = act_with_fits driver_deed add (Attaches d e false) [] refl
attach_fits add (d ∷ e ∷ word ∷ words) =
    cond_passes (λ (act : Act). driver_deed act.add act.deed) (is_word word (codes "bypass")) _ _
    (act_with_fits driver_deed add (Attaches d e true) words refl) (act_with_fits driver_deed add (Attaches d e false) (word ∷ words) refl)

detach_fits : (add : Bool) (words : List (List ℕ)) → Passes (λ act. driver_deed act.add act.deed) (detach_act add words)
detach_fits add [] = tt
detach_fits add (d ∷ []) = tt
detach_fits add (d ∷ e ∷ words) = act_with_fits driver_deed add (Detaches d e) words refl

map_fits : (add : Bool) (words : List (List ℕ)) → Passes (λ act. driver_deed act.add act.deed) (map_act add words)
map_fits add [] = tt
map_fits add (d ∷ []) = tt
map_fits add (d ∷ a ∷ []) = tt
map_fits add (d ∷ a ∷ b ∷ []) = tt
map_fits add (d ∷ a ∷ b ∷ t ∷ []) = act_with_fits driver_deed add (Maps d a b t 0) [] refl
map_fits add (d ∷ a ∷ b ∷ t ∷ word ∷ words) =
    cond_passes (λ (act : Act). driver_deed act.add act.deed) (is_word word (codes "r")) _ _ (act_with_fits driver_deed add (Maps d a b t 1) words refl) (
    cond_passes (λ (act : Act). driver_deed act.add act.deed) (is_word word (codes "w")) _ _ (act_with_fits driver_deed add (Maps d a b t 2) words refl) (
    cond_passes (λ (act : Act). driver_deed act.add act.deed) (is_word word (codes "rw")) _ _ (act_with_fits driver_deed add (Maps d a b t 3) words refl)
    (act_with_fits driver_deed add (Maps d a b t 0) (word ∷ words) refl)))

unmap_fits : (add : Bool) (words : List (List ℕ)) → Passes (λ act. driver_deed act.add act.deed) (unmap_act add words)
unmap_fits add [] = tt
unmap_fits add (d ∷ []) = tt
unmap_fits add (d ∷ a ∷ []) = tt
unmap_fits add (d ∷ a ∷ b ∷ words) = act_with_fits driver_deed add (Unmaps d a b) words refl

probe_fits : (add : Bool) (words : List (List ℕ)) → Passes (λ act. driver_deed act.add act.deed) (probe_act add words)
probe_fits add [] = tt
probe_fits add (e ∷ words) = act_with_fits driver_deed add (Probes e) words refl

raw_fits : (add : Bool) (words : List (List ℕ)) → Passes (λ act. driver_deed act.add act.deed) (raw_act add words)
raw_fits add [] = tt
raw_fits add (h ∷ []) = tt
raw_fits add (h ∷ w ∷ words) = act_with_fits driver_deed add (SendsRaw h w) words refl

request_fits : (add : Bool) (words : List (List ℕ)) → Passes (λ act. driver_deed act.add act.deed) (request_act add words)
request_fits add [] = tt
request_fits add (verb ∷ words) =
    cond_passes (λ (act : Act). driver_deed act.add act.deed) (is_word verb (codes "attach")) _ _ (attach_fits add words) (
    cond_passes (λ (act : Act). driver_deed act.add act.deed) (is_word verb (codes "detach")) _ _ (detach_fits add words) (
    cond_passes (λ (act : Act). driver_deed act.add act.deed) (is_word verb (codes "map")) _ _ (map_fits add words) (
    cond_passes (λ (act : Act). driver_deed act.add act.deed) (is_word verb (codes "unmap")) _ _ (unmap_fits add words) (
    cond_passes (λ (act : Act). driver_deed act.add act.deed) (is_word verb (codes "probe")) _ _ (probe_fits add words) (
    cond_passes (λ (act : Act). driver_deed act.add act.deed) (is_word verb (codes "raw")) _ _ (raw_fits add words) tt)))))

bypass_fits : (words : List (List ℕ)) → Passes (λ act. driver_deed act.add act.deed) (bypass_act words)
bypass_fits [] = tt
bypass_fits (word ∷ words) = then_passes (λ (act : Act). driver_deed act.add act.deed) (switch_of word) _ (λ on. act_with_fits driver_deed false (SetsBypass on) words refl)

driver_fits : (words : List (List ℕ)) → Passes (λ act. driver_deed act.add act.deed) (driver_act words)
driver_fits [] = tt
driver_fits (verb ∷ words) =
    cond_passes (λ (act : Act). driver_deed act.add act.deed) (is_word verb (codes "bypass")) _ _ (bypass_fits words) (
    cond_passes (λ (act : Act). driver_deed act.add act.deed) (is_word verb (codes "add")) _ _ (request_fits true words) (request_fits false (verb ∷ words)))

read_fits : (words : List (List ℕ)) → Passes (λ act. back_deed act.add act.deed) (read_act words)
read_fits [] = tt
read_fits (a ∷ []) = tt
read_fits (a ∷ n ∷ words) = act_with_fits back_deed false (Reads a n) words refl

write_fits : (words : List (List ℕ)) → Passes (λ act. back_deed act.add act.deed) (write_act words)
write_fits [] = tt
write_fits (a ∷ []) = tt
write_fits (a ∷ h ∷ words) = act_with_fits back_deed false (Writes a h) words refl

back_fits : (words : List (List ℕ)) → Passes (λ act. back_deed act.add act.deed) (back_act words)
back_fits [] = tt
back_fits (verb ∷ words) =
    cond_passes (λ (act : Act). back_deed act.add act.deed) (is_word verb (codes "read")) _ _ (read_fits words) (
    cond_passes (λ (act : Act). back_deed act.add act.deed) (is_word verb (codes "write")) _ _ (write_fits words) tt)

act_of_fits : (c : Caller) (words : List (List ℕ)) → Passes (act_fits c) (act_of c words)
act_of_fits (Driver number) words = driver_fits words
act_of_fits (Back id) words = back_fits words

number_form_fits : (sets : List ℕ → Form) (words : List (List ℕ)) → ((w : List ℕ) → form_fits (sets w) ≡ true) → Passes form_fits (number_form sets words)
number_form_fits sets [] h = tt
number_form_fits sets (n ∷ []) h = h n
number_form_fits sets (n ∷ m ∷ words) h = tt

switch_form_fits : (sets : Bool → Form) (words : List (List ℕ)) → ((on : Bool) → form_fits (sets on) ≡ true) → Passes form_fits (switch_form sets words)
switch_form_fits sets [] h = tt
switch_form_fits sets (w ∷ []) h = then_passes form_fits (switch_of w) (λ on. Some (sets on)) (λ on. h on)
switch_form_fits sets (w ∷ v ∷ words) h = tt

input_form_fits : (words : List (List ℕ)) → Passes form_fits (input_form words)
input_form_fits [] = tt
input_form_fits (a ∷ []) = tt
input_form_fits (a ∷ b ∷ []) = refl
input_form_fits (a ∷ b ∷ c ∷ words) = tt

reserve_form_fits : (words : List (List ℕ)) → Passes form_fits (reserve_form words)
reserve_form_fits [] = tt
reserve_form_fits (e ∷ []) = tt
reserve_form_fits (e ∷ k ∷ []) = tt
reserve_form_fits (e ∷ k ∷ a ∷ []) = tt
reserve_form_fits (e ∷ k ∷ a ∷ b ∷ []) = then_passes form_fits (kind_of k) (λ k. Some (Reserves e k a b)) (λ k. refl)
reserve_form_fits (e ∷ k ∷ a ∷ b ∷ c ∷ words) = tt

turns_form_fits : (words : List (List ℕ)) → Passes form_fits (turns_form words)
turns_form_fits [] = tt
turns_form_fits (word ∷ words) = then_passes form_fits (turns_in_words (word ∷ words)) (λ turns. Some (TakesTurns turns)) (λ turns. refl)

line_form_fits : (caller : Option Caller) (words : List (List ℕ)) → Passes form_fits (line_form caller words)
line_form_fits caller words =
    then_passes form_fits caller (λ c. actor_form c words) (λ c. some_passes (act_fits c) form_fits (act_of c words) (λ act. Acts c act) (act_of_fits c words) (λ act h. h))

-- the form of any words is one that its caller may have
pub form_of-fits : (words : List (List ℕ)) → Passes form_fits (form_of words)
unfolding form_of
form_of-fits [] = tt
form_of-fits (first ∷ words) =
    cond_passes form_fits (is_word first (codes "memory")) _ _ (number_form_fits SetsMemory words (λ w. refl)) (
    cond_passes form_fits (is_word first (codes "queue")) _ _ (number_form_fits SetsQueue words (λ w. refl)) (
    cond_passes form_fits (is_word first (codes "cache")) _ _ (number_form_fits SetsCache words (λ w. refl)) (
    cond_passes form_fits (is_word first (codes "granule")) _ _ (number_form_fits SetsGranule words (λ w. refl)) (
    cond_passes form_fits (is_word first (codes "input")) _ _ (input_form_fits words) (
    cond_passes form_fits (is_word first (codes "bypass")) _ _ (switch_form_fits StartsBypass words (λ on. refl)) (
    cond_passes form_fits (is_word first (codes "events")) _ _ (switch_form_fits StartsEvents words (λ on. refl)) (
    cond_passes form_fits (is_word first (codes "endpoint")) _ _ (number_form_fits DeclaresEndpoint words (λ w. refl)) (
    cond_passes form_fits (is_word first (codes "reserve")) _ _ (reserve_form_fits words) (
    cond_passes form_fits (is_word first (codes "turns")) _ _ (turns_form_fits words)
    (line_form_fits (caller_of first) words))))))))))

-- and so is its statement
abbrev pub statement_fits : Statement → Bool
statement_fits (Actor l) = does l.caller l.add l.job
statement_fits (Memory n) = true
statement_fits (Queue n) = true
statement_fits (Cache n) = true
statement_fits (Granule n) = true
statement_fits (Input s) = true
statement_fits (Bypass on) = true
statement_fits (Events on) = true
statement_fits (Endpoint n) = true
statement_fits (Reserve e r) = true
statement_fits (Turns ts) = true

driver_job : (add : Bool) (deed : Deed) → driver_deed add deed ≡ true → Succeeds (driver_does add) (job_of deed)
driver_job add (Attaches d e bypass) h = then_succeeds (driver_does add) (id_at d) _ (λ x. then_succeeds (driver_does add) (id_at e) _ (λ y. refl))
driver_job add (Detaches d e) h = then_succeeds (driver_does add) (id_at d) _ (λ x. then_succeeds (driver_does add) (id_at e) _ (λ y. refl))
driver_job add (Maps d a b t flags) h =
    then_succeeds (driver_does add) (id_at d) _ (λ x. then_succeeds (driver_does add) (number_at a) _ (λ y. then_succeeds (driver_does add) (number_at b) _ (λ z. then_succeeds (driver_does add) (number_at t) _ (λ w. refl))))
driver_job add (Unmaps d a b) h =
    then_succeeds (driver_does add) (id_at d) _ (λ x. then_succeeds (driver_does add) (number_at a) _ (λ y. then_succeeds (driver_does add) (number_at b) _ (λ z. refl)))
driver_job add (Probes e) h = then_succeeds (driver_does add) (id_at e) _ (λ x. refl)
driver_job add (SetsBypass on) h = h
driver_job add (SendsRaw hex w) h = then_succeeds (driver_does add) (number_at w) _ (λ x. then_succeeds (driver_does add) (raw_bytes_at hex) _ (λ y. refl))
driver_job add (Reads a n) h = absurd (cc)
driver_job add (Writes a hex) h = absurd (cc)

back_job : (add : Bool) (deed : Deed) → back_deed add deed ≡ true → Succeeds (back_does add) (job_of deed)
back_job add (Attaches d e bypass) h = absurd (cc)
back_job add (Detaches d e) h = absurd (cc)
back_job add (Maps d a b t flags) h = absurd (cc)
back_job add (Unmaps d a b) h = absurd (cc)
back_job add (Probes e) h = absurd (cc)
back_job add (SetsBypass on) h = absurd (cc)
back_job add (SendsRaw hex w) h = absurd (cc)
back_job add (Reads a n) h = then_succeeds (back_does add) (number_at a) _ (λ x. then_succeeds (back_does add) (number_at n) _ (λ y. h))
back_job add (Writes a hex) h = then_succeeds (back_does add) (number_at a) _ (λ x. then_succeeds (back_does add) (bytes_at hex) _ (λ y. h))

job_fits : (c : Caller) (act : Act) → act_fits c act ≡ true → Succeeds (does c act.add) (job_of act.deed)
job_fits (Driver number) act h = driver_job act.add act.deed h
job_fits (Back id) act h = back_job act.add act.deed h

line_if : (c : Caller) (act : Act) (b : Bool) → act_fits c act ≡ true → Succeeds {A = Line} (λ l. does l.caller l.add l.job) (cond b (result.◌>>=◌ (job_of act.deed) (λ j. Ok (record { caller = c; job = j; add = act.add; awaits = act.awaits }))) (Err bad.Number))
line_if c act true h = ok_succeeds (does c act.add) (λ (l : Line). does l.caller l.add l.job) (job_of act.deed) _ (job_fits c act h) (λ j k. k)
line_if c act false h = tt

turns_if : (b : Bool) (s : Statement) → statement_fits s ≡ true → Succeeds statement_fits (cond b (Ok s) (Err bad.Number))
turns_if true s h = h
turns_if false s h = tt

pub statement_of-fits : (form : Form) → form_fits form ≡ true → Succeeds statement_fits (statement_of form)
statement_of-fits (SetsMemory w) h = then_succeeds statement_fits (number_at w) _ (λ n. refl)
statement_of-fits (SetsQueue w) h = then_succeeds statement_fits (number_at w) _ (λ n. refl)
statement_of-fits (SetsCache w) h = then_succeeds statement_fits (number_at w) _ (λ n. refl)
statement_of-fits (SetsGranule w) h = then_succeeds statement_fits (number_at w) _ (λ n. refl)
statement_of-fits (SetsInput a b) h = then_succeeds statement_fits (span_at a b) _ (λ s. refl)
statement_of-fits (StartsBypass on) h = refl
statement_of-fits (StartsEvents on) h = refl
statement_of-fits (DeclaresEndpoint w) h = then_succeeds statement_fits (id_at w) _ (λ n. refl)
statement_of-fits (Reserves e k a b) h = then_succeeds statement_fits (id_at e) _ (λ n. then_succeeds statement_fits (span_at a b) _ (λ s. refl))
statement_of-fits (TakesTurns ts) h = turns_if (list_all (λ t. turn_fits t) ts) (Turns ts) refl
statement_of-fits (Acts c act) h = ok_succeeds (λ (l : Line). does l.caller l.add l.job) statement_fits (line_with c act) (λ l. Actor l) (line_if c act (names_fit c act.awaits) h) (λ l k. k)
