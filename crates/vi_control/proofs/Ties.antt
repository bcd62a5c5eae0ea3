-- What ties the taken chains to the open removals stays: where a call starts, where it is answered, and where a back end
-- acknowledges.
use Rattle.std.proofs.Common.{◌≡◌, ℕ, ◌+◌, ◌≤◌, Bool, true, false, not, cond, ◌||◌, eqb, List, [], ◌∷◌, ◌++◌, map, Option, Some, None, is_some, All, refl, ap, sym, ◌∙◌, arith}
use Rattle.std.specs.Prelude.{count_by, filter, find}
use Rattle.std.specs.List.{list_any}
use Rattle.std.specs.Option.{option_map}
use Rattle.std.proofs.lemmas.Bool.Decides.{nat_tests}
use Rattle.std.proofs.lemmas.List.{map-append}
use Rattle.std.proofs.lemmas.List.Sums.{sum_by-cons, sum_by-append}
use Rattle.std.proofs.lemmas.List.Elements.{All-cons, All-head, All-tail, All-push}
use Rattle.vi_model.specs.Control.{Queued, Started}
use Rattle.vi_model.specs.Removals.{Removal, is_ready, acknowledged}
use Rattle.vi_shoot.specs.declared.ops.Token.{Token}
use Rattle.vi_shoot.specs.declared.ops.Token.TheVariants as token
use Rattle.vi_calls.specs.Value.{Taken, CallsValue, has_head}
use Rattle.vi_removals.specs.declared.removals.Ready.{Ready}
use Rattle.vi_removals.specs.Value.{Opened, is_free, first_free, without_free, ready_of, is_awaiting, released, with_ack}
use Rattle.vi_removals.specs.Takings.{IsOpened, IsTaking}
use Rattle.vi_control.specs.Ties.{Waiting, waiting_taken, waiting_by, waiting_opened, NamesLine, HasDriver, AreTied}
use Rattle.vi_control.specs.Tokens.{IsTokenOf, HasToken, without_token}
use Rattle.vi_control.specs.Started.{started_of, opened_for, IsNextRequest, IsNextSetting, IsNextBy, IsNext}

-- lists, counted, filtered and searched
abbrev pub one : Bool → ℕ
one b = cond b 1 0

count-cons : {X : Type 0} (p : X → Bool) (x : X) (xs : List X) → count_by p (x ∷ xs) ≡ one (p x) + count_by p xs
count-cons p x xs = sum_by-cons (λ y. cond (p y) 1 0) x xs

count-last : {X : Type 0} (p : X → Bool) (xs : List X) (x : X) → count_by p (xs ++ x ∷ []) ≡ count_by p xs + one (p x)
count-last p xs x =
    let last : count_by p (x ∷ []) ≡ one (p x) + 0 = count-cons p x [] in
    omega (arith, sum_by-append (λ y. cond (p y) 1 0) xs (x ∷ []), last)

one-le : (b : Bool) → one b ≤ 1
one-le true = omega arith
one-le false = omega arith

is-same : (n : ℕ) → eqb n n ≡ true
is-same n = grind (arith, nat_tests)

module _ {X Y : Type 0} (f : X → Y) (p : Y → Bool) where
  find-map : (xs : List X) → find p (map f xs) ≡ option_map f (find (λ x. p (f x)) xs)
  find-map [] = refl
  find-map (x ∷ xs) = go (p (f x)) (find-map xs)
    where
      go : (b : Bool) → find p (map f xs) ≡ option_map f (find (λ x. p (f x)) xs) → cond b (Some (f x)) (find p (map f xs)) ≡ option_map f (cond b (Some x) (find (λ x. p (f x)) xs))
      go true e = refl
      go false e = e

  count-map : (xs : List X) → count_by p (map f xs) ≡ count_by (λ x. p (f x)) xs
  count-map [] = refl
  count-map (x ∷ xs) = omega (arith, count-cons p (f x) (map f xs), count-cons (λ x. p (f x)) x xs, count-map xs)

  filter-map : (xs : List X) → map f (filter (λ x. p (f x)) xs) ≡ filter p (map f xs)
  filter-map [] = refl
  filter-map (x ∷ xs) = go (p (f x)) (filter-map xs)
    where
      go : (b : Bool) → map f (filter (λ x. p (f x)) xs) ≡ filter p (map f xs) → map f (cond b (x ∷ filter (λ x. p (f x)) xs) (filter (λ x. p (f x)) xs)) ≡ cond b (f x ∷ filter p (map f xs)) (filter p (map f xs))
      go true e = ap (λ ys. f x ∷ ys) e
      go false e = e

module _ {X : Type 0} (p : X → Bool) where
  filter-absent : (xs : List X) → count_by p xs ≡ 0 → filter (λ x. not (p x)) xs ≡ xs
  filter-absent [] none = refl
  filter-absent (x ∷ xs) none = go (p x) (count-cons p x xs) (filter-absent xs)
    where
      go : (b : Bool) → count_by p (x ∷ xs) ≡ one b + count_by p xs → (count_by p xs ≡ 0 → filter (λ x. not (p x)) xs ≡ xs) → cond (not b) (x ∷ filter (λ x. not (p x)) xs) (filter (λ x. not (p x)) xs) ≡ x ∷ xs
      go true c rest = absurd (omega arith)
      go false c rest = ap (λ ys. x ∷ ys) (rest (omega arith))

  filter-last : (xs : List X) (t : X) → count_by p xs ≡ 0 → p t ≡ true → filter (λ x. not (p x)) (xs ++ t ∷ []) ≡ xs
  filter-last [] t none is = rw is refl
  filter-last (x ∷ xs) t none is = go (p x) (count-cons p x xs) (λ e. filter-last xs t e is)
    where
      go : (b : Bool) → count_by p (x ∷ xs) ≡ one b + count_by p xs → (count_by p xs ≡ 0 → filter (λ x. not (p x)) (xs ++ t ∷ []) ≡ xs)
          → cond (not b) (x ∷ filter (λ x. not (p x)) (xs ++ t ∷ [])) (filter (λ x. not (p x)) (xs ++ t ∷ [])) ≡ x ∷ xs
      go true c rest = absurd (omega arith)
      go false c rest = ap (λ ys. x ∷ ys) (rest (omega arith))

  find-last : (xs : List X) (t : X) → count_by p xs ≡ 0 → p t ≡ true → find p (xs ++ t ∷ []) ≡ Some t
  find-last [] t none is = rw is refl
  find-last (x ∷ xs) t none is = go (p x) (count-cons p x xs) (λ e. find-last xs t e is)
    where
      go : (b : Bool) → count_by p (x ∷ xs) ≡ one b + count_by p xs → (count_by p xs ≡ 0 → find p (xs ++ t ∷ []) ≡ Some t) → cond b (Some x) (find p (xs ++ t ∷ [])) ≡ Some t
      go true c rest = absurd (omega arith)
      go false c rest = rest (omega arith)

  count-filter : (q : X → Bool) (xs : List X) → count_by p (filter q xs) ≤ count_by p xs
  count-filter q [] = omega arith
  count-filter q (x ∷ xs) = go (q x) (count-filter q xs)
    where
      go : (b : Bool) → count_by p (filter q xs) ≤ count_by p xs → count_by p (cond b (x ∷ filter q xs) (filter q xs)) ≤ count_by p (x ∷ xs)
      go true le = omega (arith, le, count-cons p x (filter q xs), count-cons p x xs)
      go false le = omega (arith, le, count-cons p x xs)

-- the first removal that waits for nobody
pub ready-some : (os : List Opened) → list_any is_ready (map (λ o. o.removal) os) ≡ true → is_some (option_map ready_of (first_free os)) ≡ true
ready-some [] any = absurd (cc)
ready-some (o ∷ os) any = go (is_free o) any (ready-some os)
  where
    go : (b : Bool) → (b || list_any is_ready (map (λ o. o.removal) os)) ≡ true → (list_any is_ready (map (λ o. o.removal) os) ≡ true → is_some (option_map ready_of (first_free os)) ≡ true) → is_some (option_map ready_of (cond b (Some o) (first_free os))) ≡ true
    go true any rest = refl
    go false any rest = rest any

-- the one that is ready
pub record IsFirst (os : List Opened) (call : Ready) (o : Opened) : Type 0 where
  pub is_first : first_free os ≡ Some o
  pub is : call ≡ ready_of o

pub the-first : (os : List Opened) (call : Ready) → Some call ≡ option_map ready_of (first_free os) → (o : Opened) × IsFirst os call o
the-first os call is = go (first_free os) refl is
  where
    go : (x : Option Opened) → first_free os ≡ x → Some call ≡ option_map ready_of x → (o : Opened) × IsFirst os call o
    go None e is = absurd (cc)
    go (Some o) e is = (o, record { is_first = e; is = cc })

first-All : (P : Opened → Type 0) (os : List Opened) (o : Opened) → first_free os ≡ Some o → All P os → P o
first-All P [] o e all = absurd (cc)
first-All P (x ∷ os) o e all = go (is_free x) e (λ f. first-All P os o f (All-tail P x os all))
  where
    go : (b : Bool) → cond b (Some x) (first_free os) ≡ Some o → (first_free os ≡ Some o → P o) → P o
    go true e rest = let same : o ≡ x = cc in rw same (All-head P x os all)
    go false e rest = rest e

without-All : (P : Opened → Type 0) (os : List Opened) → All P os → All P (without_free os)
without-All P [] all = all
without-All P (x ∷ os) all = go (is_free x) (without-All P os (All-tail P x os all))
  where
    go : (b : Bool) → All P (without_free os) → All P (cond b os (x ∷ without_free os))
    go true rest = All-tail P x os all
    go false rest = All-cons P x (without_free os) (All-head P x os all) rest

pub ready-taking : (ids : List ℕ) (os : List Opened) (call : Ready) → Some call ≡ option_map ready_of (first_free os) → All (IsOpened ids) os → IsTaking ids call.task
ready-taking ids os call is all =
    let f = the-first os call is in
    let opened : IsOpened ids f.0 = first-All (IsOpened ids) os f.0 f.1.is_first all in
    rw f.1.is opened.taking

-- the chains that wait, by their heads
abbrev pub is_head : ℕ → Waiting → Bool
is_head k w = eqb w.head k

abbrev pub waiting_of : Removal → ℕ → Waiting
waiting_of r head = record { head = head; driver = r.driver; line = r.line; task = r.task }

-- the first that is ready has its chain among them once, and leaves the others
record IsThere (head : ℕ) (o : Opened) (ws rest : List Waiting) : Type 0 where
  found : find (is_head head) ws ≡ Some (waiting_of o.removal head)
  others : filter (λ w. not (is_head head w)) ws ≡ rest
  some : 1 ≤ count_by (is_head head) ws

there : (head : ℕ) (o : Opened) (os : List Opened) → first_free os ≡ Some o → o.token ≡ token.Chain head → count_by (is_head head) (waiting_opened os) ≤ 1 → IsThere head o (waiting_opened os) (waiting_opened (without_free os))
there head o [] e tok once = absurd (cc)
there head o (p ∷ os) e tok once = go (is_free p) e once (λ f le. there head o os f tok le)
  where
    here : (r : Removal) → count_by (is_head head) (waiting_by r (token.Chain head) ++ waiting_opened os) ≤ 1 → r ≡ o.removal → IsThere head o (waiting_by r (token.Chain head) ++ waiting_opened os) (waiting_opened os)
    here r once same =
        let counted = count-cons (is_head head) (waiting_of r head) (waiting_opened os) in
        let at : one (eqb head head) ≡ 1 = rw (is-same head) refl in
        record {
          found = rw (is-same head, same) refl;
          others = rw (is-same head) (filter-absent (is_head head) (waiting_opened os) (omega (arith, once, counted, at)));
          some = omega (arith, counted, at);
        }

    by : (t : Token) → count_by (is_head head) (waiting_by p.removal t ++ waiting_opened os) ≤ 1 → (count_by (is_head head) (waiting_opened os) ≤ 1 → IsThere head o (waiting_opened os) (waiting_opened (without_free os)))
        → IsThere head o (waiting_by p.removal t ++ waiting_opened os) (waiting_by p.removal t ++ waiting_opened (without_free os))
    by (token.Setting driver line) once rest = rest once
    by (token.Chain k) once rest = split (eqb k head) refl (count-cons (is_head head) (waiting_of p.removal k) (waiting_opened os)) (rest (omega (arith, once, count-cons (is_head head) (waiting_of p.removal k) (waiting_opened os))))
      where
        split : (b : Bool) → eqb k head ≡ b → count_by (is_head head) (waiting_of p.removal k ∷ waiting_opened os) ≡ one b + count_by (is_head head) (waiting_opened os) → IsThere head o (waiting_opened os) (waiting_opened (without_free os))
            → IsThere head o (waiting_of p.removal k ∷ waiting_opened os) (waiting_of p.removal k ∷ waiting_opened (without_free os))
        split true e counted rest = absurd (omega (arith, once, counted, rest.some))
        split false e counted rest = record {
          found = rw e rest.found;
          others = rw e (ap (λ vs. waiting_of p.removal k ∷ vs) rest.others);
          some = omega (arith, counted, rest.some);
        }

    go : (b : Bool) → cond b (Some p) (first_free os) ≡ Some o → count_by (is_head head) (waiting_opened (p ∷ os)) ≤ 1 → (first_free os ≡ Some o → count_by (is_head head) (waiting_opened os) ≤ 1 → IsThere head o (waiting_opened os) (waiting_opened (without_free os)))
        → IsThere head o (waiting_opened (p ∷ os)) (waiting_opened (cond b os (p ∷ without_free os)))
    go true e once rest =
        let same : p ≡ o = cc in
        let at : p.token ≡ token.Chain head = rw same tok in
        let once' = rw at at once in
        rw at (here p.removal once' (ap (λ x. x.removal) same))
    go false e once rest = by p.token once (rest e)

-- one without a chain leaves them all
settings-stay : (driver line : ℕ) (o : Opened) (os : List Opened) → first_free os ≡ Some o → o.token ≡ token.Setting driver line → waiting_opened (without_free os) ≡ waiting_opened os
settings-stay driver line o [] e tok = absurd (cc)
settings-stay driver line o (p ∷ os) e tok = go (is_free p) e (λ f. settings-stay driver line o os f tok)
  where
    go : (b : Bool) → cond b (Some p) (first_free os) ≡ Some o → (first_free os ≡ Some o → waiting_opened (without_free os) ≡ waiting_opened os) → waiting_opened (cond b os (p ∷ without_free os)) ≡ waiting_opened (p ∷ os)
    go true e rest =
        let same : p ≡ o = cc in
        let at : p.token ≡ token.Setting driver line = rw same tok in
        rw at refl
    go false e rest = ap (λ ws. waiting_by p.removal p.token ++ ws) (rest e)

module _ (v : CallsValue) (os : List Opened) (tied : AreTied v.taken os) where
  once-waiting : (head : ℕ) → count_by (is_head head) (waiting_opened os) ≤ 1
  once-waiting head = rw (← tied.same, count-map waiting_taken (is_head head) v.taken) (tied.once head)

  module _ (call : Ready) (is_ready' : Some call ≡ option_map ready_of (first_free os)) where
    token-by : (o : Opened) → first_free os ≡ Some o → (t : Token) → o.token ≡ t → IsTokenOf v o.removal.driver o.removal.line o.removal.task t
    token-by o first (token.Chain head) e =
        let at = there head o os first e (once-waiting head) in
        sym (find-map waiting_taken (is_head head) v.taken) ∙ ap (find (is_head head)) tied.same ∙ at.found
    token-by o first (token.Setting driver line) e =
        let named = first-All (λ o. NamesLine o.removal o.token) os o first tied.named in
        let below = first-All (λ o. HasDriver o.token) os o first tied.drivers in
        let named' = rw e at named in
        let below' = rw e at below in
        (named'.0, named'.1, named'.2, below')

    -- the call of the first that is ready has its token
    pub ready-token : HasToken v call
    ready-token =
        let f = the-first os call is_ready' in
        rw f.1.is (token-by f.0 f.1.is_first f.0.token refl)

    tied-by : (o : Opened) → first_free os ≡ Some o → (t : Token) → o.token ≡ t → AreTied (without_token t v).taken (without_free os)
    tied-by o first (token.Chain head) e =
        let at = there head o os first e (once-waiting head) in
        record {
          same = filter-map waiting_taken (λ w. not (is_head head w)) v.taken ∙ ap (filter (λ w. not (is_head head w))) tied.same ∙ at.others;
          once = λ k. omega (arith, tied.once k, count-filter (has_head k) (λ t. not (has_head head t)) v.taken);
          named = without-All (λ o. NamesLine o.removal o.token) os tied.named;
          drivers = without-All (λ o. HasDriver o.token) os tied.drivers;
        }
    tied-by o first (token.Setting driver line) e = record {
      same = tied.same ∙ sym (settings-stay driver line o os first e);
      once = tied.once;
      named = without-All (λ o. NamesLine o.removal o.token) os tied.named;
      drivers = without-All (λ o. HasDriver o.token) os tied.drivers;
    }

    -- and leaves with it
    pub tied-ready : AreTied (without_token call.token v).taken (without_free os)
    tied-ready =
        let f = the-first os call is_ready' in
        rw f.1.is (tied-by f.0 f.1.is_first f.0.token refl)

-- a token leaves the queue and the drivers' rows
pub ports-token : (t : Token) (v : CallsValue) → (without_token t v).ports ≡ v.ports
ports-token (token.Chain head) v = refl
ports-token (token.Setting driver line) v = refl

pub queue-token : (t : Token) (v : CallsValue) → (without_token t v).queue ≡ v.queue
queue-token (token.Chain head) v = refl
queue-token (token.Setting driver line) v = refl

-- a call that is started
waiting-last : (os : List Opened) (o : Opened) → waiting_opened (os ++ o ∷ []) ≡ waiting_opened os ++ (waiting_by o.removal o.token ++ [])
waiting-last [] o = refl
waiting-last (p ∷ os) o = ap (λ ws. waiting_by p.removal p.token ++ ws) (waiting-last os o) ∙ sym (append-assoc (waiting_by p.removal p.token) (waiting_opened os) (waiting_by o.removal o.token ++ []))
  where
    append-assoc : (xs ys zs : List Waiting) → (xs ++ ys) ++ zs ≡ xs ++ (ys ++ zs)
    append-assoc [] ys zs = refl
    append-assoc (x ∷ xs) ys zs = ap (λ ws. x ∷ ws) (append-assoc xs ys zs)

abbrev pub taken_as : ℕ → Queued → Taken
taken_as head q = record { head = head; call = q }

module _ (old new : CallsValue) where
  token-next : (call : Started) (t : Token) → IsNextBy old new call t → IsTokenOf new call.driver call.line call.task t
  token-next call (token.Chain head) next =
      let x : IsNextRequest old new call head next.0 next.1 = next.2 in
      rw (x.left_calls, x.is, find-last (has_head head) old.taken (taken_as head next.0) x.fresh (is-same head)) refl
  token-next call (token.Setting driver line) next =
      let x : IsNextSetting old new call driver next.1.0 = next.1.1 in
      rw x.is (refl, rw x.is at next.0, tt, x.below)

  pub next-token : (call : Ready) → IsNext old new call → HasToken new call
  next-token call next = token-next (started_of call) call.token next

  -- which is answered at once
  taken-back : (call : Started) (t : Token) → IsNextBy old new call t → (without_token t new).taken ≡ old.taken
  taken-back call (token.Chain head) next =
      let x : IsNextRequest old new call head next.0 next.1 = next.2 in
      rw (x.left_calls) (filter-last (has_head head) old.taken (taken_as head next.0) x.fresh (is-same head))
  taken-back call (token.Setting driver line) next = ap (λ v. v.taken) next.1.1.left_calls

  pub tied-answered : (os : List Opened) (call : Ready) → AreTied old.taken os → IsNext old new call → AreTied (without_token call.token new).taken os
  tied-answered os call tied next = rw (taken-back (started_of call) call.token next) tied

  -- whose removal begins
  tied-next : (os : List Opened) (call : Started) (t : Token) (o : Opened) → o.removal.driver ≡ call.driver → o.removal.line ≡ call.line → o.removal.task ≡ call.task → o.token ≡ t → AreTied old.taken os → IsNextBy old new call t → AreTied new.taken (os ++ o ∷ [])
  tied-next os call (token.Chain head) o driver line task at tied next =
      let x : IsNextRequest old new call head next.0 next.1 = next.2 in
      let q : Queued = next.0 in
      let same : waiting_of o.removal head ≡ waiting_taken (taken_as head q) = rw (driver, line, task, x.is) refl in
      let named : NamesLine o.removal o.token = rw at tt in
      let below : HasDriver o.token = rw at tt in
      record {
        same = rw x.left_calls (map-append waiting_taken old.taken (taken_as head q ∷ []) ∙ ap (λ ws. ws ++ waiting_taken (taken_as head q) ∷ []) tied.same ∙ sym (waiting-last os o ∙ rw (at, same) refl));
        once = λ k. rw x.left_calls (once-last k (eqb head k) refl);
        named = All-push (λ o. NamesLine o.removal o.token) os o tied.named named;
        drivers = All-push (λ o. HasDriver o.token) os o tied.drivers below;
      }
    where
      once-last : (k : ℕ) (b : Bool) → eqb head k ≡ b → count_by (has_head k) (old.taken ++ taken_as head next.0 ∷ []) ≤ 1
      once-last k true e =
          let x : IsNextRequest old new call head next.0 next.1 = next.2 in
          let here : head ≡ k = grind (arith, nat_tests, e) in
          let none : count_by (has_head k) old.taken ≡ 0 = rw (← here) x.fresh in
          omega (arith, none, count-last (has_head k) old.taken (taken_as head next.0), one-le (eqb head k))
      once-last k false e =
          let other : one (eqb head k) ≡ 0 = rw e refl in
          omega (arith, tied.once k, count-last (has_head k) old.taken (taken_as head next.0), other)
  tied-next os call (token.Setting driver line) o of_driver of_line task at tied next =
      let x : IsNextSetting old new call driver next.1.0 = next.1.1 in
      let named : NamesLine o.removal o.token = rw (at, of_driver, of_line, task, x.is) (refl, rw x.is at next.0, tt) in
      let below : HasDriver o.token = rw at x.below in
      let stays : new.taken ≡ old.taken = ap (λ v. v.taken) x.left_calls in
      record {
        same = rw stays (tied.same ∙ sym (waiting-last os o ∙ rw at (append-nil (waiting_opened os))));
        once = λ k. rw stays (tied.once k);
        named = All-push (λ o. NamesLine o.removal o.token) os o tied.named named;
        drivers = All-push (λ o. HasDriver o.token) os o tied.drivers below;
      }
    where
      append-nil : (xs : List Waiting) → xs ++ [] ≡ xs
      append-nil [] = refl
      append-nil (x ∷ xs) = ap (λ ws. x ∷ ws) (append-nil xs)

  pub tied-begun : (os : List Opened) (call : Ready) (waits : List Bool) → AreTied old.taken os → IsNext old new call → AreTied new.taken (os ++ opened_for call waits ∷ [])
  tied-begun os call waits tied next = tied-next os (started_of call) call.token (opened_for call waits) refl refl refl refl tied next

-- a back end acknowledges
waiting-ack : (r : Removal) (place : ℕ) (t : Token) → waiting_by (acknowledged place r) t ≡ waiting_by r t
waiting-ack r place (token.Chain head) = refl
waiting-ack r place (token.Setting driver line) = refl

named-ack : (r : Removal) (place : ℕ) (t : Token) → NamesLine r t → NamesLine (acknowledged place r) t
named-ack r place (token.Chain head) named = named
named-ack r place (token.Setting driver line) named = named

acked-waiting : (place : ℕ) (os : List Opened) → waiting_opened (with_ack place os) ≡ waiting_opened os
acked-waiting place [] = refl
acked-waiting place (o ∷ os) = go (is_awaiting place o) (acked-waiting place os)
  where
    go : (b : Bool) → waiting_opened (with_ack place os) ≡ waiting_opened os → waiting_opened (cond b (released place o ∷ os) (o ∷ with_ack place os)) ≡ waiting_opened (o ∷ os)
    go true rest = ap (λ ws. ws ++ waiting_opened os) (waiting-ack o.removal place o.token)
    go false rest = ap (λ ws. waiting_by o.removal o.token ++ ws) rest

acked-All : (P : Opened → Type 0) (place : ℕ) → ((o : Opened) → P o → P (released place o)) → (os : List Opened) → All P os → All P (with_ack place os)
acked-All P place keeps [] all = all
acked-All P place keeps (o ∷ os) all = go (is_awaiting place o) (acked-All P place keeps os (All-tail P o os all))
  where
    go : (b : Bool) → All P (with_ack place os) → All P (cond b (released place o ∷ os) (o ∷ with_ack place os))
    go true rest = All-cons P (released place o) os (keeps o (All-head P o os all)) (All-tail P o os all)
    go false rest = All-cons P o (with_ack place os) (All-head P o os all) rest

pub tied-acked : (taken : List Taken) (os : List Opened) (place : ℕ) → AreTied taken os → AreTied taken (with_ack place os)
tied-acked taken os place tied = record {
  same = tied.same ∙ sym (acked-waiting place os);
  once = tied.once;
  named = acked-All (λ o. NamesLine o.removal o.token) place (λ o named. named-ack o.removal place o.token named) os tied.named;
  drivers = acked-All (λ o. HasDriver o.token) place (λ o below. below) os tied.drivers;
}
