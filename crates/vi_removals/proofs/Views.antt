-- The open removals as users see them, by how they are kept.
use Rattle.std.proofs.Common.{◌≡◌, ℕ, zero, suc, ◌<◌, ◌^◌, Bool, true, false, not, cond, ◌||◌, ◌&&◌, eqb, List, [], ◌∷◌, Option, Some, None, length, map, get_or, take, drop, find, refl, ap, sym, ◌∙◌, arith, eq-eqb}
use Rattle.std.specs.List.{list_any, list_all}
use Rattle.std.specs.Option.{option_map}
use Rattle.std.proofs.Math.Bool.{and-or_distrib_right}
use Rattle.std.proofs.Math.Seq.{take-set-lt}
use Rattle.std.proofs.lemmas.List.{get_or-take}
use Rattle.std.proofs.lemmas.Bool.Decides.{nat_tests}
use Rattle.vi_bytes.specs.declared.region.Membership.{Membership}
use Rattle.vi_history.specs.Device.{Dev}
use Rattle.vi_device.specs.Values.{AreDistinct, membership_at}
use Rattle.vi_model.specs.Removals.{Removal, waits_for, is_ready, acked, closed, closes_page, first_ready, without_first}
use Rattle.vi_shoot.specs.declared.ops.Op.{Op}
use Rattle.vi_shoot.specs.declared.ops.Token.{Token}
use Rattle.vi_shoot.specs.declared.what.What.{What}
use Rattle.vi_shoot.specs.Reaches as shoot
use Rattle.vi_shoot.specs.Removals as ops
use Rattle.vi_shoot.proofs.Firsts.{filter_all}
use Rattle.vi_shoot.proofs.Oldest.{closable-first, has_number-closable}
use Rattle.vi_removals.specs.declared.removals.Call.{Call}
use Rattle.vi_removals.specs.Value.{Opened, released, with_ack, oldest_awaiting, addresses_in, first_free, without_free, ready_of}
use Rattle.vi_removals.specs.Inner.{call_at, opened_of, IsTied, AreTied}
use Rattle.vi_removals.proofs.Takes.{reaches-what, addresses-what, closes-what}

-- a test of each, through a map and by what is so of each
list_any-map : {X Y : Type 0} (p : X → Bool) (f : Y → X) (ys : List Y) → list_any p (map f ys) ≡ list_any (λ y. p (f y)) ys
list_any-map p f [] = refl
list_any-map p f (y ∷ ys) = ap (λ b. p (f y) || b) (list_any-map p f ys)

list_any-tied : (ids : List ℕ) (calls : List Call) (p q : Op → Bool) (os : List Op) → AreTied ids calls os → ((op : Op) → IsTied ids calls op → p op ≡ q op) → list_any p os ≡ list_any q os
list_any-tied ids calls p q [] tied same = refl
list_any-tied ids calls p q (op ∷ os) tied same =
    let here : p op ≡ q op = same op tied.0 in
    rw here (ap (λ b. q op || b) (list_any-tied ids calls p q os tied.1 same))

-- the flags of the endpoints that there are
all-take : (n : ℕ) (flags : List Bool) → list_all not (drop n flags) ≡ true → list_all not (take n flags) ≡ list_all not flags
all-take zero flags none = sym none
all-take (suc n) [] none = refl
all-take (suc n) (flag ∷ flags) none = ap (λ b. not flag && b) (all-take n flags none)

pub someone-all : (n : ℕ) (flags : List Bool) → list_all not (take n flags) ≡ false → list_all not (drop n flags) ≡ true → list_all not flags ≡ false
someone-all n flags some none = sym (all-take n flags none) ∙ some

waits-same : (calls : List Call) (count place : ℕ) (op : Op) → place < count → waits_for place (opened_of calls count op).removal ≡ ops.waits_for place op
waits-same calls count place op lt = get_or-take count op.waiting.0 place false lt

ready-same : (ids : List ℕ) (calls : List Call) (op : Op) → IsTied ids calls op → is_ready (opened_of calls (length ids) op).removal ≡ ops.is_ready op
ready-same ids calls op tied = all-take (length ids) op.waiting.0 tied.beyond

-- the removals behind two maps
any-removals : (p : Removal → Bool) (f : Op → Opened) (os : List Op) → list_any p (map (λ o. o.removal) (map f os)) ≡ list_any (λ op. p (f op).removal) os
any-removals p f os = list_any-map p (λ (o : Opened). o.removal) (map f os) ∙ list_any-map (λ (o : Opened). p o.removal) f os

pub waits-view : (ids : List ℕ) (calls : List Call) (place : ℕ) (os : List Op) → AreTied ids calls os → place < length ids
    → list_any (λ op. ops.waits_for place op) os ≡ list_any (waits_for place) (map (λ o. o.removal) (map (opened_of calls (length ids)) os))
waits-view ids calls place os tied lt =
    sym (any-removals (waits_for place) (opened_of calls (length ids)) os
    ∙ list_any-tied ids calls (λ op. waits_for place (opened_of calls (length ids) op).removal) (λ op. ops.waits_for place op) os tied (λ op t. waits-same calls (length ids) place op lt))

pub ready-view : (ids : List ℕ) (calls : List Call) (os : List Op) → AreTied ids calls os
    → list_any (λ op. ops.is_ready op) os ≡ list_any is_ready (map (λ o. o.removal) (map (opened_of calls (length ids)) os))
ready-view ids calls os tied =
    sym (any-removals is_ready (opened_of calls (length ids)) os
    ∙ list_any-tied ids calls (λ op. is_ready (opened_of calls (length ids) op).removal) (λ op. ops.is_ready op) os tied (λ op t. ready-same ids calls op t))

-- what closes a page
closes-same : (dev : Dev) (ids : List ℕ) (calls : List Call) (place page : ℕ) (now : Membership) (op : Op) → IsTied ids calls op → AreDistinct ids → place < length ids → page < 2 ^ 52
    → map (λ x. x.id) dev.endpoints ≡ ids → membership_at dev place ≡ now
    → closes_page dev (get_or ids place 0) place page (opened_of calls (length ids) op).removal ≡ ops.closes_page place page now op
closes-same dev ids calls place page now op tied distinct lt below ids_are now_is =
    let task = (call_at calls op.number).task in
    let taken = closes-what dev ids task op.what place page now distinct lt ids_are now_is tied.takes in
    let reached = reaches-what ids task op.what page below tied.takes in
    rw (taken, waits-same calls (length ids) place op lt, reached)
    (sym (and-or_distrib_right (shoot.is_for op.what place now) (ops.waits_for place op) (shoot.reaches (shoot.reach_of op.what) page)))

pub closes-view : (dev : Dev) (ids : List ℕ) (calls : List Call) (place page : ℕ) (now : Membership) (os : List Op) → AreTied ids calls os → AreDistinct ids → place < length ids → page < 2 ^ 52
    → map (λ x. x.id) dev.endpoints ≡ ids → membership_at dev place ≡ now
    → ops.closes place page now os ≡ closed dev (get_or ids place 0) place page (map (λ o. o.removal) (map (opened_of calls (length ids)) os))
closes-view dev ids calls place page now os tied distinct lt below ids_are now_is =
    sym (any-removals (closes_page dev (get_or ids place 0) place page) (opened_of calls (length ids)) os
    ∙ list_any-tied ids calls (λ op. closes_page dev (get_or ids place 0) place page (opened_of calls (length ids) op).removal) (λ op. ops.closes_page place page now op) os tied
    (λ op t. closes-same dev ids calls place page now op t distinct lt below ids_are now_is))

-- an acknowledgement
pub acked-view : (calls : List Call) (count place : ℕ) (os : List Op) → place < count → map (opened_of calls count) (ops.acked place os) ≡ with_ack place (map (opened_of calls count) os)
acked-view calls count place [] lt = refl
acked-view calls count place (op ∷ os) lt = rw (waits-same calls count place op lt) (go (ops.waits_for place op) (acked-view calls count place os lt))
  where
    go : (b : Bool) → map (opened_of calls count) (ops.acked place os) ≡ with_ack place (map (opened_of calls count) os)
        → map (opened_of calls count) (cond b (ops.acknowledged place op ∷ os) (op ∷ ops.acked place os))
        ≡ cond b (released place (opened_of calls count op) ∷ map (opened_of calls count) os) (opened_of calls count op ∷ with_ack place (map (opened_of calls count) os))
    go true rest = rw (take-set-lt count op.waiting.0 place false lt) refl
    go false rest = ap (λ os. opened_of calls count op ∷ os) rest

pub acked-removals : (place : ℕ) (os : List Opened) → map (λ o. o.removal) (with_ack place os) ≡ acked place (map (λ o. o.removal) os)
acked-removals place [] = refl
acked-removals place (o ∷ os) = go (waits_for place o.removal) (acked-removals place os)
  where
    go : (b : Bool) → map (λ o. o.removal) (with_ack place os) ≡ acked place (map (λ o. o.removal) os)
        → map (λ o. o.removal) (cond b (released place o ∷ os) (o ∷ with_ack place os)) ≡ cond b ((released place o).removal ∷ map (λ o. o.removal) os) (o.removal ∷ acked place (map (λ o. o.removal) os))
    go true rest = refl
    go false rest = ap (λ os. o.removal ∷ os) rest

pub oldest-view : (ids : List ℕ) (calls : List Call) (place : ℕ) (os : List Op) → AreTied ids calls os → place < length ids
    → option_map (λ r. shoot.reach_span r.1) (option_map ops.number_and_reach (find (λ op. ops.waits_for place op) os)) ≡ option_map addresses_in (oldest_awaiting place (map (opened_of calls (length ids)) os))
oldest-view ids calls place [] tied lt = refl
oldest-view ids calls place (op ∷ os) tied lt = rw (waits-same calls (length ids) place op lt) (go (ops.waits_for place op) (oldest-view ids calls place os tied.1 lt))
  where
    go : (b : Bool) → option_map (λ r. shoot.reach_span r.1) (option_map ops.number_and_reach (find (λ op. ops.waits_for place op) os)) ≡ option_map addresses_in (oldest_awaiting place (map (opened_of calls (length ids)) os))
        → option_map (λ r. shoot.reach_span r.1) (option_map ops.number_and_reach (cond b (Some op) (find (λ op. ops.waits_for place op) os)))
        ≡ option_map addresses_in (cond b (Some (opened_of calls (length ids) op)) (oldest_awaiting place (map (opened_of calls (length ids)) os)))
    go true rest = ap (λ span. Some span) (sym (addresses-what ids (call_at calls op.number).task op.what tied.0.takes))
    go false rest = rest

-- the first that waits for nobody
pub free-view : (ids : List ℕ) (calls : List Call) (os : List Op) → AreTied ids calls os → first_free (map (opened_of calls (length ids)) os) ≡ option_map (opened_of calls (length ids)) (find ops.is_ready os)
free-view ids calls [] tied = refl
free-view ids calls (op ∷ os) tied = rw (ready-same ids calls op tied.0) (go (ops.is_ready op) (free-view ids calls os tied.1))
  where
    go : (b : Bool) → first_free (map (opened_of calls (length ids)) os) ≡ option_map (opened_of calls (length ids)) (find ops.is_ready os)
        → cond b (Some (opened_of calls (length ids) op)) (first_free (map (opened_of calls (length ids)) os)) ≡ option_map (opened_of calls (length ids)) (cond b (Some op) (find ops.is_ready os))
    go true rest = refl
    go false rest = rest

pub free-none : (ids : List ℕ) (calls : List Call) (os : List Op) → AreTied ids calls os → option_map ops.number_of (find ops.is_ready os) ≡ None → first_free (map (opened_of calls (length ids)) os) ≡ None
free-none ids calls os tied none = rw (free-view ids calls os tied) (go (find ops.is_ready os) none)
  where
    go : (o : Option Op) → option_map ops.number_of o ≡ None → option_map (opened_of calls (length ids)) o ≡ None
    go None none = refl
    go (Some op) none = absurd (cc)

pub free-removal : (os : List Opened) → option_map (λ o. o.removal) (first_free os) ≡ first_ready (map (λ o. o.removal) os)
free-removal [] = refl
free-removal (o ∷ os) = go (is_ready o.removal) (free-removal os)
  where
    go : (b : Bool) → option_map (λ o. o.removal) (first_free os) ≡ first_ready (map (λ o. o.removal) os)
        → option_map (λ o. o.removal) (cond b (Some o) (first_free os)) ≡ cond b (Some o.removal) (first_ready (map (λ o. o.removal) os))
    go true rest = refl
    go false rest = rest

pub without-removals : (os : List Opened) → map (λ o. o.removal) (without_free os) ≡ without_first (map (λ o. o.removal) os)
without-removals [] = refl
without-removals (o ∷ os) = go (is_ready o.removal) (without-removals os)
  where
    go : (b : Bool) → map (λ o. o.removal) (without_free os) ≡ without_first (map (λ o. o.removal) os)
        → map (λ o. o.removal) (cond b os (o ∷ without_free os)) ≡ cond b (map (λ o. o.removal) os) (o.removal ∷ without_first (map (λ o. o.removal) os))
    go true rest = refl
    go false rest = ap (λ os. o.removal ∷ os) rest

pub without_free-none : (os : List Opened) → first_free os ≡ None → without_free os ≡ os
without_free-none [] none = refl
without_free-none (o ∷ os) none = go (is_ready o.removal) (without_free-none os) none
  where
    go : (b : Bool) → (first_free os ≡ None → without_free os ≡ os) → cond b (Some o) (first_free os) ≡ None → cond b os (o ∷ without_free os) ≡ o ∷ os
    go true rest none = absurd (cc)
    go false rest none = ap (λ os. o ∷ os) (rest none)

-- by its number
has_number-first : (os : List Op) (n : ℕ) → option_map ops.number_of (find ops.is_ready os) ≡ Some n → ops.has_number n os ≡ true
has_number-first os n first = has_number-closable os n (closable-first os n first)

other_number : (op : Op) (os : List Op) (n : ℕ) → ops.has_number op.number os ≡ false → ops.has_number n os ≡ true → eqb op.number n ≡ false
other_number op os n none has = go (eqb op.number n) refl
  where
    go : (b : Bool) → eqb op.number n ≡ b → b ≡ false
    go true e =
        let same : op.number ≡ n = grind (arith, nat_tests) in
        let here : ops.has_number op.number os ≡ true = ap (λ k. ops.has_number k os) same ∙ has in
        absurd (cc)
    go false e = refl

pub number-below : (os : List Op) (n : ℕ) → ops.AreNumbered os → ops.has_number n os ≡ true → n < 8
number-below [] n each has = absurd (cc)
number-below (op ∷ os) n each has = go (eqb op.number n) refl has (number-below os n each.3)
  where
    go : (b : Bool) → eqb op.number n ≡ b → (b || ops.has_number n os) ≡ true → (ops.has_number n os ≡ true → n < 8) → n < 8
    go true e has rest =
        let same : op.number ≡ n = grind (arith, nat_tests) in
        omega (arith, same, each.0)
    go false e has rest = rest has

pub first-below : (os : List Op) (n : ℕ) → ops.AreNumbered os → option_map ops.number_of (find ops.is_ready os) ≡ Some n → n < 8
first-below os n each first = number-below os n each (has_number-first os n first)

find-number : (os : List Op) (n : ℕ) → ops.AreNumbered os → option_map ops.number_of (find ops.is_ready os) ≡ Some n → find (λ op. ops.is_number n op) os ≡ find ops.is_ready os
find-number [] n each first = refl
find-number (op ∷ os) n each first = go (ops.is_ready op) first (find-number os n each.3)
  where
    go : (b : Bool) → option_map ops.number_of (cond b (Some op) (find ops.is_ready os)) ≡ Some n → (option_map ops.number_of (find ops.is_ready os) ≡ Some n → find (λ op. ops.is_number n op) os ≡ find ops.is_ready os)
        → find (λ op. ops.is_number n op) (op ∷ os) ≡ cond b (Some op) (find ops.is_ready os)
    go true first rest =
        let same : op.number ≡ n = cc in
        rw (eq-eqb op.number n same) refl
    go false first rest = rw (other_number op os n each.1 (has_number-first os n first)) (rest first)

pub without-view : (ids : List ℕ) (calls : List Call) (os : List Op) (n : ℕ) → ops.AreNumbered os → AreTied ids calls os → option_map ops.number_of (find ops.is_ready os) ≡ Some n
    → map (opened_of calls (length ids)) (ops.without_number n os) ≡ without_free (map (opened_of calls (length ids)) os)
without-view ids calls [] n each tied first = refl
without-view ids calls (op ∷ os) n each tied first = rw (ready-same ids calls op tied.0) (go (ops.is_ready op) first (without-view ids calls os n each.3 tied.1))
  where
    go : (b : Bool) → option_map ops.number_of (cond b (Some op) (find ops.is_ready os)) ≡ Some n
        → (option_map ops.number_of (find ops.is_ready os) ≡ Some n → map (opened_of calls (length ids)) (ops.without_number n os) ≡ without_free (map (opened_of calls (length ids)) os))
        → map (opened_of calls (length ids)) (ops.without_number n (op ∷ os)) ≡ cond b (map (opened_of calls (length ids)) os) (opened_of calls (length ids) op ∷ without_free (map (opened_of calls (length ids)) os))
    go true first rest =
        let same : op.number ≡ n = cc in
        let none : ops.has_number n os ≡ false = ap (λ k. ops.has_number k os) (sym same) ∙ each.1 in
        rw (eq-eqb op.number n same) (ap (map (opened_of calls (length ids))) (filter_all (λ op. ops.is_number n op) os none))
    go false first rest = rw (other_number op os n each.1 (has_number-first os n first)) (ap (λ os. opened_of calls (length ids) op ∷ os) (rest first))

pub leaves-view : (ids : List ℕ) (calls : List Call) (os : List Op) (n : ℕ) (w : What) (token : Token) → ops.AreNumbered os → AreTied ids calls os → option_map ops.number_of (find ops.is_ready os) ≡ Some n
    → Some (w, token) ≡ option_map ops.what_and_token (find (λ op. ops.is_number n op) os)
    → Some (record { driver = (call_at calls n).driver; line = (call_at calls n).line; task = (call_at calls n).task; token = token }) ≡ option_map ready_of (first_free (map (opened_of calls (length ids)) os))
leaves-view ids calls os n w token each tied first left = rw (free-view ids calls os tied) (go (find ops.is_ready os) first (rw (find-number os n each first) at left))
  where
    go : (o : Option Op) → option_map ops.number_of o ≡ Some n → Some (w, token) ≡ option_map ops.what_and_token o
        → Some (record { driver = (call_at calls n).driver; line = (call_at calls n).line; task = (call_at calls n).task; token = token }) ≡ option_map ready_of (option_map (opened_of calls (length ids)) o)
    go None first left = absurd (cc)
    go (Some op) first left =
        let same : op.number ≡ n = cc in
        let handed : (w, token) ≡ ops.what_and_token op = cc in
        let token_is : token ≡ op.token = ap (λ (p : What × Token). p.1) handed in
        rw (token_is, ← same) refl
