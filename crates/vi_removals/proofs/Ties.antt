-- How the open removals are kept stays so, and what is so of them as users see them.
use Rattle.std.proofs.Common.{◌≡◌, ◌≢◌, ℕ, zero, suc, ◌<◌, ◌≤◌, Bool, true, false, not, cond, ◌||◌, ◌&&◌, eqb, List, [], ◌∷◌, ◌++◌, Some, All, length, map, set, take, drop, refl, ap, sym, ◌∙◌, arith, length-set}
use Rattle.std.specs.List.{list_all}
use Rattle.std.proofs.lemmas.List.{get_or-set_same, get_or-set_other, length-take-le}
use Rattle.std.proofs.lemmas.List.Elements.{All-nil, All-cons}
use Rattle.std.proofs.lemmas.Bool.Decides.{nat_tests}
use Rattle.vi_shoot.specs.declared.ops.Op.{Op}
use Rattle.vi_shoot.specs.declared.ops.Token.{Token}
use Rattle.vi_shoot.specs.declared.what.What.{What}
use Rattle.vi_shoot.specs.declared.waiting.Waiting.{Waiting}
use Rattle.vi_shoot.specs.Removals as ops
use Rattle.vi_removals.specs.declared.removals.Call.{Call}
use Rattle.vi_removals.specs.declared.removals.Removals.TheInside.{Inside}
use Rattle.vi_removals.specs.Value.{Opened, opened_by}
use Rattle.vi_removals.specs.Takings.{IsTaking, IsOpened, AreOpened, what_of}
use Rattle.vi_removals.specs.Inner.{seen, no_call, call_at, opened_of, IsTied, AreTied, IsWhole}
use Rattle.vi_removals.proofs.Takes.{proper-reach}

-- a removal as users see it
IsOpened-tied : (ids : List ℕ) (calls : List Call) (op : Op) → length ids ≤ 16 → IsTied ids calls op → IsOpened ids (opened_of calls (length ids) op)
IsOpened-tied ids calls op few tied = record {
  taking = tied.taking;
  places = length-take-le (length ids) op.waiting.0 (omega (arith, few, tied.flags));
  proper = proper-reach ids (call_at calls op.number).task tied.taking;
}

All-tied : (ids : List ℕ) (calls : List Call) (os : List Op) → length ids ≤ 16 → AreTied ids calls os → All (IsOpened ids) (map (opened_of calls (length ids)) os)
All-tied ids calls [] few tied = All-nil (IsOpened ids)
All-tied ids calls (op ∷ os) few tied = All-cons (IsOpened ids) (opened_of calls (length ids) op) (map (opened_of calls (length ids)) os) (IsOpened-tied ids calls op few tied.0) (All-tied ids calls os few tied.1)

length-opened : (f : Op → Opened) (os : List Op) → length (map f os) ≡ length os
length-opened f [] = refl
length-opened f (op ∷ os) = ap suc (length-opened f os)

pub AreOpened-seen : (p : Inside) → IsWhole p → AreOpened (seen p)
AreOpened-seen p whole = record {
  endpoints = whole.few;
  few = omega (arith, whole.open_ops.few, length-opened (opened_of p.calls (length p.ids.items)) p.ops);
  each = All-tied p.ids.items p.calls p.ops whole.few whole.tied;
}

pub length-seen : (p : Inside) → length (seen p).opened ≡ length p.ops
length-seen p = length-opened (opened_of p.calls (length p.ids.items)) p.ops

-- a call for a new number leaves those of the others
other-number : (n k : ℕ) (os : List Op) (b : Bool) → eqb k n ≡ b → (b || ops.has_number n os) ≡ false → (k ≢ n) × (ops.has_number n os ≡ false)
other-number n k os true e none = absurd (cc)
other-number n k os false e none = (grind (arith, nat_tests), none)

call_at-other : (calls : List Call) (n k : ℕ) (call : Call) → k ≢ n → call_at (set calls n call) k ≡ call_at calls k
call_at-other calls n k call ne = get_or-set_other calls n k call no_call ne

IsTied-call : (ids : List ℕ) (calls calls' : List Call) (op : Op) → call_at calls' op.number ≡ call_at calls op.number → IsTied ids calls op → IsTied ids calls' op
IsTied-call ids calls calls' op same tied = record {
  taking = rw same tied.taking;
  takes = rw same tied.takes;
  flags = tied.flags;
  beyond = tied.beyond;
}

AreTied-call : (ids : List ℕ) (calls : List Call) (n : ℕ) (call : Call) (os : List Op) → ops.has_number n os ≡ false → AreTied ids calls os → AreTied ids (set calls n call) os
AreTied-call ids calls n call [] none tied = tt
AreTied-call ids calls n call (op ∷ os) none tied =
    let others = other-number n op.number os (eqb op.number n) refl none in
    (IsTied-call ids calls (set calls n call) op (call_at-other calls n op.number call others.0) tied.0, AreTied-call ids calls n call os others.1 tied.1)

opened-call : (calls : List Call) (count n : ℕ) (call : Call) (os : List Op) → ops.has_number n os ≡ false → map (opened_of (set calls n call) count) os ≡ map (opened_of calls count) os
opened-call calls count n call [] none = refl
opened-call calls count n call (op ∷ os) none =
    let others = other-number n op.number os (eqb op.number n) refl none in
    rw (call_at-other calls n op.number call others.0) (ap (λ rest. opened_of calls count op ∷ rest) (opened-call calls count n call os others.1))

AreTied-push : (ids : List ℕ) (calls : List Call) (os : List Op) (op : Op) → AreTied ids calls os → IsTied ids calls op → AreTied ids calls (os ++ op ∷ [])
AreTied-push ids calls [] op tied last = (last, tt)
AreTied-push ids calls (o ∷ os) op tied last = (tied.0, AreTied-push ids calls os op tied.1 last)

map-push : (f : Op → Opened) (os : List Op) (op : Op) → map f (os ++ op ∷ []) ≡ map f os ++ f op ∷ []
map-push f [] op = refl
map-push f (o ∷ os) op = ap (λ rest. f o ∷ rest) (map-push f os op)

below-last : (os : List Op) (op : Op) → ops.AreNumbered (os ++ op ∷ []) → op.number < 8
below-last [] op each = each.0
below-last (o ∷ os) op each = below-last os op each.3

-- a removal begins
pub number-begun : (os new : List Op) (what : What) (waiting : Waiting) (token : Token) (n : ℕ) → n ≡ ops.free_number os → new ≡ ops.begun what waiting token os → ops.AreOpen new → n < 8
number-begun os new what waiting token n is begun are_open =
    let each = rw begun at are_open.each in
    let below = below-last os (record { number = ops.free_number os; what = what; waiting = waiting; token = token }) each in
    rw is below

IsTied-begun : (ids : List ℕ) (calls : List Call) (n : ℕ) (what : What) (waiting : Waiting) (token : Token) (call : Call) → n < length calls → IsTaking ids call.task → Some what ≡ what_of ids call.task
    → length waiting.0 ≡ 16 → list_all not (drop (length ids) waiting.0) ≡ true → IsTied ids (set calls n call) (record { number = n; what = what; waiting = waiting; token = token })
IsTied-begun ids calls n what waiting token call lt taking takes flags beyond =
    let here : call_at (set calls n call) n ≡ call = get_or-set_same calls n call no_call lt in
    record { taking = rw here taking; takes = rw here (sym takes); flags = flags; beyond = beyond }

pub IsWhole-begun : (p : Inside) (new : List Op) (what : What) (waiting : Waiting) (token : Token) (n : ℕ) (call : Call) → IsWhole p → n ≡ ops.free_number p.ops → new ≡ ops.begun what waiting token p.ops → ops.AreOpen new
    → ops.has_number n p.ops ≡ false → IsTaking p.ids.items call.task → Some what ≡ what_of p.ids.items call.task → length waiting.0 ≡ 16 → list_all not (drop (length p.ids.items) waiting.0) ≡ true
    → IsWhole (record p { ops = new; calls = set p.calls n call })
IsWhole-begun p new what waiting token n call whole is begun are_open fresh taking takes flags beyond =
    let below = number-begun p.ops new what waiting token n is begun are_open in
    let last = IsTied-begun p.ids.items p.calls n what waiting token call (omega (arith, below, whole.numbers)) taking takes flags beyond in
    let tied = AreTied-push p.ids.items (set p.calls n call) p.ops (record { number = n; what = what; waiting = waiting; token = token }) (AreTied-call p.ids.items p.calls n call p.ops fresh whole.tied) last in
    record {
      few = whole.few;
      numbers = length-set p.calls n call ∙ whole.numbers;
      open_ops = are_open;
      tied = rw (begun, ← is) tied;
    }

pub seen-begun : (p : Inside) (new : List Op) (what : What) (waiting : Waiting) (token : Token) (n : ℕ) (call : Call) → IsWhole p → n ≡ ops.free_number p.ops → new ≡ ops.begun what waiting token p.ops → ops.AreOpen new
    → ops.has_number n p.ops ≡ false
    → seen (record p { ops = new; calls = set p.calls n call })
    ≡ record (seen p) { opened = (seen p).opened ++ opened_by call.driver call.line call.task (take (length p.ids.items) waiting.0) token ∷ [] }
seen-begun p new what waiting token n call whole is begun are_open fresh =
    let below = number-begun p.ops new what waiting token n is begun are_open in
    let here : call_at (set p.calls n call) n ≡ call = get_or-set_same p.calls n call no_call (omega (arith, below, whole.numbers)) in
    let op : Op = record { number = n; what = what; waiting = waiting; token = token } in
    let opened : map (opened_of (set p.calls n call) (length p.ids.items)) (p.ops ++ op ∷ []) ≡ map (opened_of p.calls (length p.ids.items)) p.ops ++ opened_by call.driver call.line call.task (take (length p.ids.items) waiting.0) token ∷ [] =
    rw (map-push (opened_of (set p.calls n call) (length p.ids.items)) p.ops op, opened-call p.calls (length p.ids.items) n call p.ops fresh, here) refl in
    rw (begun, ← is, opened) refl

-- a removal is acknowledged
all_not-set : (bs : List Bool) (i : ℕ) → list_all not bs ≡ true → list_all not (set bs i false) ≡ true
all_not-set [] i all = refl
all_not-set (b ∷ bs) zero all = go b all
  where
    go : (b : Bool) → (not b && list_all not bs) ≡ true → (not false && list_all not bs) ≡ true
    go true all = absurd (cc)
    go false all = all
all_not-set (b ∷ bs) (suc i) all = go b all (all_not-set bs i)
  where
    go : (b : Bool) → (not b && list_all not bs) ≡ true → (list_all not bs ≡ true → list_all not (set bs i false) ≡ true) → (not b && list_all not (set bs i false)) ≡ true
    go true all rest = absurd (cc)
    go false all rest = rest all

beyond-set : (n i : ℕ) (flags : List Bool) → list_all not (drop n flags) ≡ true → list_all not (drop n (set flags i false)) ≡ true
beyond-set zero i flags none = all_not-set flags i none
beyond-set (suc n) i [] none = refl
beyond-set (suc n) zero (flag ∷ flags) none = none
beyond-set (suc n) (suc i) (flag ∷ flags) none = beyond-set n i flags none

IsTied-acked : (ids : List ℕ) (calls : List Call) (place : ℕ) (op : Op) → IsTied ids calls op → IsTied ids calls (ops.acknowledged place op)
IsTied-acked ids calls place op tied = record {
  taking = tied.taking;
  takes = tied.takes;
  flags = length-set op.waiting.0 place false ∙ tied.flags;
  beyond = beyond-set (length ids) place op.waiting.0 tied.beyond;
}

AreTied-acked : (ids : List ℕ) (calls : List Call) (place : ℕ) (os : List Op) → AreTied ids calls os → AreTied ids calls (ops.acked place os)
AreTied-acked ids calls place [] tied = tt
AreTied-acked ids calls place (op ∷ os) tied = go (ops.waits_for place op) (IsTied-acked ids calls place op tied.0) (AreTied-acked ids calls place os tied.1)
  where
    go : (b : Bool) → IsTied ids calls (ops.acknowledged place op) → AreTied ids calls (ops.acked place os) → AreTied ids calls (cond b (ops.acknowledged place op ∷ os) (op ∷ ops.acked place os))
    go true here rest = (here, tied.1)
    go false here rest = (tied.0, rest)

pub IsWhole-acked : (p : Inside) (new : List Op) (place : ℕ) → IsWhole p → new ≡ ops.acked place p.ops → ops.AreOpen new → IsWhole (record p { ops = new })
IsWhole-acked p new place whole is are_open = record {
  few = whole.few;
  numbers = whole.numbers;
  open_ops = are_open;
  tied = rw is (AreTied-acked p.ids.items p.calls place p.ops whole.tied);
}

-- a removal leaves
AreTied-without : (ids : List ℕ) (calls : List Call) (n : ℕ) (os : List Op) → AreTied ids calls os → AreTied ids calls (ops.without_number n os)
AreTied-without ids calls n [] tied = tt
AreTied-without ids calls n (op ∷ os) tied = go (eqb op.number n) (AreTied-without ids calls n os tied.1)
  where
    go : (b : Bool) → AreTied ids calls (ops.without_number n os) → AreTied ids calls (cond (not b) (op ∷ ops.without_number n os) (ops.without_number n os))
    go true rest = rest
    go false rest = (tied.0, rest)

pub IsWhole-without : (p : Inside) (new : List Op) (n : ℕ) → IsWhole p → new ≡ ops.without_number n p.ops → ops.AreOpen new → IsWhole (record p { ops = new })
IsWhole-without p new n whole is are_open = record {
  few = whole.few;
  numbers = whole.numbers;
  open_ops = are_open;
  tied = rw is (AreTied-without p.ids.items p.calls n p.ops whole.tied);
}
