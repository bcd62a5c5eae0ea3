-- An acknowledgement is served.
use Rattle.std.proofs.Common.{◌≡◌, ◌≢◌, ◌==◌, ◌-◌, ◌^◌, ◌&&◌, ℕ, zero, suc, Bool, true, false, cond, List, [], ◌∷◌, ◌++◌, set, get_or, length, Option, Some, None, refl, arith, ◌∙◌, ap, sym}
use Rattle.vi_bytes.specs.Leases.{has_page}
use Rattle.vi_bytes.specs.declared.span.Span.{Span}
use Rattle.vi_bytes.specs.declared.lease.Lease.{Lease}
use Rattle.vi_history.specs.Device.{Dev}
use Rattle.std.specs.List.{AllByRecursion}
use Rattle.std.proofs.lemmas.Bool.{and_parts}
use Rattle.vi_bytes.specs.Spans.{meets, page_span}
use Rattle.vi_history.specs.Device.{endpoint_of}
use Rattle.vi_history.specs.Effects.{endpoint_is_in}
use Rattle.vi_history.specs.declared.reading.Reading.TheVariants.{Silent, Malformed, Asks}
use Rattle.vi_history.specs.declared.request.Request.TheVariants.{Attach, Detach, Map, Unmap, Probe}
use Rattle.vi_model.specs.Tasks.{closes, reach_between, reach_of, reaches}
use Rattle.vi_model.specs.declared.task.Task.{Task}
use Rattle.vi_model.specs.declared.task.Task.TheVariants.{Reads, Sets}
use Rattle.vi_model.specs.Lanes.{Down, sent_reaches}
use Rattle.vi_model.specs.Grants.{lease_under, spared}
use Rattle.vi_grants.specs.declared.row.Grant.{Grant}
use Rattle.vi_model.specs.Removals.{Removal, waits_for, acknowledged, acked, acked_grants, awaited_reaches}
use Rattle.vi_model.specs.Links.{AreDistinct, AreClearOf, WaitsWhereClosing, IsLinked}
use Rattle.vi_sound.proofs.Values.Leases.{page_none, spared_lookup, spared_distinct, among_spared, updates_spared}

-- in each removal that closes a page of a grant it is waited for
abbrev pub AllWait : Dev → ℕ → ℕ → List Grant → List Removal → Type 0
AllWait dev e k g ops = AllByRecursion (WaitsWhereClosing dev e k g) ops

-- a page with an address of a range is within its reach
range_reaches : (first last p : ℕ) → meets (record { first = first; last = last }) (page_span p) ≡ true → reaches (reach_between first last) p ≡ true
range_reaches first last p h = go (first == 0) (last == 2 ^ 64 - 1)
  where
    go : (a b : Bool) → reaches (cond (a && b) None (Some (record { first = first; last = last }))) p ≡ true
    go true true = refl
    go true false = h
    go false b = h

-- what is closed is within the reach
pub closes_reaches : (dev : Dev) (q : Task) (e p : ℕ) → closes dev q e p ≡ true → reaches (reach_of q) p ≡ true
unfolding closes
closes_reaches dev (Reads Silent) e p h = absurd cc
closes_reaches dev (Reads (Malformed probe)) e p h = absurd cc
closes_reaches dev (Reads (Asks (Attach d x flags))) e p h = refl
closes_reaches dev (Reads (Asks (Detach d x))) e p h = refl
closes_reaches dev (Reads (Asks (Map d first last g flags))) e p h = refl
closes_reaches dev (Reads (Asks (Unmap d first last))) e p h = range_reaches first last p ((and_parts (endpoint_is_in d (endpoint_of dev e)) (meets (record { first = first; last = last }) (page_span p)) h).1)
closes_reaches dev (Reads (Asks (Probe x))) e p h = absurd cc
closes_reaches dev (Sets on) e p h = refl

get_set_same : (k : ℕ) (bs : List Bool) → get_or (set bs k false) k false ≡ false
get_set_same k [] = refl
get_set_same zero (b ∷ bs) = refl
get_set_same (suc k) (b ∷ bs) = get_set_same k bs

get_set_other : (j k : ℕ) (bs : List Bool) → j ≢ k → get_or (set bs k false) j false ≡ get_or bs j false
get_set_other j k [] ne = refl
get_set_other zero zero (b ∷ bs) ne = absurd (ne refl)
get_set_other (suc j) zero (b ∷ bs) ne = refl
get_set_other zero (suc k) (b ∷ bs) ne = refl
get_set_other (suc j) (suc k) (b ∷ bs) ne = get_set_other j k bs (λ e. ne (ap suc e))

pub acked_other : (j k : ℕ) (ops : List Removal) → j ≢ k → awaited_reaches j (acked k ops) ≡ awaited_reaches j ops
acked_other j k [] ne = refl
acked_other j k (r ∷ ops) ne = go (waits_for k r) (acked_other j k ops ne)
  where
    go : (b : Bool) → awaited_reaches j (acked k ops) ≡ awaited_reaches j ops
        → awaited_reaches j (cond b (acknowledged k r ∷ ops) (r ∷ acked k ops)) ≡ cond (waits_for j r) (reach_of r.task ∷ awaited_reaches j ops) (awaited_reaches j ops)
    go true h = rw (get_set_other j k r.waits ne) refl
    go false h = rw h refl

pub acked_same : (k : ℕ) (s : Option Span) (ss : List (Option Span)) (ops : List Removal) → awaited_reaches k ops ≡ s ∷ ss → awaited_reaches k (acked k ops) ≡ ss
acked_same k s ss [] h = absurd cc
acked_same k s ss (r ∷ ops) h = go (waits_for k r) refl (rest (waits_for k r) h) h (acked_same k s ss ops)
  where
    rest : (b : Bool) → cond b (reach_of r.task ∷ awaited_reaches k ops) (awaited_reaches k ops) ≡ s ∷ ss → Unit {0}
    rest b e = tt

    go : (b : Bool) → waits_for k r ≡ b → Unit {0} → cond b (reach_of r.task ∷ awaited_reaches k ops) (awaited_reaches k ops) ≡ s ∷ ss → (awaited_reaches k ops ≡ s ∷ ss → awaited_reaches k (acked k ops) ≡ ss)
        → awaited_reaches k (cond b (acknowledged k r ∷ ops) (r ∷ acked k ops)) ≡ ss
    go true e u h ih = rw (get_set_same k r.waits) (cc)
    go false e u h ih = rw e (ih h)

pub acked_spares : (k : ℕ) (s : Option Span) (ss : List (Option Span)) (ops : List Removal) (g : List Grant) → awaited_reaches k ops ≡ s ∷ ss → acked_grants k ops g ≡ spared s g
acked_spares k s ss [] g h = absurd cc
acked_spares k s ss (r ∷ ops) g h = go (waits_for k r) h (acked_spares k s ss ops g)
  where
    go : (b : Bool) → cond b (reach_of r.task ∷ awaited_reaches k ops) (awaited_reaches k ops) ≡ s ∷ ss → (awaited_reaches k ops ≡ s ∷ ss → acked_grants k ops g ≡ spared s g)
        → cond b (spared (reach_of r.task) g) (acked_grants k ops g) ≡ spared s g
    go true h ih = let e : reach_of r.task ≡ s = cc in ap (λ t. spared t g) e
    go false h ih = ih h

-- another back end's removals wait on
pub ops_acked_other : (dev : Dev) (e j k : ℕ) (g : List Grant) (ops : List Removal) → j ≢ k → AllWait dev e j g ops → AllWait dev e j g (acked k ops)
ops_acked_other dev e j k g [] ne w = tt
ops_acked_other dev e j k g (r ∷ ops) ne w = go (waits_for k r) (ops_acked_other dev e j k g ops ne w.1)
  where
    go : (b : Bool) → AllWait dev e j g (acked k ops) → AllWait dev e j g (cond b (acknowledged k r ∷ ops) (r ∷ acked k ops))
    go true h = (λ p l f q i c. get_set_other j k r.waits ne ∙ w.0 p l f q i c, w.1)
    go false h = (w.0, h)

pub ops_fewer : (dev : Dev) (e k : ℕ) (g f : List Grant) (ops : List Removal) → ((p : ℕ) (l : Lease) → lease_under p f ≡ Some l → lease_under p g ≡ Some l) → AllWait dev e k g ops → AllWait dev e k f ops
ops_fewer dev e k g f [] less w = tt
ops_fewer dev e k g f (r ∷ ops) less w = (λ p l h q i c. w.0 p l (less p l h) q i c, ops_fewer dev e k g f ops less w.1)

ops_acked : (dev : Dev) (e k : ℕ) (g : List Grant) (s : Option Span) (ss : List (Option Span)) (ops : List Removal) → AreDistinct g → awaited_reaches k ops ≡ s ∷ ss
    → AllWait dev e k g ops → AllWait dev e k (spared s g) (acked k ops)
ops_acked dev e k g s ss [] d h w = tt
ops_acked dev e k g s ss (r ∷ ops) d h w = go (waits_for k r) refl h (ops_acked dev e k g s ss ops d)
  where
    less : (p : ℕ) (l : Lease) → lease_under p (spared s g) ≡ Some l → lease_under p g ≡ Some l
    less p l f = (spared_lookup s p l g d f).0

    go : (b : Bool) → waits_for k r ≡ b → cond b (reach_of r.task ∷ awaited_reaches k ops) (awaited_reaches k ops) ≡ s ∷ ss
        → (awaited_reaches k ops ≡ s ∷ ss → AllWait dev e k g ops → AllWait dev e k (spared s g) (acked k ops))
        → AllWait dev e k (spared s g) (cond b (acknowledged k r ∷ ops) (r ∷ acked k ops))
    go true b h ih = (first, ops_fewer dev e k g (spared s g) ops less w.1)
      where
        first : (p : ℕ) (l : Lease) → lease_under p (spared s g) ≡ Some l → (q : ℕ) → has_page l q ≡ true → closes dev r.task e q ≡ true → get_or (set r.waits k false) k false ≡ true
        first p l f q i c =
            let same : reach_of r.task ≡ s = cc in
            let near : reaches s q ≡ true = ap (λ t. reaches t q) (sym same) ∙ closes_reaches dev r.task e q c in
            let far : reaches s q ≡ false = page_none (reaches s) l q (spared_lookup s p l g d f).1 i in
            absurd cc
    go false b h ih = (λ p l f q i c. w.0 p l (less p l f) q i c, ih h w.1)

-- the back end whose Ack is served
pub serve_ack : (dev : Dev) (ops : List Removal) (e k : ℕ) (g : List Grant) (cache : List Lease) (down : List Down) (acks : ℕ)
    → IsLinked dev ops e k g cache down (suc acks) → IsLinked dev (acked k ops) e k (acked_grants k ops g) cache down acks
serve_ack dev ops e k g cache down acks ok = go ok.gone ok.count ok.order ok.clear
  where
    go : (gone : List (Option Span)) → length gone ≡ suc acks → awaited_reaches k ops ≡ gone ++ sent_reaches down → AreClearOf gone cache down → IsLinked dev (acked k ops) e k (acked_grants k ops g) cache down acks
    go [] n o c = absurd (omega arith)
    go (s ∷ gone) n o c =
        rw (acked_spares k s (gone ++ sent_reaches down) ops g o) (record {
          distinct = spared_distinct s g ok.distinct;
          asked = λ p l f. ok.asked p l (spared_lookup s p l g ok.distinct f).0;
          cached = among_spared s g cache c.0.0 ok.cached;
          updates = updates_spared s g down c.0.1 ok.updates;
          current = λ p l f. ok.current p l (spared_lookup s p l g ok.distinct f).0;
          wait = ops_acked dev e k g s (gone ++ sent_reaches down) ops ok.distinct o ok.wait;
          gone = gone;
          count = omega arith;
          order = acked_same k s (gone ++ sent_reaches down) ops o;
          clear = c.1;
          behind = ok.behind;
        })

-- every other back end
pub serve_ack_other : (dev : Dev) (ops : List Removal) (e j k : ℕ) (g : List Grant) (cache : List Lease) (down : List Down) (acks : ℕ) → j ≢ k
    → IsLinked dev ops e j g cache down acks → IsLinked dev (acked k ops) e j g cache down acks
serve_ack_other dev ops e j k g cache down acks ne ok = record {
  distinct = ok.distinct;
  asked = ok.asked;
  cached = ok.cached;
  updates = ok.updates;
  current = ok.current;
  wait = ops_acked_other dev e j k g ops ne ok.wait;
  gone = ok.gone;
  count = ok.count;
  order = acked_other j k ops ne ∙ ok.order;
  clear = ok.clear;
  behind = ok.behind;
}
