-- A miss is served with a grant.
use Rattle.std.proofs.Common.{◌&&◌, ◌≡◌, ℕ, Bool, true, false, cond, List, [], ◌∷◌, ◌++◌, Option, Some, refl, arith, ◌∙◌, ap, sym, subst, ◌⊎◌, inl, inr}
use Rattle.std.proofs.lemmas.Bool.Decides.{nat_tests}
use Rattle.std.proofs.lemmas.Bool.{or_parts}
use Rattle.vi_bytes.specs.Leases.{has_page}
use Rattle.vi_bytes.specs.declared.span.Span.{Span}
use Rattle.vi_bytes.specs.declared.lease.Lease.{Lease}
use Rattle.vi_history.specs.Device.{Dev}
use Rattle.vi_history.specs.Translation.{lease}
use Rattle.vi_model.specs.Tasks.{closes, reach_of, reaches}
use Rattle.vi_model.specs.Lanes.{Down, Update, Invalidate, sent_reaches, count_updates}
use Rattle.vi_model.specs.Grants.{piece, touches, lease_under, granted}
use Rattle.vi_grants.specs.declared.row.Grant.{Grant}
use Rattle.vi_model.specs.Removals.{Removal, waits_for, awaited_reaches, closes_page, closed}
use Rattle.vi_model.specs.Links.{IsGranted, UpdatesAreGranted, UpdatesAreClear, AreClearBehind, AreClearOf, IsLinked}
use Rattle.vi_sound.proofs.Moves.Acks.{AllWait}
use Rattle.vi_sound.proofs.Values.Leases.{none_page, lookup_granted, granted_self, granted_distinct, Without, among_granted}

-- no reach that the back end owes meets a page of the lease
abbrev pub Far : Lease → List (Option Span) → Type 0
Far l [] = Unit {0}
Far l (s ∷ ss) = (touches s l ≡ false) × Far l ss

not_closed_far : (dev : Dev) (e k : ℕ) (l : Lease) (ops : List Removal) → ((q : ℕ) → has_page l q ≡ true → closed dev e k q ops ≡ false) → Far l (awaited_reaches k ops)
not_closed_far dev e k l [] h = tt
not_closed_far dev e k l (r ∷ ops) h = go (waits_for k r) refl (not_closed_far dev e k l ops (λ q i. let c = h q i in grind (arith, nat_tests)))
  where
    go : (b : Bool) → waits_for k r ≡ b → Far l (awaited_reaches k ops) → Far l (cond b (reach_of r.task ∷ awaited_reaches k ops) (awaited_reaches k ops))
    go true e f = (none_page (reaches (reach_of r.task)) l (λ q i. let c = h q i in grind (arith, nat_tests)), f)
    go false e f = f

far_left : (l : Lease) (xs ys : List (Option Span)) → Far l (xs ++ ys) → Far l xs × Far l ys
far_left l [] ys f = (tt, f)
far_left l (x ∷ xs) ys f = let r = far_left l xs ys f.1 in ((f.0, r.0), r.1)

push_clear : (s : Option Span) (l : Lease) (fs : List Down) → UpdatesAreClear s fs → touches s l ≡ false → UpdatesAreClear s (fs ++ Update l ∷ [])
push_clear s l [] c f = (f, tt)
push_clear s l (Update m ∷ fs) c f = (c.0, push_clear s l fs c.1 f)
push_clear s l (Invalidate t ∷ fs) c f = push_clear s l fs c f

push_behind : (l : Lease) (fs : List Down) → Far l (sent_reaches fs) → AreClearBehind fs → AreClearBehind (fs ++ Update l ∷ [])
push_behind l [] f b = tt
push_behind l (Update m ∷ fs) f b = push_behind l fs f b
push_behind l (Invalidate s ∷ fs) f b = (push_clear s l fs b.0 f.0, push_behind l fs f.1 b.1)

push_acks : (l : Lease) (gone : List (Option Span)) (cache : List Lease) (fs : List Down) → Far l gone → AreClearOf gone cache fs → AreClearOf gone cache (fs ++ Update l ∷ [])
push_acks l [] cache fs f c = tt
push_acks l (s ∷ gone) cache fs f c = ((c.0.0, push_clear s l fs c.0.1 f.0), push_acks l gone cache fs f.1 c.1)

push_reaches : (l : Lease) (fs : List Down) → sent_reaches (fs ++ Update l ∷ []) ≡ sent_reaches fs
push_reaches l [] = refl
push_reaches l (Update m ∷ fs) = push_reaches l fs
push_reaches l (Invalidate s ∷ fs) = ap (λ r. s ∷ r) (push_reaches l fs)

-- with no other Update under way
push_updates : (g : List Grant) (l : Lease) (fs : List Down) → count_updates fs ≡ 0 → IsGranted g l → UpdatesAreGranted g (fs ++ Update l ∷ [])
push_updates g l [] n h = (h, tt)
push_updates g l (Update m ∷ fs) n h = absurd (omega (arith, n))
push_updates g l (Invalidate s ∷ fs) n h = push_updates g l fs n h

ops_granted : (dev : Dev) (e k p : ℕ) (l : Lease) (g : List Grant) (ops : List Removal) → ((q : ℕ) → has_page l q ≡ true → closed dev e k q ops ≡ false) → AllWait dev e k g ops → AllWait dev e k (granted p l g) ops
ops_granted dev e k p l g [] h w = tt
ops_granted dev e k p l g (r ∷ ops) h w = (first, ops_granted dev e k p l g ops (λ q i. let c = h q i in grind (arith, nat_tests)) w.1)
  where
    first : (n : ℕ) (m : Lease) → lease_under n (granted p l g) ≡ Some m → (q : ℕ) → has_page m q ≡ true → closes dev r.task e q ≡ true → waits_for k r ≡ true
    first n m f q i c = go (lookup_granted n p m l g f)
      where
        go : ((n ≡ p) × (m ≡ l)) ⊎ (lease_under n g ≡ Some m) → waits_for k r ≡ true
        go (inl same) =
            let i' : has_page l q ≡ true = ap (λ x. has_page x q) (sym same.1) ∙ i in
            let no' : closes dev r.task e q ≡ false = (or_parts (closes dev r.task e q) (waits_for k r && reaches (reach_of r.task) q) (or_parts (closes_page dev e k q r) (closed dev e k q ops) (h q i')).0).0 in absurd cc
        go (inr was) = w.0 n m was q i c

-- a lease whose pages are the device's, none of them closed, is granted under p and sent
pub serve_grant : (dev : Dev) (ops : List Removal) (e k p : ℕ) (l : Lease) (g : List Grant) (cache : List Lease) (down : List Down) (acks : ℕ)
    → has_page l p ≡ true → ((q : ℕ) → has_page l q ≡ true → lease dev e q ≡ Some (piece l q)) → ((q : ℕ) → has_page l q ≡ true → closed dev e k q ops ≡ false)
    → Without p cache → count_updates down ≡ 0
    → IsLinked dev ops e k g cache down acks → IsLinked dev ops e k (granted p l g) cache (down ++ Update l ∷ []) acks
serve_grant dev ops e k p l g cache down acks in' now shut fresh none ok =
    let far : Far l (ok.gone ++ sent_reaches down) = subst (Far l) ok.order (not_closed_far dev e k l ops shut) in
    let both : Far l ok.gone × Far l (sent_reaches down) = far_left l ok.gone (sent_reaches down) far in
    record {
      distinct = granted_distinct p l g ok.distinct;
      asked = λ n m f. kept n m (lookup_granted n p m l g f);
      cached = among_granted p l g cache ok.asked fresh ok.cached;
      updates = push_updates (granted p l g) l down none (p, granted_self p l g);
      current = λ n m f. current n m (lookup_granted n p m l g f);
      wait = ops_granted dev e k p l g ops shut ok.wait;
      gone = ok.gone;
      count = ok.count;
      order = ok.order ∙ ap (λ r. ok.gone ++ r) (sym (push_reaches l down));
      clear = push_acks l ok.gone cache down both.0 ok.clear;
      behind = push_behind l down both.1 ok.behind;
    }
  where
    kept : (n : ℕ) (m : Lease) → ((n ≡ p) × (m ≡ l)) ⊎ (lease_under n g ≡ Some m) → has_page m n ≡ true
    kept n m (inl same) = ap (λ x. has_page x n) same.1 ∙ (ap (has_page l) same.0 ∙ in')
    kept n m (inr was) = ok.asked n m was

    current : (n : ℕ) (m : Lease) → ((n ≡ p) × (m ≡ l)) ⊎ (lease_under n g ≡ Some m) → (q : ℕ) → has_page m q ≡ true → lease dev e q ≡ Some (piece m q)
    current n m (inl same) q i = now q (ap (λ x. has_page x q) (sym same.1) ∙ i) ∙ ap (λ x. Some (piece x q)) (sym same.1)
    current n m (inr was) q i = ok.current n m was q i
