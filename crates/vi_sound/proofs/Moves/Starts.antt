-- A removal is begun, a call takes effect, an open removal is without_first.
use Rattle.std.proofs.Common.{not, ◌==◌, ◌≡◌, ℕ, zero, suc, Bool, true, false, cond, ◌||◌, List, [], ◌∷◌, ◌++◌, get_or, Option, Some, refl, ◌∙◌, ap, sym, append_assoc, append-nil}
use Rattle.std.specs.List.{list_all}
use Rattle.std.proofs.lemmas.Bool.{false_from_ne_true}
use Rattle.vi_bytes.specs.Leases.{has_page}
use Rattle.vi_bytes.specs.declared.span.Span.{Span}
use Rattle.vi_bytes.specs.declared.lease.Lease.{Lease}
use Rattle.vi_history.specs.Device.{Dev}
use Rattle.vi_model.specs.Tasks.{task_commit, removes, closes, reach_of}
use Rattle.vi_model.specs.declared.task.Task.{Task}
use Rattle.vi_model.specs.Lanes.{Down, Update, Invalidate, sent_reaches}
use Rattle.vi_model.specs.Grants.{piece, some_page, lease_under}
use Rattle.vi_grants.specs.declared.row.Grant.{Grant}
use Rattle.vi_model.specs.Removals.{Removal, waits_for, is_ready, awaited_reaches, must_wait, first_ready, without_first}
use Rattle.vi_model.specs.Links.{UpdatesAreGranted, UpdatesAreClear, AreClearBehind, AreClearOf, IsLinked}
use Rattle.vi_sound.proofs.Values.Commits.{keep_lease, closes_same}
use Rattle.vi_model.specs.Starts.{told}
use Rattle.vi_sound.proofs.Moves.Acks.{AllWait}
use Rattle.vi_sound.proofs.Values.Leases.{page_some}

-- a granted page that the table closes makes the back end one that must wait
pub must_wait_for : (dev : Dev) (q : Task) (e p n : ℕ) (l : Lease) (g : List Grant) → lease_under p g ≡ Some l → has_page l n ≡ true → closes dev q e n ≡ true → must_wait dev q e g ≡ true
must_wait_for dev q e p n l [] h i c = absurd cc
must_wait_for dev q e p n l (x ∷ g) h i c = go (x.asked == p) h (must_wait_for dev q e p n l g)
  where
    or_right_true : (a : Bool) → must_wait dev q e g ≡ true → (a || must_wait dev q e g) ≡ true
    or_right_true true m = refl
    or_right_true false m = m

    go : (b : Bool) → cond b (Some x.lease) (lease_under p g) ≡ Some l → (lease_under p g ≡ Some l → has_page l n ≡ true → closes dev q e n ≡ true → must_wait dev q e g ≡ true)
        → (some_page (closes dev q e) x.lease || must_wait dev q e g) ≡ true
    go true h ih =
        let same : x.lease ≡ l = cc in
        let here : some_page (closes dev q e) x.lease ≡ true = ap (some_page (closes dev q e)) same ∙ page_some (closes dev q e) l n i c in
        rw here refl
    go false h ih = or_right_true (some_page (closes dev q e) x.lease) (ih h i c)

ops_more : (dev : Dev) (e k : ℕ) (g : List Grant) (r : Removal) (ops : List Removal)
    → ((p : ℕ) (l : Lease) → lease_under p g ≡ Some l → (n : ℕ) → has_page l n ≡ true → closes dev r.task e n ≡ true → waits_for k r ≡ true)
    → AllWait dev e k g ops → AllWait dev e k g (ops ++ r ∷ [])
ops_more dev e k g r [] new w = (new, tt)
ops_more dev e k g r (x ∷ ops) new w = (w.0, ops_more dev e k g r ops new w.1)

waits_more : (k : ℕ) (r : Removal) (ops : List Removal) → awaited_reaches k (ops ++ r ∷ []) ≡ awaited_reaches k ops ++ cond (waits_for k r) (reach_of r.task ∷ []) []
waits_more k r [] = refl
waits_more k r (x ∷ ops) = go (waits_for k x) (waits_more k r ops)
  where
    go : (b : Bool) → awaited_reaches k (ops ++ r ∷ []) ≡ awaited_reaches k ops ++ cond (waits_for k r) (reach_of r.task ∷ []) []
        → cond b (reach_of x.task ∷ awaited_reaches k (ops ++ r ∷ [])) (awaited_reaches k (ops ++ r ∷ [])) ≡ cond b (reach_of x.task ∷ awaited_reaches k ops) (awaited_reaches k ops) ++ cond (waits_for k r) (reach_of r.task ∷ []) []
    go true h = ap (λ t. reach_of x.task ∷ t) h
    go false h = h

told_reaches : (s : Option Span) (fs : List Down) → sent_reaches (fs ++ Invalidate s ∷ []) ≡ sent_reaches fs ++ s ∷ []
told_reaches s [] = refl
told_reaches s (Update l ∷ fs) = told_reaches s fs
told_reaches s (Invalidate t ∷ fs) = ap (λ r. t ∷ r) (told_reaches s fs)

told_updates : (g : List Grant) (s : Option Span) (fs : List Down) → UpdatesAreGranted g fs → UpdatesAreGranted g (fs ++ Invalidate s ∷ [])
told_updates g s [] u = tt
told_updates g s (Update l ∷ fs) u = (u.0, told_updates g s fs u.1)
told_updates g s (Invalidate t ∷ fs) u = told_updates g s fs u

told_clear : (t s : Option Span) (fs : List Down) → UpdatesAreClear t fs → UpdatesAreClear t (fs ++ Invalidate s ∷ [])
told_clear t s [] c = tt
told_clear t s (Update l ∷ fs) c = (c.0, told_clear t s fs c.1)
told_clear t s (Invalidate u ∷ fs) c = told_clear t s fs c

told_behind : (s : Option Span) (fs : List Down) → AreClearBehind fs → AreClearBehind (fs ++ Invalidate s ∷ [])
told_behind s [] b = (tt, tt)
told_behind s (Update l ∷ fs) b = told_behind s fs b
told_behind s (Invalidate t ∷ fs) b = (told_clear t s fs b.0, told_behind s fs b.1)

told_acks : (s : Option Span) (gone : List (Option Span)) (cache : List Lease) (fs : List Down) → AreClearOf gone cache fs → AreClearOf gone cache (fs ++ Invalidate s ∷ [])
told_acks s [] cache fs c = tt
told_acks s (t ∷ gone) cache fs c = ((c.0.0, told_clear t s fs c.0.1), told_acks s gone cache fs c.1)

-- a removal is begun: k waits exactly where it has_page a grant that the table closes
pub begin_removal : (dev : Dev) (ops : List Removal) (r : Removal) (e k : ℕ) (g : List Grant) (cache : List Lease) (down : List Down) (acks : ℕ)
    → waits_for k r ≡ must_wait dev r.task e g
    → IsLinked dev ops e k g cache down acks → IsLinked dev (ops ++ r ∷ []) e k g cache (told (waits_for k r) (reach_of r.task) down) acks
begin_removal dev ops r e k g cache down acks who ok = go (waits_for k r) refl
  where
    new : (p : ℕ) (l : Lease) → lease_under p g ≡ Some l → (n : ℕ) → has_page l n ≡ true → closes dev r.task e n ≡ true → waits_for k r ≡ true
    new p l f n i c = who ∙ must_wait_for dev r.task e p n l g f i c

    go : (b : Bool) → waits_for k r ≡ b → IsLinked dev (ops ++ r ∷ []) e k g cache (told b (reach_of r.task) down) acks
    go true b = record {
      distinct = ok.distinct;
      asked = ok.asked;
      cached = ok.cached;
      updates = told_updates g (reach_of r.task) down ok.updates;
      current = ok.current;
      wait = ops_more dev e k g r ops new ok.wait;
      gone = ok.gone;
      count = ok.count;
      order =
          waits_more k r ops ∙ (rw b (ap (λ w. w ++ reach_of r.task ∷ []) ok.order
          ∙ (append_assoc ok.gone (sent_reaches down) (reach_of r.task ∷ []) ∙ ap (λ w. ok.gone ++ w) (sym (told_reaches (reach_of r.task) down)))));
      clear = told_acks (reach_of r.task) ok.gone cache down ok.clear;
      behind = told_behind (reach_of r.task) down ok.behind;
    }
    go false b = record {
      distinct = ok.distinct;
      asked = ok.asked;
      cached = ok.cached;
      updates = ok.updates;
      current = ok.current;
      wait = ops_more dev e k g r ops new ok.wait;
      gone = ok.gone;
      count = ok.count;
      order = waits_more k r ops ∙ (rw b (append-nil (awaited_reaches k ops) ∙ ok.order));
      clear = ok.clear;
      behind = ok.behind;
    }

ops_commit : (dev : Dev) (q : Task) (e k : ℕ) (g : List Grant) (ops : List Removal)
    → ((p : ℕ) (l : Lease) → lease_under p g ≡ Some l → (n : ℕ) → has_page l n ≡ true → removes dev q ≡ true → closes dev q e n ≡ false)
    → AllWait dev e k g ops → AllWait (task_commit dev q) e k g ops
ops_commit dev q e k g [] far w = tt
ops_commit dev q e k g (r ∷ ops) far w = (λ p l f n i c. w.0 p l f n i (sym (closes_same dev q r.task e n (far p l f n i)) ∙ c), ops_commit dev q e k g ops far w.1)

-- a call takes effect that closes no granted page
pub commit_call : (dev : Dev) (ops : List Removal) (q : Task) (e k : ℕ) (g : List Grant) (cache : List Lease) (down : List Down) (acks : ℕ)
    → ((p : ℕ) (l : Lease) → lease_under p g ≡ Some l → (n : ℕ) → has_page l n ≡ true → removes dev q ≡ true → closes dev q e n ≡ false)
    → IsLinked dev ops e k g cache down acks → IsLinked (task_commit dev q) ops e k g cache down acks
commit_call dev ops q e k g cache down acks far ok = record {
  distinct = ok.distinct;
  asked = ok.asked;
  cached = ok.cached;
  updates = ok.updates;
  current = λ p l f n i. keep_lease dev q e n (piece l n) (far p l f n i) (ok.current p l f n i);
  wait = ops_commit dev q e k g ops far ok.wait;
  gone = ok.gone;
  count = ok.count;
  order = ok.order;
  clear = ok.clear;
  behind = ok.behind;
}

ready_waits : (k : ℕ) (bs : List Bool) → list_all not bs ≡ true → get_or bs k false ≡ false
ready_waits k [] h = refl
ready_waits zero (true ∷ bs) h = absurd cc
ready_waits zero (false ∷ bs) h = refl
ready_waits (suc k) (true ∷ bs) h = absurd cc
ready_waits (suc k) (false ∷ bs) h = ready_waits k bs h

pub ready_far : (dev : Dev) (e k : ℕ) (g : List Grant) (r : Removal) (ops : List Removal) → first_ready ops ≡ Some r → AllWait dev e k g ops
    → (p : ℕ) (l : Lease) → lease_under p g ≡ Some l → (n : ℕ) → has_page l n ≡ true → closes dev r.task e n ≡ false
ready_far dev e k g r [] h w p l f n i = absurd cc
ready_far dev e k g r (x ∷ ops) h w p l f n i = go (is_ready x) refl h (λ j. ready_far dev e k g r ops j w.1 p l f n i)
  where
    go : (b : Bool) → is_ready x ≡ b → cond b (Some x) (first_ready ops) ≡ Some r → (first_ready ops ≡ Some r → closes dev r.task e n ≡ false) → closes dev r.task e n ≡ false
    go true b h ih =
        let same : x ≡ r = cc in
        let idle : waits_for k x ≡ false = ready_waits k x.waits b in
        ap (λ y. closes dev y.task e n) (sym same) ∙ false_from_ne_true (closes dev x.task e n) (λ c. let m = w.0 p l f n i c in absurd cc)
    go false b h ih = ih h

ops_finished : (dev : Dev) (e k : ℕ) (g : List Grant) (ops : List Removal) → AllWait dev e k g ops → AllWait dev e k g (without_first ops)
ops_finished dev e k g [] w = tt
ops_finished dev e k g (r ∷ ops) w = go (is_ready r) (ops_finished dev e k g ops w.1)
  where
    go : (b : Bool) → AllWait dev e k g (without_first ops) → AllWait dev e k g (cond b ops (r ∷ without_first ops))
    go true h = w.1
    go false h = (w.0, h)

waits_finished : (k : ℕ) (ops : List Removal) → awaited_reaches k (without_first ops) ≡ awaited_reaches k ops
waits_finished k [] = refl
waits_finished k (r ∷ ops) = go (is_ready r) refl (waits_finished k ops)
  where
    go : (b : Bool) → is_ready r ≡ b → awaited_reaches k (without_first ops) ≡ awaited_reaches k ops
        → awaited_reaches k (cond b ops (r ∷ without_first ops)) ≡ cond (waits_for k r) (reach_of r.task ∷ awaited_reaches k ops) (awaited_reaches k ops)
    go true b h = let idle : waits_for k r ≡ false = ready_waits k r.waits b in rw idle refl
    go false b h = rw h refl

-- the first removal that waits for nobody is taken out
pub finish_ops : (dev : Dev) (ops : List Removal) (e k : ℕ) (g : List Grant) (cache : List Lease) (down : List Down) (acks : ℕ)
    → IsLinked dev ops e k g cache down acks → IsLinked dev (without_first ops) e k g cache down acks
finish_ops dev ops e k g cache down acks ok = record {
  distinct = ok.distinct;
  asked = ok.asked;
  cached = ok.cached;
  updates = ok.updates;
  current = ok.current;
  wait = ops_finished dev e k g ops ok.wait;
  gone = ok.gone;
  count = ok.count;
  order = waits_finished k ops ∙ ok.order;
  clear = ok.clear;
  behind = ok.behind;
}
