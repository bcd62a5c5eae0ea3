-- An access by a cached lease is what the one-thread device replies.
use Rattle.std.proofs.Common.{◌≡◌, ℕ, ◌+◌, ◌*◌, ◌/◌, ◌%◌, ◌≤◌, Bool, true, false, cond, ◌&&◌, ◌||◌, not, List, [], ◌∷◌, set, length, Option, Some, None, refl, arith, ◌∙◌, ap, sym, subst, ◌⊎◌, inl, inr}
use Rattle.std.specs.Prelude.{nat_le}
use Rattle.std.proofs.lemmas.List.{set-get_or}
use Rattle.vi_bytes.specs.Leases.{has_page}
use Rattle.vi_bytes.specs.declared.span.Span.{Span}
use Rattle.vi_bytes.specs.declared.span.TheConstants.{PAGE}
use Rattle.vi_bytes.specs.declared.lease.Lease.{Lease}
use Rattle.vi_bytes.specs.declared.part.Part.{Part}
use Rattle.vi_history.specs.Device.{Dev, One}
use Rattle.vi_history.specs.Kinds.{is_fault}
use Rattle.vi_history.specs.Replies.{fault_answer, page_at, read_at, write_at, memory_after_write, reply, next}
use Rattle.vi_history.specs.Records.{record_of}
use Rattle.vi_bytes.specs.FaultRecords.{fault_record}
use Rattle.vi_history.specs.Translation.{permits, translate}
use Rattle.vi_history.specs.declared.found.Found.TheVariants.{At, Fault}
use Rattle.vi_history.specs.declared.call.Call.{Call}
use Rattle.vi_history.specs.declared.call.Call.TheVariants as call
use Rattle.vi_history.specs.declared.entry.Entry.{Entry}
use Rattle.vi_lines.specs.declared.job.Job.{Job}
use Rattle.vi_lines.specs.declared.job.Job.TheVariants as job
use Rattle.vi_lines.specs.declared.line.Line.{Line}
use Rattle.vi_lines.specs.declared.line.Await.{Await}
use Rattle.vi_lines.specs.Value.{ScriptValue}
use Rattle.vi_lines.specs.Calls.{lines_of, line_of, back_call, call_in, call_of, parts_of}
use Rattle.vi_model.specs.Lanes.{Down, Miss}
use Rattle.vi_model.specs.Grants.{touches}
use Rattle.vi_grants.specs.declared.row.Grant.{Grant}
use Rattle.vi_model.specs.Caches.{cached_at, fronted}
use Rattle.vi_model.specs.Removals.{Removal}
use Rattle.vi_model.specs.Control.{Link}
use Rattle.vi_model.specs.Places.{id_at, back_at}
use Rattle.vi_model.specs.Starts.{any}
use Rattle.vi_model.specs.Serves.{page_of}
use Rattle.vi_model.specs.Backs.{Seat, Work, Reading, Writing, Access, need_of, access_in, access_at, work_answer, work_page, Accesses, Asks, Receives, Rests, miss_of, part_wish, current_wish, is_empty, current_awaits, owes_posting, wish}
use Rattle.vi_model.specs.Links.{IsGranted, AreGranted, AreClear, AreClearOf, IsLinked}
use Rattle.vi_model.specs.Asking.{one_if, count_option, AreCurrent, ParkedIsCurrent, AsksOnce}
use Rattle.vi_model.specs.Tracks.{AreWhole}
use Rattle.vi_model.specs.Laws.{access_call}
use Rattle.vi_sound.proofs.Values.Leases.{without_among, clear_without}

-- when a back end wishes an access
pub record WishesAccess (s : ScriptValue) (k : ℕ) (z : Seat) (l : Lease) (a : Access) : Type 0 where
  pub part : access_at s k (z.finished + 1) (z.done + 1) ≡ Some a
  pub cached : cached_at (page_of a.part.iova) z.cache ≡ Some l
  pub may : permits (need_of a.work) l.perm ≡ true
  pub idle : z.asking ≡ false
  pub free : (is_empty (current_awaits s k z) ≡ true) ⊎ (z.ready ≡ true)

wishes_cached : (z : Seat) (p a : Access) (o : Option Lease) (l : Lease) → part_wish z p o ≡ Accesses l a → (p ≡ a) × (o ≡ Some l) × (permits (need_of a.work) l.perm ≡ true)
wishes_cached z p a None l h = absurd cc
wishes_cached z p a (Some m) l h = go (permits (need_of p.work) m.perm) refl h
  where
    go : (b : Bool) → permits (need_of p.work) m.perm ≡ b → cond b (Accesses m p) (Asks (miss_of z p true)) ≡ Accesses l a → (p ≡ a) × (Some m ≡ Some l) × (permits (need_of a.work) l.perm ≡ true)
    go true e h = let same : m ≡ l = cc in let part : p ≡ a = cc in (part, ap Some same, subst (λ (q : Access). permits (need_of q.work) l.perm ≡ true) part (subst (λ (n : Lease). permits (need_of p.work) n.perm ≡ true) same e))
    go false e h = absurd cc

pub wishes_access : (s : ScriptValue) (k : ℕ) (z : Seat) (l : Lease) (a : Access) → wish s k z ≡ Accesses l a → WishesAccess s k z l a
unfolding wish
wishes_access s k z l a h = go z.asking refl (nat_le 16 z.since || owes_posting s k z) (nat_le (length (lines_of s (back_at s k))) z.finished) (is_empty (current_awaits s k z)) refl z.ready refl h
  where
    part : (o : Option Access) → access_at s k (z.finished + 1) (z.done + 1) ≡ o → z.asking ≡ false → (is_empty (current_awaits s k z) ≡ true) ⊎ (z.ready ≡ true) → current_wish z o ≡ Accesses l a → WishesAccess s k z l a
    part None e i f h = absurd cc
    part (Some p) e i f h =
        let c = wishes_cached z p a (cached_at (page_of p.part.iova) z.cache) l h in
        record { part = e ∙ ap Some c.0; cached = ap (λ (q : Access). cached_at (page_of q.part.iova) z.cache) (sym c.0) ∙ c.1; may = c.2; idle = i; free = f }

    go : (o : Bool) → z.asking ≡ o → (r : Bool) → (f : Bool) → (n : Bool) → is_empty (current_awaits s k z) ≡ n → (y : Bool) → z.ready ≡ y
        → cond (o || r) (Receives false) (cond f Rests (cond (not n && not y) (Receives true) (current_wish z (access_at s k (z.finished + 1) (z.done + 1))))) ≡ Accesses l a
        → WishesAccess s k z l a
    go true i r f n en y ey h = absurd cc
    go false i true f n en y ey h = absurd cc
    go false i false true n en y ey h = absurd cc
    go false i false false true en y ey h = part (access_at s k (z.finished + 1) (z.done + 1)) refl i (inl en) h
    go false i false false false en true ey h = part (access_at s k (z.finished + 1) (z.done + 1)) refl i (inr ey) h
    go false i false false false en false ey h = absurd cc

pub cached_granted : (q : ℕ) (l : Lease) (g : List Grant) (ls : List Lease) → AreGranted g ls → cached_at q ls ≡ Some l → IsGranted g l
cached_granted q l g [] a h = absurd cc
cached_granted q l g (x ∷ ls) a h = go (has_page x q) h (cached_granted q l g ls a.1)
  where
    go : (b : Bool) → cond b (Some x) (cached_at q ls) ≡ Some l → (cached_at q ls ≡ Some l → IsGranted g l) → IsGranted g l
    go true h r = let same : x ≡ l = cc in subst (λ (m : Lease). IsGranted g m) same a.0
    go false h r = r h

pub cached_has : (q : ℕ) (l : Lease) (ls : List Lease) → cached_at q ls ≡ Some l → has_page l q ≡ true
cached_has q l [] h = absurd cc
cached_has q l (x ∷ ls) h = go (has_page x q) refl h (cached_has q l ls)
  where
    go : (b : Bool) → has_page x q ≡ b → cond b (Some x) (cached_at q ls) ≡ Some l → (cached_at q ls ≡ Some l → has_page l q ≡ true) → has_page l q ≡ true
    go true e h r = let same : x ≡ l = cc in ap (λ (m : Lease). has_page m q) (sym same) ∙ e
    go false e h r = r h

clear_cached : (q : ℕ) (l : Lease) (s : Option Span) (ls : List Lease) → AreClear s ls → cached_at q ls ≡ Some l → touches s l ≡ false
clear_cached q l s [] a h = absurd cc
clear_cached q l s (x ∷ ls) a h = go (has_page x q) h (clear_cached q l s ls a.1)
  where
    go : (b : Bool) → cond b (Some x) (cached_at q ls) ≡ Some l → (cached_at q ls ≡ Some l → touches s l ≡ false) → touches s l ≡ false
    go true h r = let same : x ≡ l = cc in subst (λ (m : Lease). touches s m ≡ false) same a.0
    go false h r = r h

front_clear : (q : ℕ) (l : Lease) (gone : List (Option Span)) (ls : List Lease) (fs : List Down) → cached_at q ls ≡ Some l → AreClearOf gone ls fs → AreClearOf gone (fronted l q ls) fs
front_clear q l [] ls fs h c = tt
front_clear q l (s ∷ gone) ls fs h c = (((clear_cached q l s ls c.0.0 h, clear_without s q ls c.0.0), c.0.1), front_clear q l gone ls fs h c.1)

-- the lease that was looked up comes to the front
pub link_front : (dev : Dev) (ops : List Removal) (e k q : ℕ) (l : Lease) (g : List Grant) (cache : List Lease) (fs : List Down) (acks : ℕ) → cached_at q cache ≡ Some l
    → IsLinked dev ops e k g cache fs acks → IsLinked dev ops e k g (fronted l q cache) fs acks
link_front dev ops e k q l g cache fs acks h ok = record {
  distinct = ok.distinct;
  asked = ok.asked;
  cached = (cached_granted q l g cache ok.cached h, without_among q g cache ok.cached);
  updates = ok.updates;
  current = ok.current;
  wait = ok.wait;
  gone = ok.gone;
  count = ok.count;
  order = ok.order;
  clear = front_clear q l ok.gone cache fs h ok.clear;
  behind = ok.behind;
}

-- a back end without an open miss has none anywhere
pub idle_miss : (s : ScriptValue) (k : ℕ) (x : Link) (y z : Seat) → AsksOnce s k x y → y.asking ≡ false → z.asking ≡ false → z.told ≡ y.told → z.told ≤ z.finished → AsksOnce s k x z
idle_miss s k x y z ok i j same low = go x.up x.parked refl refl
  where
    none : length x.up + (count_option x.parked + length x.replies) ≡ 0
    none = ok.one ∙ ap one_if i

    go : (u : List Miss) (p : Option Miss) → x.up ≡ u → x.parked ≡ p → AsksOnce s k x z
    go (m ∷ u) p eu ep = absurd (omega (arith, none, ap (λ (v : List Miss). length v) eu))
    go [] (Some m) eu ep = absurd (omega (arith, none, ap (λ (v : Option Miss). count_option v) ep))
    go [] None eu ep = record {
      one = none ∙ ap one_if (sym j);
      up = subst (AreCurrent s k z) (sym eu) tt;
      parked = subst (ParkedIsCurrent s k z) (sym ep) tt;
      updates = ok.updates;
      posted = λ o. absurd cc;
      told = ok.told ∙ sym same;
      low = low;
    }

pub whole_free : (s : ScriptValue) (hs : List Entry) (awaits : List Await) → is_empty awaits ≡ true → AreWhole s hs awaits
whole_free s hs [] h = λ k d within. absurd (omega (arith, within))
whole_free s hs (n ∷ ns) h = absurd cc

pub no_reply : (bs : List Bool) → length bs ≡ 0 → any bs ≡ false
no_reply [] h = refl
no_reply (b ∷ bs) h = absurd (omega (arith, h))

-- ---- the call of an access

some_same : {A : Type 0} (x y : A) → Some x ≡ Some y → x ≡ y
some_same x y h = cc

job_access : (id part : ℕ) (j : Job) (a : Access) → access_in (back_call id j part) ≡ Some a → back_call id j part ≡ Some (access_call id a.part a.work)
job_access id part (job.Ask request) a h = absurd cc
job_access id part (job.Raw read write) a h = absurd cc
job_access id part (job.Bypass on) a h = absurd cc
job_access id part (job.Read iova len) a h = let same = some_same _ a h in ap (λ (b : Access). Some (access_call id b.part b.work)) same
job_access id part (job.Write iova bytes) a h = let same = some_same _ a h in ap (λ (b : Access). Some (access_call id b.part b.work)) same

pub access_is : (s : ScriptValue) (k line part : ℕ) (a : Access) → access_at s k line part ≡ Some a → call_of s (back_at s k) line part ≡ Some (access_call (id_at s k) a.part a.work)
unfolding call_of
access_is s k line part a h = go (line_of s (back_at s k) line) h
  where
    go : (o : Option Line) → access_in (call_in (back_at s k) part o) ≡ Some a → call_in (back_at s k) part o ≡ Some (access_call (id_at s k) a.part a.work)
    go None h = absurd cc
    go (Some l) h = by (nat_le 1 part && nat_le part (parts_of l.job)) h
      where
        by : (b : Bool) → access_in (cond b (back_call (id_at s k) l.job part) None) ≡ Some a → cond b (back_call (id_at s k) l.job part) None ≡ Some (access_call (id_at s k) a.part a.work)
        by true h = job_access (id_at s k) part l.job a h
        by false h = absurd cc

pub not_fault : (page : List ℕ) (part : Part) (w : Work) → is_fault (work_answer page part w).kind ≡ false
not_fault page part Reading = refl
not_fault page part (Writing bytes) = refl

-- the reply, where the lease is the device's
pub access_reply : (one : One) (id target : ℕ) (p : Part) (w : Work) → translate one.dev id p.iova (need_of w) ≡ At (PAGE * target + p.iova % PAGE)
    → (reply one (access_call id p w) ≡ work_answer (page_at one.memory target) p w)
    × (next one (access_call id p w) ≡ record one { memory = set one.memory target (work_page (page_at one.memory target) p w) })
unfolding reply next
access_reply one id target p Reading h =
    let at : (PAGE * target + p.iova % PAGE) / PAGE ≡ target = omega arith in
    let off : (PAGE * target + p.iova % PAGE) % PAGE ≡ p.iova % PAGE = omega arith in (
      ap (read_at one.memory p.len) h ∙ rw (at, off) refl,
      ap (λ ms. let o : One = record one { memory = ms } in o) (sym (set-get_or one.memory target [])),
    )
access_reply one id target p (Writing bytes) h =
    let at : (PAGE * target + p.iova % PAGE) / PAGE ≡ target = omega arith in
    let off : (PAGE * target + p.iova % PAGE) % PAGE ≡ p.iova % PAGE = omega arith in (
      ap write_at h,
      ap (λ f. let o : One = record one { memory = memory_after_write one.memory bytes f } in o) h ∙ rw (at, off) refl,
    )

-- the reply, where the translation faults
pub fault_reply : (one : One) (id reason : ℕ) (p : Part) (w : Work) → translate one.dev id p.iova (need_of w) ≡ Fault reason
    → (reply one (access_call id p w) ≡ fault_answer reason) × (next one (access_call id p w) ≡ one)
unfolding reply next
fault_reply one id reason p Reading h = (ap (read_at one.memory p.len) h, refl)
fault_reply one id reason p (Writing bytes) h = (ap write_at h, ap (λ f. let o : One = record one { memory = memory_after_write one.memory bytes f } in o) h)

pub access_record : (id reason : ℕ) (p : Part) (w : Work) → record_of reason (access_call id p w) ≡ fault_record reason (need_of w) id p.iova
access_record id reason p Reading = refl
access_record id reason p (Writing bytes) = refl
