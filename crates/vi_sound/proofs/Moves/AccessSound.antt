-- An access keeps the world sound.
use Rattle.std.proofs.Common.{◌≡◌, ℕ, ◌+◌, ◌*◌, ◌/◌, ◌%◌, ◌<◌, Bool, true, false, cond, ◌||◌, List, [], ◌∷◌, ◌++◌, get_or, set, Some, refl, arith, ◌∙◌, ap, sym, ◌⊎◌, inl, inr, length-set}
use Rattle.std.specs.Prelude.{is_some}
use Rattle.vi_bytes.specs.declared.span.TheConstants.{PAGE}
use Rattle.vi_bytes.specs.declared.lease.Lease.{Lease}
use Rattle.vi_history.specs.Device.{Dev, One}
use Rattle.vi_history.specs.Translation.{translate, lease}
use Rattle.vi_history.specs.Replies.{reply, next, page_at}
use Rattle.vi_history.specs.declared.found.Found.TheVariants.{At}
use Rattle.vi_history.specs.declared.call.Call.{Call}
use Rattle.vi_history.specs.declared.entry.Entry.{Entry}
use Rattle.vi_lines.specs.Value.{ScriptValue}
use Rattle.vi_lines.specs.Valid.{IsValid}
use Rattle.vi_lines.specs.Calls.{call_of}
use Rattle.vi_lines.specs.Order.{Place, IsDue, due_place}
use Rattle.vi_lines.proofs.IndexLemmas.{same_caller-self}
use Rattle.vi_model.specs.Grants.{piece}
use Rattle.vi_model.specs.Caches.{cached_at}
use Rattle.vi_model.specs.Removals.{Removal}
use Rattle.vi_model.specs.Control.{Link, port_of, link_of}
use Rattle.vi_model.specs.Places.{place_count, id_at, back_at}
use Rattle.vi_model.specs.Starts.{any, entry_of}
use Rattle.vi_model.specs.Serves.{page_of}
use Rattle.vi_model.specs.Backs.{Seat, no_seat, Access, need_of, work_answer, work_page, is_empty, current_awaits, Accessed, moved_seat, is_last, target_of, access}
use Rattle.vi_model.specs.Worlds.{World, seat_of, stand_of}
use Rattle.vi_model.specs.Links.{IsGranted}
use Rattle.vi_model.specs.Asking.{one_if}
use Rattle.vi_model.specs.Tracks.{AreWhole, stands_at, IsTracked}
use Rattle.vi_model.specs.Held.{count_held}
use Rattle.vi_model.specs.Sound.{IsSoundBack, SoundParts}
use Rattle.vi_model.specs.Laws.{access_call}
use Rattle.vi_sound.proofs.Values.Aligned.{leased}
use Rattle.vi_sound.proofs.Values.Histories.{due_own, whole_more}
use Rattle.vi_sound.proofs.Values.Tables.{at_one}
use Rattle.vi_sound.proofs.Values.Tells.{tell_more}
use Rattle.vi_sound.proofs.Values.Frames.{track_other, driver_other}
use Rattle.vi_sound.proofs.Values.Ids.{back_other}
use Rattle.vi_sound.proofs.Moves.Accesses.{WishesAccess, cached_granted, cached_has, link_front, idle_miss, whole_free, no_reply, not_fault, access_is, access_reply}

-- the world after an access of a page
abbrev pub after_access : World → ℕ → ℕ → Accessed → World
after_access w place target x = record w { seats = set w.seats place x.seat; pages = set w.pages target x.page; history = w.history ++ x.entry ∷ [] }

-- a place behind a part, which ends its line or not
abbrev Behind : Bool → Seat → Place
Behind ends z = cond ends (record { line = z.finished + 1 + 1; part = 1 }) (record { line = z.finished + 1; part = z.done + 1 + 1 })

-- the back end itself, b saying whether the part was its line's last
own_track : (s : ScriptValue) (hs : List Entry) (h : Entry) (k q : ℕ) (x : Link) (z : Seat) (l : Lease) (b : Bool) → any x.replies ≡ false → z.asking ≡ false
    → due_place s (back_at s k) (hs ++ h ∷ []) ≡ Behind b z → IsTracked s hs k x z → IsTracked s (hs ++ h ∷ []) k x (moved_seat z b l q)
own_track s hs h k q x z l true none idle far ok = record {
  at = rw none far;
  ready = λ r. absurd cc;
  opened = λ o. absurd cc;
  faulted = λ f. absurd cc;
}
own_track s hs h k q x z l false none idle far ok = record {
  at = rw none far;
  ready = λ r. whole_more s hs h (current_awaits s k z) (ok.ready r);
  opened = λ o. absurd cc;
  faulted = λ f. absurd cc;
}

own_place : (s : ScriptValue) (dev : Dev) (ops : List Removal) (hs : List Entry) (h : Entry) (k q : ℕ) (x : Link) (z : Seat) (l : Lease) (b : Bool) → any x.replies ≡ false → z.asking ≡ false
    → cached_at q z.cache ≡ Some l
    → due_place s (back_at s k) (hs ++ h ∷ []) ≡ Behind b z → IsSoundBack s dev ops hs k x z → IsSoundBack s dev ops (hs ++ h ∷ []) k x (moved_seat z b l q)
own_place s dev ops hs h k q x z l true none idle c far ok = record {
  link = link_front dev ops (id_at s k) k q l x.grants z.cache x.down x.acks c ok.link;
  miss = idle_miss s k x z (moved_seat z true l q) ok.miss idle idle refl (let low = ok.miss.low in omega (arith, low));
  room = ok.room;
  track = own_track s hs h k q x z l true none idle far ok.track;
}
own_place s dev ops hs h k q x z l false none idle c far ok = record {
  link = link_front dev ops (id_at s k) k q l x.grants z.cache x.down x.acks c ok.link;
  miss = idle_miss s k x z (moved_seat z false l q) ok.miss idle idle refl ok.miss.low;
  room = ok.room;
  track = own_track s hs h k q x z l false none idle far ok.track;
}

pub access_sound : (s : ScriptValue) (w : World) (k : ℕ) (l : Lease) (a : Access) → IsValid s → SoundParts s w → k < place_count s → WishesAccess s k (seat_of w k) l a
    → SoundParts s (after_access w k (target_of l a) (access s k (seat_of w k) l a (get_or w.pages (target_of l a) [])))
unfolding access
access_sound s w k l a valid ok lt wishes = record {
  told = tell_more s w.control.dev w.pages w.control.events w.history h call w.control.dev (set w.pages target (work_page (get_or w.pages target []) a.part a.work))
      (record { call = is_call; due = is_due; answer = sym replies.0; next_is = replies.1 }) (not_fault (get_or w.pages target []) a.part a.work) ok.told;
  whole = ok.whole;
  maps = ok.maps;
  records = ok.records;
  tables = ok.tables;
  seats = length-set w.seats k seat ∙ ok.seats;
  ports = ok.ports;
  stands = ok.stands;
  queue = ok.queue;
  removals = ok.removals;
  settings = ok.settings;
  backs = at_one (λ j y. IsSoundBack s w.control.dev w.control.removals (w.history ++ h ∷ []) j (link_of w.control j) y) w.seats no_seat seat (place_count s) k ok.seats lt
      (own_place s w.control.dev w.control.removals w.history h k q x z l (is_last s k (z.finished + 1) (z.done + 1)) none wishes.idle wishes.cached far place)
      (λ j below ne. let o = ok.backs j below in record { link = o.link; miss = o.miss; room = o.room; track = track_other s w.history h j (link_of w.control j) (seat_of w j) (back_other s j k valid below lt ne) o.track });
  drivers = λ j below. driver_other s j (count_held w.control.queue w.control.removals (port_of w.control j).setting j) w.history h (port_of w.control j).answered (port_of w.control j).posted (stand_of w j) refl (ok.drivers j below);
}
  where
    q : ℕ
    q = page_of a.part.iova

    target : ℕ
    target = target_of l a

    z : Seat
    z = seat_of w k

    x : Link
    x = link_of w.control k

    e : ℕ
    e = id_at s k

    seat : Seat
    seat = moved_seat z (is_last s k (z.finished + 1) (z.done + 1)) l q

    h : Entry
    h = entry_of (back_at s k) (z.finished + 1) (z.done + 1) (work_answer (get_or w.pages target []) a.part a.work)

    one : One
    one = record { dev = w.control.dev; memory = w.pages }

    call : Call
    call = access_call e a.part a.work

    place : IsSoundBack s w.control.dev w.control.removals w.history k x z
    place = ok.backs k lt

    granted : IsGranted x.grants l
    granted = cached_granted q l x.grants z.cache place.link.cached wishes.cached

    now : lease w.control.dev e (a.part.iova / PAGE) ≡ Some (piece l (a.part.iova / PAGE))
    now = place.link.current granted.0 l granted.1 (a.part.iova / PAGE) (cached_has (a.part.iova / PAGE) l z.cache wishes.cached)

    goes : translate w.control.dev e a.part.iova (need_of a.work) ≡ At (PAGE * target + a.part.iova % PAGE)
    goes = leased w.control.dev e a.part.iova (need_of a.work) (piece l (a.part.iova / PAGE)) ok.whole now wishes.may

    replies : (reply one call ≡ work_answer (page_at w.pages target) a.part a.work) × (next one call ≡ record one { memory = set w.pages target (work_page (page_at w.pages target) a.part a.work) })
    replies = access_reply one e target a.part a.work goes

    is_call : call_of s h.mark.caller h.mark.line h.mark.part ≡ Some call
    is_call = access_is s k (z.finished + 1) (z.done + 1) a wishes.part

    none : any x.replies ≡ false
    none = let one = place.miss.one in let i : one_if z.asking ≡ 0 = ap one_if wishes.idle in no_reply x.replies (omega (arith, one, i))

    whole : (is_empty (current_awaits s k z) ≡ true) ⊎ (z.ready ≡ true) → AreWhole s w.history (current_awaits s k z)
    whole (inl f) = whole_free s w.history (current_awaits s k z) f
    whole (inr r) = place.track.ready r

    is_due : IsDue s w.history h
    is_due = record {
      known = ap is_some is_call;
      next = place.track.at ∙ ap (stands_at z) none;
      awaited = whole wishes.free;
    }

    far : due_place s (back_at s k) (w.history ++ h ∷ []) ≡ Behind (is_last s k (z.finished + 1) (z.done + 1)) z
    far = due_own s (back_at s k) w.history h (same_caller-self (back_at s k)) ∙ ap (λ b. Behind (b || is_last s k (z.finished + 1) (z.done + 1)) z) (not_fault (get_or w.pages target []) a.part a.work)
