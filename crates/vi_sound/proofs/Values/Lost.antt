-- Leases may be left out of a cache.
use Rattle.std.proofs.Common.{ℕ, ◌<◌, ◌≤◌, List, [], ◌∷◌, set, Option, Some, None, arith, ◌∙◌, sym, subst, ◌⊎◌, inl, inr, length-set}
use Rattle.std.specs.List.{AllByRecursion}
use Rattle.std.proofs.lemmas.Bool.{cases_lt}
use Rattle.std.proofs.lemmas.List.{set-get_or, set_past}
use Rattle.vi_bytes.specs.declared.span.Span.{Span}
use Rattle.vi_bytes.specs.declared.lease.Lease.{Lease}
use Rattle.vi_lines.specs.declared.line.Who.{Who}
use Rattle.vi_lines.specs.declared.line.Who.TheVariants as who
use Rattle.vi_lines.specs.Value.{ScriptValue}
use Rattle.vi_model.specs.Lanes.{Down, Miss}
use Rattle.vi_model.specs.Control.{link_of}
use Rattle.vi_model.specs.Places.{place_count, place_of}
use Rattle.vi_model.specs.Backs.{Seat, no_seat}
use Rattle.vi_model.specs.Actors.{Actor}
use Rattle.vi_model.specs.Worlds.{World, seat_of, actor_of}
use Rattle.vi_model.specs.Links.{IsGranted, AreClearOf}
use Rattle.vi_model.specs.Asking.{IsCurrent, AreCurrent, ParkedIsCurrent}
use Rattle.vi_model.specs.Sound.{IsSoundBack, SoundParts}
use Rattle.vi_model.specs.Laws.{IsAmong, with_leases}
use Rattle.vi_sound.proofs.Values.Tables.{at_one}

-- what is said of each lease of a cache is said of one of them
of_one : (P : Lease → Type 0) (ys : List Lease) (l : Lease) → AllByRecursion P ys → IsAmong ys l → P l
of_one P [] l a m = absurd m
of_one P (y ∷ ys) l a (inl e) = subst P e a.0
of_one P (y ∷ ys) l a (inr m) = of_one P ys l a.1 m

-- and of fewer of them
of_fewer : (P : Lease → Type 0) (xs ys : List Lease) → AllByRecursion (IsAmong ys) xs → AllByRecursion P ys → AllByRecursion P xs
of_fewer P [] ys f a = tt
of_fewer P (x ∷ xs) ys f a = (of_one P ys x a f.0, of_fewer P xs ys f.1 a)

fewer_acks : (gone : List (Option Span)) (xs ys : List Lease) (fs : List Down) → AllByRecursion (IsAmong ys) xs → AreClearOf gone ys fs → AreClearOf gone xs fs
fewer_acks [] xs ys fs f c = tt
fewer_acks (s ∷ gone) xs ys fs f c = ((of_fewer _ xs ys f c.0.0, c.0.1), fewer_acks gone xs ys fs f c.1)

left_out_at : (s : ScriptValue) (w : World) (k : ℕ) (ls : List Lease) → SoundParts s w → k < place_count s → AllByRecursion (IsAmong (let z : Seat = seat_of w k in z.cache)) ls
    → SoundParts s (let z : Seat = seat_of w k in record w { seats = set w.seats k (record z { cache = ls }) })
left_out_at s w k ls ok lt fewer = record {
  told = ok.told;
  whole = ok.whole;
  maps = ok.maps;
  records = ok.records;
  tables = ok.tables;
  seats = length-set w.seats k (record z { cache = ls }) ∙ ok.seats;
  ports = ok.ports;
  stands = ok.stands;
  queue = ok.queue;
  removals = ok.removals;
  settings = ok.settings;
  backs = at_one (λ j y. IsSoundBack s w.control.dev w.control.removals w.history j (link_of w.control j) y) w.seats no_seat (record z { cache = ls }) (place_count s) k ok.seats lt
      (let o = ok.backs k lt in record {
        link = record {
          distinct = o.link.distinct;
          asked = o.link.asked;
          cached = of_fewer (IsGranted (link_of w.control k).grants) ls z.cache fewer o.link.cached;
          updates = o.link.updates;
          current = o.link.current;
          wait = o.link.wait;
          gone = o.link.gone;
          count = o.link.count;
          order = o.link.order;
          clear = fewer_acks o.link.gone ls z.cache (link_of w.control k).down fewer o.link.clear;
          behind = o.link.behind;
        };
        miss = record {
          one = o.miss.one;
          up = same_up (link_of w.control k).up o.miss.up;
          parked = same_parked (link_of w.control k).parked o.miss.parked;
          updates = o.miss.updates;
          posted = o.miss.posted;
          told = o.miss.told;
          low = o.miss.low;
        };
        room = o.room;
        track = record { at = o.track.at; ready = o.track.ready; opened = o.track.opened; faulted = o.track.faulted };
      })
      (λ j below ne. ok.backs j below);
  drivers = ok.drivers;
}
  where
    z : Seat
    z = seat_of w k

    one_up : (m : Miss) → IsCurrent s k z m → IsCurrent s k (record z { cache = ls }) m
    one_up m c = record { line = c.line; part = c.part; access = c.access; is_access = c.is_access; iova = c.iova; len = c.len; need = c.need; unserved = of_fewer _ ls z.cache fewer c.unserved }

    same_up : (ms : List Miss) → AreCurrent s k z ms → AreCurrent s k (record z { cache = ls }) ms
    same_up [] e = tt
    same_up (m ∷ ms) e = (one_up m e.0, same_up ms e.1)

    same_parked : (o : Option Miss) → ParkedIsCurrent s k z o → ParkedIsCurrent s k (record z { cache = ls }) o
    same_parked None e = tt
    same_parked (Some m) e = one_up m e

pub left_out : (s : ScriptValue) (w : World) (a : Who) (ls : List Lease) → SoundParts s w → AllByRecursion (IsAmong (let x : Actor = actor_of s w a in x.leases)) ls → SoundParts s (with_leases s w a ls)
left_out s w (who.Driver j) ls ok fewer = subst (λ st. SoundParts s (record w { stands = st })) (sym (set-get_or w.stands j _)) ok
left_out s w (who.Back id) ls ok fewer = go (cases_lt (place_of s id) (place_count s))
  where
    go : (place_of s id < place_count s) ⊎ (place_count s ≤ place_of s id) → SoundParts s (with_leases s w (who.Back id) ls)
    go (inl lt) = left_out_at s w (place_of s id) ls ok lt fewer
    go (inr ge) =
        let z : Seat = seat_of w (place_of s id) in
        subst (λ st. SoundParts s (record w { seats = st })) (sym (set_past w.seats (place_of s id) (record z { cache = ls }) (let n = ok.seats in omega (arith, n, ge)))) ok
left_out s w who.Device ls ok fewer = ok
left_out s w who.Events ls ok fewer = ok
