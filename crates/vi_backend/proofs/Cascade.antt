-- The tests of a back end's wish.
use Rattle.std.proofs.Common.{nat_eq, subst, inr, inl, ◌⊎◌, IfSome, get_or, ◌≡◌, ℕ, ◌+◌, ◌-◌, ◌/◌, ◌≤◌, ◌<◌, Bool, true, false, cond, ◌&&◌, ◌||◌, nat_le, List, Option, Some, None, length, refl, sym, ap, ◌∙◌, arith}
use Rattle.std.specs.Option.{option_map}
use Rattle.std.proofs.lemmas.Bool.Decides.{nat_tests}
use Rattle.vi_bytes.specs.declared.span.TheConstants.{PAGE}
use Rattle.vi_bytes.specs.declared.lease.Lease.{Lease}
use Rattle.vi_history.specs.Translation.{permits}
use Rattle.vi_lines.specs.declared.line.Line.{Line}
use Rattle.vi_lines.specs.Calls.{TransfersWell, back_call, parts_of, parts_in}
use Rattle.std.proofs.lemmas.Bool.{cases_lt}
use Rattle.std.proofs.lemmas.Option.{slice_get_read}
use Rattle.vi_lines.specs.declared.job.Job.{Job}
use Rattle.vi_lines.specs.declared.job.Job.TheVariants as job
use Rattle.vi_cache.specs.Caches as caches
use Rattle.vi_model.specs.Caches.{cached_at, fronted}
use Rattle.vi_model.specs.Serves.{page_of}
use Rattle.vi_model.specs.Backs.{Seat, Access, access_in, current_wish, part_wish, miss_of, need_of, moved_seat}
use Rattle.vi_model.specs.Backs as model
use Rattle.vi_backend.specs.declared.wish.Wish.{Wish}
use Rattle.vi_backend.specs.declared.wish.Wish.TheVariants as shows
use Rattle.vi_backend.specs.declared.part.Aim.{Aim}
use Rattle.vi_backend.specs.Aims.{aim_of, aim_frame, aim_wish}
use Rattle.vi_backend.specs.Own.{Own, IsOwn}
use Rattle.vi_backend.specs.Accesses.{is_at_last, looked_seat, stepped}
use Rattle.vi_backend.specs.Wishes.{own_wish, own_access, current_line, must_receive, is_finished, must_await, owes, shown, tests_in, IsAsk, IsAccess}

pub asking_below : (b : Own) → IsAsk (shown (own_wish b)) → b.seat.finished < length b.lines
unfolding own_wish
asking_below b h = go (must_receive b) (is_finished b) refl h where
  go : (r f : Bool) → is_finished b ≡ f → IsAsk (shown (cond r (model.Receives false) (cond f model.Rests (cond (must_await b) (model.Receives true) (current_wish b.seat (own_access b)))))) → b.seat.finished < length b.lines
  go true f e h = absurd h
  go false true e h = absurd h
  go false false e h = grind (arith, nat_tests)

-- what is so where the wish is an access
pub record HasAccess (b : Own) : Type 0 where
  pub lease : Lease
  pub access : Access
  pub wish : own_wish b ≡ model.Accesses lease access
  pub asks : own_access b ≡ Some access
  pub cached : cached_at (page_of access.part.iova) b.seat.cache ≡ Some lease
  pub closed : b.seat.asking ≡ false
  pub accesses : b.seat.since < 16
  pub below : b.seat.finished < length b.lines

abbrev IsAccessing : model.Wish → Type 0
IsAccessing w = IsAccess (shown w)

part_accesses : (z : Seat) (a : Access) (o : Option Lease) → IsAccessing (part_wish z a o) → (l : Lease) × (o ≡ Some l) × (part_wish z a o ≡ model.Accesses l a)
part_accesses z a None h = absurd h
part_accesses z a (Some l) h = go (permits (need_of a.work) l.perm) h where
  go : (p : Bool) → IsAccessing (cond p (model.Accesses l a) (model.Asks (miss_of z a true))) → (k : Lease) × (Some l ≡ Some k) × (cond p (model.Accesses l a) (model.Asks (miss_of z a true)) ≡ model.Accesses k a)
  go true h = (l, refl, refl)
  go false h = absurd h

current_accesses : (z : Seat) (o : Option Access) → IsAccessing (current_wish z o) → (l : Lease) × (a : Access) × (o ≡ Some a) × (cached_at (page_of a.part.iova) z.cache ≡ Some l) × (current_wish z o ≡ model.Accesses l a)
current_accesses z None h = absurd h
current_accesses z (Some a) h =
    let p = part_accesses z a (cached_at (page_of a.part.iova) z.cache) h in
    (p.0, a, refl, p.1, p.2)

pub has_access : (b : Own) → IsAccess (shown (own_wish b)) → HasAccess b
unfolding own_wish current_accesses part_accesses
has_access b h = go b.seat.asking (nat_le 16 b.seat.since) (owes b) (is_finished b) (must_await b) refl refl refl refl refl h where
  go : (k m o f w : Bool) → b.seat.asking ≡ k → nat_le 16 b.seat.since ≡ m → owes b ≡ o → is_finished b ≡ f → must_await b ≡ w
      → IsAccessing (cond (k || (m || o)) (model.Receives false) (cond f model.Rests (cond w (model.Receives true) (current_wish b.seat (own_access b))))) → HasAccess b
  go true m o f w ek em eo ef ew h = absurd h
  go false true o f w ek em eo ef ew h = absurd h
  go false false true f w ek em eo ef ew h = absurd h
  go false false false true w ek em eo ef ew h = absurd h
  go false false false false true ek em eo ef ew h = absurd h
  go false false false false false ek em eo ef ew h =
      let p = current_accesses b.seat (own_access b) h in
      record {
        lease = p.0;
        access = p.1;
        wish = rw (ek, em, eo, ef, ew) p.4;
        asks = p.2;
        cached = p.3;
        closed = ek;
        accesses = grind (arith, nat_tests);
        below = grind (arith, nat_tests);
      }

-- the wish by what is told of it: its aim, and the lease of its aim's page
abbrev pub by_aim : List Lease → Option Aim → Wish
by_aim cache None = shows.Receive
by_aim cache (Some a) = aim_wish a (cached_at (a.part.iova / PAGE) cache)

shown_part : (z : Seat) (a : Access) (o : Option Lease) → shown (part_wish z a o) ≡ aim_wish (aim_of a) o
shown_part z a None = refl
shown_part z a (Some l) = go (permits (need_of a.work) l.perm) where
  go : (p : Bool) → shown (cond p (model.Accesses l a) (model.Asks (miss_of z a true))) ≡ cond p (shows.Access (l.target + (a.part.iova / PAGE - l.page))) (shows.Ask (aim_frame (aim_of a) true))
  go true = refl
  go false = refl

pub shown_current : (z : Seat) (o : Option Access) → shown (current_wish z o) ≡ by_aim z.cache (option_map aim_of o)
shown_current z None = refl
shown_current z (Some a) = shown_part z a (cached_at (page_of a.part.iova) z.cache)

-- a wish that is none of the first three doesn't test
pub tests_current : (z : Seat) (o : Option Access) → tests_in (current_wish z o) ≡ false
tests_current z None = refl
tests_current z (Some a) = part (cached_at (page_of a.part.iova) z.cache) where
  fit : (l : Lease) (p : Bool) → tests_in (cond p (model.Accesses l a) (model.Asks (miss_of z a true))) ≡ false
  fit l true = refl
  fit l false = refl

  part : (o : Option Lease) → tests_in (part_wish z a o) ≡ false
  part None = refl
  part (Some l) = fit l (permits (need_of a.work) l.perm)

-- the current access is that of its line's part, which the line has
pub record HasPart (b : Own) (l : Line) (a : Access) : Type 0 where
  pub within : b.seat.done + 1 ≤ parts_of l.job
  pub access : access_in (back_call b.id l.job (b.seat.done + 1)) ≡ Some a

pub has_part : (b : Own) (l : Line) (a : Access) → current_line b ≡ Some l → own_access b ≡ Some a → HasPart b l a
has_part b l a e h = go (nat_le (b.seat.done + 1) (parts_of l.job)) refl (rw e at h) where
  go : (w : Bool) → nat_le (b.seat.done + 1) (parts_of l.job) ≡ w → access_in (cond (nat_le 1 (b.seat.done + 1) && nat_le (b.seat.done + 1) (parts_of l.job)) (back_call b.id l.job (b.seat.done + 1)) None) ≡ Some a → HasPart b l a
  go w q h = by w q (some) (rw (some, q) at h) where
    some : nat_le 1 (b.seat.done + 1) ≡ true
    some = grind (arith, nat_tests)

    by : (w : Bool) → nat_le (b.seat.done + 1) (parts_of l.job) ≡ w → nat_le 1 (b.seat.done + 1) ≡ true → access_in (cond (true && w) (back_call b.id l.job (b.seat.done + 1)) None) ≡ Some a → HasPart b l a
    by true q s h = record { within = grind (arith, nat_tests); access = h }
    by false q s h = cc

-- what is so of the current line where the wish is an access
pub record HasLine (b : Own) (l : Line) : Type 0 where
  pub has : HasAccess b
  pub line : current_line b ≡ Some l
  pub transfers : TransfersWell l.job
  pub part : HasPart b l has.access

pub has_line : (v b : Own) (l : Line) → b ≡ v → IsAccess (shown (own_wish v)) → IsOwn b → l ≡ get_or b.lines b.seat.finished l → HasLine b l
has_line v b l e h own at =
    let has : HasAccess b = subst HasAccess (sym e) (has_access v h) in
    let line : current_line b ≡ Some l = slice_get_read b.lines (length b.lines) b.seat.finished l refl has.below at in
    record {
      has = has;
      line = line;
      transfers = subst (λ (k : Line). TransfersWell k.job) (sym at) (own.transfers b.seat.finished l has.below);
      part = has_part b l has.access line has.asks;
    }

-- a transfer has at most 17 parts
parts_most : (j : Job) → TransfersWell j → parts_of j ≤ 17
parts_most (job.Ask request) h = omega arith
parts_most (job.Raw read write) h = omega arith
parts_most (job.Bypass on) h = omega arith
parts_most (job.Read iova len) h = let most : len ≤ 65536 = h.most in omega arith
parts_most (job.Write iova bytes) h = let most : length bytes ≤ 65536 = h.most in omega arith

pub parts_left : (b : Own) (l : Line) → HasLine b l → (b.seat.done < 16) ⊎ (nat_eq (b.seat.done + 1) (parts_of l.job) ≡ true)
parts_left b l f = go (cases_lt b.seat.done 16) where
  go : (b.seat.done < 16) ⊎ (16 ≤ b.seat.done) → (b.seat.done < 16) ⊎ (nat_eq (b.seat.done + 1) (parts_of l.job) ≡ true)
  go (inl below) = inl below
  go (inr above) =
      let most : parts_of l.job ≤ 17 = parts_most l.job f.transfers in
      let within : b.seat.done + 1 ≤ parts_of l.job = f.part.within in
      let last : b.seat.done + 1 ≡ parts_of l.job = omega arith in
      inr (grind (arith, nat_tests))

pub looked_own : (b n : Own) (l : Line) (f : HasLine b l) → IfSome (own_access b) (λ a. n ≡ record b { seat = looked_seat b.seat (page_of a.part.iova) })
    → n ≡ record b { seat = record (b.seat) { cache = fronted f.has.lease (page_of f.has.access.part.iova) b.seat.cache } }
looked_own b n l f h =
    let is : n ≡ record b { seat = looked_seat b.seat (page_of f.has.access.part.iova) } = rw f.has.asks at h in
    is ∙ ap (λ o. record b { seat = record (b.seat) { cache = caches.fronted o (page_of f.has.access.part.iova) b.seat.cache } }) f.has.cached

pub looked_from : (v b n : Own) (l : Line) → b ≡ v → (f : HasLine b l) → IfSome (own_access v) (λ a. n ≡ record v { seat = looked_seat v.seat (page_of a.part.iova) })
    → n ≡ record b { seat = record (b.seat) { cache = fronted f.has.lease (page_of f.has.access.part.iova) b.seat.cache } }
looked_from v b n l e f h = looked_own b n l f (subst (λ (u : Own). IfSome (own_access u) (λ a. n ≡ record u { seat = looked_seat u.seat (page_of a.part.iova) })) (sym e) h)

stepped-moved : (z : Seat) (last : Bool) (l : Lease) (page : ℕ) → stepped (record z { cache = fronted l page z.cache }) last ≡ moved_seat z last l page
stepped-moved z true l page = refl
stepped-moved z false l page = refl

pub stepped_own : (b n m : Own) (l : Line) (f : HasLine b l) → n ≡ record b { seat = record (b.seat) { cache = fronted f.has.lease (page_of f.has.access.part.iova) b.seat.cache } }
    → m ≡ record n { seat = stepped n.seat (nat_eq (b.seat.done + 1) (parts_of l.job)) }
    → m ≡ record b { seat = moved_seat b.seat (is_at_last b) f.has.lease (page_of f.has.access.part.iova) }
stepped_own b n m l f e h =
    h ∙ (ap (λ (n : Own). record n { seat = stepped n.seat (nat_eq (b.seat.done + 1) (parts_of l.job)) }) e
    ∙ (ap (λ z. record b { seat = z }) (stepped-moved b.seat (nat_eq (b.seat.done + 1) (parts_of l.job)) f.has.lease (page_of f.has.access.part.iova))
    ∙ ap (λ o. record b { seat = moved_seat b.seat (nat_eq (b.seat.done + 1) (parts_in o)) f.has.lease (page_of f.has.access.part.iova) }) (sym f.line)))
