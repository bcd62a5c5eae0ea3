-- What a back end asks for is a part of its current line.
use Rattle.std.proofs.Common.{◌≡◌, ◌<◌, ◌≤◌, ◌+◌, ◌-◌, ◌/◌, ◌%◌, ◌^◌, ◌*◌, ◌&&◌, nat_le, ℕ, Bool, true, false, cond, List, [], length, map, get_or, Option, Some, None, refl, arith, ◌∙◌, ap, sym, subst}
use Rattle.std.specs.List.{slice_get}
use Rattle.std.specs.Option.{option_map}
use Rattle.std.proofs.Math.Nat.{min-le_right}
use Rattle.std.proofs.lemmas.Bool.Decides.{nat_tests}
use Rattle.std.proofs.lemmas.Option.{get_or_from_slice_get, slice_get-map}
use Rattle.vi_bytes.specs.Parts.{IsTransfer, PartsJoin, IsInPage, nth_part, part_end}
use Rattle.vi_bytes.specs.declared.lease.Lease.{Lease}
use Rattle.vi_bytes.specs.declared.lease.Need.{Need}
use Rattle.vi_bytes.specs.declared.lease.Need.TheVariants as need
use Rattle.vi_bytes.specs.declared.part.Part.{Part}
use Rattle.vi_history.specs.Translation.{permits}
use Rattle.vi_history.specs.declared.call.Caller.TheVariants.{Back}
use Rattle.vi_lines.specs.declared.job.Job.{Job}
use Rattle.vi_lines.specs.declared.job.Job.TheVariants as job
use Rattle.vi_lines.specs.declared.line.Line.{Line}
use Rattle.vi_lines.specs.Calls.{TransfersWell, parts_of, back_call, call_in}
use Rattle.vi_model.specs.Lanes.{Miss}
use Rattle.vi_model.specs.Serves.{page_of}
use Rattle.vi_model.specs.Caches.{cached_at}
use Rattle.vi_model.specs.Backs.{Seat, Access, Accesses, Asks, Receives, Rests, access_in, need_of, miss_of, part_wish, current_wish}
use Rattle.vi_backend.specs.Own.{Own, IsOwn}
use Rattle.vi_backend.specs.Wishes.{own_wish, own_access, current_line, must_receive, is_finished, must_await}
use Rattle.vi_control.specs.declared.transfer.Transfer.{Transfer}
use Rattle.vi_control.specs.Asked.{transfer_at, part_with, asked_at, no_transfer}
use Rattle.vi_control.specs.Calls.{IsWithin}
use Rattle.vi_control.specs.Plan.{Plan, transfer_of}

-- how the parts of a transfer lie
abbrev pub PartsAllJoin : Type 0
PartsAllJoin = (iova len : ℕ) → IsTransfer iova len → PartsJoin iova len

same_some : {A : Type 0} (x y : A) → Some x ≡ Some y → x ≡ y
same_some x y h = cc

-- its wish is that of its current part
asks_current : (b : Own) (m : Miss) → own_wish b ≡ Asks m → (is_finished b ≡ false) × (current_wish b.seat (own_access b) ≡ Asks m)
unfolding own_wish
asks_current b m h = go (must_receive b) (is_finished b) (must_await b) refl h where
  go : (r f w : Bool) → is_finished b ≡ f → cond r (Receives false) (cond f Rests (cond w (Receives true) (current_wish b.seat (own_access b)))) ≡ Asks m
      → (is_finished b ≡ false) × (current_wish b.seat (own_access b) ≡ Asks m)
  go true f w e h = absurd cc
  go false true w e h = absurd cc
  go false false true e h = absurd cc
  go false false false e h = (e, h)

part_asks : (z : Seat) (a : Access) (o : Option Lease) (m : Miss) → part_wish z a o ≡ Asks m → (fail : Bool) × (m ≡ miss_of z a fail)
part_asks z a None m h = (false, cc)
part_asks z a (Some l) m h = go (permits (need_of a.work) l.perm) h where
  go : (p : Bool) → cond p (Accesses l a) (Asks (miss_of z a true)) ≡ Asks m → (fail : Bool) × (m ≡ miss_of z a fail)
  go true h = absurd cc
  go false h = (true, cc)

current_asks : (z : Seat) (o : Option Access) (m : Miss) → current_wish z o ≡ Asks m → (a : Access) × (o ≡ Some a) × (fail : Bool) × (m ≡ miss_of z a fail)
current_asks z None m h = absurd cc
current_asks z (Some a) m h = let p = part_asks z a (cached_at (page_of a.part.iova) z.cache) m h in (a, refl, p.0, p.1)

-- an access is that of a line's part
record HasPart (id k : ℕ) (o : Option Line) (a : Access) : Type 0 where
  pub line : Line
  pub line_is : o ≡ Some line
  pub some : 1 ≤ k
  pub within : k ≤ parts_of line.job
  pub access : access_in (back_call id line.job k) ≡ Some a

has_part : (id k : ℕ) (o : Option Line) (a : Access) → access_in (call_in (Back id) k o) ≡ Some a → HasPart id k o a
has_part id k None a h = absurd cc
has_part id k (Some l) a h = go (nat_le 1 k) (nat_le k (parts_of l.job)) refl refl h where
  go : (u w : Bool) → nat_le 1 k ≡ u → nat_le k (parts_of l.job) ≡ w → access_in (cond (u && w) (back_call id l.job k) None) ≡ Some a → HasPart id k (Some l) a
  go true true p q h = record { line = l; line_is = refl; some = grind (arith, nat_tests); within = grind (arith, nat_tests); access = h }
  go true false p q h = absurd cc
  go false w p q h = absurd cc

-- the k-th part of a transfer
record IsPart (t : Transfer) (k : ℕ) (part : Part) : Type 0 where
  pub page : part_with t part.iova ≡ k
  pub within : IsWithin t part.iova
  pub transfer : IsTransfer part.iova part.len

cut_part : (iova len : ℕ) (n : Need) (k : ℕ) → IsTransfer iova len → 1 ≤ k → IsInPage (iova / 4096 + (k - 1)) (nth_part iova len k) → IsPart (record { iova = iova; len = len; need = n }) k (nth_part iova len k)
cut_part iova len n k well some cut =
    let first : (nth_part iova len k).iova / 4096 ≡ iova / 4096 + (k - 1) = cut.first in
    let ends : part_end iova len k ≤ len = min-le_right (4096 * k - iova % 4096) len in
    let any : 1 ≤ (nth_part iova len k).len = cut.some in
    let most : len ≤ 65536 = well.most in
    let last : iova + len ≤ 2 ^ 64 = well.ends in
    record {
      page = rw first (omega (arith, some));
      within = record { low = omega arith; high = omega (arith, ends, any, most) };
      transfer = record { some = any; most = omega (arith, ends, any, most); ends = omega (arith, ends, any, last) };
    }

job_part : (id k : ℕ) (j : Job) (a : Access) → PartsAllJoin → TransfersWell j → 1 ≤ k → k ≤ parts_of j → access_in (back_call id j k) ≡ Some a → IsPart (transfer_of j) k a.part
job_part id k (job.Ask request) a joins well some last h = absurd cc
job_part id k (job.Raw read write) a joins well some last h = absurd cc
job_part id k (job.Bypass on) a joins well some last h = absurd cc
job_part id k (job.Read iova len) a joins well some last h =
    subst (λ (x : Access). IsPart (transfer_of (job.Read iova len)) k x.part) (same_some _ a h) (cut_part iova len need.Read k well some ((joins iova len well).pages k some last))
job_part id k (job.Write iova bytes) a joins well some last h =
    subst (λ (x : Access). IsPart (transfer_of (job.Write iova bytes)) k x.part) (same_some _ a h) (cut_part iova (length bytes) need.Write k well some ((joins iova (length bytes) well).pages k some last))

-- a back end's transfer, by its line
transfer_in : (plan : Plan) (place n : ℕ) (lines : List Line) (l : Line) → get_or plan.transfers place [] ≡ map (λ l. transfer_of l.job) lines → slice_get lines n ≡ Some l → transfer_at plan place (n + 1) ≡ transfer_of l.job
transfer_in plan place n lines l known at =
    let on : n + 1 - 1 ≡ n = omega arith in
    rw (on, known) (get_or_from_slice_get (map (λ l. transfer_of l.job) lines) n (transfer_of l.job) no_transfer (slice_get-map (λ (l : Line). transfer_of l.job) lines n ∙ ap (option_map (λ (l : Line). transfer_of l.job)) at))

-- what it asks for is what a control makes of its frame, and it may ask for that
pub record IsQuestion (plan : Plan) (place : ℕ) (b : Own) (m : Miss) : Type 0 where
  pub asked : asked_at plan place b.seat.finished m.iova m.len m.need m.fail ≡ m
  pub transfer : IsTransfer m.iova m.len
  pub within : IsWithin (transfer_at plan place (b.seat.finished + 1)) m.iova
  pub few : b.seat.finished + 1 < 2 ^ 32

part_question : (plan : Plan) (place : ℕ) (b : Own) (a : Access) (fail : Bool) (t : Transfer) → transfer_at plan place (b.seat.finished + 1) ≡ t → IsPart t (b.seat.done + 1) a.part
    → b.seat.finished + 1 < 2 ^ 32 → IsQuestion plan place b (miss_of b.seat a fail)
part_question plan place b a fail t at part few = record {
  asked = ap (λ t. record { line = b.seat.finished + 1; part = part_with t a.part.iova; iova = a.part.iova; len = a.part.len; need = need_of a.work; fail = fail }) at
      ∙ ap (λ k. record { line = b.seat.finished + 1; part = k; iova = a.part.iova; len = a.part.len; need = need_of a.work; fail = fail }) part.page;
  transfer = part.transfer;
  within = rw at (part.within);
  few = few;
}

pub is_question : (plan : Plan) (place : ℕ) (b : Own) (m : Miss) → IsOwn b → get_or plan.transfers place [] ≡ map (λ l. transfer_of l.job) b.lines → PartsAllJoin → own_wish b ≡ Asks m → IsQuestion plan place b m
is_question plan place b m own known joins h =
    let w = asks_current b m h in
    let open_line : nat_le (length b.lines) b.seat.finished ≡ false = w.0 in
    let q = current_asks b.seat (own_access b) m w.1 in
    let p : HasPart b.id (b.seat.done + 1) (current_line b) q.0 = has_part b.id (b.seat.done + 1) (current_line b) q.0 q.1 in
    let below : b.seat.finished < length b.lines = grind (arith, nat_tests) in
    let count : length b.lines < 2 ^ 32 = own.count in
    let here : get_or b.lines b.seat.finished p.line ≡ p.line = get_or_from_slice_get b.lines b.seat.finished p.line p.line p.line_is in
    let well : TransfersWell p.line.job = subst (λ (l : Line). TransfersWell l.job) here (own.transfers b.seat.finished p.line below) in
    let part : IsPart (transfer_of p.line.job) (b.seat.done + 1) q.0.part = job_part b.id (b.seat.done + 1) p.line.job q.0 joins well p.some p.within p.access in
    let at = transfer_in plan place b.seat.finished b.lines p.line known p.line_is in
    subst (λ m. IsQuestion plan place b m) (sym q.3) (part_question plan place b q.0 q.2 (transfer_of p.line.job) at part (omega (arith, below, count)))
