-- The calls of a valid script can be followed.
use Rattle.std.proofs.Common.{◌≡◌, ◌==◌, ℕ, zero, suc, ◌+◌, ◌-◌, ◌^◌, ◌<◌, ◌≤◌, Bool, true, false, not, ◌&&◌, ◌||◌, nat_eq, nat_le, nat_lt, cond, List, [], ◌∷◌, length, map, drop, get_or, slice_get, Option, Some, None, refl, sym, subst, arith, length-take, length-drop}
use Rattle.std.specs.Prelude.{IfSome, IsSome}
use Rattle.std.specs.List.{filter, find}
use Rattle.std.proofs.lemmas.Bool.{and_parts, leb-true, false≢true}
use Rattle.std.proofs.lemmas.List.Elements.{All-filter, All-get_or}
use Rattle.std.proofs.lemmas.List.Sums.{AllPass-from_list_all}
use Rattle.vi_bytes.specs.Parts.{IsTransfer, part_count, part_start, nth_part}
use Rattle.vi_bytes.specs.declared.region.EndpointSetup.{EndpointSetup}
use Rattle.vi_bytes.proofs.PartLemmas.{one-le-nth_part, nth_part-end}
use Rattle.vi_history.specs.Device.{endpoint_of}
use Rattle.vi_history.specs.Start.{start, unattached}
use Rattle.vi_history.specs.declared.call.Call.{Call}
use Rattle.vi_history.specs.declared.call.Call.TheVariants as call
use Rattle.vi_history.specs.declared.call.Caller.{Caller}
use Rattle.vi_history.specs.declared.call.Caller.TheVariants.{Driver, Back}
use Rattle.vi_history.specs.declared.entry.Entry.{Entry}
use Rattle.vi_lines.specs.declared.job.Job.{Job}
use Rattle.vi_lines.specs.declared.job.Job.TheVariants as job
use Rattle.vi_lines.specs.declared.line.Line.{Line}
use Rattle.vi_lines.specs.Calls.{same_caller, line_of, call_of, call_in, driver_call, back_call, part_bytes, parts_of, TransfersWell}
use Rattle.vi_lines.specs.Rules.{job_runs_over}
use Rattle.vi_lines.specs.Limits.{is_job}
use Rattle.vi_lines.specs.Valid.{IsValid, has_endpoint, is_line, is_caller_in, does}
use Rattle.vi_lines.specs.Value.{ScriptValue}
use Rattle.vi_lines.proofs.IndexLemmas.{line_of-caller}
use Rattle.vi_lines.proofs.TransferLemmas.{HasTransfers-from_valid}
use Rattle.vi_state.specs.Followed.{IsInOnePage, IsCarried, IsFollowed}
use Rattle.vi_dirty.specs.Led.{called}

found_at : {X : Type 0} (xs : List X) (i : ℕ) (x d : X) → slice_get xs i ≡ Some x → (i < length xs) × (get_or xs i d ≡ x)
found_at [] i x d e = absurd (cc)
found_at (y ∷ ys) zero x d e = (omega arith, cc)
found_at (y ∷ ys) (suc i) x d e = let r = found_at ys i x d e in (omega (arith, r.0), r.1)

-- a caller's line is a valid one
line_valid : (s : ScriptValue) (caller : Caller) (line : ℕ) (l : Line) → IsValid s → line_of s caller line ≡ Some l → is_line s.setup.endpoints l ≡ true
line_valid s caller zero l v e = absurd (cc)
line_valid s caller (suc k) l v e =
    let all = AllPass-from_list_all (λ (l : Line). is_line s.setup.endpoints l) s.lines v.lines_each in
    let own = filter (λ (l : Line). same_caller l.caller caller) s.lines in
    let at = found_at own k l l e in
    subst (λ (x : Line). is_line s.setup.endpoints x ≡ true) at.1 (All-get_or (λ (x : Line). is_line s.setup.endpoints x ≡ true) own k l at.0 (All-filter (λ (l : Line). same_caller l.caller caller) (λ (x : Line). is_line s.setup.endpoints x ≡ true) s.lines all))

-- the caller is one of the script's, and the job is within its limits
line_fits : (es : List EndpointSetup) (l : Line) → is_line es l ≡ true → (is_caller_in es l.caller ≡ true) × (is_job l.job ≡ true)
line_fits es l h =
    let few = nat_le (length l.awaits) 16 in
    let a = and_parts (is_caller_in es l.caller) (does l.caller l.add l.job && (is_job l.job && (not (job_runs_over l.job) && few))) h in
    let b = and_parts (does l.caller l.add l.job) (is_job l.job && (not (job_runs_over l.job) && few)) a.1 in
    (a.0, (and_parts (is_job l.job) (not (job_runs_over l.job) && few) b.1).0)

-- a declared endpoint is one of the device
declared : (es : List EndpointSetup) (id : ℕ) → has_endpoint es id ≡ true → IsSome (find (λ x. x.id == id) (map (λ e. unattached e) es))
declared [] id h = absurd (false≢true h)
declared (e ∷ es) id h = go (e.id == id) (declared es id) h
  where
    go : (v : Bool) → (has_endpoint es id ≡ true → IsSome (find (λ x. x.id == id) (map (λ e. unattached e) es))) → (v || has_endpoint es id) ≡ true
        → IsSome (cond v (Some (unattached e)) (find (λ x. x.id == id) (map (λ e. unattached e) es)))
    go true rest h = refl
    go false rest h = rest h

-- a part of a transfer lies in one page
in_one_page : (iova len k : ℕ) → IsTransfer iova len → 1 ≤ k → k ≤ part_count iova len → IsInOnePage (nth_part iova len k)
in_one_page iova len k t first last = record {
  some = one-le-nth_part iova len k t.some first last;
  ends = omega (arith, one-le-nth_part iova len k t.some first last);
}

length-part_bytes : (iova : ℕ) (bytes : List ℕ) (k : ℕ) → IsTransfer iova (length bytes) → 1 ≤ k → k ≤ part_count iova (length bytes) → length (part_bytes iova bytes k) ≡ (nth_part iova (length bytes) k).len
length-part_bytes iova bytes k t first last =
    omega (arith, length-take (nth_part iova (length bytes) k).len (drop (part_start iova k) bytes), length-drop (part_start iova k) bytes, nth_part-end iova (length bytes) k first last, one-le-nth_part iova (length bytes) k t.some first last)

driver_followed : (s : ScriptValue) (j : Job) (c : Call) → is_job j ≡ true → driver_call j ≡ Some c → IsFollowed (start s.setup) c × IsCarried c
driver_followed s (job.Ask request) c fits is = let same : call.Ask request ≡ c = cc in (subst (IsFollowed (start s.setup)) same tt, subst IsCarried same tt)
driver_followed s (job.Raw read write) c fits is =
    let small : length read ≤ 1024 = leb-true (length read) 1024 (and_parts (nat_le (length read) 1024) (nat_le write 1024 && nat_lt 0 (length read + write)) fits).0 in
    let below : length read < 2 ^ 32 - 1 = omega (arith, small) in
    let same : call.Raw read write ≡ c = cc in
    (subst (IsFollowed (start s.setup)) same below, subst IsCarried same below)
driver_followed s (job.Bypass on) c fits is = let same : call.Bypass on ≡ c = cc in (subst (IsFollowed (start s.setup)) same tt, subst IsCarried same tt)
driver_followed s (job.Read iova len) c fits is = absurd (cc is)
driver_followed s (job.Write iova bytes) c fits is = absurd (cc is)

back_followed : (s : ScriptValue) (endpoint : ℕ) (j : Job) (k : ℕ) (c : Call) → IsSome (endpoint_of (start s.setup).dev endpoint) → TransfersWell j → 1 ≤ k → k ≤ parts_of j → back_call endpoint j k ≡ Some c
    → IsFollowed (start s.setup) c × IsCarried c
back_followed s endpoint (job.Ask request) k c there t first last is = absurd (cc is)
back_followed s endpoint (job.Raw read write) k c there t first last is = absurd (cc is)
back_followed s endpoint (job.Bypass on) k c there t first last is = absurd (cc is)
back_followed s endpoint (job.Read iova len) k c there t first last is =
    let same : call.Read endpoint (nth_part iova len k) ≡ c = cc in
    (subst (IsFollowed (start s.setup)) same (there, in_one_page iova len k t first last), subst IsCarried same tt)
back_followed s endpoint (job.Write iova bytes) k c there t first last is =
    let same : call.Write endpoint (nth_part iova (length bytes) k) (part_bytes iova bytes k) ≡ c = cc in
    (subst (IsFollowed (start s.setup)) same (there, in_one_page iova (length bytes) k t first last, length-part_bytes iova bytes k t first last), subst IsCarried same tt)

line_followed : (s : ScriptValue) (caller : Caller) (l : Line) (part : ℕ) (c : Call) → is_caller_in s.setup.endpoints caller ≡ true → is_job l.job ≡ true → TransfersWell l.job → call_in caller part (Some l) ≡ Some c
    → IsFollowed (start s.setup) c × IsCarried c
unfolding start
line_followed s (Driver number) l part c known fits t is = go (nat_eq part 0) is
  where
    go : (b : Bool) → cond b (driver_call l.job) None ≡ Some c → IsFollowed (start s.setup) c × IsCarried c
    go true e = driver_followed s l.job c fits e
    go false e = absurd (cc e)
line_followed s (Back endpoint) l part c known fits t is = go (nat_le 1 part && nat_le part (parts_of l.job)) refl is
  where
    go : (b : Bool) → (nat_le 1 part && nat_le part (parts_of l.job)) ≡ b → cond b (back_call endpoint l.job part) None ≡ Some c → IsFollowed (start s.setup) c × IsCarried c
    go true within e =
        let bounds = and_parts (nat_le 1 part) (nat_le part (parts_of l.job)) within in
        back_followed s endpoint l.job part c (declared s.setup.endpoints endpoint known) t (leb-true 1 part bounds.0) (leb-true part (parts_of l.job) bounds.1) e
    go false within e = absurd (cc e)

-- the call that an entry answers
pub called_followed : (s : ScriptValue) (h : Entry) (c : Call) → IsValid s → called s h ≡ Some c → IsFollowed (start s.setup) c × IsCarried c
unfolding call_of
called_followed s h c v is = go (line_of s h.mark.caller h.mark.line) refl is
  where
    go : (o : Option Line) → line_of s h.mark.caller h.mark.line ≡ o → call_in h.mark.caller h.mark.part o ≡ Some c → IsFollowed (start s.setup) c × IsCarried c
    go None e f = absurd (cc f)
    go (Some l) e f =
        let own = line_of-caller s h.mark.caller h.mark.line l (HasTransfers-from_valid s v) e in
        let fits = line_fits s.setup.endpoints l (line_valid s h.mark.caller h.mark.line l v e) in
        line_followed s h.mark.caller l h.mark.part c (subst (λ (x : Caller). is_caller_in s.setup.endpoints x ≡ true) own.0 fits.0) fits.1 own.1 f

pub carried : (s : ScriptValue) (h : Entry) (o : Option Call) → IsValid s → o ≡ called s h → IfSome o IsCarried
carried s h None v is = tt
carried s h (Some c) v is = (called_followed s h c v (sym is)).1
