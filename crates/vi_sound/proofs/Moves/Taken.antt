-- What a removal takes away is with nobody when its entry is made.
use Rattle.std.proofs.Common.{◌≡◌, ℕ, ◌<◌, false, true, List, [], ◌∷◌, Some, ◌∙◌, sym}
use Rattle.std.specs.List.{AllByRecursion}
use Rattle.std.proofs.lemmas.Bool.{false_from_ne_true}
use Rattle.vi_bytes.specs.Leases.{has_page}
use Rattle.vi_bytes.specs.declared.lease.Lease.{Lease}
use Rattle.vi_history.specs.Device.{Dev}
use Rattle.vi_lines.specs.Value.{ScriptValue}
use Rattle.vi_model.specs.Tasks.{closes}
use Rattle.vi_model.specs.declared.task.Task.{Task}
use Rattle.vi_model.specs.Lanes.{Down, Update, Invalidate}
use Rattle.vi_model.specs.Grants.{lease_under}
use Rattle.vi_grants.specs.declared.row.Grant.{Grant}
use Rattle.vi_model.specs.Control.{link_of}
use Rattle.vi_model.specs.Places.{place_count, id_at}
use Rattle.vi_model.specs.Starts.{awaited_by, any}
use Rattle.vi_model.specs.Worlds.{World, seat_of}
use Rattle.vi_model.specs.Links.{IsGranted, AreGranted, UpdatesAreGranted}
use Rattle.vi_model.specs.Sound.{SoundParts, IsSound}
use Rattle.vi_model.specs.Taken.{LeavesLease, LeavesUpdates, IsTaken, FinishedIsTaken, StartedIsTaken}
use Rattle.vi_sound.proofs.Values.Leases.{none_page}
use Rattle.vi_sound.proofs.Moves.Starts.{ready_far, must_wait_for}
use Rattle.vi_sound.proofs.Moves.Calls.{awaited_here, any_none}

-- the task closes no page of a granted lease
abbrev LeavesGrants : Dev → Task → ℕ → List Grant → Type 0
LeavesGrants dev q e g = (p : ℕ) (l : Lease) → lease_under p g ≡ Some l → (n : ℕ) → has_page l n ≡ true → closes dev q e n ≡ false

left_lease : (dev : Dev) (q : Task) (e : ℕ) (g : List Grant) (l : Lease) → LeavesGrants dev q e g → IsGranted g l → LeavesLease dev q e l
left_lease dev q e g l none is = none_page (closes dev q e) l (λ n i. none is.0 l is.1 n i)

left_cache : (dev : Dev) (q : Task) (e : ℕ) (g : List Grant) (ls : List Lease) → LeavesGrants dev q e g → AreGranted g ls → AllByRecursion (LeavesLease dev q e) ls
left_cache dev q e g [] none a = tt
left_cache dev q e g (l ∷ ls) none a = (left_lease dev q e g l none a.0, left_cache dev q e g ls none a.1)

left_sent : (dev : Dev) (q : Task) (e : ℕ) (g : List Grant) (fs : List Down) → LeavesGrants dev q e g → UpdatesAreGranted g fs → LeavesUpdates dev q e fs
left_sent dev q e g [] none a = tt
left_sent dev q e g (Update l ∷ fs) none a = (left_lease dev q e g l none a.0, left_sent dev q e g fs none a.1)
left_sent dev q e g (Invalidate r ∷ fs) none a = left_sent dev q e g fs none a

taken_where : (s : ScriptValue) (w : World) (q : Task) → SoundParts s w → ((k : ℕ) → k < place_count s → LeavesGrants w.control.dev q (id_at s k) (link_of w.control k).grants) → IsTaken s w q
taken_where s w q ok none = record {
  cached = λ k lt. left_cache w.control.dev q (id_at s k) (link_of w.control k).grants (seat_of w k).cache (none k lt) (ok.backs k lt).link.cached;
  sent = λ k lt. left_sent w.control.dev q (id_at s k) (link_of w.control k).grants (link_of w.control k).down (none k lt) (ok.backs k lt).link.updates;
}

pub finished_is_taken : FinishedIsTaken
unfolding IsSound
finished_is_taken s w r ok h =
    taken_where s w r.task ok (λ k lt p l f n i. ready_far w.control.dev (id_at s k) k (link_of w.control k).grants r w.control.removals h (ok.backs k lt).link.wait p l f n i)

started_far : (s : ScriptValue) (w : World) (q : Task) (k : ℕ) → k < place_count s → any (awaited_by s w.control q) ≡ false → LeavesGrants w.control.dev q (id_at s k) (link_of w.control k).grants
started_far s w q k lt h p l f n i =
    let idle = sym (awaited_here s w.control q k lt) ∙ any_none (awaited_by s w.control q) k h in
    false_from_ne_true (closes w.control.dev q (id_at s k) n) (λ c. let m = must_wait_for w.control.dev q (id_at s k) p n l (link_of w.control k).grants f i c in absurd cc)

pub started_is_taken : StartedIsTaken
unfolding IsSound
started_is_taken s w q ok h = taken_where s w q ok (λ k lt. started_far s w q k lt h)
