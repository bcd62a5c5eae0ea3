-- What the device makes of a miss, by where its address leads.
use Rattle.std.proofs.Common.{◌≡◌, ℕ, true, false, cond, [], Some, None, ap, subst, ◌∙◌}
use Rattle.vi_bytes.specs.FaultRecords.{fault_record}
use Rattle.vi_history.specs.Runs.{run}
use Rattle.vi_history.specs.Translation.{translate}
use Rattle.vi_history.specs.declared.entry.Entry.{Entry}
use Rattle.vi_history.specs.declared.found.Found.{Found}
use Rattle.vi_history.specs.declared.found.Found.TheVariants as found
use Rattle.vi_model.specs.Control.{Link, Control, Made, with_link}
use Rattle.vi_model.specs.Cuts.{open_run}
use Rattle.vi_model.specs.Lanes.{Miss}
use Rattle.vi_model.specs.Places.{id_at}
use Rattle.vi_model.specs.Removals.{closed}
use Rattle.vi_model.specs.Serves.{page_of, is_shut, serve_found, serve_miss, parked_link, granted_link, faulted_link, noted}
use Rattle.vi_lines.specs.Value.{ScriptValue}
use Rattle.vi_control.specs.Serving.{fault_mark}
use Rattle.vi_control.specs.Value.{entry_with}

-- a turn that answers nobody
abbrev pub quiet : Control → Made
quiet c = record { control = c; entry = None }

-- a turn that answers with this entry
abbrev pub loud : Control → Entry → Made
loud c e = record { control = c; entry = Some e }

abbrev pub GrantedAt : ℕ → ScriptValue → Control → ℕ → Link → Miss → Type 0
GrantedAt id s c place x m = serve_miss s c place x m ≡ quiet (with_link c place (granted_link x (page_of m.iova) (open_run c.dev id place c.removals (page_of m.iova) (run c.dev id (page_of m.iova)))))

abbrev pub FaultsAt : ℕ → ℕ → ScriptValue → Control → ℕ → Link → Miss → ℕ → Type 0
FaultsAt id buffers s c place x m reason =
    serve_miss s c place x m ≡ loud (let d : Control = with_link c place (faulted_link x) in record d { events = noted buffers c.events (fault_record reason m.need id m.iova) }) (entry_with [] (fault_mark id m reason))

by_found : (s : ScriptValue) (c : Control) (place : ℕ) (x : Link) (m : Miss) (f : Found) → is_shut s c place m ≡ false → translate c.dev (id_at s place) m.iova m.need ≡ f → serve_miss s c place x m ≡ serve_found s c place x m f
unfolding serve_miss
by_found s c place x m f open_page leads =
    ap (λ b. cond b (quiet (with_link c place (parked_link x m))) (serve_found s c place x m (translate c.dev (id_at s place) m.iova m.need))) open_page
    ∙ ap (serve_found s c place x m) leads

-- on a closed page it is parked
shut_here : (s : ScriptValue) (c : Control) (place : ℕ) (x : Link) (m : Miss) → is_shut s c place m ≡ true → serve_miss s c place x m ≡ quiet (with_link c place (parked_link x m))
unfolding serve_miss
shut_here s c place x m shut = ap (λ b. cond b (quiet (with_link c place (parked_link x m))) (serve_found s c place x m (translate c.dev (id_at s place) m.iova m.need))) shut

pub miss_shut : (id : ℕ) (s : ScriptValue) (c : Control) (place : ℕ) (x : Link) (m : Miss) → id_at s place ≡ id → closed c.dev id place (page_of m.iova) c.removals ≡ true
    → serve_miss s c place x m ≡ quiet (with_link c place (parked_link x m))
miss_shut id s c place x m same shut = shut_here s c place x m (ap (λ i. closed c.dev i place (page_of m.iova) c.removals) same ∙ shut)

-- where its address leads somewhere it is granted a lease
pub miss_granted : (id : ℕ) (s : ScriptValue) (c : Control) (place : ℕ) (x : Link) (m : Miss) (target : ℕ) → id_at s place ≡ id → closed c.dev id place (page_of m.iova) c.removals ≡ false
    → translate c.dev id m.iova m.need ≡ found.At target → GrantedAt id s c place x m
miss_granted id s c place x m target same open_page leads =
    subst (λ i. GrantedAt i s c place x m) same
    (by_found s c place x m (found.At target) (ap (λ i. closed c.dev i place (page_of m.iova) c.removals) same ∙ open_page) (ap (λ i. translate c.dev i m.iova m.need) same ∙ leads))

-- and where it faults a record of the fault is written
pub miss_faulted : (id buffers : ℕ) (s : ScriptValue) (c : Control) (place : ℕ) (x : Link) (m : Miss) (reason : ℕ) → id_at s place ≡ id → s.setup.queue ≡ buffers → closed c.dev id place (page_of m.iova) c.removals ≡ false
    → translate c.dev id m.iova m.need ≡ found.Fault reason → FaultsAt id buffers s c place x m reason
miss_faulted id buffers s c place x m reason same size open_page leads =
    subst (λ i. FaultsAt i buffers s c place x m reason) same
    (subst (λ n. FaultsAt (id_at s place) n s c place x m reason) size
    (by_found s c place x m (found.Fault reason) (ap (λ i. closed c.dev i place (page_of m.iova) c.removals) same ∙ open_page) (ap (λ i. translate c.dev i m.iova m.need) same ∙ leads)))
