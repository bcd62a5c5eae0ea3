-- The table of submitted lines, and a line more in it whose head no chain of a list has.
use Rattle.std.proofs.Common.{◌≡◌, ◌≢◌, ℕ, ◌<◌, List, [], ◌∷◌, length, map, set, refl, ap}
use Rattle.std.specs.Prelude.{count_by, ◌==◌, if◌then◌else◌}
use Rattle.std.specs.List.{AllByRecursion}
use Rattle.std.proofs.lemmas.List.{get_or-set_same, get_or-set_other}
use Rattle.vi_vring.specs.Values as ring
use Rattle.vi_vring.specs.Moves.{without_popped, without_used}
use Rattle.vi_calls.specs.declared.calls.Submitted.{Submitted}
use Rattle.vi_calls.specs.Inner.{line_at, no_line, queued_by, taken_by, Fits}
use Rattle.vi_calls.proofs.Counting.{has, without, absent-head}

abbrev pub queued_head : ring.Queued → ℕ
queued_head q = q.head

abbrev pub used_head : ring.Used → ℕ
used_head u = u.head

pub popped-without : (head : ℕ) (qs : List ring.Queued) → without_popped head qs ≡ without queued_head head qs
popped-without head [] = refl
popped-without head (q ∷ qs) = ap (λ rest. if q.head == head then qs else q ∷ rest) (popped-without head qs)

pub used-without : (head : ℕ) (us : List ring.Used) → without_used head us ≡ without used_head head us
used-without head [] = refl
used-without head (u ∷ us) = ap (λ rest. if u.head == head then us else u ∷ rest) (used-without head us)

module _ (table : List Submitted) (head : ℕ) (line : Submitted) where
  pub line-new : head < length table → line_at (set table head line) head ≡ line
  line-new lt = get_or-set_same table head line no_line lt

  pub line-other : (other : ℕ) → other ≢ head → line_at (set table head line) other ≡ line_at table other
  line-other other e = get_or-set_other table head other line no_line e

  pub queued-other : (qs : List ring.Queued) → count_by (has queued_head head) qs ≡ 0 → map (queued_by (set table head line)) qs ≡ map (queued_by table) qs
  queued-other [] none = refl
  queued-other (q ∷ qs) none =
      let a = absent-head queued_head head q qs none in
      rw (line-other q.head a.0, queued-other qs a.1) refl

  pub taken-other : (qs : List ring.Queued) → count_by (has queued_head head) qs ≡ 0 → map (taken_by (set table head line)) qs ≡ map (taken_by table) qs
  taken-other [] none = refl
  taken-other (q ∷ qs) none =
      let a = absent-head queued_head head q qs none in
      rw (line-other q.head a.0, taken-other qs a.1) refl

  pub Fits-other : (qs : List ring.Queued) → count_by (has queued_head head) qs ≡ 0 → AllByRecursion (Fits table) qs → AllByRecursion (Fits (set table head line)) qs
  Fits-other [] none all = tt
  Fits-other (q ∷ qs) none all =
      let a = absent-head queued_head head q qs none in
      let same = line-other q.head a.0 in
      (record { driver = rw same all.0.driver; read = rw same all.0.read; write = rw same all.0.write; small = all.0.small }, Fits-other qs a.1 all.1)
