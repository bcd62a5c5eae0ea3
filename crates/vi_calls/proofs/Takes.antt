-- The first available chain is popped.
use Rattle.std.proofs.Common.{◌≡◌, ℕ, ◌+◌, true, List, [], ◌∷◌, ◌++◌, length, map, Some, IfSome, refl, ◌∙◌, arith}
use Rattle.std.specs.Prelude.{count_by, find, slice_get, ◌==◌}
use Rattle.std.specs.Option.{option_map}
use Rattle.std.proofs.lemmas.List.Folds.{find-append}
use Rattle.vi_history.specs.Requests.{reading}
use Rattle.vi_history.specs.declared.reading.Reading.{Reading}
use Rattle.vi_vring.specs.Values as ring
use Rattle.vi_vring.specs.declared.chain.Break.{Break}
use Rattle.vi_vring.specs.declared.chain.Chain.{Chain as ChainData}
use Rattle.vi_vring.specs.declared.chain.Popped.TheVariants.{Chain, Empty, Broken}
use Rattle.vi_vring.specs.Moves.{lists_after_pop, first_popped, head_count, popped_bytes}
use Rattle.vi_model.specs.Starts.{queued_call}
use Rattle.vi_model.specs.declared.task.Task.TheVariants.{Reads}
use Rattle.vi_calls.specs.declared.calls.Submitted.{Submitted}
use Rattle.vi_calls.specs.Value.{has_head}
use Rattle.vi_calls.specs.Rows.{RowValue}
use Rattle.vi_calls.specs.Inner.{line_at, queued_by, taken_by, Fits, AreTied}
use Rattle.vi_calls.proofs.Counting.{count-cons, count-push, one-same, is-same, All-push, has, find-absent}
use Rattle.vi_calls.proofs.Tables.{queued_head}

-- nothing is popped where no chain is available
pub take-empty : (available : List ring.Queued) → Empty ≡ first_popped available → available ≡ []
take-empty [] e = refl
take-empty (q ∷ rest) e = absurd (cc)

-- a known chain has no break
pub take-unbroken : (available : List ring.Queued) (fault : Break) → Broken fault ≡ first_popped available → ⊥
take-unbroken [] fault e = absurd (cc)
take-unbroken (q ∷ rest) fault e = absurd (cc)

-- the lists of chains
abbrev pub lists : List ring.Queued → List ring.Queued → List ring.Used → ring.Lists
lists available popped used = record { available = available; popped = popped; used = used }

pub after-none : (popped : List ring.Queued) (used : List ring.Used) (available : List ring.Queued) → available ≡ [] → lists_after_pop (lists available popped used) ≡ lists available popped used
after-none popped used [] e = refl
after-none popped used (q ∷ rest) e = absurd (cc)

pub take-count : (popped : List ring.Queued) (used : List ring.Used) (chain : ChainData) (available : List ring.Queued) → Chain chain ≡ first_popped available
    → length (lists_after_pop (lists available popped used)).available + 1 ≡ length available
take-count popped used chain [] e = absurd (cc)
take-count popped used chain (q ∷ rest) e = omega arith

pub count-taken : (table : List Submitted) (head : ℕ) (qs : List ring.Queued) → count_by (has_head head) (map (taken_by table) qs) ≡ count_by (has queued_head head) qs
count-taken table head [] = refl
count-taken table head (q ∷ qs) =
    omega (arith, count-cons (has_head head) (taken_by table q) (map (taken_by table) qs), count-cons (has queued_head head) q qs, count-taken table head qs)

module _ (table : List Submitted) (rows : List RowValue) (popped : List ring.Queued) (used : List ring.Used) where
  count-moved : (q : ring.Queued) (rest : List ring.Queued) (k : ℕ) → head_count k (lists rest (popped ++ q ∷ []) used) ≡ head_count k (lists (q ∷ rest) popped used)
  count-moved q rest k = omega (arith, count-cons (has queued_head k) q rest, count-push (has queued_head k) popped q)

  pub AreTied-pop : (available : List ring.Queued) → AreTied table rows (lists available popped used) → AreTied table rows (lists_after_pop (lists available popped used))
  AreTied-pop [] t = t
  AreTied-pop (q ∷ rest) t = record {
    once = λ k. omega (arith, count-moved q rest k, t.once k);
    below = λ k some. t.below k (omega (arith, count-moved q rest k, some));
    owned = t.owned;
    chains = t.chains;
    available = t.available.1;
    popped = All-push (Fits table) popped q t.popped t.available.0;
    replies = t.replies;
  }

  module _ (chain : ChainData) where
    alone : (q : ring.Queued) (rest : List ring.Queued) → AreTied table rows (lists (q ∷ rest) popped used) → count_by (has queued_head q.head) popped ≡ 0
    alone q rest t = omega (arith, t.once q.head, count-cons (has queued_head q.head) q rest, one-same q.head)

    pub take-asks : (available : List ring.Queued) (asked : Reading) → Chain chain ≡ first_popped available → AreTied table rows (lists available popped used)
        → IfSome (popped_bytes chain.head (lists_after_pop (lists available popped used))) (λ bytes. asked ≡ reading bytes chain.write)
        → Some (record { driver = (line_at table chain.head).driver; line = (line_at table chain.head).line; task = Reads asked }) ≡ option_map queued_call (slice_get (map (queued_by table) available) 0)
    take-asks [] asked e t says = absurd (cc)
    take-asks (q ∷ rest) asked e t says =
        let head : chain.head ≡ q.head = cc in
        let write : chain.write ≡ q.writable = cc in
        let self : (q.head == q.head) ≡ true = is-same q.head in
        let found : find (has queued_head q.head) (popped ++ q ∷ []) ≡ Some q =
        find-append (has queued_head q.head) popped (q ∷ []) ∙ (rw (find-absent queued_head q.head popped (alone q rest t), self) refl) in
        let told = rw (head, write, found) at says in
        rw (head, told) refl
