-- The drivers' rows by their tokens and the used chains.
use Rattle.std.proofs.Common.{◌≡◌, ◌≢◌, ℕ, zero, suc, ◌+◌, ◌<◌, ◌≤◌, Bool, true, false, List, [], ◌∷◌, length, map, get_or, set, Option, Some, None, refl, ap, sym, ◌∙◌, arith}
use Rattle.std.specs.Prelude.{count_by, sum_by, ◌==◌}
use Rattle.std.proofs.lemmas.List.{map-append, map-set, get_or-map}
use Rattle.std.proofs.lemmas.List.Sums.{sum_by-cons, sum_by-set}
use Rattle.vi_history.specs.Replies.{set_answer}
use Rattle.vi_vring.specs.Values as ring
use Rattle.vi_model.specs.Control.{Setting, no_port}
use Rattle.vi_calls.specs.declared.row.Token.{Token}
use Rattle.vi_calls.specs.declared.calls.Submitted.{Submitted}
use Rattle.vi_calls.specs.Value.{port_at}
use Rattle.vi_calls.specs.Moves.{with_row, left, with_posted, answered}
use Rattle.vi_calls.specs.Rows.{RowValue, added, is_in, is_head}
use Rattle.vi_calls.specs.Inner.{bytes_of, answer_in, answered_by, port_by, shown, tokens_with}
use Rattle.vi_calls.proofs.Counting.{one, count-cons, not-at}

-- but for one head, both have the same bytes
abbrev pub Agree : ℕ → List ring.Used → List ring.Used → Type 0
Agree head us vs = (other : ℕ) → other ≢ head → bytes_of us other ≡ bytes_of vs other

pub tokens-same : (head : ℕ) (us vs : List ring.Used) → Agree head us vs → (ts : List Token) → count_by (is_in head) ts ≡ 0 → map (answered_by us) ts ≡ map (answered_by vs) ts
tokens-same head us vs same [] none = refl
tokens-same head us vs same (t ∷ ts) none =
    let rest = tokens-same head us vs same ts (omega (arith, none, count-cons (is_in head) t ts)) in
    let mine = go t.head (omega (arith, none, count-cons (is_in head) t ts)) in
    rw (mine, rest) refl
  where
    at : (k : ℕ) (b : Bool) → (k == head) ≡ b → one b ≡ 0 → answer_in us (Some k) ≡ answer_in vs (Some k)
    at k true e none = absurd (omega arith)
    at k false e none = rw (same k (not-at k head e)) refl

    go : (o : Option ℕ) → one (is_head head o) ≡ 0 → answer_in us o ≡ answer_in vs o
    go None none = refl
    go (Some k) none = at k (k == head) refl none

pub port-same : (head : ℕ) (us vs : List ring.Used) → Agree head us vs → (r : RowValue) → tokens_with head r ≡ 0 → port_by us r ≡ port_by vs r
port-same head us vs same r none = rw (tokens-same head us vs same r.answered none) refl

pub ports-same : (head : ℕ) (us vs : List ring.Used) → Agree head us vs → (rows : List RowValue) → sum_by (tokens_with head) rows ≡ 0 → map (port_by us) rows ≡ map (port_by vs) rows
ports-same head us vs same [] none = refl
ports-same head us vs same (r ∷ rows) none =
    let mine = port-same head us vs same r (omega (arith, none, sum_by-cons (tokens_with head) r rows)) in
    let rest = ports-same head us vs same rows (omega (arith, none, sum_by-cons (tokens_with head) r rows)) in
    rw (mine, rest) refl

-- one row counts no more than all
pub row-below : (f : RowValue → ℕ) (rows : List RowValue) (d : ℕ) (row : RowValue) → d < length rows → row ≡ get_or rows d row → f row ≤ sum_by f rows
row-below f [] d row lt is = absurd (omega (arith, lt))
row-below f (r ∷ rows) zero row lt is = rw is (omega (arith, sum_by-cons f r rows))
row-below f (r ∷ rows) (suc d) row lt is = omega (arith, sum_by-cons f r rows, row-below f rows d row (omega (arith, lt)) is)

-- a row is changed
pub sum-row : (f : RowValue → ℕ) (rows : List RowValue) (d : ℕ) (row new : RowValue) → d < length rows → row ≡ get_or rows d row → sum_by f (set rows d new) + f row ≡ sum_by f rows + f new
sum-row f rows d row new lt is = ap (λ r. sum_by f (set rows d new) + f r) is ∙ sum_by-set f rows d new row lt

module _ (table : List Submitted) (rows : List RowValue) (l : ring.Lists) (d : ℕ) (row : RowValue) (lt : d < length rows) (is : row ≡ get_or rows d row) where
  pub port-row : port_at (shown table rows l) d ≡ port_by l.used row
  port-row = get_or-map (port_by l.used) rows d row no_port lt ∙ ap (port_by l.used) (sym is)

  pub shown-row : (new : RowValue) → shown table (set rows d new) l ≡ with_row d (port_by l.used new) (shown table rows l)
  shown-row new = rw (map-set (port_by l.used) rows d new) refl

  pub left-is : (new : RowValue) (x : Option Setting) → new ≡ record row { setting = x } → shown table (set rows d new) l ≡ left d x (shown table rows l)
  left-is new x e = rw (e, shown-row (record row { setting = x }), port-row) refl

  pub posted-is : (new : RowValue) (lines : ℕ) → new ≡ record row { posted = lines } → shown table (set rows d new) l ≡ with_posted d lines (shown table rows l)
  posted-is new lines e = rw (e, shown-row (record row { posted = lines }), port-row) refl

  pub set-is : (new : RowValue) (line : ℕ) → new ≡ added (record { line = line; head = None }) row → shown table (set rows d new) l ≡ answered d line set_answer (shown table rows l)
  set-is new line e =
      let token : Token = record { line = line; head = None } in
      rw (e, shown-row (added token row), map-append (answered_by l.used) row.answered (token ∷ []), port-row) refl
