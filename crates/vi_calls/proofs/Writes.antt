-- A taken chain is answered: it is used, and its driver has an answered line more.
use Rattle.std.proofs.Common.{◌≡◌, ℕ, ◌<◌, ◌≤◌, Bool, true, false, not, List, [], ◌∷◌, ◌++◌, length, map, get_or, set, Option, Some, None, refl, ap, sym, subst, ◌∙◌, arith, length-append}
use Rattle.std.specs.Prelude.{count_by, sum_by, find, filter, ◌==◌, if◌then◌else◌}
use Rattle.std.specs.Option.{option_map, option_or}
use Rattle.std.specs.List.{AllByRecursion}
use Rattle.std.proofs.lemmas.List.{map-append, map-set}
use Rattle.std.proofs.lemmas.List.Folds.{find-append}
use Rattle.vi_vring.specs.Values as ring
use Rattle.vi_vring.specs.declared.chain.Chain.{Chain as ChainData}
use Rattle.vi_vring.specs.Moves.{lists_after_push, head_count, without_popped}
use Rattle.vi_calls.specs.declared.row.Token.{Token}
use Rattle.vi_calls.specs.declared.calls.Submitted.{Submitted}
use Rattle.vi_calls.specs.Replies.{answer_of, AreAnswer}
use Rattle.vi_calls.specs.Value.{has_head, taken_with}
use Rattle.vi_calls.specs.Moves.{answered_chain}
use Rattle.vi_calls.specs.Rows.{RowValue, added, is_in, is_in_chain}
use Rattle.vi_calls.specs.Inner.{line_at, shown, taken_by, answered_by, bytes_of, bytes_or, port_by, tokens_with, chains_in, Fits, HasAnswer, AreTied}
use Rattle.vi_calls.proofs.Counting.{count-push, is-same, is-other, All-push, All-without, has, without, find-absent, find-All, map-filter, without-filter, count-without}
use Rattle.vi_calls.proofs.Tables.{queued_head, used_head, popped-without}
use Rattle.vi_calls.proofs.Ports.{Agree, tokens-same, ports-same, row-below, sum-row, port-row}

-- a taken chain is found as its popped one is
pub taken-found : (table : List Submitted) (head : ℕ) (qs : List ring.Queued) → find (has_head head) (map (taken_by table) qs) ≡ option_map (taken_by table) (find (has queued_head head) qs)
taken-found table head [] = refl
taken-found table head (q ∷ qs) = go (q.head == head) (taken-found table head qs)
  where
    go : (b : Bool) → find (has_head head) (map (taken_by table) qs) ≡ option_map (taken_by table) (find (has queued_head head) qs)
        → (if b then Some (taken_by table q) else find (has_head head) (map (taken_by table) qs)) ≡ option_map (taken_by table) (if b then Some q else find (has queued_head head) qs)
    go true e = refl
    go false e = e

-- the bytes of a chain that is used last, and of the others
agree-push : (us : List ring.Used) (u : ring.Used) → Agree u.head (us ++ u ∷ []) us
agree-push us u other e =
    let no : (u.head == other) ≡ false = is-other other u.head e in
    let found : find (has used_head other) (us ++ u ∷ []) ≡ find (has used_head other) us = find-append (has used_head other) us (u ∷ []) ∙ (rw no (or-none (find (has used_head other) us))) in
    ap bytes_or found
  where
    or-none : (o : Option ring.Used) → option_or o None ≡ o
    or-none None = refl
    or-none (Some x) = refl

bytes-push : (us : List ring.Used) (u : ring.Used) → count_by (has used_head u.head) us ≡ 0 → bytes_of (us ++ u ∷ []) u.head ≡ u.bytes
bytes-push us u none =
    let found : find (has used_head u.head) (us ++ u ∷ []) ≡ Some u = find-append (has used_head u.head) us (u ∷ []) ∙ (rw (find-absent used_head u.head us none, is-same u.head) refl) in
    ap bytes_or found

module _ (table : List Submitted) (rows : List RowValue) (l : ring.Lists) (t : AreTied table rows l)
    (chain : ChainData) (q : ring.Queued) (found : find (has queued_head chain.head) l.popped ≡ Some q) (bytes : List ℕ)
    (row : RowValue) (lt : (line_at table chain.head).driver < length rows) (is : row ≡ get_or rows (line_at table chain.head).driver row) where
  abbrev line : Submitted
  line = line_at table chain.head

  abbrev token : Token
  token = record { line = line.line; head = Some chain.head }

  abbrev used : ring.Used
  used = record { head = chain.head; read = chain.read; write = chain.write; bytes = bytes }

  popped-once : 1 ≤ count_by (has queued_head chain.head) l.popped
  popped-once = (find-All queued_head (Fits table) chain.head l.popped q found t.popped).2

  q-head : q.head ≡ chain.head
  q-head = (find-All queued_head (Fits table) chain.head l.popped q found t.popped).1

  used-none : count_by (has used_head chain.head) l.used ≡ 0
  used-none = omega (arith, popped-once, t.once chain.head)

  rows-none : sum_by (tokens_with chain.head) rows ≡ 0
  rows-none = t.owned chain.head ∙ used-none

  row-none : tokens_with chain.head row ≡ 0
  row-none = omega (arith, row-below (tokens_with chain.head) rows line.driver row lt is, rows-none)

  agree : Agree chain.head (l.used ++ used ∷ []) l.used
  agree = agree-push l.used used

  pub write-is : shown table (set rows line.driver (added token row)) (lists_after_push chain bytes l) ≡ answered_chain chain.head (answer_of bytes) (shown table rows l)
  unfolding answered_chain
  write-is =
      let known : taken_with chain.head (shown table rows l) ≡ Some (taken_by table q) = taken-found table chain.head l.popped ∙ ap (option_map (taken_by table)) found in
      let left : map (taken_by table) (without_popped chain.head l.popped) ≡ filter (λ x. not (has_head chain.head x)) (map (taken_by table) l.popped) =
      ap (map (taken_by table)) (popped-without chain.head l.popped ∙ without-filter queued_head chain.head l.popped (omega (arith, t.once chain.head)))
      ∙ sym (map-filter (taken_by table) (λ x. not (has_head chain.head x)) l.popped) in
      let others = ports-same chain.head (l.used ++ used ∷ []) l.used agree rows rows-none in
      let mine = tokens-same chain.head (l.used ++ used ∷ []) l.used agree row.answered row-none in
      rw (
        known,
        q-head,
        left,
        map-set (port_by (l.used ++ used ∷ [])) rows line.driver (added token row),
        others,
        map-append (answered_by (l.used ++ used ∷ [])) row.answered (token ∷ []),
        mine,
        bytes-push l.used used used-none,
        port-row table rows l line.driver row lt is,
      ) refl

  counts : (k : ℕ) → head_count k (lists_after_push chain bytes l) ≡ head_count k l
  counts k =
      let gone : count_by (has queued_head k) (without_popped chain.head l.popped) ≡ count_by (has queued_head k) (without queued_head chain.head l.popped) = ap (count_by (has queued_head k)) (popped-without chain.head l.popped) in
      omega (arith, gone, count-without queued_head chain.head k l.popped popped-once, count-push (has used_head k) l.used used)

  pub AreTied-write : AreAnswer bytes → AreTied table (set rows line.driver (added token row)) (lists_after_push chain bytes l)
  AreTied-write answer = record {
    once = λ k. omega (arith, counts k, t.once k);
    below = λ k some. t.below k (omega (arith, counts k, some));
    owned = λ k. omega (arith, sum-row (tokens_with k) rows line.driver row (added token row) lt is, count-push (is_in k) row.answered token, count-push (has used_head k) l.used used, t.owned k);
    chains = omega (arith, sum-row chains_in rows line.driver row (added token row) lt is, count-push is_in_chain row.answered token, length-append l.used (used ∷ []), t.chains);
    available = t.available;
    popped = subst (λ qs. AllByRecursion (Fits table) qs) (sym (popped-without chain.head l.popped)) (All-without queued_head (Fits table) chain.head l.popped t.popped);
    replies = All-push HasAnswer l.used used t.replies answer;
  }
