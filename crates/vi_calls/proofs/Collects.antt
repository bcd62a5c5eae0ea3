-- A driver's first answered line leaves, and with it its used chain.
use Rattle.std.proofs.Common.{◌≡◌, ℕ, ◌+◌, ◌<◌, ◌≤◌, Bool, List, length, map, get_or, set, Some, None, refl, ap, sym, subst, ◌∙◌, arith}
use Rattle.std.specs.Prelude.{count_by, sum_by, find, ◌==◌}
use Rattle.std.specs.Option.{option_map}
use Rattle.std.specs.List.{AllByRecursion}
use Rattle.std.proofs.lemmas.List.{map-set, set-get_or}
use Rattle.vi_vring.specs.Values as ring
use Rattle.vi_vring.specs.Moves.{lists_after_collect, without_used}
use Rattle.vi_model.specs.Control.{Port, no_port}
use Rattle.vi_model.specs.Drivers.{other_answers}
use Rattle.vi_calls.specs.declared.row.Token.{Token}
use Rattle.vi_calls.specs.declared.calls.Submitted.{Submitted}
use Rattle.vi_calls.specs.Value.{port_at}
use Rattle.vi_calls.specs.Collecting.{AreAnsweredOnce, first_of, after_collect}
use Rattle.vi_calls.specs.Rows.{RowValue, first_token, other_tokens, without_first, is_in, is_in_chain}
use Rattle.vi_calls.specs.Inner.{shown, answered_by, bytes_or, port_by, tokens_with, chains_in, HasAnswer, AreTied}
use Rattle.vi_calls.proofs.Counting.{one, one-same, has, All-without, find-without, count-without, length-without}
use Rattle.vi_calls.proofs.Tables.{used_head, used-without}
use Rattle.vi_calls.proofs.Firsts.{line_of, count-answers, first-answer, other-answers, count-others}
use Rattle.vi_calls.proofs.Ports.{Agree, ports-same, row-below, sum-row, port-row}

agree-without : (head : ℕ) (us : List ring.Used) → Agree head (without_used head us) us
agree-without head us other e = ap bytes_or (ap (find (has used_head other)) (used-without head us) ∙ find-without used_head head other us e)

module _ (table : List Submitted) (rows : List RowValue) (l : ring.Lists) (t : AreTied table rows l)
    (d : ℕ) (row : RowValue) (lt : d < length rows) (is : row ≡ get_or rows d row) where
  abbrev port : Port
  port = port_by l.used row

  pub first-is : first_of d (shown table rows l) ≡ option_map (answered_by l.used) (first_token row.answered)
  first-is = rw (port-row table rows l d row lt is) (first-answer l.used row.answered)

  -- nothing is answered
  pub collect-none : first_token row.answered ≡ None → shown table (set rows d (without_first (first_token row.answered) row)) l ≡ after_collect d (shown table rows l)
  collect-none none =
      let same : set rows d row ≡ rows = ap (λ r. set rows d r) is ∙ set-get_or rows d row in
      let first : first_of d (shown table rows l) ≡ None = first-is ∙ ap (option_map (answered_by l.used)) none in
      rw (none, same, first, set-get_or (map (port_by l.used) rows) d no_port) refl

  module _ (token : Token) (first : first_token row.answered ≡ Some token) (once : AreAnsweredOnce (port_at (shown table rows l) d).answered) where
    abbrev left : RowValue
    left = record row { answered = other_tokens token.line row.answered }

    pub first-some : first_of d (shown table rows l) ≡ Some (answered_by l.used token)
    first-some = first-is ∙ ap (option_map (answered_by l.used)) first

    lines-once : (line : ℕ) → count_by (has line_of line) row.answered ≤ 1
    lines-once line =
        let most = rw (port-row table rows l d row lt is) at (once line) in
        omega (arith, most, count-answers l.used line row.answered)

    others : (p : Token → Bool) → count_by p left.answered + one (p token) ≡ count_by p row.answered
    others p = count-others p row.answered token first lines-once

    collected : (us : List ring.Used) → map (port_by us) (set rows d left) ≡ map (port_by l.used) (set rows d left)
        → map (port_by us) (set rows d left) ≡ set (map (port_by l.used) rows) d (record port { answered = other_answers token.line port.answered })
    collected us same = same ∙ map-set (port_by l.used) rows d left ∙ ap (λ answered. set (map (port_by l.used) rows) d (record port { answered = answered })) (sym (other-answers l.used token.line row.answered))

    -- a setting
    module _ (none : token.head ≡ None) where
      pub collect-set : shown table (set rows d (without_first (first_token row.answered) row)) l ≡ after_collect d (shown table rows l)
      collect-set = rw (first, first-some, port-row table rows l d row lt is, collected l.used refl) refl

      pub AreTied-set : AreTied table (set rows d (without_first (first_token row.answered) row)) l
      AreTied-set =
          let other : (k : ℕ) → one (is_in k token) ≡ 0 = λ k. rw none refl in
          let chain : one (is_in_chain token) ≡ 0 = rw none refl in
          rw first (record {
            once = t.once;
            below = t.below;
            owned = λ k. omega (arith, sum-row (tokens_with k) rows d row left lt is, others (is_in k), other k, t.owned k);
            chains = omega (arith, sum-row chains_in rows d row left lt is, others is_in_chain, chain, t.chains);
            available = t.available;
            popped = t.popped;
            replies = t.replies;
          })

    -- a request
    module _ (head : ℕ) (some : token.head ≡ Some head) where
      mine : (k : ℕ) → one (is_in k token) ≡ one (head == k)
      mine k = rw some refl

      chain : one (is_in_chain token) ≡ 1
      chain = rw some refl

      pub used-some : 1 ≤ count_by (has used_head head) l.used
      used-some = omega (arith, others (is_in head), mine head, one-same head, row-below (tokens_with head) rows d row lt is, t.owned head)

      rows-none : sum_by (tokens_with head) (set rows d left) ≡ 0
      rows-none = omega (arith, sum-row (tokens_with head) rows d row left lt is, others (is_in head), mine head, one-same head, t.owned head, t.once head)

      pub collect-used : shown table (set rows d (without_first (first_token row.answered) row)) (lists_after_collect head l) ≡ after_collect d (shown table rows l)
      collect-used =
          let same = ports-same head (without_used head l.used) l.used (agree-without head l.used) (set rows d left) rows-none in
          rw (first, first-some, port-row table rows l d row lt is, collected (without_used head l.used) same) refl

      pub AreTied-used : AreTied table (set rows d (without_first (first_token row.answered) row)) (lists_after_collect head l)
      AreTied-used =
          let gone : (k : ℕ) → count_by (has used_head k) (without_used head l.used) + one (head == k) ≡ count_by (has used_head k) l.used =
          λ k. ap (λ us. count_by (has used_head k) us + one (head == k)) (used-without head l.used) ∙ count-without used_head head k l.used used-some in
          let fewer : length (without_used head l.used) + 1 ≡ length l.used = ap (λ us. length us + 1) (used-without head l.used) ∙ length-without used_head head l.used used-some in
          rw first (record {
            once = λ k. omega (arith, gone k, t.once k);
            below = λ k there. t.below k (omega (arith, gone k, there));
            owned = λ k. omega (arith, sum-row (tokens_with k) rows d row left lt is, others (is_in k), mine k, gone k, t.owned k);
            chains = omega (arith, sum-row chains_in rows d row left lt is, others is_in_chain, chain, fewer, t.chains);
            available = t.available;
            popped = t.popped;
            replies = subst (λ us. AllByRecursion HasAnswer us) (sym (used-without head l.used)) (All-without used_head HasAnswer head l.used t.replies);
          })
