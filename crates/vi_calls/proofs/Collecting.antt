-- The fields that keep the open calls, with a driver's first answered line collected.
use Rattle.std.proofs.Common.{◌≡◌, ℕ, ◌<◌, List, length, get_or, Option, Some, None, true, IfSome, IsSome, refl, ap, sym, ◌∙◌, length-set, arith}
use Rattle.std.specs.Prelude.{find, is_some}
use Rattle.std.specs.Option.{option_map}
use Rattle.std.specs.Vec.{with_item}
use Rattle.vi_history.specs.Replies.{Answer, set_answer}
use Rattle.vi_vring.specs.Values as ring
use Rattle.vi_vring.specs.Moves.{ShowsPopped, ring_after_collect, lists_after_collect, used_with}
use Rattle.vi_vring.specs.Moves as moves
use Rattle.vi_calls.specs.declared.row.Token.{Token}
use Rattle.vi_calls.specs.declared.calls.Collected.TheVariants.{Used}
use Rattle.vi_calls.specs.declared.calls.Calls.TheInside.{Inside}
use Rattle.vi_calls.specs.Replies.{answer_of, answer_bytes}
use Rattle.vi_calls.specs.Value.{port_at}
use Rattle.vi_calls.specs.Collecting.{AreAnsweredOnce, first_of, collected_as, collected_into, after_collect}
use Rattle.vi_calls.specs.Rows.{RowValue, first_token, without_first}
use Rattle.vi_calls.specs.Inner.{lists_or, seen, answer_in, answered_by, HasAnswer, IsKept}
use Rattle.vi_calls.proofs.Counting.{has, find-present, find-All}
use Rattle.vi_calls.proofs.Tables.{used_head}
use Rattle.vi_calls.proofs.Replying.{not-set}
use Rattle.vi_calls.proofs.Collects.{first-is, first-some, collect-none, collect-set, AreTied-set, used-some, collect-used, AreTied-used}
use Rattle.vi_calls.proofs.Known.{of-known, known-after, still-known, lists-are}

some-of : {X : Type 0} (o : Option X) → is_some o ≡ true → (x : X) × (o ≡ Some x)
some-of None e = absurd (cc)
some-of (Some x) e = (x, refl)

answered-in : (us : List ring.Used) (token : Token) (head : ℕ) (u : ring.Used) → token.head ≡ Some head → find (has used_head head) us ≡ Some u
    → answered_by us token ≡ record { line = token.line; answer = answer_of u.bytes }
answered-in us token head u request found = ap (λ (a : Answer). record { line = token.line; answer = a }) (go token.head request)
  where
    go : (o : Option ℕ) → o ≡ Some head → answer_in us o ≡ answer_of u.bytes
    go o e = rw (e, found) refl

module _ (p : Inside) (k : IsKept p) (d : ℕ) (low : d < 8) (row : RowValue) (is : row ≡ get_or p.rows.items d row)
    (taken : Option Token) (first : taken ≡ first_token row.answered) (new : RowValue) (rest : new ≡ without_first taken row) where
  abbrev l : ring.Lists
  l = lists_or p.ring.lists

  lt : d < length p.rows.items
  lt = omega (arith, low, k.drivers)

  rest-is : new ≡ without_first (first_token row.answered) row
  rest-is = rest ∙ ap (λ o. without_first o row) first

  module _ (none : taken ≡ None) where
    pub first-none : first_of d (seen p) ≡ None
    first-none = first-is p.submitted p.rows.items l k.tied d row lt is ∙ ap (option_map (answered_by l.used)) (sym first ∙ none)

    pub seen-none : seen (record p { rows = with_item p.rows d new }) ≡ after_collect d (seen p)
    seen-none = rw rest-is (collect-none p.submitted p.rows.items l k.tied d row lt is (sym first ∙ none))

  module _ (token : Token) (some : taken ≡ Some token) (once : AreAnsweredOnce (port_at (seen p) d).answered) where
    token-is : first_token row.answered ≡ Some token
    token-is = sym first ∙ some

    module _ (none : token.head ≡ None) where
      pub first-set : first_of d (seen p) ≡ Some (record { line = token.line; answer = set_answer })
      first-set = first-some p.submitted p.rows.items l k.tied d row lt is token token-is once ∙ (rw none refl)

      pub seen-set : seen (record p { rows = with_item p.rows d new }) ≡ after_collect d (seen p)
      seen-set = rw rest-is (collect-set p.submitted p.rows.items l k.tied d row lt is token token-is once none)

      pub IsKept-set : IsKept (record p { rows = with_item p.rows d new })
      IsKept-set = record {
        ring_whole = k.ring_whole;
        count = k.count;
        table = k.table;
        drivers = length-set p.rows.items d new ∙ k.drivers;
        tied = rw rest-is (AreTied-set p.submitted p.rows.items l k.tied d row lt is token token-is once none);
      }

    module _ (head : ℕ) (request : token.head ≡ Some head) where
      found : (u : ring.Used) × (used_with head l ≡ Some u)
      found = some-of (used_with head l) (find-present used_head head l.used (used-some p.submitted p.rows.items l k.tied d row lt is token token-is once head request))

      whole : answer_bytes (answer_of found.0.bytes) ≡ found.0.bytes
      whole = (find-All used_head HasAnswer head l.used found.0 found.1 k.tied.replies).0

      first-used : first_of d (seen p) ≡ Some (record { line = token.line; answer = answer_of found.0.bytes })
      first-used = first-some p.submitted p.rows.items l k.tied d row lt is token token-is once ∙ ap (λ a. Some a) (answered-in l.used token head found.0 request found.1)

      pub collect-some : (len : Option ℕ) → IfSome p.ring.lists (λ l. len ≡ option_map (λ u. length u.bytes) (used_with head l)) → IsSome len
      collect-some len says =
          let is = of-known p.ring.lists (λ l. len ≡ option_map (λ u. length u.bytes) (used_with head l)) k.ring_whole.known says in
          rw (is, found.1) refl

      pub line-used : (len : ℕ) → IfSome p.ring.lists (λ l. Some len ≡ option_map (λ u. length u.bytes) (used_with head l)) → Used token.line len ≡ collected_as (first_of d (seen p))
      line-used len says =
          let is = of-known p.ring.lists (λ l. Some len ≡ option_map (λ u. length u.bytes) (used_with head l)) k.ring_whole.known says in
          let told : ◌≡◌ {A = Option ℕ} (Some len) (Some (length found.0.bytes)) = is ∙ ap (option_map (λ u. length u.bytes)) found.1 in
          let size : len ≡ length found.0.bytes = cc told in
          rw (first-used, not-set found.0.bytes, whole, size) refl

      pub bytes-used : (old out : List ℕ) → IfSome p.ring.lists (λ l. out ≡ moves.collected_into (used_with head l) old) → out ≡ collected_into (first_of d (seen p)) old
      bytes-used old out says =
          let is = of-known p.ring.lists (λ l. out ≡ moves.collected_into (used_with head l) old) k.ring_whole.known says in
          rw (is, found.1, first-used, whole) refl

      module _ (r : ring.RingValue) (after : r ≡ ring_after_collect head p.ring) where
        lists : r.lists ≡ Some (lists_after_collect head l)
        lists = known-after p.ring.lists r.lists (lists_after_collect head) k.ring_whole.known (ap (λ (r : ring.RingValue). r.lists) after)

        pub seen-used : seen (record p { ring = r; rows = with_item p.rows d new }) ≡ after_collect d (seen p)
        seen-used = rw (rest-is, lists-are r.lists _ lists) (collect-used p.submitted p.rows.items l k.tied d row lt is token token-is once head request)

        pub IsKept-used : ShowsPopped r → IsKept (record p { ring = r; rows = with_item p.rows d new })
        IsKept-used shows =
            let whole = k.ring_whole in
            record {
              ring_whole = record {
                some = rw after whole.some;
                most = rw after whole.most;
                reading = rw after whole.reading;
                writing = rw after whole.writing;
                known = still-known r.lists _ lists;
                shows = shows;
              };
              count = rw (lists-are r.lists _ lists) k.count;
              table = k.table;
              drivers = length-set p.rows.items d new ∙ k.drivers;
              tied = rw (rest-is, lists-are r.lists _ lists) (AreTied-used p.submitted p.rows.items l k.tied d row lt is token token-is once head request);
            }
