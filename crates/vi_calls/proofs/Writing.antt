-- The fields that keep the open calls, with a taken chain answered.
use Rattle.std.proofs.Common.{◌≡◌, ℕ, ◌<◌, ◌≤◌, Bool, true, false, List, [], ◌∷◌, length, get_or, Option, Some, None, IfSome, IsTrue, refl, ap, sym, subst, ◌∙◌, length-set, arith}
use Rattle.std.specs.Prelude.{count_by, find, is_some, ◌||◌, if◌then◌else◌}
use Rattle.std.specs.Option.{option_map}
use Rattle.std.specs.List.{list_any, All}
use Rattle.std.specs.Vec.{with_item}
use Rattle.std.proofs.lemmas.List.{length-map}
use Rattle.std.proofs.lemmas.List.Elements.{recursion_from_All}
use Rattle.vi_vring.specs.Values as ring
use Rattle.vi_vring.specs.declared.chain.Chain.{Chain as ChainData}
use Rattle.vi_vring.specs.Moves.{ShowsPopped, ShowsChain, IsOut, is_popped, chain_of, ring_after_push, lists_after_push}
use Rattle.vi_calls.specs.declared.calls.Submitted.{Submitted}
use Rattle.vi_calls.specs.declared.calls.Calls.TheInside.{Inside}
use Rattle.vi_calls.specs.Replies.{answer_of, AreAnswer}
use Rattle.vi_calls.specs.Value.{taken_with, port_at}
use Rattle.vi_calls.specs.Moves.{answered_chain}
use Rattle.vi_calls.specs.Rows.{RowValue, added}
use Rattle.vi_calls.specs.Inner.{lists_or, line_at, answered_by, taken_by, seen, Fits, IsKept}
use Rattle.vi_calls.proofs.Counting.{has, find-All}
use Rattle.vi_calls.proofs.Tables.{queued_head}
use Rattle.vi_calls.proofs.Ports.{port-row}
use Rattle.vi_calls.proofs.Writes.{taken-found, write-is, AreTied-write}
use Rattle.vi_calls.proofs.Known.{of-known, to-known, known-after, still-known, lists-are}

any-found : {X : Type 0} (p : X → Bool) (xs : List X) (x : X) → find p xs ≡ Some x → list_any p xs ≡ true
any-found p [] x e = absurd (cc)
any-found p (y ∷ ys) x e = go (p y) e (any-found p ys x)
  where
    go : (b : Bool) → (if b then Some y else find p ys) ≡ Some x → (find p ys ≡ Some x → list_any p ys ≡ true) → (b || list_any p ys) ≡ true
    go true f rest = refl
    go false f rest = rest f

some-mapped : {X Y : Type 0} (f : X → Y) (o : Option X) → is_some (option_map f o) ≡ true → (x : X) × (o ≡ Some x)
some-mapped f None e = absurd (cc)
some-mapped f (Some x) e = (x, refl)

same-chain : (h head r read w write : ℕ) → h ≡ head → r ≡ read → w ≡ write → ◌≡◌ {A = ChainData} (record { head = h; read = r; write = w }) (record { head = head; read = read; write = write })
same-chain h head r read w write a b c = cc

-- the popped chain of a head that is taken
abbrev pub IsPopped : Inside → ℕ → Type 0
IsPopped p head = (q : ring.Queued) × (find (has queued_head head) (lists_or p.ring.lists).popped ≡ Some q)

pub popped-taken : (p : Inside) (head : ℕ) → is_some (taken_with head (seen p)) ≡ true → IsPopped p head
popped-taken p head taken =
    let popped = (lists_or p.ring.lists).popped in
    some-mapped (taken_by p.submitted) (find (has queued_head head) popped) (ap is_some (sym (taken-found p.submitted head popped)) ∙ taken)

module _ (p : Inside) (k : IsKept p) (head : ℕ) (t : IsPopped p head) where
  abbrev l : ring.Lists
  l = lists_or p.ring.lists

  abbrev line : Submitted
  line = line_at p.submitted head

  abbrev chain : ChainData
  chain = record { head = head; read = line.read; write = line.write }

  abbrev q : ring.Queued
  q = t.0

  found : find (has queued_head head) l.popped ≡ Some q
  found = t.1

  known : taken_with head (seen p) ≡ Some (taken_by p.submitted q)
  known = taken-found p.submitted head l.popped ∙ ap (option_map (taken_by p.submitted)) found

  fits : Fits p.submitted q × (q.head ≡ head) × (1 ≤ count_by (has queued_head head) l.popped)
  fits = find-All queued_head (Fits p.submitted) head l.popped q found k.tied.popped

  pub write-below : head < 256
  write-below = k.tied.below head (omega (arith, fits.2))

  pub write-driver : line.driver < 8
  write-driver = ap-lt (fits.1) fits.0.driver
    where
      ap-lt : q.head ≡ head → (line_at p.submitted q.head).driver < 8 → line.driver < 8
      ap-lt e lt = rw e at lt

  chain-is : chain_of q ≡ chain
  chain-is =
      let at = ap (line_at p.submitted) fits.1 in
      let read : length q.readable ≡ line.read = sym fits.0.read ∙ ap (λ (s : Submitted). s.read) at in
      let write : q.writable ≡ line.write = sym fits.0.write ∙ ap (λ (s : Submitted). s.write) at in
      same-chain q.head head (length q.readable) line.read q.writable line.write fits.1 read write

  pub write-shown : ShowsChain p.ring chain
  write-shown =
      let all = of-known p.ring.lists (λ l. All (λ q. ShowsChain p.ring (chain_of q)) l.popped) k.ring_whole.known k.ring_whole.shows in
      let each = recursion_from_All (λ q. ShowsChain p.ring (chain_of q)) l.popped all in
      let shows = (find-All queued_head (λ q. ShowsChain p.ring (chain_of q)) head l.popped q found each).0 in
      subst (λ c. ShowsChain p.ring c) chain-is shows

  pub write-out : IsOut chain p.ring
  write-out = to-known p.ring.lists (λ l. IsTrue (is_popped chain l)) (any-found (has queued_head head) l.popped q found)

  pub write-fits : (n : ℕ) → IfSome (taken_with head (seen p)) (λ t. n ≤ t.call.write) → n ≤ line.write
  write-fits n fit =
      let most = rw known at fit in
      let write = ap (λ (c : ChainData). c.write) chain-is in
      omega (arith, most, write)

  module _ (row : RowValue) (is : row ≡ get_or p.rows.items line.driver row) where
    within : line.driver < length p.rows.items
    within = omega (arith, write-driver, k.drivers)

    pub write-room : IfSome (taken_with head (seen p)) (λ t. length (port_at (seen p) t.call.driver).answered < 8) → length row.answered < 8
    write-room room =
        let few = rw (known, fits.1, port-row p.submitted p.rows.items l line.driver row within is) at room in
        omega (arith, few, length-map row.answered (answered_by l.used))

    module _ (new : RowValue) (add : new ≡ added (record { line = line.line; head = Some head }) row) (bytes : List ℕ) (r : ring.RingValue) (after : r ≡ ring_after_push chain bytes p.ring) where
      lists : r.lists ≡ Some (lists_after_push chain bytes l)
      lists = known-after p.ring.lists r.lists (lists_after_push chain bytes) k.ring_whole.known (ap (λ (r : ring.RingValue). r.lists) after)

      pub seen-write : seen (record p { ring = r; rows = with_item p.rows line.driver new }) ≡ answered_chain head (answer_of bytes) (seen p)
      seen-write = rw (add, lists-are r.lists _ lists) (write-is p.submitted p.rows.items l k.tied chain q found bytes row within is)

      pub IsKept-write : ShowsPopped r → AreAnswer bytes → IsKept (record p { ring = r; rows = with_item p.rows line.driver new })
      IsKept-write shows answer =
          let whole = k.ring_whole in
          record {
            ring_whole = record {
              some = rw after whole.some;
              most = rw after whole.most;
              reading = rw after whole.reading;
              writing = rw after whole.writing;
              known = still-known r.lists _ lists;
              shows = shows;
            };
            count = rw (lists-are r.lists _ lists) k.count;
            table = k.table;
            drivers = length-set p.rows.items line.driver new ∙ k.drivers;
            tied = rw (add, lists-are r.lists _ lists) (AreTied-write p.submitted p.rows.items l k.tied chain q found bytes row within is answer);
          }
