-- The history of logs whose tickets are its places, each once.
use Rattle.std.proofs.Common.{◌≡◌, ◌==◌, ℕ, zero, suc, ◌+◌, ◌<◌, ◌≤◌, Bool, cond, List, [], ◌∷◌, ◌++◌, length, take, fold, get_or, flat_map, slice_get, if◌then◌else◌, All, Some, ⊎_elim, refl, sym, ap, subst, ◌∙◌, arith}
use Rattle.std.proofs.lemmas.Bool.{cases_lt, lt-ltb, le-ltb}
use Rattle.std.proofs.lemmas.List.{length-append, get_or_append_left, get_or-append-add, take_more, append-nil}
use Rattle.std.proofs.lemmas.List.Concat.{flat_map-append}
use Rattle.std.proofs.lemmas.List.Elements.{All-nil, All-cons, All-append, All-head, All-tail}
use Rattle.std.proofs.lemmas.List.Sums.{sum_by-cons, sum_by-append, fold-append}
use Rattle.std.proofs.lemmas.Option.{same_Some, slice_get_within}
use Rattle.vi_history.specs.declared.entry.Entry.{Entry}
use Rattle.vi_log.specs.Logs.{Ticketed, LogValue, Stands, AreTicketed, IsMerged, MergedOnce, ticket_count, once_below, placed}
use Rattle.vi_log.proofs.LogsPlacing.{tickets, all_stand, all_short, found}

-- the entries of all logs, one log after another
abbrev pub all_entries : List LogValue → List Ticketed
all_entries logs = flat_map (λ log. log.entries) logs

pub once_yes : (ticket n : ℕ) → ticket < n → once_below ticket n ≡ 1
once_yes ticket n low = ap (λ (b : Bool). if b then 1 else 0) (lt-ltb ticket n low)

pub once_no : (ticket n : ℕ) → n ≤ ticket → once_below ticket n ≡ 0
once_no ticket n high = ap (λ (b : Bool). if b then 1 else 0) (le-ltb ticket n high)

once_most : (ticket n : ℕ) → once_below ticket n ≤ 1
once_most ticket n = ⊎_elim
    (λ (low : ticket < n). omega (arith, once_yes ticket n low))
    (λ (high : n ≤ ticket). omega (arith, once_no ticket n high))
    (cases_lt ticket n)

-- the tickets of the logs are those of their entries
pub tickets-all_entries : (ticket : ℕ) (logs : List LogValue) → tickets ticket (all_entries logs) ≡ ticket_count ticket logs
tickets-all_entries ticket [] = refl
tickets-all_entries ticket (log ∷ logs) =
    sum_by-append (λ (x : Ticketed). cond (x.ticket == ticket) 1 0) log.entries (all_entries logs)
    ∙ ap (λ (n : ℕ). tickets ticket log.entries + n) (tickets-all_entries ticket logs)
    ∙ sym (sum_by-cons (λ (l : LogValue). tickets ticket l.entries) log logs)

-- what holds of each entry of each log, and what holds of all entries
pub of_entries : (P : Ticketed → Type 0) (logs : List LogValue) → All (λ log. All P log.entries) logs → All P (all_entries logs)
of_entries P [] all = All-nil P
of_entries P (log ∷ logs) all = All-append P log.entries (all_entries logs) (All-head (λ l. All P l.entries) log logs all) (of_entries P logs (All-tail (λ l. All P l.entries) log logs all))

pub of_logs : (P : Ticketed → Type 0) (logs : List LogValue) → All P (all_entries logs) → All (λ log. All P log.entries) logs
of_logs P [] all = All-nil (λ (l : LogValue). All P l.entries)
of_logs P (log ∷ logs) all =
    let long = length-append log.entries (all_entries logs) in
    All-cons (λ (l : LogValue). All P l.entries) log logs
    (λ k d within. subst P (get_or_append_left log.entries (all_entries logs) d k within) (all k d (omega (arith, within, long))))
    (of_logs P logs (λ k d within. subst P (get_or-append-add log.entries (all_entries logs) k d) (all (length log.entries + k) d (omega (arith, within, long)))))

-- as long as there are tickets
placed_long : (xs : List Ticketed) (history : List Entry) (n : ℕ) → ((ticket : ℕ) → tickets ticket xs ≡ once_below ticket n) → All (Stands history) xs → n ≤ length history
placed_long xs history zero each stand = omega arith
placed_long xs history (suc n) each stand =
    let last = found (Stands history) n xs (omega (arith, each n, once_yes n (suc n) (omega arith))) stand in
    omega (arith, last.1, slice_get_within history last.0.ticket last.0.entry last.2)

-- entries that are put in their places come to the history
pub merges : (logs : List LogValue) (history : List Entry) → (n : ℕ) × AreTicketed n logs → history ≡ fold placed [] (all_entries logs) → IsMerged logs history
merges logs history ticketed is =
    let n : ℕ = ticketed.0 in
    let xs : List Ticketed = all_entries logs in
    let h : List Entry = fold placed [] xs in
    let each : (ticket : ℕ) → tickets ticket xs ≡ once_below ticket n = λ ticket. tickets-all_entries ticket logs ∙ ticketed.1 ticket in
    let stand : All (Stands h) xs = all_stand xs [] (λ ticket. omega (arith, each ticket, once_most ticket n)) in
    let short : length h ≤ n = all_short xs [] n (λ ticket high. each ticket ∙ once_no ticket n high) (omega arith) in
    let long : n ≤ length h = placed_long xs h n each stand in
    let whole : n ≡ length h = omega (arith, short, long) in
    subst (IsMerged logs) (sym is) record { stands = of_logs (Stands h) logs stand; tickets = subst (λ (k : ℕ). AreTicketed k logs) whole ticketed.1 }

-- one more log's entries are put in their places
pub merged_more : (before after : List Entry) (logs : List LogValue) (index : ℕ) (log : LogValue) → index < length logs → log ≡ get_or logs index log
    → before ≡ fold placed [] (all_entries (take index logs)) → after ≡ fold placed before log.entries → after ≡ fold placed [] (all_entries (take (index + 1) logs))
merged_more before after logs index log within at was is =
    let more : all_entries (take (index + 1) logs) ≡ all_entries (take index logs) ++ log.entries =
    ap all_entries (take_more logs index log within ∙ ap (λ (l : LogValue). take index logs ++ l ∷ []) (sym at))
    ∙ flat_map-append (λ (l : LogValue). l.entries) (take index logs) (log ∷ [])
    ∙ ap (λ (xs : List Ticketed). all_entries (take index logs) ++ xs) (append-nil log.entries) in
    is ∙ ap (λ (es : List Entry). fold placed es log.entries) was
    ∙ sym (ap (fold placed []) more ∙ fold-append placed [] (all_entries (take index logs)) log.entries)

same_list : {A : Type 0} (xs ys : List A) → length xs ≡ length ys → ((k : ℕ) → k < length ys → (x : A) × (slice_get xs k ≡ Some x) × (slice_get ys k ≡ Some x)) → xs ≡ ys
same_list [] [] long each = refl
same_list [] (y ∷ ys) long each = absurd (omega (arith, long))
same_list (x ∷ xs) [] long each = absurd (omega (arith, long))
same_list {A} (x ∷ xs) (y ∷ ys) long each =
    let here = each 0 (omega arith) in
    let head : x ≡ y = same_Some x here.0 here.1 ∙ sym (same_Some y here.0 here.2) in
    let tail : xs ≡ ys = same_list xs ys (omega (arith, long)) (λ k within. each (suc k) (omega (arith, within))) in
    ap (λ (z : A). z ∷ xs) head ∙ ap (λ (zs : List A). y ∷ zs) tail

no_longer : (n m : ℕ) → ((ticket : ℕ) → once_below ticket n ≡ once_below ticket m) → n ≤ m
no_longer n m same = ⊎_elim
    (λ (more : m < n). absurd (omega (arith, same m, once_yes m n more, once_no m m (omega arith))))
    (λ (le : n ≤ m). le)
    (cases_lt m n)

-- logs have one history
pub merged-once : MergedOnce
merged-once logs h g a b =
    let xs : List Ticketed = all_entries logs in
    let in_h : All (Stands h) xs = of_entries (Stands h) logs a.stands in
    let in_g : All (Stands g) xs = of_entries (Stands g) logs b.stands in
    let one = no_longer (length h) (length g) (λ ticket. sym (a.tickets ticket) ∙ b.tickets ticket) in
    let two = no_longer (length g) (length h) (λ ticket. sym (b.tickets ticket) ∙ a.tickets ticket) in
    same_list h g (omega (arith, one, two)) (λ k within.
    let occurs : 1 ≤ tickets k xs = omega (arith, tickets-all_entries k logs, b.tickets k, once_yes k (length g) within) in
    let x = found (λ x. Stands h x × Stands g x) k xs occurs (λ i d low. (in_h i d low, in_g i d low)) in
    (x.0.entry, subst (λ (n : ℕ). slice_get h n ≡ Some x.0.entry) x.1 x.2.0, subst (λ (n : ℕ). slice_get g n ≡ Some x.0.entry) x.1 x.2.1))
