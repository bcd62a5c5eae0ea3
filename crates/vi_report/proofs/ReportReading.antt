-- Lines that are read one after another, as a loop does.
use Rattle.std.proofs.Common.{◌≡◌, ℕ, suc, ◌+◌, ◌-◌, ◌<◌, ◌≤◌, List, [], ◌∷◌, ◌++◌, Some, None, Result, Ok, Err, refl, sym, ap, ◌∙◌, append_assoc, arith}
use Rattle.std.proofs.lemmas.List.{append-nil}
use Rattle.vi_history.specs.declared.entry.Entry.{Entry}
use Rattle.vi_history.specs.declared.outcome.Shown.{Shown}
use Rattle.vi_report.specs.declared.fault.Refusal.{Refusal}
use Rattle.vi_report.specs.declared.fault.Refusal.TheVariants as refusal
use Rattle.vi_report.specs.Lines.{entry_at, record_at}
use Rattle.vi_report.specs.Parsing.{Faults, Reads, fault_at}
use Rattle.vi_report.specs.Reading.{◌>>=◌, entries_at, records_at}

-- what was read before, and what is still read
abbrev pub behind : {A : Type 0} → List A → Result (List A × List ℕ) ℕ → Result (List A × List ℕ) ℕ
behind front read = read >>= λ x. Ok (front ++ x.0, x.1)

behind-more : {A : Type 0} (front : List A) (first : A) (read : Result (List A × List ℕ) ℕ) → behind front (read >>= λ x. Ok (first ∷ x.0, x.1)) ≡ behind (front ++ first ∷ []) read
behind-more front first (Ok x) = ap (λ xs. Ok (xs, x.1)) (simp append_assoc)
behind-more front first (Err line) = refl

behind-none : {A : Type 0} (read : Result (List A × List ℕ) ℕ) → behind [] read ≡ read
behind-none (Ok x) = refl
behind-none (Err line) = refl

-- ---- entries

-- reading goes on behind an entry
pub entries-more : (front : List Entry) (count i : ℕ) (bytes rest : List ℕ) (entry : Entry) → i < count → entry_at (i + 1) bytes ≡ Some (entry, rest)
    → behind front (entries_at (count - i) (i + 1) bytes) ≡ behind (front ++ entry ∷ []) (entries_at (count - (i + 1)) (i + 1 + 1) rest)
unfolding entries_at
entries-more front count i bytes rest entry within h =
    let left : count - i ≡ suc (count - (i + 1)) = omega arith in
    rw (left, h) (behind-more front entry (entries_at (count - (i + 1)) (i + 1 + 1) rest))

-- an entry's line that is refused is the first that doesn't fit
pub entries-refused : (r : Refusal) (front : List Entry) (count i : ℕ) (bytes whole : List ℕ) → i < count → Reads {T = Entry × List ℕ} (λ x. x) (Err r) (entry_at (i + 1) bytes)
    → behind front (entries_at (count - i) (i + 1) bytes) ≡ entries_at count 1 whole → Faults (fault_at (i + 2) r) (entries_at count 1 whole)
unfolding entries_at
entries-refused refusal.OutOfMemory front count i bytes whole within h read = tt
entries-refused refusal.Unfit front count i bytes whole within h read =
    let left : count - i ≡ suc (count - (i + 1)) = omega arith in
    let line : i + 1 + 1 ≡ i + 2 = omega arith in
    let bad : behind front (entries_at (count - i) (i + 1) bytes) ≡ Err (i + 2) = rw (left, h, line) refl in
    sym read ∙ bad

pub entries-first : (count : ℕ) (bytes : List ℕ) → behind [] (entries_at (count - 0) 1 bytes) ≡ entries_at count 1 bytes
entries-first count bytes = let all : count - 0 ≡ count = omega arith in rw all (behind-none (entries_at count 1 bytes))

pub entries-last : (front : List Entry) (count i : ℕ) (bytes whole : List ℕ) → count ≤ i → behind front (entries_at (count - i) (i + 1) bytes) ≡ entries_at count 1 whole
    → entries_at count 1 whole ≡ Ok (front, bytes)
unfolding entries_at
entries-last front count i bytes whole past read =
    let left : count - i ≡ 0 = omega arith in
    let done : behind front (entries_at (count - i) (i + 1) bytes) ≡ Ok (front, bytes) = rw left (ap (λ xs. Ok (xs, bytes)) (append-nil front)) in
    sym read ∙ done

-- ---- records

pub records-more : (front : List Shown) (shown count line i : ℕ) (bytes rest : List ℕ) (delivered : Shown) → i < shown → record_at count bytes ≡ Some (delivered, rest)
    → behind front (records_at (shown - i) count (line + i) bytes) ≡ behind (front ++ delivered ∷ []) (records_at (shown - (i + 1)) count (line + (i + 1)) rest)
unfolding records_at
records-more front shown count line i bytes rest delivered within h =
    let left : shown - i ≡ suc (shown - (i + 1)) = omega arith in
    let next : line + i + 1 ≡ line + (i + 1) = omega arith in
    rw (left, h, next) (behind-more front delivered (records_at (shown - (i + 1)) count (line + (i + 1)) rest))

pub records-refused : (front : List Shown) (shown count line i : ℕ) (bytes whole : List ℕ) → i < shown → record_at count bytes ≡ None
    → behind front (records_at (shown - i) count (line + i) bytes) ≡ records_at shown count line whole → records_at shown count line whole ≡ Err (line + i)
unfolding records_at
records-refused front shown count line i bytes whole within h read =
    let left : shown - i ≡ suc (shown - (i + 1)) = omega arith in
    let bad : behind front (records_at (shown - i) count (line + i) bytes) ≡ Err (line + i) = rw (left, h) refl in
    sym read ∙ bad

pub records-first : (shown count line : ℕ) (bytes : List ℕ) → behind [] (records_at (shown - 0) count (line + 0) bytes) ≡ records_at shown count line bytes
records-first shown count line bytes =
    let all : shown - 0 ≡ shown = omega arith in
    let same : line + 0 ≡ line = omega arith in
    rw (all, same) (behind-none (records_at shown count line bytes))

pub records-last : (front : List Shown) (shown count line i : ℕ) (bytes whole : List ℕ) → shown ≤ i → behind front (records_at (shown - i) count (line + i) bytes) ≡ records_at shown count line whole
    → records_at shown count line whole ≡ Ok (front, bytes)
unfolding records_at
records-last front shown count line i bytes whole past read =
    let left : shown - i ≡ 0 = omega arith in
    let done : behind front (records_at (shown - i) count (line + i) bytes) ≡ Ok (front, bytes) = rw left (ap (λ xs. Ok (xs, bytes)) (append-nil front)) in
    sym read ∙ done
