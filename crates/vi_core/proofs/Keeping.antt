-- Entries whose bytes are kept among those of all.
use Rattle.std.proofs.Common.{◌≡◌, ℕ, ◌+◌, ◌-◌, ◌≤◌, List, [], ◌∷◌, ◌++◌, length, take, drop, map, All, ap, ap₂, subst, ◌∙◌, arith, refl}
use Rattle.std.proofs.Math.Seq.{take-length, drop-append_seam}
use Rattle.std.proofs.lemmas.List.{map-append, take-append-le, drop-append-le, length-drop}
use Rattle.std.proofs.lemmas.List.Elements.{All-head, All-tail}
use Rattle.vi_history.specs.declared.entry.Entry.{Entry}
use Rattle.vi_history.specs.declared.entry.Mark.{Mark}
use Rattle.vi_core.specs.declared.history.Kept.{Kept}
use Rattle.vi_core.specs.Histories.{HistoryValue, EndsWithin, entry_in, pushed}

-- more bytes behind them change no entry
part_same : (from len : ℕ) (bytes more : List ℕ) → from + len ≤ length bytes → take len (drop from (bytes ++ more)) ≡ take len (drop from bytes)
part_same from len bytes more within =
    let first : from ≤ length bytes = omega (arith, within) in
    let rest = length-drop from bytes in
    ap (take len) (drop-append-le from bytes more first) ∙ take-append-le len (drop from bytes) more (omega (arith, rest, within))

kept_same : (bytes more : List ℕ) (ks : List Kept) → All (EndsWithin (length bytes)) ks → map (entry_in (bytes ++ more)) ks ≡ map (entry_in bytes) ks
kept_same bytes more [] within = refl
kept_same bytes more (k ∷ ks) within =
    let here : entry_in (bytes ++ more) k ≡ entry_in bytes k = ap (λ (b : List ℕ). let e : Entry = record { mark = k.mark; bytes = b } in e) (part_same k.from k.len bytes more (All-head (EndsWithin (length bytes)) k ks within)) in
    ap₂ (λ (e : Entry) (es : List Entry). e ∷ es) here (kept_same bytes more ks (All-tail (EndsWithin (length bytes)) k ks within))

-- an entry whose bytes are put behind the others is behind the others
kept_more : (mark : Mark) (bytes more : List ℕ) (ks : List Kept) → All (EndsWithin (length bytes)) ks
    → map (entry_in (bytes ++ more)) (ks ++ record { mark = mark; from = length bytes; len = length more } ∷ []) ≡ map (entry_in bytes) ks ++ record { mark = mark; bytes = more } ∷ []
kept_more mark bytes more ks within =
    let k : Kept = record { mark = mark; from = length bytes; len = length more } in
    let own : take (length more) (drop (length bytes) (bytes ++ more)) ≡ more = ap (take (length more)) (drop-append_seam bytes more) ∙ take-length more in
    map-append (entry_in (bytes ++ more)) ks (k ∷ [])
    ∙ ap₂ (λ (xs ys : List Entry). xs ++ ys) (kept_same bytes more ks within) (ap (λ (b : List ℕ). let e : Entry = record { mark = mark; bytes = b } in e ∷ []) own)

-- what a push leaves
pub push_leaves : (mark : Mark) (bytes more all : List ℕ) (ks kept : List Kept) (from entries room : ℕ) (old : HistoryValue) → All (EndsWithin (length bytes)) ks
    → (let h : HistoryValue = record { entries = map (entry_in bytes) ks; spare_entries = entries; spare_bytes = room } in h) ≡ old → all ≡ bytes ++ more → from ≡ length bytes
    → kept ≡ ks ++ record { mark = mark; from = from; len = length more } ∷ []
    → (let h : HistoryValue = record { entries = map (entry_in all) kept; spare_entries = entries - 1; spare_bytes = room - length more } in h) ≡ pushed (record { mark = mark; bytes = more }) old
push_leaves mark bytes more all ks kept from entries room old within was b n k =
    let at : kept ≡ ks ++ record { mark = mark; from = length bytes; len = length more } ∷ [] = subst (λ (x : ℕ). kept ≡ ks ++ record { mark = mark; from = x; len = length more } ∷ []) n k in
    ap₂ (λ (bs : List ℕ) (xs : List Kept). let h : HistoryValue = record { entries = map (entry_in bs) xs; spare_entries = entries - 1; spare_bytes = room - length more } in h) b at
    ∙ ap (λ (es : List Entry). let h : HistoryValue = record { entries = es; spare_entries = entries - 1; spare_bytes = room - length more } in h) (kept_more mark bytes more ks within)
    ∙ ap (pushed (record { mark = mark; bytes = more })) was
