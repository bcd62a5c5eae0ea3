-- Entries of a log whose bytes are kept among those of all.
use Rattle.std.proofs.Common.{◌≡◌, ℕ, ◌+◌, ◌-◌, ◌≤◌, List, [], ◌∷◌, ◌++◌, length, take, drop, map, All, ap, ap₂, subst, ◌∙◌, arith, refl}
use Rattle.std.proofs.Math.Seq.{take-length, drop-append_seam}
use Rattle.std.proofs.lemmas.List.{map-append, take-append-le, drop-append-le, length-drop}
use Rattle.std.proofs.lemmas.List.Elements.{All-head, All-tail}
use Rattle.vi_history.specs.declared.entry.Mark.{Mark}
use Rattle.vi_log.specs.declared.log.Logged.{Logged}
use Rattle.vi_log.specs.Logs.{LogValue, Ticketed, EndsWithin, entry_in, pushed}

-- the entry with this ticket, mark and these bytes
abbrev with_bytes : ℕ → Mark → List ℕ → Ticketed
with_bytes ticket mark bytes = record { ticket = ticket; entry = record { mark = mark; bytes = bytes } }

-- the log of these entries, with this room
abbrev log_of : List Ticketed → ℕ → ℕ → LogValue
log_of entries spare_entries spare_bytes = record { entries = entries; spare_entries = spare_entries; spare_bytes = spare_bytes }

-- more bytes behind them change no entry
part_same : (from len : ℕ) (bytes more : List ℕ) → from + len ≤ length bytes → take len (drop from (bytes ++ more)) ≡ take len (drop from bytes)
part_same from len bytes more within =
    let first : from ≤ length bytes = omega (arith, within) in
    let rest = length-drop from bytes in
    ap (take len) (drop-append-le from bytes more first) ∙ take-append-le len (drop from bytes) more (omega (arith, rest, within))

logged_same : (bytes more : List ℕ) (xs : List Logged) → All (EndsWithin (length bytes)) xs → map (entry_in (bytes ++ more)) xs ≡ map (entry_in bytes) xs
logged_same bytes more [] within = refl
logged_same bytes more (x ∷ xs) within =
    let here : entry_in (bytes ++ more) x ≡ entry_in bytes x = ap (with_bytes x.ticket x.mark) (part_same x.from x.len bytes more (All-head (EndsWithin (length bytes)) x xs within)) in
    ap₂ (λ (e : Ticketed) (es : List Ticketed). e ∷ es) here (logged_same bytes more xs (All-tail (EndsWithin (length bytes)) x xs within))

-- an entry whose bytes are put behind the others is behind the others
logged_more : (ticket : ℕ) (mark : Mark) (bytes more : List ℕ) (xs : List Logged) → All (EndsWithin (length bytes)) xs
    → map (entry_in (bytes ++ more)) (xs ++ record { ticket = ticket; mark = mark; from = length bytes; len = length more } ∷ []) ≡ map (entry_in bytes) xs ++ with_bytes ticket mark more ∷ []
logged_more ticket mark bytes more xs within =
    let x : Logged = record { ticket = ticket; mark = mark; from = length bytes; len = length more } in
    let own : take (length more) (drop (length bytes) (bytes ++ more)) ≡ more = ap (take (length more)) (drop-append_seam bytes more) ∙ take-length more in
    map-append (entry_in (bytes ++ more)) xs (x ∷ [])
    ∙ ap₂ (λ (es es' : List Ticketed). es ++ es') (logged_same bytes more xs within) (ap (λ (b : List ℕ). with_bytes ticket mark b ∷ []) own)

-- what a push leaves
pub push_leaves : (ticket : ℕ) (mark : Mark) (bytes more all : List ℕ) (xs logged : List Logged) (from entries room : ℕ) (old : LogValue) → All (EndsWithin (length bytes)) xs
    → log_of (map (entry_in bytes) xs) entries room ≡ old → all ≡ bytes ++ more → from ≡ length bytes
    → logged ≡ xs ++ record { ticket = ticket; mark = mark; from = from; len = length more } ∷ []
    → log_of (map (entry_in all) logged) (entries - 1) (room - length more) ≡ pushed (with_bytes ticket mark more) old
push_leaves ticket mark bytes more all xs logged from entries room old within was b n x =
    let at : logged ≡ xs ++ record { ticket = ticket; mark = mark; from = length bytes; len = length more } ∷ [] = subst (λ (k : ℕ). logged ≡ xs ++ record { ticket = ticket; mark = mark; from = k; len = length more } ∷ []) n x in
    ap₂ (λ (bs : List ℕ) (ls : List Logged). log_of (map (entry_in bs) ls) (entries - 1) (room - length more)) b at
    ∙ ap (λ (es : List Ticketed). log_of es (entries - 1) (room - length more)) (logged_more ticket mark bytes more xs within)
    ∙ ap (pushed (with_bytes ticket mark more)) was
