-- The log of a pass has room for the entry of its actor's next turn.
use Rattle.std.proofs.Common.{◌≡◌, ℕ, zero, suc, ◌+◌, ◌≤◌, List, [], ◌∷◌, ◌++◌, length, map, set, slice_get, Some, refl, ap, subst, ◌∙◌, arith}
use Rattle.std.specs.Prelude.{sum_by}
use Rattle.std.proofs.lemmas.List.{length-append}
use Rattle.std.proofs.lemmas.List.Sums.{sum_by-cons, sum_by-append}
use Rattle.std.proofs.lemmas.Option.{none-some, same_Some}
use Rattle.vi_history.specs.declared.entry.Entry.{Entry}
use Rattle.vi_log.specs.Logs.{Ticketed, Stands}
use Rattle.vi_lines.specs.Value.{ScriptValue}
use Rattle.vi_model.specs.Worlds.{World}
use Rattle.vi_model.specs.Rounds.{calls_of}
use Rattle.vi_model.specs.Sound.{IsSound}
use Rattle.vi_core.specs.HistoryRoom.{bytes_of}
use Rattle.vi_core.proofs.HistoryRoom.{history_room}
use Rattle.vi_turns.specs.Views.{total, same, stamp_count}
use Rattle.vi_turns.specs.Order.{Each, IsPlacedIn}
use Rattle.vi_turns.specs.Passes.{PassValue}
use Rattle.vi_turns.proofs.Basics.{each_zero, each_both, same_is, same_not}
use Rattle.vi_turns.proofs.Getting.{get_set_other}
use Rattle.vi_run.specs.Actors.{ActorValue, view_of, HasLogRoom}

-- ---- a log weighs at most what its history weighs

-- the number at the entry's ticket is what the entry weighs
abbrev Weighs : (Entry → ℕ) → List ℕ → Ticketed → Type 0
Weighs g ws x = slice_get ws x.ticket ≡ Some (g x.entry)

-- numbers without one of them, and that one
sum_without : (ws : List ℕ) (i n : ℕ) → slice_get ws i ≡ Some n → total (λ (k : ℕ). k) (set ws i 0) + n ≡ total (λ (k : ℕ). k) ws
sum_without [] i n at = absurd (none-some n at)
sum_without (w ∷ ws) zero n at = let e : w ≡ n = same_Some w n at in omega (arith, e)
sum_without (w ∷ ws) (suc i) n at = let r = sum_without ws i n at in omega (arith, r)

-- what an entry weighs stands at its place
get_weight : (g : Entry → ℕ) (h : List Entry) (i : ℕ) (e : Entry) → slice_get h i ≡ Some e → slice_get (map g h) i ≡ Some (g e)
get_weight g [] i e at = absurd (none-some e at)
get_weight g (x ∷ xs) zero e at = ap (λ (y : Entry). Some (g y)) (same_Some x e at)
get_weight g (x ∷ xs) (suc i) e at = get_weight g xs i e at

weigh_each : (g : Entry → ℕ) (h : List Entry) (log : List Ticketed) → Each (Stands h) log → Each (Weighs g (map g h)) log
weigh_each g h [] each = tt
weigh_each g h (x ∷ xs) each = (get_weight g h x.ticket x.entry each.0, weigh_each g h xs each.1)

-- where each ticket is there once at most, the entries weigh at most all numbers together
log_weighs : (g : Entry → ℕ) (ws : List ℕ) (log : List Ticketed) → Each (Weighs g ws) log → ((x : ℕ) → stamp_count x log ≤ 1) → total (λ (x : Ticketed). g x.entry) log ≤ total (λ (k : ℕ). k) ws
log_weighs g ws [] each once = omega arith
log_weighs g ws (x ∷ xs) each once =
    let mine : same x.ticket x.ticket ≡ 1 = same_is x.ticket in
    let o = once x.ticket in
    let others : Each (λ (y : Ticketed). same x.ticket y.ticket ≡ 0) xs = each_zero (λ (y : Ticketed). same x.ticket y.ticket) xs (omega (arith, mine, o)) in
    let left : Each (Weighs g (set ws x.ticket 0)) xs =
    each_both (λ (y : Ticketed). same x.ticket y.ticket ≡ 0) (Weighs g ws) (Weighs g (set ws x.ticket 0))
    (λ y apart weighs. get_set_other ws x.ticket y.ticket 0 (same_not x.ticket y.ticket apart) ∙ weighs) xs others each.1 in
    let rest = log_weighs g (set ws x.ticket 0) xs left (λ t. let p = once t in omega (arith, p)) in
    let s = sum_without ws x.ticket (g x.entry) each.0 in
    omega (arith, rest, s)

total_map : (g : Entry → ℕ) (h : List Entry) → total (λ (k : ℕ). k) (map g h) ≡ sum_by g h
total_map g [] = refl
total_map g (x ∷ xs) = let r = total_map g xs in let c = sum_by-cons g x xs in omega (arith, r, c)

total_log : (g : Entry → ℕ) (log : List Ticketed) → total (λ (x : Ticketed). g x.entry) log ≡ sum_by (λ (x : Ticketed). g x.entry) log
total_log g [] = refl
total_log g (x ∷ xs) = let r = total_log g xs in let c = sum_by-cons (λ (y : Ticketed). g y.entry) x xs in omega (arith, r, c)

-- so a log weighs at most what its history weighs
pub log_sum : (g : Entry → ℕ) (log : List Ticketed) (h : List Entry) → Each (Stands h) log → ((x : ℕ) → stamp_count x log ≤ 1) → sum_by (λ (x : Ticketed). g x.entry) log ≤ sum_by g h
log_sum g log h each once =
    let a = log_weighs g (map g h) log (weigh_each g h log each) once in
    let b = total_map g h in
    let c = total_log g log in
    omega (arith, a, b, c)

count_entries : (h : List Entry) → sum_by (λ (e : Entry). 1) h ≡ length h
count_entries [] = refl
count_entries (x ∷ xs) = let r = count_entries xs in let c = sum_by-cons (λ (e : Entry). 1) x xs in omega (arith, r, c)

count_log : (log : List Ticketed) → sum_by (λ (x : Ticketed). 1) log ≡ length log
count_log [] = refl
count_log (x ∷ xs) = let r = count_log xs in let c = sum_by-cons (λ (y : Ticketed). 1) x xs in omega (arith, r, c)

-- and it has at most as many entries
pub log_short : (log : List Ticketed) (h : List Entry) → Each (Stands h) log → ((x : ℕ) → stamp_count x log ≤ 1) → length log ≤ length h
log_short log h each once =
    let a : sum_by (λ (x : Ticketed). 1) log ≤ sum_by (λ (e : Entry). 1) h = log_sum (λ (e : Entry). 1) log h each once in
    let b = count_entries h in
    let c = count_log log in
    omega (arith, a, b, c)

-- ---- the room for an entry

sum_one_entry : (e : Entry) → sum_by (λ (x : Entry). length x.bytes) (e ∷ []) ≡ length e.bytes
sum_one_entry e = omega arith

sum_one_ticketed : (x : Ticketed) → sum_by (λ (y : Ticketed). length y.entry.bytes) (x ∷ []) ≡ length x.entry.bytes
sum_one_ticketed x = omega arith

-- a pass with these spares has room for the entry, if the world with it behind its history is sound
pub record FindsRoom (p : PassValue) (e : Entry) : Type 0 where
  pub entries : 1 ≤ p.spare_entries
  pub bytes : length e.bytes ≤ p.spare_bytes

pub entry_fits : (a : ActorValue) (w y : World) (e : Entry) → IsPlacedIn w (view_of a) → IsSound (view_of a).script y → y.history ≡ w.history ++ e ∷ [] → HasLogRoom a → FindsRoom a.pass e
entry_fits a w y e placed sound is room =
    let s : ScriptValue = (view_of a).script in
    let log : List Ticketed = (view_of a).log in
    let fits = history_room s y placed.playable sound in
    let few : length (w.history ++ e ∷ []) ≤ calls_of s = subst (λ (es : List Entry). length es ≤ calls_of s) is fits.0 in
    let small : sum_by (λ (x : Entry). length x.bytes) (w.history ++ e ∷ []) ≤ bytes_of s = subst (λ (es : List Entry). sum_by (λ (x : Entry). length x.bytes) es ≤ bytes_of s) is fits.1 in
    let n = length-append w.history (e ∷ []) in
    let m = sum_by-append (λ (x : Entry). length x.bytes) w.history (e ∷ []) in
    let one = sum_one_entry e in
    let short = log_short log w.history placed.log placed.once in
    let light : sum_by (λ (x : Ticketed). length x.entry.bytes) log ≤ sum_by (λ (x : Entry). length x.bytes) w.history = log_sum (λ (x : Entry). length x.bytes) log w.history placed.log placed.once in
    let entries = room.entries in
    let bytes = room.bytes in
    record { entries = omega (arith, few, n, short, entries); bytes = omega (arith, small, m, one, light, bytes) }

-- an actor's pass later: of the same script, with the same log and the same room
pub record IsKept (p q : PassValue) : Type 0 where
  pub script : q.view.script ≡ p.view.script
  pub log : q.view.log ≡ p.view.log
  pub entries : q.spare_entries ≡ p.spare_entries
  pub bytes : q.spare_bytes ≡ p.spare_bytes

-- or with one entry more, which took its room
pub record IsLonger (p q : PassValue) (x : Ticketed) : Type 0 where
  pub script : q.view.script ≡ p.view.script
  pub log : q.view.log ≡ p.view.log ++ x ∷ []
  pub entries : q.spare_entries + 1 ≡ p.spare_entries
  pub bytes : q.spare_bytes + length x.entry.bytes ≡ p.spare_bytes

pub room_kept : (a b : ActorValue) → IsKept a.pass b.pass → HasLogRoom a → HasLogRoom b
room_kept a b kept room =
    let n : length (view_of b).log ≡ length (view_of a).log = ap (λ (l : List Ticketed). length l) kept.log in
    let m : sum_by (λ (x : Ticketed). length x.entry.bytes) (view_of b).log ≡ sum_by (λ (x : Ticketed). length x.entry.bytes) (view_of a).log =
    ap (λ (l : List Ticketed). sum_by (λ (x : Ticketed). length x.entry.bytes) l) kept.log in
    let c : calls_of (view_of b).script ≡ calls_of (view_of a).script = ap calls_of kept.script in
    let d : bytes_of (view_of b).script ≡ bytes_of (view_of a).script = ap bytes_of kept.script in
    let e = kept.entries in
    let f = kept.bytes in
    let g = room.entries in
    let h = room.bytes in
    record { entries = omega (arith, n, c, e, g); bytes = omega (arith, m, d, f, h) }

pub room_left : (a b : ActorValue) (x : Ticketed) → IsLonger a.pass b.pass x → HasLogRoom a → HasLogRoom b
room_left a b x longer room =
    let log : List Ticketed = (view_of a).log in
    let n : length (view_of b).log ≡ length log + 1 = ap (λ (l : List Ticketed). length l) longer.log ∙ length-append log (x ∷ []) in
    let m : sum_by (λ (y : Ticketed). length y.entry.bytes) (view_of b).log ≡ sum_by (λ (y : Ticketed). length y.entry.bytes) log + sum_by (λ (y : Ticketed). length y.entry.bytes) (x ∷ []) =
    ap (λ (l : List Ticketed). sum_by (λ (y : Ticketed). length y.entry.bytes) l) longer.log ∙ sum_by-append (λ (y : Ticketed). length y.entry.bytes) log (x ∷ []) in
    let one = sum_one_ticketed x in
    let c : calls_of (view_of b).script ≡ calls_of (view_of a).script = ap calls_of longer.script in
    let d : bytes_of (view_of b).script ≡ bytes_of (view_of a).script = ap bytes_of longer.script in
    let e = longer.entries in
    let f = longer.bytes in
    let g = room.entries in
    let h = room.bytes in
    record { entries = omega (arith, n, c, e, g); bytes = omega (arith, m, one, d, f, h) }
