-- What the one-thread device answers to a script is a legal history of the script, with all its records.
use Rattle.std.proofs.Common.{◌≡◌, Option, ℕ, zero, suc, ◌+◌, ◌-◌, ◌<◌, ◌≤◌, Bool, true, false, cond, List, [], ◌∷◌, ◌++◌, length, map, filter, take, drop, get_or, All, Some, None, refl, sym, ap, ◌∙◌, subst, arith, inl, length-append, append_assoc}
use Rattle.std.specs.Prelude.{slice_get, Contains}
use Rattle.std.proofs.lemmas.List.{append-nil, map-append, drop_more, take_more, drop_all, length-take}
use Rattle.std.proofs.lemmas.List.Elements.{All-take, All-contains_itself, filter-append}
use Rattle.vi_history.specs.Device.{One}
use Rattle.vi_history.specs.Histories.{answer_of, after, IsLegal}
use Rattle.vi_history.specs.Records.{records_at, records_from, records, AreTakenFrom}
use Rattle.vi_history.specs.Replies.{reply, next}
use Rattle.vi_history.specs.Start.{start}
use Rattle.vi_history.specs.declared.call.Call.{Call}
use Rattle.vi_history.specs.declared.call.Caller.{Caller}
use Rattle.vi_history.specs.declared.call.Caller.TheVariants.{Driver, Back}
use Rattle.vi_history.specs.declared.entry.Entry.{Entry}
use Rattle.vi_history.specs.declared.outcome.Shown.{Shown}
use Rattle.vi_lines.proofs.IndexLemmas.{same_caller-self, length-filter-le}
use Rattle.vi_lines.specs.declared.line.Line.{Line}
use Rattle.vi_lines.specs.Value.{ScriptValue}
use Rattle.vi_lines.specs.Calls.{same_caller, line_of, call_of, call_in, parts_of}
use Rattle.vi_lines.specs.Rules.{count_lines}
use Rattle.vi_lines.specs.Legal.{AreCalls, IsLegalHistory, HasRecords}
use Rattle.vi_commands.specs.OneThread.{Replied, nothing_replied, entry_for, with_reply, with_call, with_part, stops, with_parts, with_line_of, with_line, with_lines, one_thread}

-- the line behind those above is the next one of its caller
line_here : (p : Line → Bool) (above ls : List Line) (l : Line) → p l ≡ true → slice_get (filter p (above ++ l ∷ ls)) (length (filter p above)) ≡ Some l
line_here p [] ls l is = rw is refl
line_here p (a ∷ above) ls l is = go (p a) refl (line_here p above ls l is)
  where
    go : (b : Bool) → p a ≡ b → slice_get (filter p (above ++ l ∷ ls)) (length (filter p above)) ≡ Some l → slice_get (filter p (a ∷ (above ++ l ∷ ls))) (length (filter p (a ∷ above))) ≡ Some l
    go true e ih = rw e ih
    go false e ih = rw e ih

-- so it is its caller's line of that number
pub line_at : (s : ScriptValue) (above ls : List Line) (l : Line) → s.lines ≡ above ++ l ∷ ls → line_of s l.caller (count_lines above l.caller + 1) ≡ Some l
line_at s above ls l is =
    let here : line_of s l.caller (suc (count_lines above l.caller)) ≡ Some l =
    subst (λ (all : List Line). slice_get (filter (λ k. same_caller k.caller l.caller) all) (count_lines above l.caller) ≡ Some l) (sym is)
    (line_here (λ k. same_caller k.caller l.caller) above ls l (same_caller-self l.caller)) in
    let next : count_lines above l.caller + 1 ≡ suc (count_lines above l.caller) = omega arith in
    ap (λ (n : ℕ). line_of s l.caller n) next ∙ here

-- and its calls are the script's
pub call_here : (s : ScriptValue) (above ls : List Line) (l : Line) (part : ℕ) → s.lines ≡ above ++ l ∷ ls
    → call_of s l.caller (count_lines above l.caller + 1) part ≡ call_in l.caller part (Some l)
unfolding call_of
call_here s above ls l part is = ap (call_in l.caller part) (line_at s above ls l is)

after_more : (one : One) (calls : List Call) (c : Call) → after one (calls ++ c ∷ []) ≡ next (after one calls) c
after_more one [] c = refl
after_more one (d ∷ calls) c = after_more (next one d) calls c

legal_more : (one : One) (calls : List Call) (c : Call) (entries : List Entry) (h : Entry) → IsLegal one calls entries → answer_of h ≡ reply (after one calls) c
    → IsLegal one (calls ++ c ∷ []) (entries ++ h ∷ [])
legal_more one [] c [] h legal is = (is, tt)
legal_more one [] c (g ∷ entries) h legal is = absurd legal
legal_more one (d ∷ calls) c [] h legal is = absurd legal
legal_more one (d ∷ calls) c (g ∷ entries) h legal is = (legal.0, legal_more (next one d) calls c entries h legal.1 is)

records_more : (number : ℕ) (one : One) (calls : List Call) (c : Call) (entries : List Entry) (h : Entry) → IsLegal one calls entries
    → records_from number (calls ++ c ∷ []) (entries ++ h ∷ []) ≡ records_from number calls entries ++ records_at (number + length entries) h.mark.kind h.mark.code c
records_more number one [] c [] h legal =
    let here : number + 0 ≡ number = omega arith in
    append-nil (records_at number h.mark.kind h.mark.code c) ∙ ap (λ (n : ℕ). records_at n h.mark.kind h.mark.code c) (sym here)
records_more number one [] c (g ∷ entries) h legal = absurd legal
records_more number one (d ∷ calls) c [] h legal = absurd legal
records_more number one (d ∷ calls) c (g ∷ entries) h legal =
    let front = records_at number g.mark.kind g.mark.code d in
    let later : number + 1 + length entries ≡ number + length (g ∷ entries) = omega arith in
    ap (λ (rs : List Shown). front ++ rs) (records_more (number + 1) (next one d) calls c entries h legal.1 ∙ ap (λ (n : ℕ). records_from (number + 1) calls entries ++ records_at n h.mark.kind h.mark.code c) later)
    ∙ sym (append_assoc front (records_from (number + 1) calls entries) (records_at (number + length (g ∷ entries)) h.mark.kind h.mark.code c))

-- what was replied so far is right for these calls
record IsRight (s : ScriptValue) (done : Replied) : Type 0 where
  calls : List Call
  named : AreCalls s done.entries calls
  legal : IsLegal (start s.setup) calls done.entries
  state : done.one ≡ after (start s.setup) calls
  shown : done.shown ≡ records calls done.entries

nothing_right : (s : ScriptValue) → IsRight s (nothing_replied s.setup)
unfolding records
nothing_right s = record { calls = []; named = refl; legal = tt; state = refl; shown = refl }

reply_right : (s : ScriptValue) (done : Replied) (caller : Caller) (line part : ℕ) (c : Call) → IsRight s done → call_of s caller line part ≡ Some c → IsRight s (with_reply done caller line part c)
unfolding records
reply_right s done caller line part c ok is =
    let h : Entry = entry_for caller line part (reply done.one c) in
    let answered : answer_of h ≡ reply (after (start s.setup) ok.calls) c = ap (λ (o : One). reply o c) ok.state in
    let place : 1 + length done.entries ≡ length done.entries + 1 = omega arith in
    record {
      calls = ok.calls ++ c ∷ [];
      named = map-append (λ (g : Entry). call_of s g.mark.caller g.mark.line g.mark.part) done.entries (h ∷ [])
          ∙ (ap (λ (front : List (Option Call)). front ++ call_of s caller line part ∷ []) ok.named
          ∙ (ap (λ (last : Option Call). map (λ (d : Call). Some d) ok.calls ++ last ∷ []) is ∙ sym (map-append (λ (d : Call). Some d) ok.calls (c ∷ []))));
      legal = legal_more (start s.setup) ok.calls c done.entries h ok.legal answered;
      state = ap (λ (o : One). next o c) ok.state ∙ sym (after_more (start s.setup) ok.calls c);
      shown = ap (λ (rs : List Shown). rs ++ records_at (length done.entries + 1) (reply done.one c).kind (reply done.one c).code c) ok.shown
          ∙ (ap (λ (n : ℕ). records_from 1 ok.calls done.entries ++ records_at n (reply done.one c).kind (reply done.one c).code c) (sym place)
          ∙ sym (records_more 1 (start s.setup) ok.calls c done.entries h ok.legal));
    }

call_right : (s : ScriptValue) (done : Replied) (caller : Caller) (line part : ℕ) (c : Option Call) → IsRight s done → call_of s caller line part ≡ c → IsRight s (with_call done caller line part c)
call_right s done caller line part None ok is = ok
call_right s done caller line part (Some c) ok is = reply_right s done caller line part c ok is

-- the line of this number is this one, part by part
abbrev IsLine : ScriptValue → Line → ℕ → Type 0
IsLine s l number = (part : ℕ) → call_of s l.caller number part ≡ call_in l.caller part (Some l)

part_right : (s : ScriptValue) (done : Replied) (l : Line) (number part : ℕ) → IsRight s done → IsLine s l number → IsRight s (with_part done l number part)
part_right s done l number part ok is = call_right s done l.caller number part (call_in l.caller part (Some l)) ok (is part)

parts_right : (s : ScriptValue) (done : Replied) (l : Line) (number part more : ℕ) → IsRight s done → IsLine s l number → IsRight s (with_parts done l number part more)
parts_right s done l number part zero ok is = ok
parts_right s done l number part (suc more) ok is =
    go (stops done.one (call_in l.caller part (Some l))) (parts_right s (with_part done l number part) l number (part + 1) more (part_right s done l number part ok is) is)
  where
    go : (b : Bool) → IsRight s (with_parts (with_part done l number part) l number (part + 1) more)
        → IsRight s (cond b (with_part done l number part) (with_parts (with_part done l number part) l number (part + 1) more))
    go true further = part_right s done l number part ok is
    go false further = further

line_right : (s : ScriptValue) (caller : Caller) (done : Replied) (l : Line) (number : ℕ) → IsRight s done → IsLine s l number → IsRight s (with_line_of caller done l number)
line_right s (Driver driver) done l number ok is = part_right s done l number 0 ok is
line_right s (Back endpoint) done l number ok is = parts_right s done l number 1 (parts_of l.job) ok is

lines_right : (s : ScriptValue) (done : Replied) (above ls : List Line) → s.lines ≡ above ++ ls → IsRight s done → IsRight s (with_lines done above ls)
lines_right s done above [] is ok = ok
lines_right s done above (l ∷ ls) is ok =
    lines_right s (with_line done l (count_lines above l.caller + 1)) (above ++ l ∷ []) ls (is ∙ sym (append_assoc above (l ∷ []) ls))
    (line_right s l.caller done l (count_lines above l.caller + 1) ok (λ part. call_here s above ls l part is))

all_right : (s : ScriptValue) → IsRight s (with_lines (nothing_replied s.setup) [] s.lines)
all_right s = lines_right s (nothing_replied s.setup) [] s.lines refl (nothing_right s)

-- the history of `one` is legal
pub one_thread-legal : (s : ScriptValue) → IsLegalHistory s (one_thread s).entries
unfolding one_thread
one_thread-legal s = let right = all_right s in record { calls = right.calls; named = right.named; legal = right.legal }

taken_whole : (rs : List Shown) → AreTakenFrom rs rs
taken_whole [] = tt
taken_whole (r ∷ rs) = inl (refl, taken_whole rs)

-- and its shown records are all those of its faults
pub one_thread-records : (s : ScriptValue) → HasRecords s (one_thread s)
unfolding one_thread
one_thread-records s =
    let right = all_right s in
    let done = with_lines (nothing_replied s.setup) [] s.lines in
    record {
      calls = right.calls;
      named = right.named;
      well = record {
        taken = subst (λ (rs : List Shown). AreTakenFrom done.shown rs) right.shown (taken_whole done.shown);
        first = subst (λ (rs : List Shown). All (λ r. Contains done.shown r) (take s.setup.queue rs)) right.shown (All-take (Contains done.shown) s.setup.queue done.shown (All-contains_itself done.shown));
        counted = let none : length done.shown + 0 ≡ length done.shown = omega arith in none ∙ ap length right.shown;
      };
    }

-- the next part, where this one doesn't fault
pub with_parts-next : (done : Replied) (l : Line) (number part parts : ℕ) → part ≤ parts → stops done.one (call_in l.caller part (Some l)) ≡ false
    → with_parts done l number part (parts + 1 - part) ≡ with_parts (with_part done l number part) l number (part + 1) (parts + 1 - (part + 1))
with_parts-next done l number part parts within goes =
    let one_more : parts + 1 - part ≡ suc (parts + 1 - (part + 1)) = omega arith in
    rw (one_more, goes) refl

-- the next line
pub with_lines-next : (done : Replied) (lines : List Line) (i : ℕ) (l : Line) → i < length lines → l ≡ get_or lines i l
    → with_lines done (take i lines) (drop i lines) ≡ with_lines (with_line done l (count_lines (take i lines) l.caller + 1)) (take (i + 1) lines) (drop (i + 1) lines)
with_lines-next done lines i l within is =
    let behind : drop i lines ≡ l ∷ drop (i + 1) lines = drop_more lines i l within ∙ ap (λ (x : Line). x ∷ drop (i + 1) lines) (sym is) in
    let front : take i lines ++ l ∷ [] ≡ take (i + 1) lines = sym (take_more lines i l within ∙ ap (λ (x : Line). take i lines ++ x ∷ []) (sym is)) in
    ap (λ (ls : List Line). with_lines done (take i lines) ls) behind
    ∙ ap (λ (above : List Line). with_lines (with_line done l (count_lines (take i lines) l.caller + 1)) above (drop (i + 1) lines)) front

-- at the end
pub with_lines-end : (done : Replied) (lines : List Line) (i : ℕ) → length lines ≤ i → with_lines done (take i lines) (drop i lines) ≡ done
with_lines-end done lines i past = ap (λ (ls : List Line). with_lines done (take i lines) ls) (drop_all i lines past)

pub one_more : (p : Line → Bool) (l : Line) → length (filter p (l ∷ [])) ≡ cond (p l) 1 0
one_more p l = go (p l) refl
  where
    go : (b : Bool) → p l ≡ b → length (filter p (l ∷ [])) ≡ cond b 1 0
    go true e = rw e refl
    go false e = rw e refl

-- one line more is one of its caller
pub count_lines-next : (lines : List Line) (i : ℕ) (l : Line) (c : Caller) → i < length lines → l ≡ get_or lines i l → count_lines (take (i + 1) lines) c ≡ count_lines (take i lines) c + cond (same_caller l.caller c) 1 0
count_lines-next lines i l c within is =
    let p : Line → Bool = λ (k : Line). same_caller k.caller c in
    let front : take (i + 1) lines ≡ take i lines ++ l ∷ [] = take_more lines i l within ∙ ap (λ (x : Line). take i lines ++ x ∷ []) (sym is) in
    ap (λ (ls : List Line). count_lines ls c) front ∙ (ap (λ (ls : List Line). length ls) (filter-append p (take i lines) (l ∷ []))
    ∙ (length-append (filter p (take i lines)) (filter p (l ∷ [])) ∙ ap (λ (n : ℕ). count_lines (take i lines) c + n) (one_more p l)))

-- a caller has no more lines than there are
pub count_lines-le : (lines : List Line) (i : ℕ) (c : Caller) → count_lines (take i lines) c ≤ length lines
count_lines-le lines i c = omega (arith, length-filter-le (λ (k : Line). same_caller k.caller c) (take i lines), length-take i lines)
