-- What an entry of another caller leaves as it is, and other places of the same calls.
use Rattle.std.proofs.Common.{◌≡◌, ◌==◌, ℕ, ◌+◌, false, ◌&&◌, List, [], ◌∷◌, ◌++◌, arith, ◌∙◌, ap, sym}
use Rattle.std.proofs.lemmas.Bool.{ne_eqb}
use Rattle.vi_history.specs.Replies.{fault_answer}
use Rattle.vi_history.specs.declared.call.Caller.TheVariants.{Driver}
use Rattle.vi_history.specs.declared.entry.Entry.{Entry}
use Rattle.vi_lines.specs.Value.{ScriptValue}
use Rattle.vi_lines.specs.Calls.{same_caller, awaits_of}
use Rattle.vi_model.specs.Control.{Answered, Link}
use Rattle.vi_model.specs.Places.{back_at}
use Rattle.vi_model.specs.Starts.{entry_of}
use Rattle.vi_model.specs.Drivers.{Stand}
use Rattle.vi_model.specs.Backs.{Seat, current_awaits}
use Rattle.vi_model.specs.Asking.{one_if}
use Rattle.vi_model.specs.Tracks.{IsTracked}
use Rattle.vi_model.specs.Held.{IsSoundDriver}
use Rattle.vi_sound.proofs.Values.Histories.{due_other, whole_more, entered_more, answers_more, stands_more}

pub track_other : (s : ScriptValue) (hs : List Entry) (h : Entry) (k : ℕ) (x : Link) (z : Seat) → same_caller h.mark.caller (back_at s k) ≡ false → IsTracked s hs k x z → IsTracked s (hs ++ h ∷ []) k x z
track_other s hs h k x z ne ok = record {
  at = due_other s (back_at s k) hs h ne ∙ ok.at;
  ready = λ r. whole_more s hs h (current_awaits s k z) (ok.ready r);
  opened = λ o. whole_more s hs h (current_awaits s k z) (ok.opened o);
  faulted = λ f. let r = ok.faulted f in (r.0, stands_more (entry_of (back_at s k) (z.finished + 1) (z.done + 1) (fault_answer r.0)) h hs r.1);
}

pub driver_other : (s : ScriptValue) (j : ℕ) (held : ℕ → ℕ) (hs : List Entry) (h : Entry) (answers : List Answered) (posted : ℕ) (d : Stand) → same_caller h.mark.caller (Driver j) ≡ false
    → IsSoundDriver s j held hs answers posted d → IsSoundDriver s j held (hs ++ h ∷ []) answers posted d
driver_other s j held hs h answers posted d ne ok = record {
  one = ok.one;
  once = ok.once;
  below = ok.below;
  lines = ok.lines;
  batch = ok.batch;
  told = answers_more hs h j answers ok.told;
  entered = λ line.
      let m = entered_more (Driver j) line hs h in
      let none : one_if (same_caller h.mark.caller (Driver j) && (h.mark.line == line)) ≡ 0 = ap (λ b. one_if (b && (h.mark.line == line))) ne in
      let e = ok.entered line in omega (arith, m, none, e);
  opened = λ line o. whole_more s hs h (awaits_of s (Driver j) line) (ok.opened line o);
  posted_is = ok.posted_is;
}

-- the same calls are in as many places
pub driver_same : (s : ScriptValue) (j : ℕ) (held now : ℕ → ℕ) (hs : List Entry) (answers : List Answered) (posted : ℕ) (d : Stand) → ((line : ℕ) → now line ≡ held line)
    → IsSoundDriver s j held hs answers posted d → IsSoundDriver s j now hs answers posted d
driver_same s j held now hs answers posted d same ok = record {
  one = λ line. let e = same line in let o = ok.one line in omega (arith, e, o);
  once = ok.once;
  below = ok.below;
  lines = ok.lines;
  batch = ok.batch;
  told = ok.told;
  entered = ok.entered;
  opened = ok.opened;
  posted_is = ok.posted_is;
}

pub driver_apart : (i j : ℕ) → (j ≡ i → ⊥) → same_caller (Driver i) (Driver j) ≡ false
driver_apart i j ne = ne_eqb i j (λ e. ne (sym e))
