-- A history is in order so far exactly where each entry is due behind those before it.
use Rattle.std.proofs.Common.{◌≡◌, List, [], ◌∷◌, ◌++◌, sym, subst, ◌∙◌, append_assoc, append-nil}
use Rattle.vi_history.specs.declared.entry.Entry.{Entry}
use Rattle.vi_lines.specs.Value.{ScriptValue}
use Rattle.vi_lines.specs.Order.{IsDue, AreDue}

pub due_at : (s : ScriptValue) (before xs : List Entry) (h : Entry) (ys : List Entry) → AreDue s before (xs ++ h ∷ ys) → IsDue s (before ++ xs) h
due_at s before [] h ys due = subst (λ b. IsDue s b h) (sym (append-nil before)) due.0
due_at s before (x ∷ xs) h ys due = subst (λ b. IsDue s b h) (append_assoc before (x ∷ []) xs) (due_at s (before ++ x ∷ []) xs h ys due.1)

pub due_each : (s : ScriptValue) (entries : List Entry)
    → ((xs : List Entry) (h : Entry) (ys : List Entry) → entries ≡ xs ++ h ∷ ys → IsDue s xs h)
    → (before hs : List Entry) → entries ≡ before ++ hs → AreDue s before hs
due_each s entries each before [] e = tt
due_each s entries each before (h ∷ hs) e = (each before h hs e, due_each s entries each (before ++ h ∷ []) hs (e ∙ sym (append_assoc before (h ∷ []) hs)))

pub due_front : (s : ScriptValue) (before xs ys : List Entry) → AreDue s before (xs ++ ys) → AreDue s before xs
due_front s before [] ys due = tt
due_front s before (x ∷ xs) ys due = (due.0, due_front s (before ++ x ∷ []) xs ys due.1)
