-- A history of a valid script is in order, block by block and batch by batch, exactly where each of its entries was due
-- in its place and no call is left.
use Rattle.std.proofs.Common.{◌≡◌, ◌+◌, suc, List, ◌∷◌, ◌++◌, [], length, take, drop, IsSome, refl, subst}
use Rattle.vi_history.specs.declared.call.Caller.{Caller}
use Rattle.vi_history.specs.declared.call.Caller.TheVariants.{Driver, Back}
use Rattle.vi_history.specs.declared.entry.Entry.{Entry}
use Rattle.vi_lines.specs.Value.{ScriptValue}
use Rattle.vi_lines.specs.Valid.{IsValid}
use Rattle.vi_lines.specs.Calls.{lines_of, call_of}
use Rattle.vi_lines.specs.Order.{IsNext, IsDue, AreDue, IsOrderedSoFar}
use Rattle.vi_lines.specs.Ordered.{IsOrdered}
use Rattle.vi_order.specs.Finished.{IsFinished}
use Rattle.vi_order.specs.Laws.{IsOrderedOneByOne}
use Rattle.vi_order.proofs.Lines.{known_line}
use Rattle.vi_order.proofs.Dues.{due_at, due_each}
use Rattle.vi_order.proofs.Backs.{next-blocks, last_place, blocks-due}
use Rattle.vi_order.proofs.Drivers.{next-batches, all_entered, batches-due}
use Rattle.vi_order.proofs.Awaits.{split_at, slice_get-append, awaited-ordered, awaits-due}

-- ---- from a history in order

next-ordered : (s : ScriptValue) (xs : List Entry) (h : Entry) (ys : List Entry) → IsOrdered s (xs ++ h ∷ ys) → IsSome (call_of s h.mark.caller h.mark.line h.mark.part)
    → (c : Caller) → h.mark.caller ≡ c → IsNext s xs c h.mark.line h.mark.part
next-ordered s xs h ys ordered known (Driver number) is =
    next-batches s number xs h ys is (ordered.drivers number)
    (known_line s (Driver number) h.mark.line h.mark.part (subst (λ c. IsSome (call_of s c h.mark.line h.mark.part)) is known))
next-ordered s xs h ys ordered known (Back endpoint) is = next-blocks s endpoint (length (lines_of s (Back endpoint))) xs h ys is (ordered.backs endpoint)

due-ordered : (s : ScriptValue) → IsValid s → (xs : List Entry) (h : Entry) (ys : List Entry) → IsOrdered s (xs ++ h ∷ ys) → IsDue s xs h
due-ordered s valid xs h ys ordered =
    let known = ordered.known (length xs + 0) h (slice_get-append xs (h ∷ ys) 0) in
    record {
      known = known;
      next = next-ordered s xs h ys ordered known h.mark.caller refl;
      awaited = awaited-ordered s valid xs h ys ordered;
    }

finished : (s : ScriptValue) (entries : List Entry) → IsOrdered s entries → IsFinished s entries
finished s entries ordered = record {
  drivers = λ number line from to. all_entered s number entries (ordered.drivers number) line from to;
  backs = λ endpoint. last_place s endpoint (length (lines_of s (Back endpoint))) entries (ordered.backs endpoint);
}

-- ---- from entries that are due

known : (s : ScriptValue) (entries : List Entry) → AreDue s [] entries → (h : Entry) (before after : List Entry) → entries ≡ before ++ h ∷ after
    → IsSome (call_of s h.mark.caller h.mark.line h.mark.part)
known s entries due h before after split = (due_at s [] before h after (subst (AreDue s []) split due)).known

in_order : (s : ScriptValue) (entries : List Entry) → IsOrderedSoFar s entries → IsFinished s entries → IsOrdered s entries
in_order s entries due end = record {
  known = λ i h at. known s entries due h (take i entries) (drop (suc i) entries) (split_at entries i h at);
  backs = λ endpoint. blocks-due s endpoint (length (lines_of s (Back endpoint))) entries due (end.backs endpoint);
  drivers = λ number. batches-due s number entries due (end.drivers number);
  awaits = awaits-due s entries due;
}

pub ordered_one_by_one : IsOrderedOneByOne
ordered_one_by_one s entries valid = (
  λ ordered. (due_each s entries (λ xs h ys split. due-ordered s valid xs h ys (subst (IsOrdered s) split ordered)) [] entries refl, finished s entries ordered),
  λ both. in_order s entries both.0 both.1,
)
