-- Legal histories: each call is answered as the one-thread device answers it at that place.
use Rattle.std.specs.Prelude.{◌≡◌, List, [], ◌∷◌}
use Rattle.vi_history.specs.Device.{One}
use Rattle.vi_history.specs.Replies.{Answer, reply, next}
use Rattle.vi_history.specs.declared.call.Call.{Call}
use Rattle.vi_history.specs.declared.entry.Entry.{Entry}

-- the answer that an entry says was given
abbrev pub answer_of : Entry → Answer
answer_of h = record { kind = h.mark.kind; code = h.mark.code; bytes = h.bytes }

-- the device and the memory once these calls were replied to in order
abbrev pub after : One → List Call → One
after one [] = one
after one (c ∷ cs) = after (next one c) cs

-- the entries are the answers to these calls, one for each: each is the reply to its call in the state
-- after the calls before it
abbrev pub IsLegal : One → List Call → List Entry → Type 0
IsLegal one [] [] = Unit {0}
IsLegal one [] (h ∷ hs) = ⊥
IsLegal one (c ∷ cs) [] = ⊥
IsLegal one (c ∷ cs) (h ∷ hs) = (answer_of h ≡ reply one c) × IsLegal (next one c) cs hs
