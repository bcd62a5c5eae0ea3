-- The history, the device, the memory and the records, with one more entry.
use Rattle.std.proofs.Common.{◌≡◌, ℕ, true, false, cond, List, [], ◌∷◌, ◌++◌, Some, ◌∙◌, ap, sym, subst, append-nil}
use Rattle.vi_history.specs.Device.{Dev, One}
use Rattle.vi_history.specs.Start.{start}
use Rattle.vi_history.specs.Replies.{reply, next}
use Rattle.vi_history.specs.Histories.{answer_of}
use Rattle.vi_history.specs.Kinds.{is_fault}
use Rattle.vi_history.specs.Records.{record_of}
use Rattle.vi_history.specs.declared.call.Call.{Call}
use Rattle.vi_history.specs.declared.entry.Entry.{Entry}
use Rattle.vi_lines.specs.Value.{ScriptValue}
use Rattle.vi_lines.specs.Calls.{call_of}
use Rattle.vi_lines.specs.Order.{IsDue}
use Rattle.vi_model.specs.Control.{Events}
use Rattle.vi_model.specs.Serves.{noted}
use Rattle.vi_model.specs.Shown.{AreShown}
use Rattle.vi_model.specs.Sound.{record_bytes, IsTold}
use Rattle.vi_sound.proofs.Values.Histories.{after_more, legal_more, named_more, fault_bytes, bytes_more, ordered_more}
use Rattle.vi_sound.proofs.Moves.Shows.{fault_noted}

-- the device with its memory
abbrev pub one_of : Dev → List (List ℕ) → One
one_of dev memory = record { dev = dev; memory = memory }

-- an entry that answers the call of its name as the one-thread device does now
pub record Answers (s : ScriptValue) (dev : Dev) (memory : List (List ℕ)) (hs : List Entry) (h : Entry) (c : Call) (new : Dev) (after_it : List (List ℕ)) : Type 0 where
  pub call : call_of s h.mark.caller h.mark.line h.mark.part ≡ Some c
  pub due : IsDue s hs h
  pub answer : answer_of h ≡ reply (one_of dev memory) c
  pub next_is : next (one_of dev memory) c ≡ one_of new after_it

tell : (s : ScriptValue) (dev : Dev) (memory : List (List ℕ)) (e d : Events) (hs : List Entry) (h : Entry) (c : Call) (new : Dev) (more : List (List ℕ)) → Answers s dev memory hs h c new more
    → ((rs : List (List ℕ)) → AreShown s.setup.queue rs e → AreShown s.setup.queue (rs ++ fault_bytes h c) d)
    → IsTold s dev memory e hs → IsTold s new more d (hs ++ h ∷ [])
tell s dev memory e d hs h c new more a shows ok = record {
  calls = ok.calls ++ c ∷ [];
  named = named_more s ok.calls hs c h ok.named a.call;
  legal = legal_more (start s.setup) ok.calls hs c h ok.legal (a.answer ∙ ap (λ o. reply o c) (sym ok.one));
  ordered = ordered_more s hs h ok.ordered a.due;
  one = after_more (start s.setup) ok.calls c ∙ ap (λ o. next o c) ok.one ∙ a.next_is;
  shown = subst (λ rs. AreShown s.setup.queue rs d) (sym (bytes_more (start s.setup) ok.calls hs c h ok.legal)) (shows (record_bytes ok.calls hs) ok.shown);
}

-- an entry that is no fault
pub tell_more : (s : ScriptValue) (dev : Dev) (memory : List (List ℕ)) (e : Events) (hs : List Entry) (h : Entry) (c : Call) (new : Dev) (more : List (List ℕ)) → Answers s dev memory hs h c new more
    → is_fault h.mark.kind ≡ false → IsTold s dev memory e hs → IsTold s new more e (hs ++ h ∷ [])
tell_more s dev memory e hs h c new more a none ok =
    tell s dev memory e e hs h c new more a
    (λ rs shown. subst (λ ys. AreShown s.setup.queue ys e) (sym (ap (λ b. rs ++ cond b (record_of h.mark.code c ∷ []) []) none ∙ append-nil rs)) shown) ok

-- a fault, whose record is noted
pub tell_fault : (s : ScriptValue) (dev : Dev) (memory : List (List ℕ)) (e : Events) (hs : List Entry) (h : Entry) (c : Call) (new : Dev) (more : List (List ℕ)) (f : List ℕ) → Answers s dev memory hs h c new more
    → is_fault h.mark.kind ≡ true → record_of h.mark.code c ≡ f → IsTold s dev memory e hs → IsTold s new more (noted s.setup.queue e f) (hs ++ h ∷ [])
tell_fault s dev memory e hs h c new more f a some is ok =
    tell s dev memory e (noted s.setup.queue e f) hs h c new more a
    (λ rs shown. subst (λ ys. AreShown s.setup.queue ys (noted s.setup.queue e f)) (sym (ap (λ b. rs ++ cond b (record_of h.mark.code c ∷ []) []) some ∙ ap (λ g. rs ++ g ∷ []) is)) (fault_noted s.setup.queue rs e f shown)) ok
