-- The laws of sound worlds and of turns.
use Rattle.std.proofs.Common.{◌≡◌, false, ◌++◌, get_or, set, refl, ap, sym, ◌∙◌}
use Rattle.std.proofs.lemmas.Bool.{false≢true, eq-eqb}
use Rattle.std.proofs.lemmas.List.{get_or-set_other}
use Rattle.vi_lines.specs.declared.line.Who.{Who}
use Rattle.vi_lines.specs.declared.line.Who.TheVariants as who
use Rattle.vi_lines.specs.Value.{ScriptValue}
use Rattle.vi_lines.specs.Legal.{IsLegalHistory}
use Rattle.vi_lines.specs.Order.{IsOrderedSoFar}
use Rattle.vi_model.specs.Places.{place_of}
use Rattle.vi_model.specs.Drivers.{no_stand}
use Rattle.vi_model.specs.Backs.{no_seat}
use Rattle.vi_model.specs.Actors.{Actor, stand_in, seat_in, back_actor, driver_actor}
use Rattle.vi_model.specs.Worlds.{World, actor_of, with_actor, opening}
use Rattle.vi_model.specs.Turns.{accessed_page, made_entries, run}
use Rattle.vi_model.specs.Sound.{SoundParts, IsSound}
use Rattle.vi_model.specs.Laws.{OpeningIsSound, ControlKeepsSound, AccessesKeepSound, TurnsKeepSound, FewerLeasesKeepSound, SoundIsLegal, EveryRunIsLegal, same_actor, OthersStay}
use Rattle.vi_sound.proofs.Moves.Opening.{opening_sound}
use Rattle.vi_sound.proofs.Moves.Turns as Turns
use Rattle.vi_sound.proofs.Values.Lost.{left_out}

pub opening_is_sound : OpeningIsSound
unfolding IsSound
opening_is_sound s play = opening_sound s play

pub control_keeps_sound : ControlKeepsSound
unfolding IsSound
control_keeps_sound s w a play ok = Turns.control_sound s w a play ok

pub accesses_keep_sound : AccessesKeepSound
unfolding IsSound
accesses_keep_sound s w a page play ok h = Turns.access_turn_sound s w a page play ok (Turns.page_is page (accessed_page s a (actor_of s w a)) h)

pub turns_keep_sound : TurnsKeepSound
unfolding IsSound
turns_keep_sound s w a play ok = Turns.turn_sound s w a play ok

pub fewer_leases_keep_sound : FewerLeasesKeepSound
unfolding IsSound
fewer_leases_keep_sound s w a leases ok fewer = left_out s w a leases ok fewer

legal_parts : (s : ScriptValue) (w : World) → SoundParts s w → IsLegalHistory s w.history × IsOrderedSoFar s w.history
legal_parts s w ok = (record { calls = ok.told.calls; named = ok.told.named; legal = ok.told.legal }, ok.told.ordered)

pub sound_is_legal : SoundIsLegal
unfolding IsSound
sound_is_legal s w ok = legal_parts s w ok

pub every_run_is_legal : EveryRunIsLegal
every_run_is_legal s turns play = legal_parts s (run s (opening s) turns) (Turns.run_sound s (opening s) turns play (opening_sound s play))

-- another actor's row is not the one that is written
with_other : (s : ScriptValue) (w : World) (a b : Who) (x : Actor) → same_actor s a b ≡ false → actor_of s (with_actor s a x w) b ≡ actor_of s w b
with_other s w (who.Driver i) (who.Driver j) x ne = ap (λ d. driver_actor d) (get_or-set_other w.stands i j (stand_in x.progress) no_stand (λ e. false≢true (sym ne ∙ eq-eqb i j (sym e))))
with_other s w (who.Driver i) (who.Back id) x ne = refl
with_other s w (who.Driver i) who.Device x ne = refl
with_other s w (who.Driver i) who.Events x ne = refl
with_other s w (who.Back id) (who.Driver j) x ne = refl
with_other s w (who.Back id) (who.Back other) x ne = ap (λ z. back_actor z) (get_or-set_other w.seats (place_of s id) (place_of s other) (seat_in x) no_seat (λ e. false≢true (sym ne ∙ eq-eqb (place_of s id) (place_of s other) (sym e))))
with_other s w (who.Back id) who.Device x ne = refl
with_other s w (who.Back id) who.Events x ne = refl
with_other s w who.Device b x ne = refl
with_other s w who.Events b x ne = refl

-- what an actor has doesn't depend on the control, the pages or the history
actor_same : (s : ScriptValue) (w v : World) (b : Who) → w.stands ≡ v.stands → w.seats ≡ v.seats → actor_of s w b ≡ actor_of s v b
actor_same s w v (who.Driver j) e f = ap (λ st. driver_actor (get_or st j no_stand)) e
actor_same s w v (who.Back id) e f = ap (λ st. back_actor (get_or st (place_of s id) no_seat)) f
actor_same s w v who.Device e f = refl
actor_same s w v who.Events e f = refl

pub others_stay : OthersStay
others_stay s w a b t x page ne =
    let v : World = record w { control = t.control; history = w.history ++ made_entries t.entry } in
    let u : World = record w { pages = set w.pages page x.page; history = w.history ++ made_entries x.entry } in
    (with_other s v a b t.actor ne ∙ actor_same s v w b refl refl, with_other s u a b x.actor ne ∙ actor_same s u w b refl refl)
