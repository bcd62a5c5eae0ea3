-- How many calls are open, by the parts and by the state.
use Rattle.std.proofs.Common.{◌≡◌, ◌≤◌, ◌+◌, List, [], ◌∷◌, length, map, refl, ap, arith, length-append}
use Rattle.std.proofs.lemmas.List.{length-map}
use Rattle.std.specs.List.{sum_by}
use Rattle.std.proofs.lemmas.List.Sums.{sum_by-cons}
use Rattle.vi_model.specs.Control.{Port}
use Rattle.vi_model.specs.Asking.{count_option}
use Rattle.vi_model.specs.Bounds.{open_calls}
use Rattle.vi_model.specs.Removals.{Removal}
use Rattle.vi_shoot.specs.declared.ops.Token.{Token}
use Rattle.vi_shoot.specs.declared.ops.Token.TheVariants.{Chain, Setting}
use Rattle.vi_calls.specs.Value.{Taken, open_count, answered_count}
use Rattle.vi_removals.specs.Value.{Opened}
use Rattle.vi_control.specs.declared.control.Control.TheInside.{Inside}
use Rattle.vi_control.specs.Inner.{seen}
use Rattle.vi_control.specs.Ties.{AreTied, waiting_taken, waiting_by, waiting_opened}

-- a removal has one chain at most
one_by : (r : Removal) (t : Token) → length (waiting_by r t) ≤ 1
one_by r (Chain head) = omega arith
one_by r (Setting driver line) = omega arith

few_by : (os : List Opened) → length (waiting_opened os) ≤ length os
few_by [] = omega arith
few_by (o ∷ os) = omega (arith, length-append (waiting_by o.removal o.token) (waiting_opened os), one_by o.removal o.token, few_by os)

-- as many answers are counted with the settings
answers_below : (ps : List Port) → sum_by answered_count ps ≤ sum_by (λ p. count_option p.setting + length p.answered) ps
answers_below [] = omega arith
answers_below (p ∷ ps) = omega (arith, sum_by-cons answered_count p ps, sum_by-cons (λ p. count_option p.setting + length p.answered) p ps, answers_below ps)

pub taken_below : (ts : List Taken) (os : List Opened) → AreTied ts os → length ts ≤ length os
taken_below ts os tied =
    let same : length (map waiting_taken ts) ≡ length (waiting_opened os) = ap length tied.same in
    omega (arith, same, length-map ts waiting_taken, few_by os)

pub open_below : (p : Inside) → AreTied p.calls.taken p.removals.opened → open_count p.calls ≤ open_calls (seen p).state
open_below p tied =
    let removals : length (map (λ o. o.removal) p.removals.opened) ≡ length p.removals.opened = length-map p.removals.opened (λ (o : Opened). o.removal) in
    let all : open_calls (seen p).state ≡ length p.calls.queue + length (map (λ (o : Opened). o.removal) p.removals.opened) + sum_by (λ p. count_option p.setting + length p.answered) p.calls.ports = refl in
    omega (arith, removals, all, taken_below p.calls.taken p.removals.opened tied, answers_below p.calls.ports)
