-- Names that were read, one by one and all of them.
use Rattle.std.proofs.Common.{◌≡◌, ◌&&◌, min, true, List, [], ◌∷◌, refl, ap, ◌∙◌, arith, leb-true, le-leb}
use Rattle.std.specs.Prelude.{map, nat_lt}
use Rattle.std.proofs.lemmas.Bool.{and_parts, ltb-true, lt-ltb}
use Rattle.std.specs.List.{list_all}
use Rattle.vi_script.specs.declared.name.AwaitedName.{AwaitedName}
use Rattle.vi_script.specs.declared.name.TurnName.{TurnName}
use Rattle.vi_script.specs.Names.{named, awaited, all_awaited, turned, all_turned, caller_kept, await_kept, turn_kept}
use Rattle.vi_history.specs.declared.call.Caller.{Caller}
use Rattle.vi_history.specs.declared.call.Caller.TheVariants.{Driver, Back}
use Rattle.vi_script.specs.declared.name.Name.{Name}
use Rattle.vi_script.specs.declared.name.Name.TheVariants as name
use Rattle.vi_script.specs.declared.name.TurnName.TheVariants as turn
use Rattle.vi_script.specs.Forms.{turn_of_caller}
use Rattle.vi_script.specs.Tallies.{is_caller}
use Rattle.vi_lines.specs.declared.line.Line.{Line}
use Rattle.vi_lines.specs.Rules.{awaits_well}
use Rattle.vi_script.specs.Judging.{turn_is_declared, turn_is_driver}
use Rattle.vi_lines.specs.Limits.{is_driver}
use Rattle.vi_script.specs.Said.{Said}
use Rattle.vi_script.specs.Statements.{fits, await_fits, turn_fits}

pub awaits_that_fit : (names : List AwaitedName) → list_all (λ name. await_fits (awaited name)) names ≡ list_all (λ a. await_fits a) (all_awaited names)
awaits_that_fit [] = refl
awaits_that_fit (n ∷ ns) = ap (λ b. await_fits (awaited n) && b) (awaits_that_fit ns)

pub turns_that_fit : (names : List TurnName) → list_all (λ name. turn_fits (turned name)) names ≡ list_all (λ t. turn_fits t) (all_turned names)
turns_that_fit [] = refl
turns_that_fit (n ∷ ns) = ap (λ b. turn_fits (turned n) && b) (turns_that_fit ns)

pub turns_declared : (above : Said) (names : List TurnName) → list_all (λ name. turn_is_declared above (turned name)) names ≡ list_all (λ t. turn_is_declared above t) (all_turned names)
turns_declared above [] = refl
turns_declared above (n ∷ ns) = ap (λ b. turn_is_declared above (turned n) && b) (turns_declared above ns)

pub turns_of_drivers : (names : List TurnName) → list_all (λ name. turn_is_driver (turned name)) names ≡ list_all (λ t. turn_is_driver t) (all_turned names)
turns_of_drivers [] = refl
turns_of_drivers (n ∷ ns) = ap (λ b. turn_is_driver (turned n) && b) (turns_of_drivers ns)

pub awaits_of_drivers : (names : List AwaitedName) → list_all (λ name. is_driver (awaited name).caller) names ≡ list_all (λ a. is_driver a.caller) (all_awaited names)
awaits_of_drivers [] = refl
awaits_of_drivers (n ∷ ns) = ap (λ b. is_driver (awaited n).caller && b) (awaits_of_drivers ns)

pub awaits_above : (lines : List Line) (caller : Caller) (names : List AwaitedName)
    → list_all (λ name. awaits_well lines caller (awaited name)) names ≡ list_all (λ a. awaits_well lines caller a) (all_awaited names)
awaits_above lines caller [] = refl
awaits_above lines caller (n ∷ ns) = ap (λ b. awaits_well lines caller (awaited n) && b) (awaits_above lines caller ns)

-- what is kept of names that fit are the names
pub kept_caller : (n : Name) → fits (named n) ≡ true → is_driver (named n) ≡ true → caller_kept n ≡ named n
kept_caller (name.Driver number) fit few = let small = leb-true number 7 few in ap (λ k. Driver k) (let e : min number 255 ≡ number = omega arith in e)
kept_caller (name.Back id) fit few = let small = ltb-true id 4294967296 fit in ap (λ k. Back k) (let e : min id 4294967295 ≡ id = omega arith in e)

kept_await : (a : AwaitedName) → await_fits (awaited a) ≡ true → is_driver (awaited a).caller ≡ true → await_kept a ≡ awaited a
kept_await a fit few =
    let parts = and_parts (fits (named a.caller)) (nat_lt a.line 4294967296) fit in
    let small = ltb-true a.line 4294967296 parts.1 in
    let line : min a.line 4294967295 ≡ a.line = omega arith in
    rw (kept_caller a.caller parts.0 few, line) refl

pub kept_awaits : (names : List AwaitedName) → list_all (λ a. await_fits a) (all_awaited names) ≡ true → list_all (λ a. is_driver a.caller) (all_awaited names) ≡ true → map await_kept names ≡ all_awaited names
kept_awaits [] fit few = refl
kept_awaits (n ∷ ns) fit few =
    let fits_here = and_parts (await_fits (awaited n)) (list_all (λ a. await_fits a) (all_awaited ns)) fit in
    let few_here = and_parts (is_driver (awaited n).caller) (list_all (λ a. is_driver a.caller) (all_awaited ns)) few in
    ap (λ a. a ∷ map await_kept ns) (kept_await n fits_here.0 few_here.0) ∙ ap (λ rest. awaited n ∷ rest) (kept_awaits ns fits_here.1 few_here.1)

kept_turn : (t : TurnName) → turn_fits (turned t) ≡ true → turn_is_driver (turned t) ≡ true → turn_kept t ≡ turned t
kept_turn (turn.Caller (name.Driver number)) fit few = ap turn_of_caller (kept_caller (name.Driver number) refl few)
kept_turn (turn.Caller (name.Back id)) fit few = ap turn_of_caller (kept_caller (name.Back id) fit refl)
kept_turn turn.Device fit few = refl
kept_turn turn.Events fit few = refl

pub kept_turns : (names : List TurnName) → list_all (λ t. turn_fits t) (all_turned names) ≡ true → list_all (λ t. turn_is_driver t) (all_turned names) ≡ true → map turn_kept names ≡ all_turned names
kept_turns [] fit few = refl
kept_turns (n ∷ ns) fit few =
    let fits_here = and_parts (turn_fits (turned n)) (list_all (λ t. turn_fits t) (all_turned ns)) fit in
    let few_here = and_parts (turn_is_driver (turned n)) (list_all (λ t. turn_is_driver t) (all_turned ns)) few in
    ap (λ t. t ∷ map turn_kept ns) (kept_turn n fits_here.0 few_here.0) ∙ ap (λ ts. turned n ∷ ts) (kept_turns ns fits_here.1 few_here.1)

-- the caller that is kept is one that there can be
pub kept-is_caller : (n : Name) → is_driver (named n) ≡ true → is_caller (caller_kept n) ≡ true
kept-is_caller (name.Driver number) few = let small = leb-true number 7 few in le-leb (min number 255) 7 (omega arith)
kept-is_caller (name.Back id) few = lt-ltb (min id 4294967295) 4294967296 (omega arith)
