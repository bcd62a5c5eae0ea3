use Rattle.std.proofs.Common.{◌≡◌, ap, sym, ◌∙◌, Some, rules}
use Rattle.std.proofs.lemmas.Option.{same_Some}
use Rattle.vi_lines.specs.Value.{ScriptValue}
use Rattle.vi_model.specs.Places.{place_of}
use Rattle.vi_run.proofs.Opening.{first_place}
use Rattle.vi_run.proofs.opened.place_of.Goals as goal
use Rattle.vi_run.proofs.opened.place_of.Goals.{After-first_with-place}

-- what is found
found : (c : After-first_with-place) → c.first_with-place.result ≡ Some (place_of c.args.script.now c.args.id)
found c =
    let endpoints = c.as_slice.ensures ∙ ap (λ (s : ScriptValue). s.setup.endpoints) c.script.view_is in
    first_place c.args.script.now c.as_slice.result.now c.requires.endpoint.0 c.args.id _ c.requires.playable c.requires.endpoint.1 endpoints c.first_with-place.ensures

pub unwrap-requires : goal.unwrap-requires
unwrap-requires c = rw (found c) (search rules)

pub returns-clause-place : goal.returns-clause-place
returns-clause-place c = same_Some c.unwrap.result _ (sym c.unwrap.ensures ∙ found ((goal.at.returns-clause-place c).After-first_with-place))
