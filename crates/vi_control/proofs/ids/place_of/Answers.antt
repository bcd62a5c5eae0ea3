use Rattle.std.proofs.Common.{eqb, sym, ◌∙◌}
use Rattle.vi_shoot.proofs.Firsts.{is_some-position}
use Rattle.vi_control.proofs.Found.{place_found}
use Rattle.vi_control.proofs.ids.place_of.Goals as goal

pub unwrap-requires : goal.unwrap-requires
unwrap-requires c = rw (c.position.ensures.place) (is_some-position (λ x. eqb x c.args.id) c.args.ids.now c.requires.known)

pub returns-clause-place : goal.returns-clause-place
returns-clause-place c = sym (place_found c.args.ids.now c.args.id c.unwrap.result (sym c.position.ensures.place ∙ c.unwrap.ensures))

pub returns-clause-first : goal.returns-clause-first
returns-clause-first c = sym (sym c.position.ensures.place ∙ c.unwrap.ensures)
