use Rattle.std.proofs.Common.{◌≡◌, List, ◌++◌, length, slice_get, Option, Some, None, refl, ap, ◌∙◌}
use Rattle.std.specs.Prelude.{IfSome, option_to_list}
use Rattle.vi_turns.specs.Passes.{Board}
use Rattle.vi_turns.proofs.Getting.{get_longer, get_last}
use Rattle.vi_run.specs.Actors.{ActorValue}
use Rattle.vi_run.specs.Runs.{IsActorAt, AreActors}
use Rattle.tests_core.proofs.meeting.last.Goals as goal

-- the actors before the last one stay at their places
others_at : (b : Board) (old new : List ActorValue) (o : Option ActorValue) → old ≡ new ++ option_to_list o → AreActors b old → AreActors b new
others_at b old new o e all i a at = all i a (ap (λ (xs : List ActorValue). slice_get xs i) e ∙ get_longer new (option_to_list o) i a at)

last_at : (b : Board) (old new : List ActorValue) (o : Option ActorValue) → old ≡ new ++ option_to_list o → AreActors b old → IfSome o (λ a. IsActorAt b (length new) a)
last_at b old new None e all = tt
last_at b old new (Some a) e all = all (length new) a (ap (λ (xs : List ActorValue). slice_get xs (length new)) e ∙ get_last new (length new) a refl)

pub returns-clause-actors : goal.returns-clause-actors
returns-clause-actors c = others_at c.args.shared.now c.args.actors.now.items c.pop.new.self.items c.pop.result c.pop.ensures.items c.requires.actors

pub returns-clause-last : goal.returns-clause-last
returns-clause-last c = last_at c.args.shared.now c.args.actors.now.items c.pop.new.self.items c.pop.result c.pop.ensures.items c.requires.actors
