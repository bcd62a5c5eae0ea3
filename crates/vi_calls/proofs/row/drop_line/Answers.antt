use Rattle.std.proofs.Common.{rules, not}
use Rattle.std.specs.Prelude.{◌==◌}
use Rattle.arrayvec.proofs.ArrayVecLemmas.{filter-from_retain}
use Rattle.vi_calls.specs.declared.row.Token.{Token}
use Rattle.vi_calls.proofs.row.drop_line.Goals as goal

pub returns : goal.returns
returns c = filter-from_retain _ (λ (t : Token). not (t.line == c.args.line)) _ (λ x b f' y k. search rules) _ _ c.retain.ensures.filtered
