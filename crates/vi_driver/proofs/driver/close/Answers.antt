use Rattle.std.proofs.Common.{rules}
use Rattle.vi_driver.proofs.Kept.{kept_in_turn}
use Rattle.vi_driver.proofs.driver.close.Goals as goal

pub returns : goal.returns
returns c = kept_in_turn _ _ _ (λ x b t y k. search rules) _ _ c.retain.ensures.filtered
