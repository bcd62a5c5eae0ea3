use Rattle.std.proofs.Common.{◌∙◌, [], List, fold, ap}
use Rattle.std.proofs.lemmas.List.{take_all}
use Rattle.vi_log.specs.Logs.{LogValue, placed}
use Rattle.vi_log.proofs.LogsMerging.{all_entries, merges, merged_more}
use Rattle.vi_log.proofs.merging.merge.Goals as goal

pub loop-log-preserved : goal.loop-log-preserved
loop-log-preserved c = merged_more _ _ _ _ c.log-item.result c.loop-log-test.true c.log-item.is c.loop-log.invariant c.in_ok-place_all.ensures

pub returns : goal.returns
returns c = merges _ _ c.requires (c.loop-log.invariant ∙ ap (λ (logs : List LogValue). fold placed [] (all_entries logs)) (take_all c.loop-log.log-index c.args.logs.now c.loop-log-test.false))
