use Rattle.std.proofs.Common.{◌≡◌, ◌++◌, subst, arith}
use Rattle.std.specs.List.{flat_map, range_with_len}
use Rattle.std.specs.String.{string_bytes}
use Rattle.vi_make.specs.LoadScript.{turn_lines, round_lines}
use Rattle.vi_make.proofs.Ranges.{written_more}
use Rattle.vi_make.proofs.load.push_round.Goals as goal

pub loop-driver-preserved : goal.loop-driver-preserved
loop-driver-preserved c = written_more (turn_lines c.args.round) c.loop-driver.driver _ _ _ c.loop-driver.invariant c.in_ok-push_lines.ensures

pub returns : goal.returns
unfolding round_lines
returns c =
    let all : c.loop-driver.driver ≡ 4 = omega arith in
    subst (λ n. string_bytes c.loop-driver.out ≡ string_bytes c.args.out.now ++ flat_map (turn_lines c.args.round) (range_with_len 0 n)) all c.loop-driver.invariant
