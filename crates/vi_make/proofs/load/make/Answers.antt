use Rattle.std.proofs.Common.{◌≡◌, refl, arith, ◌∙◌}
use Rattle.vi_make.specs.LoadScript.{round_lines, load_script}
use Rattle.vi_make.proofs.Ranges.{written_more}
use Rattle.vi_make.proofs.load.make.Goals as goal

pub loop-round-preserved : goal.loop-round-preserved
loop-round-preserved c = written_more round_lines c.loop-round.round _ _ _ c.loop-round.invariant c.in_ok-push_round.ensures

pub returns : goal.returns
unfolding load_script
returns c =
    let all : c.loop-round.round ≡ c.args.rounds = omega arith in
    let setup = c.in_ok-push_setup.ensures in
    let attaches = c.in_ok-push_attaches.ensures in
    let rounds = c.loop-round.invariant in
    record { written = c.from_vec.ensures ∙ rw (c.into_bytes.ensures.value, rounds, attaches, setup, all, c.new-out.ensures.bytes) refl }
