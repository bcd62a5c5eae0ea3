use Rattle.std.proofs.Common.{append_assoc}
use Rattle.std.proofs.lemmas.Result.{IfOk-equal}
use Rattle.vi_make.specs.Summaries.{summary_line}
use Rattle.vi_make.proofs.counts.push_summary.Goals as goal

pub returns : goal.returns
unfolding summary_line
returns c =
    let start = c.in_ok-write.ensures.bytes in
    IfOk-equal _ _ _ _ c.writeln.ensures.bytes
    (rw (start, c.count_succeeded-succeeded.ensures, c.count_faults-faults.ensures, c.sum_read-sum.ensures) (simp append_assoc))
