use Rattle.std.proofs.Common.{◌<◌, ◌+◌, ◌^◌, ap, sym, ◌∙◌, arith}
use Rattle.vi_bytes.specs.Fields.{field}
use Rattle.vi_vring.proofs.Wholes.{whole_read}
use Rattle.vi_vring.proofs.CollectSound.{read_step}
use Rattle.vi_vring.proofs.driver.read_used.Goals as goal

pub loop-index-preserved : goal.loop-index-preserved
loop-index-preserved c =
    let id = c.u32_at.ensures ∙ ap (λ at. field at 4 c.args.area.now) c.used_element-at.ensures in
    let len = c.u32_at-in-loop-index.ensures ∙ ap (λ at. field (at + 4) 4 c.args.area.now) c.used_element-at.ensures in
    let end : c.u16_at-end.result < 2 ^ 16 = omega arith in
    let step = read_step c.args.n c.args.area.now c.loop-index.index c.u16_at-end.result c.loop-index.notes c.loop-index.invariant.small end c.loop-index-test.true in
    record {
      whole = rw c.read.ensures (whole_read c.u32_at.result c.u32_at-in-loop-index.result c.loop-index.notes c.loop-index.invariant.whole);
      rest = rw (c.read.ensures, id, len) (sym step ∙ c.loop-index.invariant.rest);
      small = omega arith;
    }
