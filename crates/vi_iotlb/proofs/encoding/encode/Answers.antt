use Rattle.std.proofs.Common.{sym, ◌∙◌, subst, ap, take, drop}
use Rattle.std.proofs.lemmas.List.{take_at}
use Rattle.vi_iotlb.specs.Frames.{ReadAs, frame_bytes}
use Rattle.vi_iotlb.proofs.Written.{ReadAs-frame_bytes, length-frame_bytes}
use Rattle.vi_iotlb.proofs.encoding.encode.Goals as goal

pub returns-clause-reads : goal.returns-clause-reads
returns-clause-reads c =
    let frame = c.args.frame.now in
    let written = take_at (frame_bytes frame) (drop c.write_frame.result c.args.out.now) c.write_frame.result (length-frame_bytes frame ∙ sym c.write_frame.ensures.length) in
    subst (λ bytes. ReadAs bytes frame) (sym (ap (take c.write_frame.result) c.write_frame.ensures.bytes ∙ written)) (ReadAs-frame_bytes frame c.requires)
