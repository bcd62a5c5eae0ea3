use Rattle.std.proofs.Common.{◌≡◌, take, refl}
use Rattle.vi_mail.specs.Coding.{frame_of}
use Rattle.vi_mail.proofs.Kept.{kept-is, frame_of-frame_bytes}
use Rattle.vi_mail.proofs.coded.Coded.of.Goals as goal

pub invariant_of-result : goal.invariant_of-result
invariant_of-result c =
    let kept = kept-is c.args.frame.now c.encode-len.result c.encode-len.new.out _ c.encode-len.ensures.length c.encode-len.ensures.bytes in
    let read : frame_of (take c.encode-len.result c.encode-len.new.out) ≡ c.args.frame.now = rw kept (frame_of-frame_bytes c.args.frame.now c.requires) in
    record { fits = c.encode-len.ensures.fits; sendable = rw read c.requires; written = rw (read, kept) refl }

pub returns : goal.returns
returns c =
    let kept = kept-is c.args.frame.now c.encode-len.result c.encode-len.new.out _ c.encode-len.ensures.length c.encode-len.ensures.bytes in
    rw kept (frame_of-frame_bytes c.args.frame.now c.requires)
