use Rattle.std.proofs.Common.{◌≡◌, Ok, refl}
use Rattle.vi_iotlb.proofs.Written.{ReadAs-frame_bytes}
use Rattle.vi_mail.proofs.coded.Coded.frame.Goals as goal

pub unwrap-requires : goal.unwrap-requires
unwrap-requires c =
    let ok : c.decode.result ≡ Ok c.args.self.now = (c.decode.ensures.accepted c.args.self.now).1 (rw c.as_bytes.ensures.bytes (ReadAs-frame_bytes c.args.self.now c.as_bytes.ensures.sendable)) in
    rw ok refl

pub returns-clause-frame : goal.returns-clause-frame
returns-clause-frame c =
    let ok : c.decode.result ≡ Ok c.args.self.now = (c.decode.ensures.accepted c.args.self.now).1 (rw c.as_bytes.ensures.bytes (ReadAs-frame_bytes c.args.self.now c.as_bytes.ensures.sendable)) in
    cc (ok, c.unwrap.ensures)

pub returns-clause-sendable : goal.returns-clause-sendable
returns-clause-sendable c =
    let ok : c.decode.result ≡ Ok c.args.self.now = (c.decode.ensures.accepted c.args.self.now).1 (rw c.as_bytes.ensures.bytes (ReadAs-frame_bytes c.args.self.now c.as_bytes.ensures.sendable)) in
    let same : c.unwrap.result ≡ c.args.self.now = cc (ok, c.unwrap.ensures) in
    rw same c.as_bytes.ensures.sendable
