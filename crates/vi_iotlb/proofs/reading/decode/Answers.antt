use Rattle.vi_iotlb.specs.Frames.{ReadAs}
use Rattle.vi_iotlb.specs.Refusals.{RefusedAs}
use Rattle.vi_iotlb.proofs.Exact.{exact_ok, exact_err}
use Rattle.vi_iotlb.proofs.OneReading.{one_frame, one_fault, apart}
use Rattle.vi_iotlb.proofs.reading.decode.Goals as goal

pub returns-clause-accepted : goal.returns-clause-accepted
returns-clause-accepted c =
    let bytes = c.args.bytes.now in
    exact_ok (ReadAs bytes) (RefusedAs bytes) (one_frame bytes) (one_fault bytes) (apart bytes) c.read_frame.result c.read_frame.ensures

pub returns-clause-refused : goal.returns-clause-refused
returns-clause-refused c =
    let bytes = c.args.bytes.now in
    exact_err (ReadAs bytes) (RefusedAs bytes) (one_frame bytes) (one_fault bytes) (apart bytes) c.read_frame.result c.read_frame.ensures
