use Rattle.vi_iotlb.proofs.OneReading.{one_frame}
use Rattle.vi_iotlb.proofs.laws.frames_read_once.Goals as goal

pub returns-clause-one : goal.returns-clause-one
returns-clause-one c = one_frame
