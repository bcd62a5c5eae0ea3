use Rattle.vi_iotlb.proofs.Written.{ReadAs-frame_bytes, length-frame_bytes}
use Rattle.vi_iotlb.proofs.laws.frames_read_back.Goals as goal

pub returns-clause-length : goal.returns-clause-length
returns-clause-length c = length-frame_bytes

pub returns-clause-reads : goal.returns-clause-reads
returns-clause-reads c = ReadAs-frame_bytes
