use Rattle.std.proofs.Common.{arith}
use Rattle.vi_device.proofs.device.Device.look_in_domain.Goals as goal

pub overflow_sub-result : goal.overflow_sub-result
overflow_sub-result c = omega (arith, c.in-Some.ensures.within.0)

pub overflow_add-result : goal.overflow_add-result
overflow_add-result c = omega (arith, c.in-Some.ensures.within.0, c.in-Some.ensures.within.1, c.in-Some.ensures.ranges.target)
