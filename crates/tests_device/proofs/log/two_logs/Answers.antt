use Rattle.std.proofs.Common.{◌≡◌, ◌==◌, ℕ, ◌+◌, count_by, cond, ap, ap₂, ◌∙◌, arith}
use Rattle.std.proofs.lemmas.Bool.Decides.{nat_tests}
use Rattle.vi_log.specs.Logs.{LogValue, once_below, pushed}
use Rattle.tests_device.proofs.log.two_logs.Goals as goal

-- 0 and 2 in one log, and 1 in the other
three : (ticket : ℕ) → 0 + (0 + cond (0 == ticket) 1 0 + cond (2 == ticket) 1 0) + (0 + cond (1 == ticket) 1 0) ≡ once_below ticket 3
three ticket = grind (arith, nat_tests)

pub returns : goal.returns
returns c ticket =
    let first = c.push-2.ensures ∙ ap (pushed _) (c.push.ensures ∙ ap (pushed _) c.in_ok-first.ensures) in
    let second = c.push-3.ensures ∙ ap (pushed _) c.in_ok-second.ensures in
    ap₂ (λ (l k : LogValue). 0 + count_by (λ x. x.ticket == ticket) l.entries + count_by (λ x. x.ticket == ticket) k.entries) first second ∙ three ticket
