use Rattle.std.proofs.Common.{◌≡◌, ◌-◌}
use Rattle.vi_vring.specs.Shown.{shown, surveyed, IsSmall}
use Rattle.vi_vring.proofs.Surveys.{surveyed_from}
use Rattle.vi_vring.proofs.walking.survey.Given as goal

abbrev pub invariant-chain : goal.invariant-chain
invariant-chain l = record {
  rest : surveyed_from l.n l.area (l.n - l._passed) l.d l.so_far ≡ surveyed (shown l.n l.area l.head);
  small : IsSmall l.so_far;
}
