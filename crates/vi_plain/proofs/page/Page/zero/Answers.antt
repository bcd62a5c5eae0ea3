use Rattle.vi_history.specs.Start.{zero_page}
use Rattle.vi_plain.proofs.page.Page.zero.Goals as goal

pub returns : goal.returns
unfolding zero_page
returns c = c.in_ok-bytes.ensures
