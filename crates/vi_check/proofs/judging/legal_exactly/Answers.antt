use Rattle.vi_check.proofs.LegalLemmas as laws
use Rattle.vi_check.proofs.judging.legal_exactly.Goals as goal

pub returns : goal.returns
returns c = laws.legal_exactly
