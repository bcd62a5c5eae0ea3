use Rattle.vi_threaded.proofs.running.text_of.Goals as goal

pub returns : goal.returns
returns c = record {
  outcome = c.in_ok-outcome.outcome;
  ran = c.in_ok-outcome.ensures;
  typed = c.in_ok-text.ensures.typed;
  report = c.in_ok-text.ensures.text _ _ c.requires.read c.in_ok-outcome.ensures.history.legal.named;
}
