use Rattle.std.proofs.Common.{sym, ap}
use Rattle.script.proofs.banks.with_bank.Goals as goal

pub returns-clause-called : goal.returns-clause-called
returns-clause-called g c = record {
  shown = _;
  shows = c.swap_bank.ensures.other;
  left = _;
  met = c.call-answer.ensures;
  leaves = sym (ap (λ s. s.bank) c.swap_bank-2.ensures.left);
}
