use Rattle.std.proofs.Common.{◌≡◌, ℕ, get_or, None}
use Rattle.script.specs.Plans.{busy}
use Rattle.script.proofs.plans.busy_plan.Given as goal

abbrev pub invariant-loop-slot : goal.invariant-loop-slot
invariant-loop-slot l = (k : ℕ) → get_or l.draft.table.entries k None ≡ busy l.slot k
