use Rattle.std.proofs.Common.{◌≡◌, map, drop, string_bytes}
use Rattle.script.specs.Plans.{parsed_table_of, with_lines_by}
use Rattle.script.specs.Words.{parsed_at}
use Rattle.script.proofs.plans.parsed_plan_of.Given as goal

abbrev pub invariant-loop-line : goal.invariant-loop-line
invariant-loop-line l = with_lines_by parsed_at l.draft.table.entries (map string_bytes (drop l.line-index l.lines)) ≡ parsed_table_of (map string_bytes l.lines)
