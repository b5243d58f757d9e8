use Rattle.std.proofs.Common.{◌≡◌, map, drop, string_bytes}
use Rattle.script.specs.Plans.{table_of, with_lines}
use Rattle.script.proofs.by_words.plan_of.Given as goal

abbrev pub invariant-loop-line : goal.invariant-loop-line
invariant-loop-line l = with_lines l.draft.table.entries (map string_bytes (drop l.line-index l.lines)) ≡ table_of (map string_bytes l.lines)
