-- What the iterator over a plan's rows gives.
use Rattle.std.specs.Prelude.{◌≡◌, List, [], ◌∷◌, Some, None, Option}
use Rattle.channel_plan.specs.declared.row.Row.{Row}
use Rattle.channel_plan.specs.declared.rows.Rows.{Rows}
use Rattle.channel_plan.specs.Entries.{rows_after}

-- the rows still to come
abbrev pub to_come : Rows → List Row
to_come s = rows_after s.plan.now.table.entries s.seen

-- a call gives the first of the rows to come, and leaves the others
abbrev pub Gave : Rows → Option Row → Rows → Type 0
Gave s None t = to_come s ≡ []
Gave s (Some r) t = to_come s ≡ r ∷ to_come t
