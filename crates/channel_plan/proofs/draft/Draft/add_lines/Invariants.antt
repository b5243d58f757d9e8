use Rattle.std.proofs.Common.{◌≡◌}
use Rattle.channel_plan.specs.Files.{with_lines}
use Rattle.plan_text.specs.Pieces.{lines}
use Rattle.channel_plan.proofs.draft.Draft.add_lines.Given as goal

-- what is left gives what the whole gives
abbrev pub invariant-loop-line : goal.invariant-loop-line
invariant-loop-line l =
    with_lines l.header l.self.table.entries l.line-iterator.number l.line-iterator.byte (lines l.line-iterator.rest.now)
    ≡ with_lines l.header l.initial.self.table.entries 2 l.byte (lines l.text)
