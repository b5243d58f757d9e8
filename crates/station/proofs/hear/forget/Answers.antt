use Rattle.std.proofs.Common.{rules}
use Rattle.std.proofs.lemmas.List.Edits.{map_over_more}
use Rattle.station.specs.Hearing.{without_received}
use Rattle.station.proofs.hear.forget.Goals as goal

pub loop-record-preserved : goal.loop-record-preserved
loop-record-preserved c = search (rules, map_over_more without_received)
