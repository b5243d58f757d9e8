use Rattle.std.proofs.Common.{◌≡◌, ◌++◌, map, take, drop}
use Rattle.station.specs.Hearing.{without_received}
use Rattle.station.proofs.hear.forget.Given as goal

abbrev pub invariant-loop-record : goal.invariant-loop-record
invariant-loop-record l = l.records ≡ map without_received (take l.record-index l.initial.records) ++ drop l.record-index l.initial.records
