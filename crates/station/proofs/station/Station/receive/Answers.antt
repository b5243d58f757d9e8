use Rattle.channel_plan.specs.Tables.{owner_of}
use Rattle.station.proofs.Pieces.{in_pieces}
use Rattle.station.proofs.station.Station.receive.Goals as goal

pub returns-in_err-judge-clause-pieces : goal.returns-in_err-judge-clause-pieces
returns-in_err-judge-clause-pieces g c = in_pieces (owner_of c.args.self.now.plan.table) c.args.self.now.line c.args.run.now

pub returns-clause-pieces : goal.returns-clause-pieces
returns-clause-pieces g c = in_pieces (owner_of c.args.self.now.plan.table) c.args.self.now.line c.args.run.now
