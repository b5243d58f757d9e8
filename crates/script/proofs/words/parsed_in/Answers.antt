use Rattle.std.proofs.Common.{rules}
use Rattle.script.proofs.Parsing.{read}
use Rattle.script.proofs.words.parsed_in.Goals as goal

pub returns : goal.returns
returns c = search (rules, read)
