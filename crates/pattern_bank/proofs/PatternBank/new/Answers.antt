use Rattle.std.proofs.Common.{◌≡◌, replicate, sym, ap, subst}
use lib.ListN.{length-replicate}
use Rattle.std.proofs.lemmas.List.{get_or-replicate}
use Rattle.bank.specs.Channels.{on_each}
use Rattle.bank.proofs.Tables.{table_each}
use Rattle.pattern_bank.specs.declared.channel.Channel.{Channel}
use Rattle.pattern_bank.specs.Pattern.{fresh}
use Rattle.pattern_bank.specs.Meaning.{as_account}
use Rattle.pattern_bank.specs.Standing.{pattern_of, account_of, FirstTakes, LoopedBack}
use Rattle.pattern_bank.proofs.Patterns.{first_takes, looped_back}
use Rattle.pattern_bank.proofs.PatternBank.new.Goals as goal

pub returns : goal.returns
returns c =
    let x : Channel = record { sending = record { bits = 511 }; comparing = record { bits = 511 }; wrong = 0 } in
    let all : account_of (record { channels = replicate 80 x }) ≡ on_each (as_account fresh) =
    table_each (λ y. as_account (pattern_of y)) (replicate 80 x) x (as_account fresh) (length-replicate 80 x) (λ k lt. ap (λ y. as_account (pattern_of y)) (get_or-replicate 80 k x x lt)) in
    record { account = all; first = subst FirstTakes (sym all) first_takes; looped = subst LoopedBack (sym all) looped_back }
