use Rattle.std.proofs.Common.{◌≡◌, length, ◌∙◌, ap, true, sym, is_some, rules}
use Rattle.pattern_bank.specs.Pattern.{fresh}
use Rattle.pattern_bank.specs.Meaning.{as_account, pattern_meaning, pattern_laws}
use Rattle.pattern_bank.specs.Standing.{pattern_of}
use Rattle.pattern_bank.proofs.Patterns.{called_means, offered_is}
use Rattle.pattern_bank.proofs.PatternBankBank.offer.Goals as goal

pub returns : goal.returns
returns c =
    let n = c.args.channel in
    let len : length c.args.self.now.channels ≡ 80 = search rules in
    let all =
    called_means n c.args.self.now.channels c.on_channel.new.self.channels len is_some (λ a. pattern_meaning.offered n a c.args.arg3) c.on_channel.result c.on_channel.ensures (λ a. pattern_laws.no_offer n a c.args.arg3)
    (λ f x l t k.
    let left : pattern_of l ≡ fresh = search rules in
    offered_is n t _ c.args.arg3 ∙ ap (λ p. (true, as_account p)) (sym left)) in
    record { answer = c.is_some.ensures ∙ all.0; left = all.1 }
