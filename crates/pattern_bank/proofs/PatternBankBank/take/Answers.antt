use Rattle.std.proofs.Common.{◌≡◌, length, ◌∙◌, Some, sym, rules}
use Rattle.std.proofs.lemmas.Bool.{cond-true}
use Rattle.pattern_bank.specs.Register.{octet_from}
use Rattle.pattern_bank.specs.Pattern.{marked, take_from}
use Rattle.pattern_bank.specs.Meaning.{as_account, pattern_meaning, pattern_laws}
use Rattle.pattern_bank.specs.Standing.{pattern_of}
use Rattle.pattern_bank.proofs.Patterns.{called_means, taken_account}
use Rattle.pattern_bank.proofs.PatternBankBank.take.Goals as goal

pub returns : goal.returns
returns c =
    let n = c.args.channel in
    let len : length c.args.self.now.channels ≡ 80 = search rules in
    let all =
    called_means n c.args.self.now.channels c.on_channel.new.self.channels len (λ o. o) (pattern_meaning.taken n) c.on_channel.result c.on_channel.ensures (pattern_laws.no_take n)
    (λ f x l t k.
    let answer : x ≡ marked (octet_from (pattern_of f).sending).0 = search rules in
    let left : pattern_of l ≡ take_from (pattern_of f) = search rules in
    cond-true _ _ _ t ∙ taken_account f ∙ (λ i. (Some (sym answer i), as_account (sym left i)))) in
    record { answer = all.0; left = all.1 }
