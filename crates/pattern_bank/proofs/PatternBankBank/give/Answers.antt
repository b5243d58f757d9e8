use Rattle.std.proofs.Common.{◌≡◌, length, ◌∙◌, ap, sym, rules}
use Rattle.std.proofs.lemmas.Bool.{cond-true}
use Rattle.pattern_bank.specs.Pattern.{give_to}
use Rattle.pattern_bank.specs.Meaning.{as_account, pattern_meaning, pattern_laws}
use Rattle.pattern_bank.specs.Standing.{pattern_of}
use Rattle.pattern_bank.proofs.Patterns.{called_means, given_account}
use Rattle.pattern_bank.proofs.PatternBankBank.give.Goals as goal

pub returns : goal.returns
returns c =
    let n = c.args.channel in
    let e = c.args.e in
    let len : length c.args.self.now.channels ≡ 80 = search rules in
    let all =
    called_means n c.args.self.now.channels c.on_channel.new.self.channels len (λ o. tt {0}) (λ a. (tt {0}, pattern_meaning.given n a e)) c.on_channel.result c.on_channel.ensures (λ a out. ap (λ b. (tt {0}, b)) (pattern_laws.no_give n a e out))
    (λ f x l t k.
    let left : pattern_of l ≡ give_to (pattern_of f) e = search rules in
    ap (λ b. (tt {0}, b)) (cond-true _ _ _ t ∙ given_account f e ∙ ap as_account (sym left))) in
    record { left = all.1 }
