use Rattle.std.proofs.Common.{◌≡◌, sym, subst, rules}
use Rattle.frame.specs.Checks.{CheckOf, remainder}
use Rattle.frame.proofs.Division.{check_of, remainder_by_fold}
use Rattle.frame.proofs.check.remainder_of.Goals as goal

pub returns : goal.returns
returns c =
    let is : c.fold.result ≡ remainder c.args.bits.now = remainder_by_fold _ _ _ (search rules) in
    record { value = is; check = subst (CheckOf c.args.bits.now) (sym is) (check_of c.args.bits.now) }
