use Rattle.std.proofs.Common.{◌≡◌, suc, ◌+◌, ◌-◌, ◌*◌, ◌^◌, sym, ap, ◌∙◌, ap₂, arith, pow-add}
use Rattle.pattern_bank.specs.Register.{stages, bits_from}
use Rattle.pattern_bank.proofs.register.Register.next_octet.Goals as goal

pub loop-preserved : goal.loop-preserved
unfolding bits_from
loop-preserved c =
    let k = c.loop.counter in
    let o = c.loop.octet in
    let double : 2 ^ (k + 1) ≡ 2 ^ k * 2 = pow-add 2 k 1 in
    let more : 8 - k ≡ suc (8 - (k + 1)) = omega arith in (
      omega arith,
      ap₂ (λ b r. bits_from (8 - (k + 1)) (o * 2 + b) r) c.next_bit.ensures.is c.shift.ensures
          ∙ sym (ap (λ n. bits_from n o (stages c.loop.self.bits)) more)
          ∙ c.loop.invariant.1,
    )

pub returns : goal.returns
unfolding bits_from
returns c =
    let all : 8 - c.loop.counter ≡ 0 = omega arith in
    sym (ap (λ n. bits_from n c.loop.octet (stages c.loop.self.bits)) all) ∙ c.loop.invariant.1
