use Rattle.std.proofs.Common.{◌≡◌, get_or, sym, ap, ◌∙◌}
use Rattle.std.proofs.lemmas.List.{drop_all}
use Rattle.flips.specs.Flips.{inverted}
use Rattle.flips.proofs.Places.{by_place}
use Rattle.flips.proofs.invert.Goals as goal

pub returns-clause-places : goal.returns-clause-places
returns-clause-places c rises p h =
    let all : c.loop-flip.bits ≡ inverted c.args.bits.now c.args.flips.now =
    sym (ap (inverted c.loop-flip.bits) (drop_all c.loop-flip.flip-index c.args.flips.now c.loop-flip-test.false)) ∙ c.loop-flip.invariant in
    ap (λ bs. get_or bs p 0) all ∙ by_place 0 c.args.bits.now c.args.flips.now rises p h
