-- The gross rates in bit/s, and how far apart the slots of a channel lie at each.
use Rattle.std.specs.Prelude.{ℕ, Bool, cond, Some, None, Option, ◌==◌}
use Rattle.channel_plan.specs.declared.rate.Rate.{Rate}
use Rattle.channel_plan.specs.declared.rate.Rate.TheVariants.{Bps12000, Bps6000, Bps3000, Bps750}

abbrev pub bits : Rate → ℕ
bits Bps12000 = 12000
bits Bps6000 = 6000
bits Bps3000 = 3000
bits Bps750 = 750

abbrev pub period : Rate → ℕ
period Bps12000 = 5
period Bps6000 = 10
period Bps3000 = 20
period Bps750 = 80

-- the rate of n bit/s
abbrev pub rate_of : ℕ → Option Rate
rate_of n =
    cond (n == 12000) (Some Bps12000)
    (cond (n == 6000) (Some Bps6000) (cond (n == 3000) (Some Bps3000) (cond (n == 750) (Some Bps750) None)))

-- one and the same rate: rates differ in their periods
abbrev pub same : Rate → Rate → Bool
same r q = period r == period q
