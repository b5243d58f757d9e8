-- How many slots of the frame an assignment gives.
use Rattle.std.proofs.Common.{◌≡◌, ℕ, zero, suc, ◌+◌, ◌/◌, ◌%◌, ◌<◌, ◌≤◌, Bool, true, cond, ◌&&◌, eqb, refl, ap, ◌∙◌, mod-lt, arith}
use Rattle.std.proofs.lemmas.Bool.{ne_eqb}
use Rattle.std.proofs.lemmas.Bool.Decides.{Decides-below_and, Decides-eqb}
use Rattle.channel_plan.specs.declared.rate.Rate.{Rate}
use Rattle.channel_plan.specs.declared.rate.Rate.TheVariants.{Bps12000, Bps6000, Bps3000, Bps750}
use Rattle.channel_plan.specs.declared.row.Assignment.{Assignment}
use Rattle.channel_plan.specs.Rates.{period}
use Rattle.channel_plan.specs.Rows.{count_below, owns, slots}

abbrev every : (ℕ → Bool) → ℕ → Bool
every p zero = true
every p (suc n) = p n && every p n

-- a test of every first slot below the period, which is computed
abbrev even : ℕ → Bool
even p = every (λ f. eqb (count_below (λ s. eqb (s % p) f) 240) (240 / p)) p

all_even : (r : Rate) → even (period r) ≡ true
all_even Bps12000 = refl
all_even Bps6000 = refl
all_even Bps3000 = refl
all_even Bps750 = refl

pub slots_below : (a : Assignment) → a.first < period a.rate → slots a ≡ 240 / period a.rate
unfolding slots
slots_below a h =
    let p = period a.rate in
    (Decides-below_and (λ f. eqb (count_below (λ s. eqb (s % p) f) 240) (240 / p)) (λ f. count_below (λ s. eqb (s % p) f) 240 ≡ 240 / p)
    (every (λ f. eqb (count_below (λ s. eqb (s % p) f) 240) (240 / p))) (λ f. Decides-eqb _ _) refl (λ _. refl) p).0 (all_even a.rate) a.first h

-- a first slot that is not below the period is no remainder
none_owned : (a : Assignment) → 0 < period a.rate → period a.rate ≤ a.first → (n : ℕ) → count_below (owns a) n ≡ 0
none_owned a some h zero = refl
none_owned a some h (suc n) =
    ap (λ b. cond b 1 0 + count_below (owns a) n) (ne_eqb (n % period a.rate) a.first (λ e. omega (arith, mod-lt n some)))
    ∙ omega (arith, none_owned a some h n)

pub slots_above : (a : Assignment) → 0 < period a.rate → period a.rate ≤ a.first → slots a ≡ 0
unfolding slots
slots_above a some h = none_owned a some h 240
