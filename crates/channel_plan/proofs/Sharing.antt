-- Two assignments share a slot exactly if the first slot of the one with the longer period goes to both.
use Rattle.std.proofs.Common.{◌≡◌, ℕ, ◌%◌, ◌<◌, ◌≤◌, Bool, true, false, ◌&&◌, Decides, sym, refl, ap, ◌∙◌, subst, mod-lt, mod-eq_of_lt, arith}
use Rattle.std.proofs.lemmas.Bool.Decides.{same_from_decides, Decides-below_or, Decides-and, Decides-eqb, Decides-ltb, Decides-like, not_from_Decides}
use Rattle.std.proofs.lemmas.Bool.{eqb-true}
use Rattle.channel_plan.specs.declared.rate.Rate.{Rate}
use Rattle.channel_plan.specs.declared.rate.Rate.TheVariants.{Bps12000, Bps6000, Bps3000, Bps750}
use Rattle.channel_plan.specs.declared.row.Assignment.{Assignment}
use Rattle.channel_plan.specs.Rates.{period}
use Rattle.channel_plan.specs.Rows.{owns, shares, some_below, lies_in}

-- a slot that both own, where the period of a is a multiple of that of b
abbrev Common : Assignment → Assignment → Type 0
Common a b = (s : ℕ) × (s < 240) × ((s % period a.rate ≡ a.first) × (s % period b.rate ≡ b.first))

-- the remainder by the longer period has the remainder by the shorter
nested : (r q : Rate) (s : ℕ) → period q ≤ period r → s % period r % period q ≡ s % period q
nested Bps12000 Bps12000 s h = omega arith
nested Bps12000 Bps6000 s h = omega arith
nested Bps12000 Bps3000 s h = omega arith
nested Bps12000 Bps750 s h = omega arith
nested Bps6000 Bps12000 s h = omega arith
nested Bps6000 Bps6000 s h = omega arith
nested Bps6000 Bps3000 s h = omega arith
nested Bps6000 Bps750 s h = omega arith
nested Bps3000 Bps12000 s h = omega arith
nested Bps3000 Bps6000 s h = omega arith
nested Bps3000 Bps3000 s h = omega arith
nested Bps3000 Bps750 s h = omega arith
nested Bps750 Bps12000 s h = omega arith
nested Bps750 Bps6000 s h = omega arith
nested Bps750 Bps3000 s h = omega arith
nested Bps750 Bps750 s h = omega arith

pub period_range : (r : Rate) → (0 < period r) × (period r ≤ 80)
period_range Bps12000 = (omega arith, omega arith)
period_range Bps6000 = (omega arith, omega arith)
period_range Bps3000 = (omega arith, omega arith)
period_range Bps750 = (omega arith, omega arith)

common : (a b : Assignment) → Decides (shares a b) (Common a b)
unfolding shares
common a b =
    Decides-below_or (λ s. owns a s && owns b s) (λ s. (s % period a.rate ≡ a.first) × (s % period b.rate ≡ b.first))
    (some_below (λ s. owns a s && owns b s))
    (λ s. Decides-and _ _ (Decides-eqb (s % period a.rate) a.first) (Decides-eqb (s % period b.rate) b.first)) refl (λ _. refl) 240

lies : (a b : Assignment) → Decides (lies_in a b) ((a.first < period a.rate) × (a.first % period b.rate ≡ b.first))
lies a b = Decides-and _ _ (Decides-ltb a.first (period a.rate)) (Decides-eqb (a.first % period b.rate) b.first)

module _ (a b : Assignment) (shorter : period b.rate ≤ period a.rate) where
  to_common : (a.first < period a.rate) × (a.first % period b.rate ≡ b.first) → Common a b
  to_common h = (a.first, omega (arith, period_range a.rate), (mod-eq_of_lt h.0, h.1))

  from_common : Common a b → (a.first < period a.rate) × (a.first % period b.rate ≡ b.first)
  from_common h = (
    subst (λ n. n < period a.rate) h.2.0 (mod-lt h.0 (period_range a.rate).0),
    ap (λ n. n % period b.rate) (sym h.2.0) ∙ nested a.rate b.rate h.0 shorter ∙ h.2.1,
  )

  pub lies_shares : lies_in a b ≡ shares a b
  lies_shares = same_from_decides (lies_in a b) (shares a b) (Decides-like (lies_in a b) to_common from_common (lies a b)) (common a b)

pub shares_flip : (a b : Assignment) → shares a b ≡ shares b a
shares_flip a b =
    same_from_decides (shares a b) (shares b a) (common a b)
    (Decides-like (shares b a) (λ h. (h.0, h.1, (h.2.1, h.2.0))) (λ h. (h.0, h.1, (h.2.1, h.2.0))) (common b a))

-- what shares no slot owns none in common
pub not_shared : (a b : Assignment) (s : ℕ) → shares a b ≡ false → s < 240 → (owns a s && owns b s) ≡ false
not_shared a b s none h = not_both (owns a s) (owns b s) (λ p q. not_from_Decides (shares a b) (common a b) none (s, h, (eqb-true _ _ p, eqb-true _ _ q)))
  where
    not_both : (x y : Bool) → (x ≡ true → y ≡ true → ⊥) → (x && y) ≡ false
    not_both true true never = absurd (never refl refl)
    not_both true false never = refl
    not_both false y never = refl
