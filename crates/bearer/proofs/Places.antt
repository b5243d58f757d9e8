-- What each role says of its place: how many payload bits and how many check bits stand before it, and after it.
use Rattle.std.proofs.Common.{◌≡◌, ℕ, ◌+◌, ◌-◌, ◌*◌, ◌/◌, ◌%◌, ◌<◌, ◌≤◌, min, eqb, ltb, arith}
use Rattle.std.proofs.lemmas.Bool.{cond_both, eqb-false, eqb-true, ltb-false, ltb-true}
use Rattle.std.proofs.lemmas.Bool.Decides.{nat_tests}
use Rattle.frame.specs.declared.mode.Mode.{Mode}
use Rattle.frame.specs.declared.padding.Padding.{Padding as Held}
use Rattle.frame.specs.declared.padding.Padding.TheVariants.{Check, Service}
use Rattle.frame.specs.declared.place.Role.{Role}
use Rattle.frame.specs.declared.place.Role.TheVariants.{Padding, Payload, Added}
use Rattle.frame.specs.Paddings.{padding}
use Rattle.frame.specs.Places.{role}

abbrev pub payloads : ℕ → ℕ
payloads p = p - p / 16

abbrev pub slot_at : ℕ → ℕ
slot_at p = payloads p / 10

abbrev pub bit_at : ℕ → ℕ
bit_at p = payloads p % 10

-- of q padding bits, those that are check bits
abbrev pub checks : ℕ → ℕ
checks q = q / 40 * 4 + min 4 (q % 40 - 4)

-- of padding bit q
abbrev pub Padded : ℕ → Held → Type 0
Padded q (Check k) = (checks q ≡ k) × (checks (q + 1) ≡ k + 1) × (k < 16)
Padded q (Service j) = (checks (q + 1) ≡ checks q) × (q < 159)
Padded q _ = checks (q + 1) ≡ checks q

pub record InPayload (p k j : ℕ) : Type 0 where
  pub slot : slot_at p ≡ k
  pub bit : bit_at p ≡ j
  pub small : j < 10
  pub same : j < 9 → slot_at (p + 1) ≡ k
  pub next : j < 9 → bit_at (p + 1) ≡ j + 1
  pub start : j ≡ 9 → bit_at (p + 1) ≡ 0
  pub row : (p + 1) / 16 ≡ p / 16

pub record InPadding (p : ℕ) (h : Held) : Type 0 where
  pub row : (p + 1) / 16 ≡ p / 16 + 1
  pub kept : payloads (p + 1) ≡ payloads p
  pub padded : Padded (p / 16) h

abbrev pub Place : Mode → ℕ → Role → Type 0
Place mode p (Padding s i) = InPadding p (padding mode s i)
Place mode p (Payload k j) = InPayload p k j
Place mode p Added = 2560 ≤ p

inside : (p : ℕ) → (p % 16 ≡ 15 → ⊥) → InPayload p (slot_at p) (bit_at p)
inside p h = let more : payloads (p + 1) ≡ payloads p + 1 = omega arith in grind arith

beside : (mode : Mode) (p : ℕ) → p < 2560 → p % 16 ≡ 15 → InPadding p (padding mode (p / 16 / 40 + 1) (p / 16 % 40 + 1))
beside mode p below h = grind (arith, nat_tests)

pub place : (mode : Mode) (p : ℕ) → Place mode p (role p)
place mode p =
    cond_both (ltb p 2560) _ Added (Place mode p)
    (λ below. cond_both (eqb (p % 16) 15) (Padding (p / 16 / 40 + 1) (p / 16 % 40 + 1)) (Payload (slot_at p) (bit_at p)) (Place mode p)
    (λ e. beside mode p (ltb-true p 2560 below) (eqb-true (p % 16) 15 e)) (λ e. inside p (eqb-false (p % 16) 15 e)))
    (ltb-false p 2560)
