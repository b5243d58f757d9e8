-- What is inverted at listed places, place by place.
use Rattle.std.proofs.Common.{◌≡◌, ℕ, ◌+◌, ◌<◌, ◌≤◌, Bool, true, false, cond, ◌&&◌, ◌||◌, List, [], ◌∷◌, length, eqb, leb, ltb, get_or, bit_xor, sym, refl, ap, ◌∙◌, subst, arith}
use Rattle.std.proofs.lemmas.Bool.{and_parts, eq-eqb, eqb-true, false≢true, leb-true, ne_eqb}
use Rattle.std.proofs.lemmas.List.{get_or-set_same, get_or-set_other, length-set}
use Rattle.flips.specs.Flips.{ByPlace, inverted, inverted_at, listed, rises}

-- no place below the first of a rising list is listed
not_listed : (low n p : ℕ) (ps : List ℕ) → rises low n ps ≡ true → p < low → listed p ps ≡ false
not_listed low n p [] e h = refl
not_listed low n p (q ∷ ps) e h =
    let first = and_parts (leb low q) (ltb q n && rises (q + 1) n ps) e in
    let rest = and_parts (ltb q n) (rises (q + 1) n ps) first.1 in
    let at : low ≤ q = leb-true low q first.0 in
    rw (ne_eqb q p (λ s. absurd (omega arith))) (not_listed (q + 1) n p ps rest.1 (omega arith))

pub by_place : (low : ℕ) (bits ps : List ℕ) → rises low (length bits) ps ≡ true → ByPlace bits ps (inverted bits ps)
by_place low bits [] e p h = refl
by_place low bits (q ∷ ps) e p h =
    let first = and_parts (leb low q) (ltb q (length bits) && rises (q + 1) (length bits) ps) e in
    let rest = and_parts (ltb q (length bits)) (rises (q + 1) (length bits) ps) first.1 in
    let other : ℕ = bit_xor (get_or bits q 0) 1 in
    let long : length (inverted_at bits q) ≡ length bits = length-set bits q other in
    let later = by_place (q + 1) (inverted_at bits q) ps (subst (λ n. rises (q + 1) n ps ≡ true) (sym long) rest.1) p (omega (arith, long)) in
    later ∙ here (eqb q p) refl (get_or-set_same bits q other 0) (not_listed (q + 1) (length bits) p ps rest.1)
  where
    here : (b : Bool) → eqb q p ≡ b → (q < length bits → get_or (inverted_at bits q) q 0 ≡ bit_xor (get_or bits q 0) 1) → (p < q + 1 → listed p ps ≡ false)
        → cond (listed p ps) (bit_xor (get_or (inverted_at bits q) p 0) 1) (get_or (inverted_at bits q) p 0) ≡ cond (b || listed p ps) (bit_xor (get_or bits p 0) 1) (get_or bits p 0)
    here true s same none =
        let at : q ≡ p = eqb-true q p s in
        rw (none (omega arith)) (subst (λ k. get_or (inverted_at bits q) k 0 ≡ bit_xor (get_or bits k 0) 1) at (same (omega arith)))
    here false s same none =
        let apart : get_or (inverted_at bits q) p 0 ≡ get_or bits p 0 = get_or-set_other bits q p (bit_xor (get_or bits q 0) 1) 0 (λ k. absurd (false≢true (sym s ∙ eq-eqb q p (sym k)))) in
        ap (λ v. cond (listed p ps) (bit_xor v 1) v) apart
