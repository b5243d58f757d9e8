-- A list read from a place on and then from its start, and what a write to one place does to it.
use Rattle.std.proofs.Common.{◌≡◌, ℕ, suc, ◌+◌, ◌-◌, ◌<◌, ◌≤◌, ltb, List, [], ◌∷◌, ◌++◌, length, get_or, take, drop, set, min, sym, refl, ap, ◌∙◌, ap₂, ⊎_elim, append_assoc, arith, length-append, length-drop, length-take, drop-set-lt}
use lib.Seq.{take-set-lt, take-set-le, drop-set-add, take-append-add}
use Rattle.std.specs.List.{slice_get}
use Rattle.std.proofs.lemmas.List.{set-append_left, set-append_right, get_or_append_left, get_or-append_right, get_or-take, get_or-drop, take_more_set, drop_more, take_more, drop_all, take-append-le, length-take-le, take_all, append-nil}
use Rattle.std.proofs.lemmas.Bool.{cases_lt, cond-true, cond-false, lt-ltb, le-ltb}
use Rattle.ring.specs.Held.{part, turned, place_at}

place_low : (h p k : ℕ) → k < p - h → place_at h p k ≡ h + k
place_low h p k l = cond-true (ltb k (p - h)) (h + k) (k - (p - h)) (lt-ltb k (p - h) l)

place_high : (h p k : ℕ) → p - h ≤ k → place_at h p k ≡ k - (p - h)
place_high h p k l = cond-false (ltb k (p - h)) (h + k) (k - (p - h)) (le-ltb k (p - h) l)

pub place_below : (h p k : ℕ) → h ≤ p → k < p → place_at h p k < p
place_below h p k le lt =
    ⊎_elim
    (λ (l : k < p - h). omega (arith, place_low h p k l))
    (λ (l : p - h ≤ k). omega (arith, place_high h p k l))
    (cases_lt k (p - h))

module _ {T : Type 0} where
  pub length_part : (b p : ℕ) (m : List T) → b + p ≤ length m → length (part b p m) ≡ p
  length_part b p m fit = length-take-le p (drop b m) (simp length-drop (omega arith))

  pub get_or_part : (b p : ℕ) (m : List T) (k : ℕ) (d : T) → k < p → get_or (part b p m) k d ≡ get_or m (b + k) d
  get_or_part b p m k d lt = get_or-take p (drop b m) k d lt ∙ get_or-drop b m k d

  part_set : (b p : ℕ) (m : List T) (a : ℕ) (x : T) → a < p → part b p (set m (b + a) x) ≡ set (part b p m) a x
  part_set b p m a x lt = ap (take p) (drop-set-add b m a x) ∙ take-set-lt p (drop b m) a x lt

  length_turned : (h : ℕ) (s : List T) → h ≤ length s → length (turned h s) ≡ length s
  length_turned h s le = simp (length-append, length-drop, length-take) (omega arith)

  set_low : (h : ℕ) (s : List T) (k : ℕ) (x : T) → k < length s - h → turned h (set s (h + k) x) ≡ set (turned h s) k x
  set_low h s k x lt =
      let here : k < length (drop h s) = simp length-drop (omega arith) in
      let e = drop-set-add h s k x in
      let f = take-set-le h s (h + k) x (omega arith) in
      let g = set-append_left (drop h s) (take h s) k x here in
      cc

  set_high : (h : ℕ) (s : List T) (k : ℕ) (x : T) → h ≤ length s → k < length s → length s - h ≤ k → turned h (set s (k - (length s - h)) x) ≡ set (turned h s) k x
  set_high h s k x le lt ge =
      let e = drop-set-lt h s (k - (length s - h)) x (omega arith) in
      let f = take-set-lt h s (k - (length s - h)) x (omega arith) in
      let g = set-append_right (drop h s) (take h s) (length s - h) k x (length-drop h s) ge in
      cc

  -- a write to the place that is k after h
  set_turned : (h p : ℕ) (s : List T) (k : ℕ) (x : T) → length s ≡ p → h ≤ p → k < p → turned h (set s (place_at h p k) x) ≡ set (turned h s) k x
  set_turned h p s k x e le lt =
      ⊎_elim
      (λ (low : k < p - h). ap (λ i. turned h (set s i x)) (place_low h p k low) ∙ set_low h s k x (omega arith))
      (λ (high : p - h ≤ k).
      let i : k - (p - h) ≡ k - (length s - h) = omega arith in
      ap (λ j. turned h (set s j x)) (place_high h p k high ∙ i) ∙ set_high h s k x (omega arith) (omega arith) (omega arith))
      (cases_lt k (p - h))

  get_or_turned : (h p : ℕ) (s : List T) (k : ℕ) (d : T) → length s ≡ p → h ≤ p → k < p → get_or (turned h s) k d ≡ get_or s (place_at h p k) d
  get_or_turned h p s k d e le lt =
      ⊎_elim
      (λ (low : k < p - h).
      let here : k < length (drop h s) = simp length-drop (omega arith) in
      get_or_append_left (drop h s) (take h s) d k here ∙ get_or-drop h s k d ∙ ap (λ i. get_or s i d) (sym (place_low h p k low)))
      (λ (high : p - h ≤ k).
      get_or-append_right (drop h s) (take h s) (p - h) k d (length-drop h s ∙ omega arith) high
      ∙ get_or-take h s (k - (p - h)) d (omega arith)
      ∙ ap (λ i. get_or s i d) (sym (place_high h p k high)))
      (cases_lt k (p - h))

  -- from the next place on, the oldest comes last
  turned_more : (h p : ℕ) (s : List T) (d : T) → length s ≡ p → h + 1 < p → turned (h + 1) s ≡ (drop (h + 1) s ++ take h s) ++ (get_or s h d ∷ [])
  turned_more h p s d e lt =
      ap (λ l. drop (h + 1) s ++ l) (take_more s h d (omega arith)) ∙ sym (append_assoc (drop (h + 1) s) (take h s) (get_or s h d ∷ []))

  turned_wrap : (h p : ℕ) (s : List T) (d : T) → length s ≡ p → h < p → p ≤ h + 1 → turned 0 s ≡ (drop (h + 1) s ++ take h s) ++ (get_or s h d ∷ [])
  turned_wrap h p s d e lt le =
      let all : take (h + 1) s ≡ s = take_all (h + 1) s (omega arith) in
      let none : drop (h + 1) s ≡ [] = drop_all (h + 1) s (omega arith) in
      append-nil s ∙ sym all ∙ take_more s h d (omega arith) ∙ ap (λ l. (l ++ take h s) ++ (get_or s h d ∷ [])) (sym none)

  -- one more is written
  pub put_list : (b p h w : ℕ) (m : List T) (x : T) → b + p ≤ length m → h ≤ p → w < p → take (w + 1) (turned h (part b p (set m (b + place_at h p w) x))) ≡ take w (turned h (part b p m)) ++ (x ∷ [])
  put_list b p h w m x fit le lt =
      let s : List T = part b p m in
      let n : length s ≡ p = length_part b p m fit in
      let t : length (turned h s) ≡ length s = length_turned h s (omega arith) in
      ap (λ l. take (w + 1) (turned h l)) (part_set b p m (place_at h p w) x (place_below h p w le lt))
      ∙ ap (take (w + 1)) (set_turned h p s w x n le lt)
      ∙ take_more_set (turned h s) w x (omega arith)

  -- the oldest goes
  pub take_list : (p h w : ℕ) (s : List T) (n : ℕ) (d : T) → length s ≡ p → h < p → 0 < w → w ≤ p → (h + 1 < p → n ≡ h + 1) → (p ≤ h + 1 → n ≡ 0) → take w (turned h s) ≡ get_or s h d ∷ take (w - 1) (turned n s)
  take_list p h w s n d e lt some fits more wraps =
      let rest : List T = drop (h + 1) s ++ take h s in
      let len : length rest ≡ p - 1 = simp (length-append, length-drop, length-take) (omega arith) in
      let old : turned h s ≡ get_or s h d ∷ rest = ap (λ l. l ++ take h s) (drop_more s h d (omega arith)) in
      let new : turned n s ≡ rest ++ (get_or s h d ∷ []) =
      ⊎_elim
      (λ (l : h + 1 < p). ap (λ i. turned i s) (more l) ∙ turned_more h p s d e l)
      (λ (l : p ≤ h + 1). ap (λ i. turned i s) (wraps l) ∙ turned_wrap h p s d e lt l)
      (cases_lt (h + 1) p) in
      let w' : w ≡ suc (w - 1) = omega arith in
      let back : take (w - 1) (rest ++ (get_or s h d ∷ [])) ≡ take (w - 1) rest = take-append-le (w - 1) rest (get_or s h d ∷ []) (omega arith) in
      ap (λ l. take w l) old ∙ ap (λ i. take i (get_or s h d ∷ rest)) w' ∙ ap (λ l. get_or s h d ∷ l) (sym back ∙ ap (take (w - 1)) (sym new))

  -- what stands k after the oldest
  pub nth_list : (b p h w : ℕ) (m : List T) (k : ℕ) (d : T) → b + p ≤ length m → h ≤ p → w ≤ p → k < w → get_or (take w (turned h (part b p m))) k d ≡ get_or m (b + place_at h p k) d
  nth_list b p h w m k d fit le wp lt =
      get_or-take w (turned h (part b p m)) k d lt
      ∙ get_or_turned h p (part b p m) k d (length_part b p m fit) le (omega arith)
      ∙ get_or_part b p m (place_at h p k) d (place_below h p k le (omega arith))

  pub length_list : (b p h w : ℕ) (m : List T) → b + p ≤ length m → h ≤ p → w ≤ p → length (take w (turned h (part b p m))) ≡ w
  length_list b p h w m fit le wp =
      let n : length (part b p m) ≡ p = length_part b p m fit in
      let t : length (turned h (part b p m)) ≡ length (part b p m) = length_turned h (part b p m) (omega arith) in
      length-take-le w (turned h (part b p m)) (omega arith)

  -- what stands first among xs and then ys, where ys has something only if xs has
  pub first_of_two : (xs ys : List T) → (length xs ≡ 0 → length ys ≡ 0) → slice_get xs 0 ≡ slice_get (xs ++ ys) 0
  first_of_two [] [] f = refl
  first_of_two [] (y ∷ ys) f = absurd (omega (arith, f refl))
  first_of_two (x ∷ xs) ys f = refl

  take_two : (w : ℕ) (xs ys : List T) → take (min w (length xs)) xs ++ take (w - min w (length xs)) ys ≡ take w (xs ++ ys)
  take_two w xs ys =
      ⊎_elim
      (λ (l : w < length xs).
      let e : min w (length xs) ≡ w = omega arith in
      let z : w - w ≡ 0 = omega arith in
      ap (λ n. take n xs ++ take (w - n) ys) e ∙ ap (λ n. take w xs ++ take n ys) z ∙ append-nil (take w xs) ∙ sym (take-append-le w xs ys (omega arith)))
      (λ (g : length xs ≤ w).
      let e : min w (length xs) ≡ length xs = omega arith in
      let i : length xs + (w - length xs) ≡ w = omega arith in
      ap (λ n. take n xs ++ take (w - n) ys) e
      ∙ ap (λ l. l ++ take (w - length xs) ys) (take_all (length xs) xs (omega arith))
      ∙ sym (take-append-add xs ys (w - length xs))
      ∙ ap (λ n. take n (xs ++ ys)) i)
      (cases_lt w (length xs))

  -- what waits, in two runs: up to the last place, and then from the first place on
  pub runs_list : (h w e : ℕ) (s early late : List T) → early ≡ drop h s → late ≡ take h s → e ≡ min w (length early) → take e early ++ take (w - e) late ≡ take w (turned h s)
  runs_list h w e s early late x y z =
      ap (λ n. take n early ++ take (w - n) late) z
      ∙ take_two w early late
      ∙ ap₂ (λ (a b : List T). take w (a ++ b)) x y
