-- Division modulo 2: the remainder is linear, it is what a division leaves, and it is the only one.
use Rattle.std.proofs.Common.{◌≡◌, ℕ, zero, suc, ◌+◌, ◌*◌, ◌/◌, ◌%◌, ◌<◌, ◌≤◌, List, [], ◌∷◌, length, fold, sym, refl, ap, ◌∙◌, ap₂, add-zero, mod-eq_of_lt, arith}
use lib.Bits.{bit_xor, xor_assoc, xor_comm, xor_shr, xor_mod, xor_block, xor_self, xor_zero_r, xor_zero_l, xor_lt}
use Rattle.frame.specs.Checks.{reduce, divide, remainder_after, remainder, polynomial_after, product_after, product, flipped, Remainder, CheckOf}

-- sums modulo 2
xor_left_comm : (a b c : ℕ) → bit_xor a (bit_xor b c) ≡ bit_xor b (bit_xor a c)
xor_left_comm a b c = sym (xor_assoc a b c) ∙ ap (λ x. bit_xor x c) (xor_comm a b) ∙ xor_assoc b a c

pub swap : (a b c d : ℕ) → bit_xor (bit_xor a b) (bit_xor c d) ≡ bit_xor (bit_xor a c) (bit_xor b d)
swap a b c d = simp (xor_assoc, xor_left_comm b c d)

pub cancel : (a b : ℕ) → bit_xor a (bit_xor a b) ≡ b
cancel a b = sym (xor_assoc a a b) ∙ ap (λ x. bit_xor x b) (xor_self a) ∙ xor_zero_l b

same_from_sum : (a b : ℕ) → bit_xor a b ≡ 0 → a ≡ b
same_from_sum a b e = sym (xor_zero_r a) ∙ ap (bit_xor a) (sym e) ∙ cancel a b

cross : (a b q r : ℕ) → bit_xor a q ≡ bit_xor b r → bit_xor a b ≡ bit_xor q r
cross a b q r e = same_from_sum (bit_xor a b) (bit_xor q r) (swap a b q r ∙ ap (λ t. bit_xor t (bit_xor b r)) e ∙ xor_self (bit_xor b r))

-- a bit is 0 or 1, so it is itself modulo 2
bit_lt : (a b : ℕ) → bit_xor (a % 2) (b % 2) < 2
bit_lt a b = xor_lt 1 (a % 2) (b % 2) (omega arith) (omega arith)

bit_mod : (a b : ℕ) → bit_xor (a % 2) (b % 2) % 2 ≡ bit_xor (a % 2) (b % 2)
bit_mod a b = mod-eq_of_lt (bit_lt a b)

times_divisor : (x y : ℕ) → x < 2 → y < 2 → bit_xor x y * 0x11021 ≡ bit_xor (x * 0x11021) (y * 0x11021)
times_divisor zero zero h k = refl
times_divisor zero (suc zero) h k = refl
times_divisor (suc zero) zero h k = refl
times_divisor (suc zero) (suc zero) h k = refl
times_divisor zero (suc (suc y)) h k = absurd (omega arith)
times_divisor (suc zero) (suc (suc y)) h k = absurd (omega arith)
times_divisor (suc (suc x)) y h k = absurd (omega arith)

-- one step of each is linear
pub shift_linear : (r s a b : ℕ) → a < 2 → b < 2 → bit_xor r s * 2 + bit_xor a b ≡ bit_xor (r * 2 + a) (s * 2 + b)
shift_linear r s a b h k = sym (xor_block 1 r s a b h k)

double_linear : (r s : ℕ) → bit_xor r s * 2 ≡ bit_xor (r * 2) (s * 2)
double_linear r s =
    sym (add-zero (bit_xor r s * 2)) ∙ shift_linear r s 0 0 (omega arith) (omega arith) ∙ ap₂ bit_xor (add-zero (r * 2)) (add-zero (s * 2))

top : (s t : ℕ) → bit_xor s t / 65536 % 2 ≡ bit_xor (s / 65536 % 2) (t / 65536 % 2)
top s t = ap (λ x. x % 2) (xor_shr s t 16) ∙ xor_mod (s / 65536) (t / 65536) 1

reduce_linear : (s t : ℕ) → reduce (bit_xor s t) ≡ bit_xor (reduce s) (reduce t)
reduce_linear s t =
    ap (bit_xor (bit_xor s t)) (ap (λ x. x * 0x11021) (top s t) ∙ times_divisor (s / 65536 % 2) (t / 65536 % 2) (omega arith) (omega arith))
    ∙ swap s t (s / 65536 % 2 * 0x11021) (t / 65536 % 2 * 0x11021)

pub divide_linear : (r s a b : ℕ) → divide (bit_xor r s) (bit_xor (a % 2) (b % 2)) ≡ bit_xor (divide r a) (divide s b)
unfolding divide
divide_linear r s a b =
    ap (λ x. reduce (bit_xor r s * 2 + x)) (bit_mod a b) ∙ ap reduce (shift_linear r s (a % 2) (b % 2) (omega arith) (omega arith))
    ∙ reduce_linear (r * 2 + a % 2) (s * 2 + b % 2)

remainder_linear : (r s : ℕ) (xs fs : List ℕ) → length fs ≡ length xs → remainder_after (bit_xor r s) (flipped xs fs) ≡ bit_xor (remainder_after r xs) (remainder_after s fs)
unfolding remainder_after flipped
remainder_linear r s [] [] e = refl
remainder_linear r s [] (f ∷ fs) e = absurd (omega arith)
remainder_linear r s (x ∷ xs) [] e = absurd (omega arith)
remainder_linear r s (x ∷ xs) (f ∷ fs) e =
    ap (λ t. remainder_after t (flipped xs fs)) (divide_linear r s x f) ∙ remainder_linear (divide r x) (divide s f) xs fs (omega arith)

product_linear : (m n : ℕ) (xs ys : List ℕ) → length ys ≡ length xs → product_after (bit_xor m n) (flipped xs ys) ≡ bit_xor (product_after m xs) (product_after n ys)
unfolding product_after flipped
product_linear m n [] [] e = refl
product_linear m n [] (y ∷ ys) e = absurd (omega arith)
product_linear m n (x ∷ xs) [] e = absurd (omega arith)
product_linear m n (x ∷ xs) (y ∷ ys) e =
    ap (λ t. product_after t (flipped xs ys))
    (ap₂ bit_xor (double_linear m n) (ap (λ b. b * 0x11021) (bit_mod x y) ∙ times_divisor (x % 2) (y % 2) (omega arith) (omega arith))
    ∙ swap (m * 2) (n * 2) (x % 2 * 0x11021) (y % 2 * 0x11021))
    ∙ product_linear (bit_xor (m * 2) (x % 2 * 0x11021)) (bit_xor (n * 2) (y % 2 * 0x11021)) xs ys (omega arith)

-- the remainder has 16 bits
reduce_lt : (t : ℕ) → t < 131072 → reduce t < 65536
reduce_lt t h =
    let q : ℕ = t / 65536 in
    let s : ℕ = t % 65536 in
    let a : t ≡ q * 65536 + s = omega arith in
    let b : t / 65536 % 2 * 0x11021 ≡ q * 65536 + q * 4129 = omega arith in
    let e : reduce t ≡ bit_xor q q * 65536 + bit_xor s (q * 4129) = ap₂ bit_xor a b ∙ xor_block 16 q q s (q * 4129) (omega arith) (omega arith) in
    omega (arith, e, xor_self q, xor_lt 16 s (q * 4129) (omega arith) (omega arith))

pub divide_lt : (r b : ℕ) → r < 65536 → divide r b < 65536
unfolding divide
divide_lt r b h = reduce_lt (r * 2 + b % 2) (omega arith)

remainder_lt : (r : ℕ) (xs : List ℕ) → r < 65536 → remainder_after r xs < 65536
unfolding remainder_after
remainder_lt r [] h = h
remainder_lt r (x ∷ xs) h = remainder_lt (divide r x) xs (divide_lt r x h)

-- what the division takes away at each step
quotient : ℕ → List ℕ → List ℕ
quotient r [] = []
quotient r (b ∷ bs) = (r * 2 + b % 2) / 65536 ∷ quotient (divide r b) bs

length_quotient : (r : ℕ) (xs : List ℕ) → length (quotient r xs) ≡ length xs
unfolding quotient
length_quotient r [] = refl
length_quotient r (x ∷ xs) = ap suc (length_quotient (divide r x) xs)

divides : (m r : ℕ) (xs : List ℕ) → polynomial_after (bit_xor m r) xs ≡ bit_xor (product_after m (quotient r xs)) (remainder_after r xs)
unfolding polynomial_after product_after quotient remainder_after divide
divides m r [] = refl
divides m r (b ∷ bs) =
    let t : ℕ = (r * 2 + b % 2) / 65536 % 2 * 0x11021 in
    let u : ℕ = r * 2 + b % 2 in
    let e : bit_xor m r * 2 + b % 2 ≡ bit_xor (bit_xor (m * 2) t) (bit_xor u t) =
    shift_linear m r 0 (b % 2) (omega arith) (omega arith) ∙ ap (λ x. bit_xor x u) (add-zero (m * 2))
    ∙ sym (swap (m * 2) t u t ∙ ap (bit_xor (bit_xor (m * 2) u)) (xor_self t) ∙ xor_zero_r (bit_xor (m * 2) u)) in
    ap (λ v. polynomial_after v bs) e ∙ divides (bit_xor (m * 2) t) (divide r b) bs

-- a multiple of the divisor that is not 0 has 17 bits at least
doubled_high : (m x : ℕ) → 65536 ≤ m → x < 131072 → 65536 ≤ bit_xor (m * 2) x
doubled_high m x h k =
    let zero_high : x / 131072 ≡ 0 = omega arith in
    let high : bit_xor (m * 2) x / 131072 ≡ m * 2 / 131072 = xor_shr (m * 2) x 17 ∙ ap (bit_xor (m * 2 / 131072)) zero_high ∙ xor_zero_r (m * 2 / 131072) in
    omega arith

product_high : (m : ℕ) (bs : List ℕ) → 65536 ≤ m → 65536 ≤ product_after m bs
unfolding product_after
product_high m [] h = h
product_high m (b ∷ bs) h = product_high (bit_xor (m * 2) (b % 2 * 0x11021)) bs (doubled_high m (b % 2 * 0x11021) h (omega arith))

product_low : (bs : List ℕ) → product bs < 65536 → product bs ≡ 0
unfolding product_after
product_low [] h = refl
product_low (b ∷ bs) h = at (b % 2) (omega arith) h (product_low bs)
  where
    at : (c : ℕ) → c < 2 → product_after (bit_xor 0 (c * 0x11021)) bs < 65536 → (product_after 0 bs < 65536 → product_after 0 bs ≡ 0) → product_after (bit_xor 0 (c * 0x11021)) bs ≡ 0
    at zero k low rest = rest low
    at (suc zero) k low rest = absurd (omega (arith, product_high 0x11021 bs (omega arith)))
    at (suc (suc c)) k low rest = absurd (omega arith)

-- so two remainders of the same bits are one
only_one : (bits : List ℕ) (q r : ℕ) → Remainder bits q → Remainder bits r → q ≡ r
only_one bits q r x y =
    let xs = x.quotient in
    let ys = y.quotient in
    let long : length ys ≡ length xs = omega (arith, x.long, y.long) in
    let sums : bit_xor (product xs) q ≡ bit_xor (product ys) r = sym x.sum ∙ y.sum in
    let multiple : product (flipped xs ys) ≡ bit_xor q r = product_linear 0 0 xs ys long ∙ cross (product xs) (product ys) q r sums in
    same_from_sum q r (sym multiple ∙ product_low (flipped xs ys) (omega (arith, multiple, xor_lt 16 q r x.lower y.lower)))

pub remainder_is : (bits : List ℕ) → Remainder bits (remainder bits)
remainder_is bits = record { quotient = quotient 0 bits; long = length_quotient 0 bits; sum = divides 0 0 bits; lower = remainder_lt 0 bits (omega arith) }

pub check_of : (bits : List ℕ) → CheckOf bits (remainder bits)
check_of bits = record {
  is = remainder_is bits;
  only = λ q x. only_one bits q (remainder bits) x (remainder_is bits);
  linear = λ flips long. remainder_linear 0 0 bits flips long;
}

-- a step as a program takes it, by the highest bit
pub divide_low : (r b : ℕ) → r * 2 + b % 2 < 65536 → r * 2 + b % 2 ≡ divide r b
unfolding divide
divide_low r b h =
    let e : (r * 2 + b % 2) / 65536 % 2 ≡ 0 = omega arith in
    sym (ap (λ x. bit_xor (r * 2 + b % 2) (x * 0x11021)) e ∙ xor_zero_r (r * 2 + b % 2))

pub divide_high : (r b : ℕ) → 65536 ≤ r * 2 + b % 2 → r < 65536 → bit_xor (r * 2 + b % 2) 0x11021 ≡ divide r b
unfolding divide
divide_high r b h k =
    let e : 1 ≡ (r * 2 + b % 2) / 65536 % 2 = omega arith in
    ap (λ x. bit_xor (r * 2 + b % 2) (x * 0x11021)) e

-- bit after bit, as a program takes them
pub remainder_by_fold : (n r : ℕ) (bs : List ℕ) → n ≡ fold divide r bs → n ≡ remainder_after r bs
unfolding remainder_after
remainder_by_fold n r [] e = e
remainder_by_fold n r (b ∷ bs) e = remainder_by_fold n (divide r b) bs e
