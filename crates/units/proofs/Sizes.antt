-- How large a signed number, a sum or a quotient can be. Assumes nothing.
use Rattle.std.proofs.Common.{◌≡◌, ℕ, zero, suc, ◌+◌, ◌-◌, ◌*◌, ◌/◌, ◌^◌, ◌<◌, ◌≤◌, ℤ, pos, negsuc, ◌+ℤ◌, ◌-ℤ◌, ◌*ℤ◌, neg_ℤ, nat_abs, SFits, w64, to_z, of_z, to_z-of_z, refl, ap, ⊎_elim, le_refl, suc-mul, mul-add, add-one, arith}
use native.Mathlib.Nat.{mul-div-le, lt-mul-div-succ}
use Rattle.units.specs.Integer.{up, dn, sum, total, rounded_up}
use Rattle.units.proofs.Integers.{signs, add_law, sub_law, abs_law, one_sided, decide_n}

-- |z| is the least sum of two numbers whose difference is z
pub abs_least : (z : ℤ) (x y : ℕ) → up z + y ≡ dn z + x → nat_abs z ≤ x + y
abs_least z x y e = ⊎_elim (λ (d : dn z ≡ 0). omega (arith, abs_law z)) (λ (u : up z ≡ 0). omega (arith, abs_law z)) (one_sided z)

-- a bound on both sides is a bound on the size
pub abs_within : (z : ℤ) (M : ℕ) → up z ≤ dn z + M → dn z ≤ up z + M → nat_abs z ≤ M
abs_within z M a b = ⊎_elim (λ (d : dn z ≡ 0). omega (arith, abs_law z)) (λ (u : up z ≡ 0). omega (arith, abs_law z)) (one_sided z)

pub abs_add : (a b : ℤ) → nat_abs (a +ℤ b) ≤ nat_abs a + nat_abs b
abs_add a b = omega (arith, abs_least (a +ℤ b) (up a + up b) (dn a + dn b) (omega (arith, add_law a b)), abs_law a, abs_law b)

pub abs_sub : (a b : ℤ) → nat_abs (a -ℤ b) ≤ nat_abs a + nat_abs b
abs_sub a b = omega (arith, abs_least (a -ℤ b) (up a + dn b) (dn a + up b) (omega (arith, sub_law a b)), abs_law a, abs_law b)

pub abs_neg : (a : ℤ) → nat_abs (neg_ℤ a) ≡ nat_abs a
abs_neg (pos zero) = refl
abs_neg (pos (suc n)) = refl
abs_neg (negsuc n) = refl

pub abs_mul : (a b : ℤ) → nat_abs (a *ℤ b) ≡ nat_abs a * nat_abs b
abs_mul (pos a) (pos b) = refl
abs_mul (pos a) (negsuc b) = abs_neg (pos (a * suc b))
abs_mul (negsuc a) (pos b) = abs_neg (pos (suc a * b))
abs_mul (negsuc a) (negsuc b) = refl

-- ---- sums, as a loop's invariant has them

pub sum_more : (f : ℕ → ℤ) (n : ℕ) → sum f (n + 1) ≡ sum f n +ℤ f n
unfolding sum
sum_more f n = rw add-one

pub sum_same : (f g : ℕ → ℤ) (n : ℕ) → ((i : ℕ) → i < n → f i ≡ g i) → sum f n ≡ sum g n
unfolding sum
sum_same f g zero h = refl
sum_same f g (suc n) h = rw (sum_same f g n (λ i l. h i (omega arith)), h n (omega arith))

pub sum_abs : (f : ℕ → ℤ) (b n : ℕ) → ((i : ℕ) → i < n → nat_abs (f i) ≤ b) → nat_abs (sum f n) ≤ n * b
unfolding sum
sum_abs f b zero h = omega arith
sum_abs f b (suc n) h = omega (arith, abs_add (sum f n) (f n), sum_abs f b n (λ i l. h i (omega arith)), h n (omega arith), suc-mul n b)

-- what f changes to g by, added to f's sum
pub sum_changed : (f g : ℕ → ℤ) (n : ℕ) → sum f n +ℤ sum (λ (i : ℕ). g i -ℤ f i) n ≡ sum g n
unfolding sum
sum_changed f g zero = refl
sum_changed f g (suc n) =
    let d = sum (λ (i : ℕ). g i -ℤ f i) n in
    let so = sum_changed f g n in
    omega (
      signs,
      add_law (sum f n +ℤ f n) (d +ℤ (g n -ℤ f n)),
      add_law (sum f n) (f n),
      add_law d (g n -ℤ f n),
      sub_law (g n) (f n),
      add_law (sum g n) (g n),
      add_law (sum f n) d,
    )

-- .. and where only the first m have changed, the sum is no larger than those of f and of g can be
pub mixed_abs : (f g : ℕ → ℤ) (b n m : ℕ) → m ≤ n → ((i : ℕ) → i < n → (nat_abs (f i) ≤ b) × (nat_abs (g i) ≤ b)) → nat_abs (sum f n +ℤ sum (λ (i : ℕ). g i -ℤ f i) m) ≤ n * b
unfolding sum
mixed_abs f g b zero m l h = let e : m ≡ 0 = omega arith in rw e (omega arith)
mixed_abs f g b (suc n) m l h = ⊎_elim
    (λ (early : m ≤ n).
    let d = sum (λ (i : ℕ). g i -ℤ f i) m in
    let e : sum f (suc n) +ℤ d ≡ (sum f n +ℤ d) +ℤ f n = omega (signs, add_law (sum f n +ℤ f n) d, add_law (sum f n) (f n), add_law (sum f n +ℤ d) (f n), add_law (sum f n) d) in
    omega (arith, ap nat_abs e, abs_add (sum f n +ℤ d) (f n), mixed_abs f g b n m early (λ i k. h i (omega arith)), (h n (omega arith)).0, suc-mul n b))
    (λ (late : n < m).
    let e : m ≡ suc n = omega arith in
    rw (e, sum_changed f g (suc n)) (sum_abs g b (suc n) (λ i k. (h i k).1)))
    (decide_n m n)

pub total_none : (f : ℕ → ℕ) → total f 0 ≡ 0
unfolding total
total_none f = refl

pub total_more : (f : ℕ → ℕ) (n : ℕ) → total f (n + 1) ≡ total f n + f n
unfolding total
total_more f n = rw add-one

pub total_same : (f g : ℕ → ℕ) (n : ℕ) → ((i : ℕ) → i < n → f i ≡ g i) → total f n ≡ total g n
unfolding total
total_same f g zero h = refl
total_same f g (suc n) h = rw (total_same f g n (λ i l. h i (omega arith)), h n (omega arith))

pub total_both : (f g : ℕ → ℕ) (n : ℕ) → total (λ (i : ℕ). f i + g i) n ≡ total f n + total g n
unfolding total
total_both f g zero = refl
total_both f g (suc n) = omega (arith, total_both f g n)

pub total_under : (f g : ℕ → ℕ) (n : ℕ) → ((i : ℕ) → i < n → f i ≤ g i) → total f n ≤ total g n
unfolding total
total_under f g zero h = omega arith
total_under f g (suc n) h = omega (arith, total_under f g n (λ i l. h i (omega arith)), h n (omega arith))

pub total_small : (f : ℕ → ℕ) (b n : ℕ) → ((i : ℕ) → i < n → f i ≤ b) → total f n ≤ n * b
unfolding total
total_small f b zero h = omega arith
total_small f b (suc n) h = omega (arith, total_small f b n (λ i l. h i (omega arith)), h n (omega arith), suc-mul n b)

pub total_grows : (f : ℕ → ℕ) (m n : ℕ) → m ≤ n → total f m ≤ total f n
unfolding total
total_grows f m zero h = let e : m ≡ 0 = omega arith in rw e (le_refl _)
total_grows f m (suc n) h = ⊎_elim
    (λ (l : m ≤ n). omega (arith, total_grows f m n l))
    (λ (l : n < m). let e : m ≡ suc n = omega arith in rw e (le_refl _)) (decide_n m n)

-- ---- division by s above 0

-- rounded up: the least r with n ≤ s r
pub rounded_up_law : (n s : ℕ) → 0 < s → (n ≤ s * rounded_up n s) × (s * rounded_up n s < n + s)
unfolding rounded_up
rounded_up_law n s p =
    let m = n + (s - 1) in
    let low = mul-div-le m s in
    let high = lt-mul-div-succ m p in
    let e = mul-add s (m / s) 1 in
    (omega arith, omega arith)

-- what is small enough to be an i64
pub fits_signed : (z : ℤ) → nat_abs z < 2 ^ 63 → SFits w64 z
fits_signed (pos n) h = record { sfits = omega arith }
fits_signed (negsuc n) h = record { sfits = omega arith }

pub plus_fits : (a b : ℤ) → nat_abs a + nat_abs b < 2 ^ 63 → SFits w64 (a +ℤ b)
plus_fits a b h = fits_signed (a +ℤ b) (omega (arith, h, abs_add a b))

pub minus_fits : (a b : ℤ) → nat_abs a + nat_abs b < 2 ^ 63 → SFits w64 (a -ℤ b)
minus_fits a b h = fits_signed (a -ℤ b) (omega (arith, h, abs_sub a b))

pub times_fits : (a b : ℤ) → nat_abs a * nat_abs b < 2 ^ 63 → SFits w64 (a *ℤ b)
times_fits a b h = fits_signed (a *ℤ b) (omega (arith, h, abs_mul a b))

-- a difference as the code has it, of numbers that are known
pub minus_is : (p q a b : ℤ) → p ≡ a → q ≡ b → nat_abs a + nat_abs b < 2 ^ 63 → to_z w64 (of_z w64 (p -ℤ q)) ≡ a -ℤ b
minus_is p q a b e f h = rw (e, f) (to_z-of_z (minus_fits a b h))
