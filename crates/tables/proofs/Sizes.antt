-- How many pairs can have a number.
use Rattle.std.proofs.Common.{◌≡◌, ℕ, zero, suc, ◌+◌, ◌-◌, ◌*◌, ◌<◌, ◌≤◌, Bool, true, false, ◌&&◌, eqb, is_some, Some, None, sym, refl, ap, subst, ap₂, ⊎_elim, suc-mul, arith}
use Rattle.std.proofs.lemmas.Bool.{cases_eq, cond-true, cond-false, and_from, eq-eqb}
use Rattle.std.proofs.lemmas.Bool.Decides.{nat_tests}
use Rattle.tables.specs.Links.{Links, no_links, with_link, one_if, row_size, rows_size, size}

pub one_if_le : (b : Bool) → one_if b ≤ 1
one_if_le true = omega arith
one_if_le false = omega arith

-- a test on a pair that is another
pub not_both : (a b c d : ℕ) → ((a ≡ c) × (b ≡ d) → ⊥) → (eqb a c && eqb b d) ≡ false
not_both a b c d h = grind (arith, nat_tests)

module _ (m : Links) (a : ℕ) where
  row_le : (n : ℕ) → row_size m a n ≤ n
  unfolding row_size
  row_le zero = omega arith
  row_le (suc b) = omega (arith, row_le b, one_if_le (is_some (m a b)))

  none_here : (x b : ℕ) → m a x ≡ None → x ≡ b → one_if (is_some (m a b)) ≡ 0
  none_here x b e q = ap (λ o. one_if (is_some o)) (subst (λ y. m a y ≡ None) q e)

  -- one pair has no number
  row_lt : (n x : ℕ) → x < n → m a x ≡ None → row_size m a n < n
  unfolding row_size
  row_lt zero x h e = omega arith
  row_lt (suc b) x h e =
      ⊎_elim
      (λ (q : x ≡ b). omega (arith, none_here x b e q, row_le b))
      (λ (q : x ≡ b → ⊥). let l : x < b = omega arith in omega (arith, row_lt b x l e, one_if_le (is_some (m a b))))
      (cases_eq x b)

  -- two pairs have no number
  row_lt_two : (n x y : ℕ) → x < n → y < n → (x ≡ y → ⊥) → m a x ≡ None → m a y ≡ None → suc (row_size m a n) < n
  unfolding row_size
  row_lt_two zero x y h k d e f = omega arith
  row_lt_two (suc b) x y h k d e f =
      ⊎_elim
      (λ (q : x ≡ b). let l : y < b = omega arith in omega (arith, none_here x b e q, row_lt b y l f))
      (λ (q : x ≡ b → ⊥).
      ⊎_elim
      (λ (p : y ≡ b). let l : x < b = omega arith in omega (arith, none_here y b f p, row_lt b x l e))
      (λ (p : y ≡ b → ⊥).
      let l : x < b = omega arith in
      let j : y < b = omega arith in
      omega (arith, row_lt_two b x y l j d e f, one_if_le (is_some (m a b))))
      (cases_eq y b))
      (cases_eq x b)

module _ (m : Links) (n : ℕ) (none : (a : ℕ) → m a a ≡ None) where
  rows_le : (k : ℕ) → k ≤ n → rows_size m n k ≤ k * (n - 1)
  unfolding rows_size
  rows_le zero h = omega arith
  rows_le (suc a) h =
      let i : a ≤ n = omega arith in
      let j : a < n = omega arith in
      omega (arith, rows_le a i, row_lt m a n a j (none a), suc-mul a (n - 1))

  -- a pair without a number leaves room
  rows_lt : (k a b : ℕ) → k ≤ n → a < k → b < n → (a ≡ b → ⊥) → m a b ≡ None → rows_size m n k < k * (n - 1)
  unfolding rows_size
  rows_lt zero a b h i j d e = omega arith
  rows_lt (suc c) a b h i j d e =
      ⊎_elim
      (λ (q : a ≡ c).
      let l : c ≤ n = omega arith in
      let p : c < n = omega arith in
      let x : c ≡ b → ⊥ = omega arith in
      omega (arith, rows_le c l, row_lt_two m c n c b p j x (none c) (subst (λ y. m y b ≡ None) q e), suc-mul c (n - 1)))
      (λ (q : a ≡ c → ⊥).
      let l : c ≤ n = omega arith in
      let p : c < n = omega arith in
      let x : a < c = omega arith in
      omega (arith, rows_lt c a b l x j d e, row_lt m c n c p (none c), suc-mul c (n - 1)))
      (cases_eq a c)

  pub size_lt : (a b : ℕ) → a < n → b < n → (a ≡ b → ⊥) → m a b ≡ None → size m n < n * (n - 1)
  unfolding size
  size_lt a b h i d e = rows_lt n a b (omega arith) h i d e

-- one pair more has a number
module _ (m : Links) (a b v : ℕ) (e : m a b ≡ None) where
  abbrev more : Links
  more = with_link m a b (Some v)

  more_other : (x y : ℕ) → ((x ≡ a) × (y ≡ b) → ⊥) → more x y ≡ m x y
  more_other x y h = cond-false (eqb x a && eqb y b) _ _ (not_both x y a b h)

  row_other : (x n : ℕ) → (x ≡ a → ⊥) → row_size more x n ≡ row_size m x n
  unfolding row_size
  row_other x zero h = refl
  row_other x (suc y) h = ap₂ (λ k o. k + one_if (is_some o)) (row_other x y h) (more_other x y (λ q. h q.0))

  row_before : (n : ℕ) → n ≤ b → row_size more a n ≡ row_size m a n
  unfolding row_size
  row_before zero h = refl
  row_before (suc y) h = ap₂ (λ k o. k + one_if (is_some o)) (row_before y (omega arith)) (more_other a y (λ q. omega (arith, q.1)))

  row_more : (n : ℕ) → b < n → row_size more a n ≡ suc (row_size m a n)
  unfolding row_size
  row_more zero h = omega arith
  row_more (suc y) h =
      ⊎_elim
      (λ (q : b ≡ y).
      let old : one_if (is_some (m a y)) ≡ 0 = ap (λ o. one_if (is_some o)) (subst (λ k. m a k ≡ None) q e) in
      let new : one_if (is_some (more a y)) ≡ 1 = ap (λ o. one_if (is_some o)) (cond-true (eqb a a && eqb y b) (Some v) (m a y) (and_from _ _ (eq-eqb a a refl) (eq-eqb y b (sym q)))) in
      let l : y ≤ b = omega arith in
      omega (arith, row_before y l))
      (λ (q : b ≡ y → ⊥).
      let l : b < y = omega arith in
      let same : one_if (is_some (more a y)) ≡ one_if (is_some (m a y)) = ap (λ o. one_if (is_some o)) (more_other a y (λ p. q (sym p.1))) in
      omega (arith, row_more y l))
      (cases_eq b y)

  rows_before : (n k : ℕ) → k ≤ a → rows_size more n k ≡ rows_size m n k
  unfolding rows_size
  rows_before n zero h = refl
  rows_before n (suc x) h =
      let l : x ≤ a = omega arith in
      ap₂ ◌+◌ (rows_before n x l) (row_other x n (omega arith))

  rows_more : (n k : ℕ) → a < k → b < n → rows_size more n k ≡ suc (rows_size m n k)
  unfolding rows_size
  rows_more n zero h i = omega arith
  rows_more n (suc x) h i =
      ⊎_elim
      (λ (q : a ≡ x).
      let l : x ≤ a = omega arith in
      let here : row_size more x n ≡ suc (row_size m x n) = subst (λ k. row_size more k n ≡ suc (row_size m k n)) q (row_more n i) in
      omega (arith, rows_before n x l))
      (λ (q : a ≡ x → ⊥).
      let l : a < x = omega arith in
      let same : row_size more x n ≡ row_size m x n = row_other x n (λ p. q (sym p)) in
      omega (arith, rows_more n x l i))
      (cases_eq a x)

  pub size_more : (n : ℕ) → a < n → b < n → size more n ≡ suc (size m n)
  unfolding size
  size_more n h i = rows_more n n h i

row_none : (a n : ℕ) → row_size no_links a n ≡ 0
unfolding row_size
row_none a zero = refl
row_none a (suc b) = omega (arith, row_none a b)

rows_none : (n k : ℕ) → rows_size no_links n k ≡ 0
unfolding rows_size
rows_none n zero = refl
rows_none n (suc a) = omega (arith, rows_none n a, row_none a n)

pub size_none : (n : ℕ) → size no_links n ≡ 0
unfolding size
size_none n = rows_none n n
