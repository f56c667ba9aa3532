-- Sets of routers as masks: which routers a mask holds, and its members.
use Rattle.std.proofs.Common.{◌≡◌, ℕ, zero, suc, ◌+◌, ◌-◌, ◌%◌, ◌^◌, ◌<◌, ◌≤◌, min, Bool, true, false, cond, not, ◌&&◌, ◌||◌, eqb, ltb, [], ◌∷◌, ◌++◌, sym, refl, ap, ◌∙◌, subst, ap₂, ⊎_elim, lt_of_lt_of_le, add-zero, add-one, arith, pow_pos, pow_mono, w32}
use mathlib.Core.List.Memᴰ
use mathlib.Core.List.{Memᴰ}
use native.Mathlib.Nat.{add-div_right, div-eq_of_lt}
use lib.Bits.{bit_and}
use Rattle.std.specs.Int.{bit_at}
use Rattle.std.proofs.Math.Nat.{pow-succ'}
use Rattle.std.proofs.lemmas.Nat.Bits.{bit_at_and, bit_at_not, bit_at-zero, bit_at_above, bit_at_cat_low, bit_at-lt, same_from_bits_below}
use Rattle.std.proofs.lemmas.Bool.Decides.{nat_tests}
use Rattle.std.proofs.lemmas.Bool.{and_from, both_ways, cases_eq, cases_order, eq-eqb, ne_eqb, lt-ltb, le-ltb}
use Rattle.masks.specs.Sets.{holds, members, mask, including, besides}

bit_most : (t : Bool) (a : ℕ) → cond t a 0 ≤ a
bit_most true a = omega arith
bit_most false a = omega arith

-- the mask of the numbers below n that pass a test has n bits
pub mask_fits : (n : ℕ) (p : ℕ → Bool) → mask n p < 2 ^ n
unfolding mask
mask_fits zero p = omega arith
mask_fits (suc n) p = omega (arith, mask_fits n p, bit_most (p n) (2 ^ n), pow-succ' 2 n)

-- it holds the numbers below n that pass the test
pub mask_holds : (n : ℕ) (p : ℕ → Bool) (v : ℕ) → holds (mask n p) v ≡ (ltb v n && p v)
unfolding mask
mask_holds zero p v = ap (λ k. eqb k 1) (bit_at-zero v) ∙ sym (ap (λ t. t && p v) (le-ltb v 0 (omega arith)))
mask_holds (suc n) p v =
    ⊎_elim (λ (e : v ≡ n). subst (λ z. holds (mask n p + cond (p n) (2 ^ n) 0) z ≡ (ltb z (suc n) && p z)) (sym e) (same (p n) refl))
    (⊎_elim (λ l. under l (p n) ∙ mask_holds n p v ∙ ap (λ t. t && p v) (lt-ltb v n l ∙ sym (lt-ltb v (suc n) (omega arith)))) (λ l. over l))
    (cases_order v n)
  where
    small : mask n p < 2 ^ n
    small = mask_fits n p

    same : (t : Bool) → p n ≡ t → holds (mask n p + cond t (2 ^ n) 0) n ≡ (ltb n (suc n) && p n)
    same true e =
        ap (λ k. eqb (k % 2) 1) (add-div_right (mask n p) (pow_pos n) ∙ ap (λ k. k + 1) (div-eq_of_lt small))
        ∙ sym (ap₂ (λ s t. s && t) (lt-ltb n (suc n) (omega arith)) e)
    same false e =
        ap (λ k. eqb k 1) (ap (λ k. bit_at k n) (add-zero (mask n p)) ∙ bit_at_above (mask n p) n n small (omega arith))
        ∙ sym (ap₂ (λ s t. s && t) (lt-ltb n (suc n) (omega arith)) e)

    under : v < n → (t : Bool) → holds (mask n p + cond t (2 ^ n) 0) v ≡ holds (mask n p) v
    under l true = ap (λ k. eqb k 1) (ap (λ k. bit_at k v) (omega arith) ∙ bit_at_cat_low 1 n (mask n p) v l)
    under l false = ap (λ k. holds k v) (add-zero (mask n p))

    over : n < v → holds (mask n p + cond (p n) (2 ^ n) 0) v ≡ (ltb v (suc n) && p v)
    over l =
        let fits : mask n p + cond (p n) (2 ^ n) 0 < 2 ^ suc n = omega (arith, small, bit_most (p n) (2 ^ n), pow-succ' 2 n) in
        ap (λ k. eqb k 1) (bit_at_above _ (suc n) v fits l) ∙ sym (ap (λ t. t && p v) (le-ltb v (suc n) l))

-- a mask has the members that it holds
pub members_held : (m n x : ℕ) → Memᴰ x (members m n) → holds m x ≡ true
unfolding members
members_held m zero x q = absurd (Memᴰ.not-nil q)
members_held m (suc n) x q = by (members_held m n x) (holds m n) refl q
  where
    by : (Memᴰ x (members m n) → holds m x ≡ true) → (t : Bool) → holds m n ≡ t → Memᴰ x (cond t (members m n ++ n ∷ []) (members m n)) → holds m x ≡ true
    by more true e q =
        ⊎_elim more (λ s. subst (λ z. holds m z ≡ true) (sym (Memᴰ.eq_of_singleton s)) e) (Memᴰ.append_cases (members m n) q)
    by more false e q = more q

pub held_members : (m n x : ℕ) → x < n → holds m x ≡ true → Memᴰ x (members m n)
unfolding members
held_members m zero x l h = absurd (omega arith)
held_members m (suc n) x l h = by (λ k. held_members m n x k h) (holds m n) refl
  where
    by : (x < n → Memᴰ x (members m n)) → (t : Bool) → holds m n ≡ t → Memᴰ x (cond t (members m n ++ n ∷ []) (members m n))
    by more true e =
        ⊎_elim (λ (s : x ≡ n). Memᴰ.append_right (members m n) (Memᴰ.head s)) (λ ne. Memᴰ.append_left _ (more (omega arith))) (cases_eq x n)
    by more false e =
        ⊎_elim (λ (s : x ≡ n). absurd (both_ways (holds m n) e (subst (λ z. holds m z ≡ true) s h))) (λ ne. more (omega arith)) (cases_eq x n)

-- sets with the same members below n are one
pub mask_same : (n : ℕ) (p q : ℕ → Bool) → ((v : ℕ) → v < n → p v ≡ q v) → mask n p ≡ mask n q
unfolding mask
mask_same zero p q h = refl
mask_same (suc n) p q h = ap₂ (λ m t. m + cond t (2 ^ n) 0) (mask_same n p q (λ v l. h v (omega arith))) (h n (omega arith))

-- bits that pass the same test are one
same_bit : (x y : ℕ) → x < 2 → y < 2 → eqb x 1 ≡ eqb y 1 → x ≡ y
same_bit x y h k e = grind (arith, nat_tests)

-- a set of n bits by its members
pub same_set : (n m : ℕ) (p : ℕ → Bool) → m < 2 ^ n → ((v : ℕ) → v < n → holds m v ≡ p v) → m ≡ mask n p
same_set n m p fits h =
    same_from_bits_below n m (mask n p) fits (mask_fits n p)
    (λ v l. same_bit _ _ (bit_at-lt m v) (bit_at-lt (mask n p) v) (h v l ∙ sym (mask_holds n p v ∙ ap (λ t. t && p v) (lt-ltb v n l))))

-- a number is the set of its bits
pub mask_bits : (n m : ℕ) → m < 2 ^ n → mask n (holds m) ≡ m
mask_bits n m h = sym (same_set n m (holds m) h (λ v l. refl))

-- ---- sets that grow by one number at a time
-- a set of numbers below 32 is a mask of 32 bits
mask_small : (n : ℕ) (p : ℕ → Bool) → n ≤ 32 → mask n p < 2 ^ 32
mask_small n p h = lt_of_lt_of_le (mask_fits n p) (pow_mono h)

-- a set of which it is known what it holds
pub set_is : (n : ℕ) (p q : ℕ → Bool) → n ≤ 32 → ((x : ℕ) → q x ≡ (ltb x n && p x)) → mask 32 q ≡ mask n p
set_is n p q h e = mask_same 32 q (holds (mask n p)) (λ x _. e x ∙ sym (mask_holds n p x)) ∙ mask_bits 32 (mask n p) (mask_small n p h)

-- the next number joins the set
pub mask_with : (v : ℕ) (p : ℕ → Bool) → v < 32 → p v ≡ true → including (mask v p) v ≡ mask (v + 1) p
mask_with v p l t =
    set_is (v + 1) p (λ x. eqb x v || holds (mask v p) x) (omega arith)
    (λ x. ap (λ b. eqb x v || b) (mask_holds v p x) ∙ ⊎_elim
    (λ (e : x ≡ v). ap (λ b. b || (ltb x v && p x)) (eq-eqb x v e) ∙ sym (and_from (ltb x (v + 1)) (p x) (lt-ltb x (v + 1) (omega arith)) (ap p e ∙ t)))
    (⊎_elim
    (λ (s : x < v). ap₂ (λ a b. a || (b && p x)) (ne_eqb x v (λ e. omega arith)) (lt-ltb x v s) ∙ sym (ap (λ b. b && p x) (lt-ltb x (v + 1) (omega arith))))
    (λ s. ap₂ (λ a b. a || (b && p x)) (ne_eqb x v (λ e. omega arith)) (le-ltb x v (omega arith)) ∙ sym (ap (λ b. b && p x) (le-ltb x (v + 1) (omega arith)))))
    (cases_order x v))

-- the next number does not join the set
pub mask_without : (v : ℕ) (p : ℕ → Bool) → p v ≡ false → mask v p ≡ mask (v + 1) p
unfolding mask
mask_without v p f = rw add-one (sym (ap (λ t. mask v p + cond t (2 ^ v) 0) f ∙ add-zero (mask v p)))

-- no number joins the set
pub mask_none : (n : ℕ) (p : ℕ → Bool) → ((v : ℕ) → v < n → p v ≡ false) → mask n p ≡ 0
unfolding mask
mask_none zero p h = refl
mask_none (suc n) p h = ap₂ (λ m t. m + cond t (2 ^ n) 0) (mask_none n p (λ v l. h v (omega arith))) (h n (omega arith))

-- a set without another of those below n
pub mask_besides : (n : ℕ) (p q : ℕ → Bool) → n ≤ 32 → besides (mask n p) (mask n q) ≡ mask n (λ v. p v && not (q v))
mask_besides n p q h =
    set_is n (λ v. p v && not (q v)) (λ v. holds (mask n p) v && not (holds (mask n q) v)) h
    (λ v. ap₂ (λ a b. a && not b) (mask_holds n p v) (mask_holds n q v) ∙ by (ltb v n) (p v) (q v))
  where
    by : (t a b : Bool) → ((t && a) && not (t && b)) ≡ (t && (a && not b))
    by true a b = refl
    by false a b = refl

-- ---- the set without another
both_bits : (x y : ℕ) → x < 2 → y < 2 → eqb (min x y) 1 ≡ (eqb x 1 && eqb y 1)
both_bits x y h k = grind (arith, nat_tests)

other_bit : (x : ℕ) → x < 2 → eqb (1 - x) 1 ≡ not (eqb x 1)
other_bit x h = grind (arith, nat_tests)

pub holds_without : (m o v : ℕ) → o < 2 ^ 32 → v < 32 → holds (bit_and m (4294967295 - o)) v ≡ (holds m v && not (holds o v))
holds_without m o v fits l =
    let rest = 4294967295 - o in
    ap (λ n. eqb n 1) (bit_at_and m rest v) ∙ both_bits (bit_at m v) (bit_at rest v) (bit_at-lt m v) (bit_at-lt rest v)
    ∙ ap (λ t. holds m v && t) (ap (λ n. eqb n 1) (bit_at_not w32 o v fits l) ∙ other_bit (bit_at o v) (bit_at-lt o v))
