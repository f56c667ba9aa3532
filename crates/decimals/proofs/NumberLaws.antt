-- Reading a number digit by digit.
use Rattle.std.proofs.Common.{◌≡◌, ℕ, ◌+◌, ◌-◌, ◌*◌, ◌^◌, ◌<◌, ◌≤◌, Bool, true, false, ◌&&◌, eqb, leb, List, [], ◌∷◌, length, get_or, Some, None, decimal, sym, refl, ap, ◌∙◌, subst, Option, ⊎_elim, arith, rules}
use Rattle.std.proofs.lemmas.Fmt.{length-decimal-le, digits_decimal, digits_value-decimal, decimal-digits_value, decimal_digit, decimal_nonempty, first_decimal}
use Rattle.std.proofs.lemmas.Str.Parse.{IsNumeralModel, numerals_by_fold}
use Rattle.std.proofs.lemmas.Bool.{le-leb, lt-leb, leb-true, leb-false, false≢true, both_ways, eq-eqb, ne_eqb, not-true, and_parts, and_cases, and_from, and_left, and_right, cases_Bool, cases_eq, cond-true, cond-false}
use Rattle.decimals.specs.Numbers.{digit, all_digits, unpadded, value, numeral, ReadsDecimal}
use Rattle.decimals.specs.Digits.{one_more, digits_behind}

value_ge : (n : ℕ) (bs : List ℕ) → n ≤ value n bs
unfolding value
value_ge n [] = omega arith
value_ge n (b ∷ bs) = omega (arith, value_ge (10 * n + (b - 48)) bs)

-- ---- one digit, and those behind it
pub behind_end : (n : ℕ) → n ≤ 4294967295 → Some n ≡ digits_behind n []
unfolding value all_digits
behind_end n h = sym (cond-true _ _ _ (le-leb n 4294967295 h))

pub behind_some : (n m b : ℕ) (bs : List ℕ) → Some m ≡ one_more n b → (digits_behind m bs ≡ digits_behind n (b ∷ bs)) × (m ≤ 4294967295)
unfolding value all_digits
behind_some n m b bs e =
    let more : ℕ = 10 * n + (b - 48) in
    let fits : Bool = digit b && leb more 4294967295 in
    ⊎_elim
    (λ t.
    let is : Some m ≡ Some more = e ∙ cond-true fits _ _ t in
    let same : m ≡ more = cc in
    let d = and_parts (leb 48 b) (leb b 57) (and_parts (digit b) (leb more 4294967295) t).0 in
    (rw (same, d.0, d.1), omega (arith, leb-true more 4294967295 (and_parts (digit b) (leb more 4294967295) t).1)))
    (λ f. let never : Some m ≡ None = e ∙ cond-false fits _ _ f in let z : ◌≡◌ {A = ℕ} 0 1 = cc in absurd (omega arith))
    (cases_Bool fits)

pub behind_none : (n b : ℕ) (bs : List ℕ) → None ≡ one_more n b → None ≡ digits_behind n (b ∷ bs)
unfolding value all_digits
behind_none n b bs e =
    let more : ℕ = 10 * n + (b - 48) in
    let fits : Bool = digit b && leb more 4294967295 in
    ⊎_elim
    (λ t. let never : None ≡ Some more = e ∙ cond-true fits _ _ t in let z : ◌≡◌ {A = ℕ} 0 1 = cc in absurd (omega arith))
    (λ f.
    ⊎_elim
    (λ other. sym (cond-false _ _ _ (and_left _ _ (and_left _ _ other))))
    (λ big. sym (cond-false _ _ _ (and_right _ _ (lt-leb (value more bs) 4294967295 (omega (arith, value_ge more bs, leb-false more 4294967295 big))))))
    (and_cases (digit b) (leb more 4294967295) f))
    (cases_Bool fits)

-- ---- a number is read exactly where it is written in decimal
own : IsNumeralModel (λ ds. all_digits ds ≡ true) (value 0)
unfolding value all_digits
own = numerals_by_fold _ (search rules) value (search rules)

-- the reading of a text without leading zeros, and of any other
pub numeral_plain : (bs : List ℕ) → unpadded bs ≡ true → digits_behind 0 bs ≡ numeral bs
numeral_plain bs u = rw u

pub numeral_padded : (bs : List ℕ) → unpadded bs ≡ false → None ≡ numeral bs
numeral_padded bs u = rw u

-- the test by the first byte and the length
pub unpadded_empty : (bs : List ℕ) → length bs ≡ 0 → unpadded bs ≡ false
unpadded_empty [] e = refl
unpadded_empty (b ∷ bs) e = absurd (omega arith)

pub unpadded_zero : (bs : List ℕ) → get_or bs 0 0 ≡ 48 → 1 < length bs → unpadded bs ≡ false
unpadded_zero [] z l = absurd (omega arith)
unpadded_zero (b ∷ []) z l = absurd (omega arith)
unpadded_zero (b ∷ c ∷ bs) z l = rw (eq-eqb b 48 z)

pub unpadded_one : (bs : List ℕ) → 0 < length bs → (get_or bs 0 0 ≡ 48 → length bs ≡ 1) → unpadded bs ≡ true
unpadded_one [] l z = absurd (omega arith)
unpadded_one (b ∷ []) l z = refl
unpadded_one (b ∷ c ∷ bs) l z = rw (ne_eqb b 48 (λ e. let o : length (b ∷ c ∷ bs) ≡ 1 = z e in absurd (omega arith)))

unpadded_first : (bs : List ℕ) → unpadded bs ≡ true → (0 < length bs) × (get_or bs 0 0 ≡ 48 → length bs ≡ 1)
unpadded_first [] u = absurd (false≢true u)
unpadded_first (b ∷ []) u = (omega arith, λ z. refl)
unpadded_first (b ∷ c ∷ bs) u = (omega arith, λ z. absurd (both_ways (eqb b 48) (not-true (eqb b 48) u) (eq-eqb b 48 z)))

-- what a text has that reads as a number
numeral_some : (bs : List ℕ) (n : ℕ) → numeral bs ≡ Some n → (unpadded bs ≡ true) × (all_digits bs ≡ true) × (value 0 bs ≤ 4294967295) × (value 0 bs ≡ n)
numeral_some bs n e =
    let small : Bool = leb (value 0 bs) 4294967295 in
    let fits : Bool = unpadded bs && (all_digits bs && small) in
    ⊎_elim
    (λ t.
    let is : Some (value 0 bs) ≡ Some n = sym (cond-true fits _ _ t) ∙ e in
    let p = and_parts (unpadded bs) (all_digits bs && small) t in
    let q = and_parts (all_digits bs) small p.1 in
    (p.0, q.0, leb-true (value 0 bs) 4294967295 q.1, cc))
    (λ f. let never : None ≡ Some n = sym (cond-false fits _ _ f) ∙ e in let z : ◌≡◌ {A = ℕ} 0 1 = cc in absurd (omega arith))
    (cases_Bool fits)

decimal_unpadded : (n : ℕ) → n < 2 ^ 64 → unpadded (decimal n) ≡ true
decimal_unpadded n h =
    unpadded_one (decimal n) (decimal_nonempty n h)
    (λ z.
    ⊎_elim
    (λ e. ap (λ k. length (decimal k)) e ∙ ap length (decimal_digit 0 (omega arith)))
    (λ ne. absurd (omega (arith, first_decimal n (omega arith) h)))
    (cases_eq n 0))

pub reads_decimal : (bs : List ℕ) → ReadsDecimal bs (numeral bs)
reads_decimal bs = record {
  written = λ n e.
      let (u, d, small, is) = numeral_some bs n e in
      let (some, zero) = unpadded_first bs u in
      sym (decimal-digits_value own bs d some zero (omega arith)) ∙ ap decimal is;
  bounded = λ n e. let (u, d, small, is) = numeral_some bs n e in omega arith;
  read = λ n small e.
      let big : n < 2 ^ 64 = omega arith in
      let is : value 0 (decimal n) ≡ n = digits_value-decimal own n big in
      let tests = and_from _ _ (decimal_unpadded n big) (and_from _ _ (digits_decimal own n big) (le-leb (value 0 (decimal n)) 4294967295 (omega arith))) in
      ap numeral e ∙ cond-true _ _ _ tests ∙ ap Some is;
}

-- what equals the numeral is exact
pub exactly : (bs : List ℕ) (r : Option ℕ) → r ≡ numeral bs → ReadsDecimal bs r
exactly bs r e = subst (ReadsDecimal bs) (sym e) (reads_decimal bs)

-- a number below 100 has at most two digits
pub two_digits : (n : ℕ) → n < 100 → length (decimal n) ≤ 2
two_digits n h = length-decimal-le 2 n (omega arith) (omega arith) (omega arith)
