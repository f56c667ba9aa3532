-- The members of a set by rising number: how many there are, and which stands at a place.
use Rattle.std.proofs.Common.{◌≡◌, ℕ, zero, suc, ◌+◌, ◌-◌, ◌*◌, ◌/◌, ◌%◌, ◌^◌, ◌<◌, true, [], ◌∷◌, length, get_or, sym, refl, ap, ◌∙◌, ⊎_elim, add-zero, mod-eq_of_lt, add_comm, add-one, one-add, arith}
use native.Mathlib.Nat.{mod-one}
use lib.Count.{ones, ones_cat}
use Rattle.std.proofs.lemmas.Nat.{mod-pow-add, mod_below, pow_pos}
use Rattle.std.proofs.lemmas.List.{length_push, get_or_append_left, get_or_push}
use Rattle.std.proofs.lemmas.Bool.{eqb-true, eqb-false, cases_Bool}
use Rattle.masks.specs.Sets.{holds, members}
use Rattle.masks.proofs.SetLaws.{members_in, members_out}

-- one bit more
length_members_more : (set n : ℕ) → length (members set (n + 1)) ≡ length (members set n) + set / 2 ^ n % 2
length_members_more set n =
    ⊎_elim
    (λ h. ap length (members_in set n h) ∙ length_push (members set n) n ∙ ap (λ b. length (members set n) + b) (sym (eqb-true (set / 2 ^ n % 2) 1 h)))
    (λ h.
    let ne = eqb-false (set / 2 ^ n % 2) 1 h in
    let b = mod_below (set / 2 ^ n) 2 (omega arith) in
    let z : set / 2 ^ n % 2 ≡ 0 = omega arith in
    ap length (members_out set n h) ∙ omega arith)
    (cases_Bool (holds set n))

-- a bit has as many ones as it counts
ones_bit : (b : ℕ) → b < 2 → ones b ≡ b
unfolding ones
ones_bit zero h = refl
ones_bit (suc zero) h = refl
ones_bit (suc (suc b)) h = absurd (omega arith)

length_low : (set n : ℕ) → length (members set n) ≡ ones (set % 2 ^ n)
unfolding members ones
length_low set zero = ap ones (sym (mod-one set))
length_low set (suc n) =
    let bit : ℕ = set / 2 ^ n % 2 in
    let low : ℕ = set % 2 ^ n in
    let split : set % 2 ^ suc n ≡ bit * 2 ^ n + low = ap (λ k. set % 2 ^ k) (sym (one-add n)) ∙ mod-pow-add set 1 n in
    let apart : ones (bit * 2 ^ n + low) ≡ ones bit + ones low = ones_cat n bit low (mod_below set (2 ^ n) (pow_pos n)) in
    let b = ones_bit bit (mod_below (set / 2 ^ n) 2 (omega arith)) in
    let more : length (members set (suc n)) ≡ length (members set n) + bit = ap (λ k. length (members set k)) (sym (add-one n)) ∙ length_members_more set n in
    more ∙ ap (λ l. l + bit) (length_low set n) ∙ add_comm (ones low) bit ∙ ap (λ o. o + ones low) (sym b) ∙ sym apart ∙ ap ones (sym split)

-- a set of n bits has as many members as ones
pub length_members : (set n : ℕ) → set < 2 ^ n → length (members set n) ≡ ones set
length_members set n h = length_low set n ∙ ap ones (mod-eq_of_lt h)

-- what stands at a place of the members below n stays there
stays : (set n j k d : ℕ) → k < length (members set n) → (k < length (members set (n + j))) × (get_or (members set (n + j)) k d ≡ get_or (members set n) k d)
stays set n zero k d h = rw add-zero (h, refl)
stays set n (suc j) k d h =
    let e : n + suc j ≡ n + j + 1 = omega arith in
    let so = stays set n j k d h in
    rw e
    (⊎_elim
    (λ i. rw (members_in set (n + j) i) (rw length_push (omega (arith, so.0)), get_or_append_left (members set (n + j)) ((n + j) ∷ []) d k so.0 ∙ so.1))
    (λ o. rw (members_out set (n + j) o) so)
    (cases_Bool (holds set (n + j))))

-- a member stands behind those below it
pub nth_member : (set n k d : ℕ) → n < 32 → holds set n ≡ true → length (members set n) ≡ k → n ≡ get_or (members set 32) k d
nth_member set n k d h i e =
    let to : 32 ≡ n + 1 + (31 - n) = omega arith in
    let in_front = members_in set n i in
    let more : length (members set (n + 1)) ≡ k + 1 = ap length in_front ∙ length_push (members set n) n ∙ ap (λ l. l + 1) e in
    let same = (stays set (n + 1) (31 - n) k d (omega arith)).1 in
    sym (ap (λ m. get_or (members set m) k d) to ∙ same ∙ ap (λ l. get_or l k d) in_front ∙ get_or_push (members set n) n d k e)
