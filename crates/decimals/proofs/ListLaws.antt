-- Lists with commas that grow at their end.
use Rattle.std.proofs.Common.{◌≡◌, ℕ, zero, suc, ◌+◌, ◌<◌, ◌≤◌, Bool, true, false, eqb, List, [], ◌∷◌, ◌++◌, length, decimal, sym, refl, ap, ◌∙◌, ⊎_elim, append_assoc, arith, length-append}
use Rattle.std.proofs.lemmas.Fmt.{decimal_nonempty}
use Rattle.std.proofs.lemmas.List.{nil_from_length}
use Rattle.std.proofs.lemmas.Bool.{cases_Bool, cases_eq, cases_lt, cond-true, cond-false, eq-eqb, ne_eqb}
use Rattle.masks.specs.Sets.{holds, members}
use Rattle.masks.proofs.SetLaws.{members_in}
use Rattle.decimals.specs.Lists.{listed, item}

listed_more : (ns : List ℕ) (v : ℕ) → 0 < length ns → listed (ns ++ v ∷ []) ≡ listed ns ++ item false v
unfolding listed
listed_more [] v h = absurd (omega arith)
listed_more (n ∷ []) v h = refl
listed_more (n ∷ m ∷ ms) v h = ap (λ t. decimal n ++ 44 ∷ t) (listed_more (m ∷ ms) v (omega arith)) ∙ simp append_assoc

-- a list with members takes some bytes, so one that takes none has no members
no_members : (mask n : ℕ) → n ≤ 32 → length (listed (members mask n)) ≡ 0 → members mask n ≡ []
unfolding listed members
no_members mask zero h e = refl
no_members mask (suc n) h e =
    ⊎_elim
    (λ i.
    let more : length (listed (members mask n ++ n ∷ [])) ≡ 0 = sym (ap (λ l. length (listed l)) (cond-true (holds mask n) _ _ i)) ∙ e in
    ⊎_elim
    (λ some. absurd (omega (arith, more, ap length (listed_more (members mask n) n some), length-append (listed (members mask n)) (item false n))))
    (λ none. let one : members mask n ++ n ∷ [] ≡ n ∷ [] = ap (λ l. l ++ n ∷ []) (nil_from_length (members mask n) (omega arith)) in absurd (omega (arith, more, ap (λ l. length (listed l)) one, decimal_nonempty n (omega arith))))
    (cases_lt 0 (length (members mask n))))
    (λ o. cond-false (holds mask n) _ _ o ∙ no_members mask n (omega arith) (sym (ap (λ l. length (listed l)) (cond-false (holds mask n) _ _ o)) ∙ e))
    (cases_Bool (holds mask n))

-- one member more, which is the first where nothing stands before it
pub listed_in : (mask v : ℕ) (first : Bool) → v < 32 → holds mask v ≡ true → first ≡ eqb (length (listed (members mask v))) 0 → listed (members mask (v + 1)) ≡ listed (members mask v) ++ item first v
unfolding listed
listed_in mask v first h i f =
    ap listed (members_in mask v i)
    ∙ ⊎_elim
    (λ e. let none = no_members mask v (omega arith) e in rw (f, eq-eqb (length (listed (members mask v))) 0 e) (rw none))
    (λ ne.
    let some : 0 < length (members mask v) = ⊎_elim (λ l. l) (λ z. absurd (ne (ap (λ l. length (listed l)) (nil_from_length (members mask v) (omega arith))))) (cases_lt 0 (length (members mask v))) in
    rw (f, ne_eqb (length (listed (members mask v))) 0 ne) (listed_more (members mask v) v some))
    (cases_eq (length (listed (members mask v))) 0)
