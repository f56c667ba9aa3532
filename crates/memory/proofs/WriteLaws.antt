-- The laws of `laid`: writes that follow one another are one write.
use Rattle.std.proofs.Common.{◌≡◌, ℕ, ◌+◌, ◌<◌, ◌≤◌, true, List, [], ◌∷◌, ◌++◌, length, take, drop, set, Ok, sym, ap, ◌∙◌, append_assoc, add-zero, add-one, arith, length-append, length-drop, take-append-drop}
use Rattle.std.proofs.lemmas.List.{take_at, drop_at, drop-drop, set_split, length-take-le}
use Rattle.std.proofs.lemmas.Bool.{cond-true}
use Rattle.memory.specs.Writes.{laid, fits, write_answer, write_leaves}

pub laid_none : {A : Type 0} (old : List A) (at : ℕ) → laid old at [] ≡ old
laid_none old at = rw add-zero (take-append-drop at old)

pub set_laid : {A : Type 0} (old : List A) (at : ℕ) (v : A) → at < length old → set old at v ≡ laid old at (v ∷ [])
set_laid old at v h = set_split old at v h ∙ ap (λ n. take at old ++ v ∷ drop n old) (sym (add-one at))

pub length_laid : {A : Type 0} (old : List A) (at : ℕ) (xs : List A) → at + length xs ≤ length old → length (laid old at xs) ≡ length old
length_laid old at xs h =
    let l : length (take at old) ≡ at = length-take-le at old (omega arith) in
    simp (length-append, length-drop) (omega arith)

-- one write behind another
pub laid_laid : {A : Type 0} (old : List A) (at : ℕ) (xs ys : List A) → at + length xs ≤ length old → laid (laid old at xs) (at + length xs) ys ≡ laid old at (xs ++ ys)
laid_laid {A} old at xs ys h =
    let head : List A = take at old in
    let tail : List A = drop (at + length xs) old in
    let l : length head ≡ at = length-take-le at old (omega arith) in
    let n : length (head ++ xs) ≡ at + length xs = length-append head xs ∙ ap (λ k. k + length xs) l in
    let front : take (at + length xs) (head ++ (xs ++ tail)) ≡ head ++ xs = ap (take (at + length xs)) (sym (append_assoc head xs tail)) ∙ take_at (head ++ xs) tail (at + length xs) n in
    let past : drop (at + length xs) (head ++ (xs ++ tail)) ≡ tail = ap (drop (at + length xs)) (sym (append_assoc head xs tail)) ∙ drop_at (head ++ xs) tail (at + length xs) n in
    let total : at + length xs + length ys ≡ at + length (xs ++ ys) = simp length-append (omega arith) in
    let rest : drop (at + length xs + length ys) (head ++ (xs ++ tail)) ≡ drop (at + length (xs ++ ys)) old = sym (drop-drop (length ys) (at + length xs) (head ++ (xs ++ tail))) ∙ ap (drop (length ys)) past ∙ drop-drop (length ys) (at + length xs) old ∙ ap (λ k. drop k old) total in
    (λ i. front i ++ (ys ++ rest i)) ∙ append_assoc head xs (ys ++ drop (at + length (xs ++ ys)) old) ∙ ap (λ t. head ++ t) (sym (append_assoc xs ys (drop (at + length (xs ++ ys)) old)))

-- one item more behind a write
pub laid_more : {A : Type 0} (old : List A) (at : ℕ) (xs : List A) (v : A) → at + length xs < length old → set (laid old at xs) (at + length xs) v ≡ laid old at (xs ++ v ∷ [])
laid_more old at xs v h =
    set_laid (laid old at xs) (at + length xs) v (omega (arith, length_laid old at xs (omega arith))) ∙ laid_laid old at xs (v ∷ []) (omega arith)

-- `out` is `old` with these items from `at` on, and they end before `place`
pub record Holds {A : Type 0} (old out : List A) (at place : ℕ) (items : List A) : Type 0 where
  pub ends : place ≡ at + length items
  pub holds : out ≡ laid old at items

pub holds_none : {A : Type 0} (old : List A) (at : ℕ) → Holds old old at at []
holds_none old at = record { ends = sym (add-zero at); holds = sym (laid_none old at) }

pub holds_more : {A : Type 0} (old out next : List A) (at place then : ℕ) (items more : List A) → Holds old out at place items → place ≤ length old → then ≡ place + length more → next ≡ laid out place more → Holds old next at then (items ++ more)
holds_more old out next at place then items more h room t n = record {
  ends = omega (arith, h.ends, length-append items more);
  holds = n ∙ (λ i. laid (h.holds i) (h.ends i) more) ∙ laid_laid old at items more (omega (arith, h.ends));
}

-- what is promised of a write that fits
module _ {A : Type 0} (old : List A) (at : ℕ) (news : List A) where
  pub write_fits : fits old at (length news) ≡ true → (Ok (at + length news) ≡ write_answer old at news) × (laid old at news ≡ write_leaves old at news)
  write_fits h = (sym (cond-true _ _ _ h), sym (cond-true _ _ _ h))
