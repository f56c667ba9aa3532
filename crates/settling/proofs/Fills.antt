-- A list that is rewritten place after place.
use Rattle.std.proofs.Common.{◌≡◌, ℕ, ◌+◌, ◌-◌, ◌<◌, ◌≤◌, ◌≢◌, List, ◌++◌, map, length, get_or, set, take, drop, refl, ap, ◌∙◌, ⊎_elim, arith, below_more}
use Rattle.std.proofs.Math.Seq.{length_front}
use Rattle.std.proofs.lemmas.List.FromFn.{fill_by_all}
use Rattle.std.proofs.lemmas.List.{length-set, length-take-le, get_or-set_same, get_or-set_other, get_or-drop, get_or_append_left, get_or-append_right}
use Rattle.std.proofs.lemmas.Bool.{cases_lt}
use Rattle.std.specs.List.{range_with_len}

-- The first i places have what f says, and the others what they had.
pub record Filled {X : Type 0} (f : ℕ → X) (z : X) (old new : List X) (i : ℕ) : Type 0 where
  pub long : length new ≡ length old
  pub at : (k : ℕ) → k < i → get_or new k z ≡ f k
  pub past : (k : ℕ) → i ≤ k → get_or new k z ≡ get_or old k z

pub filled_first : {X : Type 0} (f : ℕ → X) (z : X) (old : List X) → Filled f z old old 0
filled_first f z old = record { long = refl; at = λ k l. absurd (omega arith); past = λ k l. refl }

module _ {X : Type 0} {f : ℕ → X} {z : X} {old new : List X} {i : ℕ} (h : Filled f z old new i) where
  -- the next place is written
  pub filled_write : (next : List X) (x : X) → next ≡ set new i x → i < length old → x ≡ f i → Filled f z old next (i + 1)
  filled_write next x is l e =
      let inside : i < length new = omega (arith, h.long) in
      let value : get_or next i z ≡ f i = ap (λ t. get_or t i z) is ∙ get_or-set_same new i x z inside ∙ e in
      record {
        long = ap length is ∙ length-set new i x ∙ h.long;
        at = below_more (λ k. get_or next k z ≡ f k) i (λ k b. let ne : k ≢ i = omega arith in same k ne ∙ h.at k b) value;
        past = λ k b. let ne : k ≢ i = omega arith in same k ne ∙ h.past k (omega arith);
      }
    where
      same : (k : ℕ) → k ≢ i → get_or next k z ≡ get_or new k z
      same k ne = ap (λ t. get_or t k z) is ∙ get_or-set_other new i k x z ne

  -- the next place stays as it is
  pub filled_keep : (next : List X) → next ≡ new → get_or old i z ≡ f i → Filled f z old next (i + 1)
  filled_keep next is e =
      record {
        long = ap length is ∙ h.long;
        at = below_more (λ k. get_or next k z ≡ f k) i (λ k b. same k ∙ h.at k b) (same i ∙ h.past i (omega arith) ∙ e);
        past = λ k b. same k ∙ h.past k (omega arith);
      }
    where
      same : (k : ℕ) → get_or next k z ≡ get_or new k z
      same k = ap (λ t. get_or t k z) is

  -- all places that f changes are written
  pub filled_all : (n : ℕ) → length old ≡ n → ((k : ℕ) → i ≤ k → get_or old k z ≡ f k) → new ≡ map f (range_with_len 0 n)
  filled_all n e same =
      fill_by_all f new n z (h.long ∙ e) (λ k _. ⊎_elim (λ (b : k < i). h.at k b) (λ b. h.past k b ∙ same k b) (cases_lt k i))

-- The places of a front are written, and those behind it have what f says: the list has it everywhere.
pub filled_front : {X : Type 0} {f : ℕ → X} {z : X} {new : List X} {i : ℕ} (n m : ℕ) (old : List X) → Filled f z (take n old) new i → n ≤ length old → length old ≡ m → n ≤ i →
    ((k : ℕ) → n ≤ k → get_or old k z ≡ f k) → new ++ drop n old ≡ map f (range_with_len 0 m)
filled_front {X} {f} {z} {new} n m old h fits e all same =
    let cut : length new ≡ n = h.long ∙ length-take-le n old fits in
    fill_by_all f (new ++ drop n old) m z (length_front old new n h.long ∙ e)
    (λ k _. ⊎_elim
    (λ (l : k < n). get_or_append_left new (drop n old) z k (omega arith) ∙ h.at k (omega arith))
    (λ l.
    let place : n + (k - n) ≡ k = omega arith in
    get_or-append_right new (drop n old) n k z cut l ∙ get_or-drop n old (k - n) z ∙ ap (λ t. get_or old t z) place ∙ same k l)
    (cases_lt k n))
