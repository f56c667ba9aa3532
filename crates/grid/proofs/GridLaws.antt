-- A grid of cells as a link table.
use Rattle.std.proofs.Common.{◌≡◌, ℕ, ◌+◌, ◌-◌, ◌*◌, ◌/◌, ◌%◌, ◌<◌, ◌≤◌, true, false, cond, not, ◌&&◌, eqb, ltb, leb, ◌≢◌, List, length, get_or, drop, set, replicate, is_some, Some, None, Ok, Option, sym, refl, ap, ◌∙◌, subst, ap₂, subst₂, ⊎_elim, arith, length-append, length-drop, length-set, get_or-set_other, get_or-set_same}
use mathlib.Core.Path.{fun_ext}
use Rattle.std.proofs.lemmas.Nat.{mul-add-lt, div-mul-add, mod-mul-add}
use Rattle.std.proofs.lemmas.List.{get_or_append_left, get_or-replicate, length-replicate}
use Rattle.std.proofs.lemmas.Bool.{cases_eq, cases_Bool, and_from, and_right, le-leb, cond-true, cond-false, ne_eqb, eq-eqb}
use Rattle.faults.specs.declared.refusal.Refusal.{Refusal}
use Rattle.faults.specs.declared.refusal.Refusal.TheVariants.{Full, NotKept}
use Rattle.tables.proofs.Makings.{made_again}
use Rattle.tables.specs.Makings.{made_by}
use Rattle.tables.proofs.Pairs.{pair_true, pair_parts, pair_granted}
use Rattle.tables.proofs.Sizes.{size_lt, not_both}
use Rattle.grid.specs.Grids.{emptied, grid_refusal, grid_count, cell_number, grid_links, grid_table, grid_empty, PlacedIn}
use Rattle.faults.specs.Calls.{or_else, granted, in_table, done}
use Rattle.tables.specs.Links.{no_links, is_pair, with_link, size}
use Rattle.tables.specs.Tables.{pair_refusal, room_refusal, put_refusal, cut_refusal, RefusedShows, Changed, Put, Cut}

pub count_square : (len n : ℕ) → grid_count len n * grid_count len n ≤ len
count_square len n = made_by n len (n * n) (λ x. x * x ≤ len) (λ h k l. l) (omega arith)

-- different pairs have different cells
place_apart : (n a b c d : ℕ) → b < n → d < n → a * n + b ≡ c * n + d → (a ≡ c) × (b ≡ d)
place_apart n a b c d h k e = (
  sym (div-mul-add a n b h) ∙ ap (λ x. x / n) e ∙ div-mul-add c n d k,
  sym (mod-mul-add a n b h) ∙ ap (λ x. x % n) e ∙ mod-mul-add c n d k,
)

module _ (cells : List ℕ) (n from to v : ℕ) (f : from < n) (t : to < n) (d : from ≡ to → ⊥) (l : from * n + to < length cells) where
  -- one cell written changes one pair
  set_here : grid_links (set cells (from * n + to) v) n from to ≡ with_link (grid_links cells n) from to (cell_number v) from to
  set_here =
      cond-true (is_pair n from to) _ _ (pair_true n from to f t d)
      ∙ ap cell_number (get_or-set_same cells (from * n + to) v 0 l)
      ∙ sym (cond-true (eqb from from && eqb to to) _ _ (and_from _ _ (eq-eqb from from refl) (eq-eqb to to refl)))

  set_there : (a b : ℕ) → ((a ≡ from) × (b ≡ to) → ⊥) → grid_links (set cells (from * n + to) v) n a b ≡ with_link (grid_links cells n) from to (cell_number v) a b
  set_there a b x =
      ⊎_elim
      (λ (e : is_pair n a b ≡ true).
      let apart : a * n + b ≢ from * n + to = λ q. x (place_apart n a b from to (pair_parts n a b e).1 t q) in
      ap (λ w. cond (is_pair n a b) (cell_number w) None) (get_or-set_other cells (from * n + to) (a * n + b) v 0 apart))
      (λ (e : is_pair n a b ≡ false). cond-false (is_pair n a b) _ _ e ∙ sym (cond-false (is_pair n a b) _ _ e))
      (cases_Bool (is_pair n a b))
      ∙ sym (cond-false (eqb a from && eqb b to) _ _ (not_both a b from to x))

  set_pair : (a b : ℕ) → grid_links (set cells (from * n + to) v) n a b ≡ with_link (grid_links cells n) from to (cell_number v) a b
  set_pair a b =
      ⊎_elim
      (λ (p : from ≡ a).
      ⊎_elim
      (λ (q : to ≡ b). let S : ℕ → ℕ → Type 0 = λ x y. grid_links (set cells (from * n + to) v) n x y ≡ with_link (grid_links cells n) from to (cell_number v) x y in subst₂ S p q set_here)
      (λ (q : to ≡ b → ⊥). set_there a b (λ h. q (sym h.1)))
      (cases_eq to b))
      (λ (p : from ≡ a → ⊥). set_there a b (λ h. p (sym h.0)))
      (cases_eq from a)

  pub set_links : grid_links (set cells (from * n + to) v) n ≡ with_link (grid_links cells n) from to (cell_number v)
  set_links = fun_ext λ a. fun_ext λ b. set_pair a b

diagonal_none : (cells : List ℕ) (n a : ℕ) → grid_links cells n a a ≡ None
diagonal_none cells n a =
    cond-false (is_pair n a a) _ _ (and_right (ltb a n) _ (and_right (ltb a n) _ (ap not (eq-eqb a a refl))))

module _ (cells : List ℕ) (c from to i : ℕ) (p : PlacedIn cells (grid_count (length cells) c) from to (Ok i)) where
  abbrev n : ℕ
  n = grid_count (length cells) c

  pub pair_ok : pair_refusal (grid_table cells c).count from to ≡ None
  pair_ok = pair_granted n from to p.2 p.3 p.4

  abbrev room_by : Option ℕ → Option Refusal
  room_by o = cond (is_some o) None (cond (eqb (size (grid_table cells c).kept (grid_table cells c).count) (grid_table cells c).limit) (Some Full) None)

  -- a grid always has room
  pub room_granted : room_refusal (grid_table cells c).count (grid_table cells c).limit (grid_table cells c).kept from to ≡ None
  room_granted = go ((grid_table cells c).kept from to) refl
    where
      go : (o : Option ℕ) → (grid_table cells c).kept from to ≡ o → room_refusal (grid_table cells c).count (grid_table cells c).limit (grid_table cells c).kept from to ≡ None
      go (Some k) q = ap room_by q
      go None q =
          let room = size_lt (grid_table cells c).kept (grid_table cells c).count (diagonal_none cells (grid_table cells c).count) from to p.2 p.3 p.4 q in
          ap room_by q ∙ cond-false (eqb (size (grid_table cells c).kept (grid_table cells c).count) (grid_table cells c).limit) _ _ (ne_eqb _ _ (omega arith))

  -- a cell written is a call granted
  pub grid_changes : (refusal : Option Refusal) (number : Option ℕ) (v : ℕ) → refusal ≡ None → cell_number v ≡ number → Changed refusal from to number (grid_table cells c) (grid_table (set cells i v) c)
  grid_changes refusal number v g q =
      let counts : grid_count (length (set cells i v)) c ≡ n = ap (λ k. grid_count k c) (length-set cells i v) in
      let links : grid_links (set cells i v) (grid_count (length (set cells i v)) c) ≡ with_link (grid_links cells n) from to number =
      ap (grid_links (set cells i v)) counts
      ∙ ap (λ j. grid_links (set cells j v) n) p.0
      ∙ set_links cells n from to v p.2 p.3 p.4 (subst (λ j. j < length cells) p.0 p.1)
      ∙ ap (with_link (grid_links cells n) from to) q in
      record {
        kept = links ∙ sym (ap (λ r. granted r (with_link (grid_table cells c).kept from to number) (grid_table cells c).kept) g);
        shown = subst (λ r. RefusedShows r (grid_table cells c).shown (grid_table (set cells i v) c).shown) (sym g) tt;
        count = counts;
        greatest = refl;
        limit = ap (λ k. k * (k - 1)) counts;
        plain = refl;
      }

  pub grid_put : (number : ℕ) → (number ≡ 0 → ⊥) → number ≤ 65535 → Put from to number (grid_table cells c) (Ok tt) (grid_table (set cells i number) c)
  grid_put number z m =
      let g : put_refusal (grid_table cells c) from to number ≡ None =
      ap₂ or_else pair_ok (ap₂ or_else (cond-true (not (eqb number 0) && leb number 65535) _ _ (and_from _ _ (ap not (ne_eqb number 0 z)) (le-leb number 65535 m))) room_granted) in
      record {
        answer = sym (ap (λ o. done (in_table o)) g);
        changed = grid_changes _ (Some number) number g
            (cond-false (eqb number 0) _ _ (ne_eqb number 0 z));
      }

  pub grid_cut : (get_or cells i 0 ≡ 0 → ⊥) → Cut from to (grid_table cells c) (Ok tt) (grid_table (set cells i 0) c)
  grid_cut z =
      let here : (grid_table cells c).kept from to ≡ Some (get_or cells i 0) =
      cond-true (is_pair n from to) _ _ (pair_true n from to p.2 p.3 p.4)
      ∙ ap (λ j. cell_number (get_or cells j 0)) (sym p.0)
      ∙ cond-false (eqb (get_or cells i 0) 0) _ _ (ne_eqb _ 0 z) in
      let g : cut_refusal (grid_table cells c) from to ≡ None = ap₂ or_else pair_ok (ap (λ o. cond (is_some o) None (Some NotKept)) here) in
      record { answer = sym (ap (λ o. done (in_table o)) g); changed = grid_changes _ None 0 g refl }

emptied_length : (cells : List ℕ) (n : ℕ) → n * n ≤ length cells → length (emptied cells n) ≡ length cells
emptied_length cells n h = simp (length-append, length-replicate, length-drop) (omega arith)

emptied_links : (cells : List ℕ) (n : ℕ) → grid_links (emptied cells n) n ≡ no_links
emptied_links cells n = fun_ext λ a. fun_ext λ b. go a b
  where
    go : (a b : ℕ) → grid_links (emptied cells n) n a b ≡ None
    go a b =
        ⊎_elim
        (λ (e : is_pair n a b ≡ true).
        let p = pair_parts n a b e in
        let l : a * n + b < n * n = mul-add-lt a n b n p.0 p.1 in
        cond-true (is_pair n a b) _ _ e
        ∙ ap cell_number (get_or_append_left (replicate (n * n) 0) (drop (n * n) cells) 0 (a * n + b) (omega (arith, length-replicate {A = ℕ} (n * n) 0)) ∙ get_or-replicate (n * n) (a * n + b) 0 0 l))
        (λ (e : is_pair n a b ≡ false). cond-false (is_pair n a b) _ _ e)
        (cases_Bool (is_pair n a b))

pub grid_made : (cells : List ℕ) (c n : ℕ) → n ≡ grid_count (length cells) c → grid_table (emptied cells n) n ≡ grid_empty n
grid_made cells c n e =
    let room : n * n ≤ length cells = subst (λ k. k * k ≤ length cells) (sym e) (count_square (length cells) c) in
    let counts : grid_count (length (emptied cells n)) n ≡ n = ap (λ k. grid_count k n) (emptied_length cells n room) ∙ ap (grid_count (length cells)) e ∙ made_again (grid_refusal (length cells)) c ∙ sym e in
    let links : grid_links (emptied cells n) (grid_count (length (emptied cells n)) n) ≡ no_links = ap (grid_links (emptied cells n)) counts ∙ emptied_links cells n in
    λ i. record { kept = links i; shown = links i; count = counts i; greatest = 65535; limit = counts i * (counts i - 1); plain = true }
