-- A run of pushes and pops is the service on a bag, by induction over the calls.
use Rattle.std.proofs.Common.{◌≡◌, ℕ, ◌+◌, ◌<◌, Bool, false, List, [], ◌∷◌, ◌++◌, length, get_or, take, set, Some, None, Ok, Err, Option, Result, sym, refl, ap, ◌∙◌, subst, ap₂, subst₂, arith}
use Rattle.faults.specs.declared.refusal.Refusal.{Refusal}
use Rattle.std.specs.List.Sorted.{IsPermutation}
use Rattle.std.proofs.lemmas.List.{append-nil, length-take-le, nil_from_length, take_all, take_more, take_more_set}
use Rattle.std.proofs.lemmas.List.Sorted.{IsPermutation-refl, IsPermutation-sym, IsPermutation-trans, IsPermutation-cons, IsPermutation-middle, IsPermutation-append_right, IsPermutation-to_front, length_permutation}
use Rattle.std.proofs.ByRecursion.{all_shuffled}
use Rattle.waiting.specs.Runs.{Step, Runs, Serves, went_in, came_out, LowestFirst}
use Rattle.waiting.specs.Waiting.{memory, queued, PushAnswer, PopAnswer}
use Rattle.waiting.specs.declared.calls.Answer.{Answer}
use Rattle.waiting.specs.declared.calls.Answer.TheVariants.{Pushed, Popped}
use Rattle.waiting.specs.declared.calls.Call.{Call}
use Rattle.waiting.specs.declared.calls.Call.TheVariants.{Push, Pop}
use Rattle.waiting.specs.declared.list.Waiting.{Waiting}
use Rattle.waiting.specs.declared.ranked.Ranked.{Ghosts}

module _ {E : Type 0} {ranked : Ghosts E} (before : E → E → Bool) where
  -- one call more at the end
  runs_more : (w m w' : Waiting E ranked) (calls : List (Call E)) (answers : List (Answer E)) (c : Call E) (a : Answer E)
      → Runs before w calls answers m → Step before m c a w' → Runs before w (calls ++ c ∷ []) (answers ++ a ∷ []) w'
  runs_more w m w' [] [] c a e s = (w', subst (λ v. Step before v c a w') (sym e) s, refl)
  runs_more w m w' [] (x ∷ answers) c a none s = absurd none
  runs_more w m w' (x ∷ calls) [] c a none s = absurd none
  runs_more w m w' (x ∷ calls) (y ∷ answers) c a (v, first, rest) s = (v, first, runs_more v m w' calls answers c a rest s)

  -- one call more, which is written down
  pub turn : (w m w' : Waiting E ranked) (calls : List (Call E)) (answers answers' : List (Answer E)) (i : ℕ) (c : Call E) (a : Answer E)
      → i < length calls → i < length answers → c ≡ get_or calls i c → answers' ≡ set answers i a
      → Runs before w (take i calls) (take i answers) m → Step before m c a w' → Runs before w (take (i + 1) calls) (take (i + 1) answers') w'
  turn w m w' calls answers answers' i c a here room is written runs s =
      let asked : take (i + 1) calls ≡ take i calls ++ c ∷ [] = take_more calls i c here ∙ ap (λ x. take i calls ++ x ∷ []) (sym is) in
      let told : take (i + 1) answers' ≡ take i answers ++ a ∷ [] = ap (take (i + 1)) written ∙ take_more_set answers i a room in
      subst₂ (λ cs ts. Runs before w cs ts w') (sym asked) (sym told) (runs_more w m w' (take i calls) (take i answers) c a runs s)

  -- all of them
  pub ended : (w w' : Waiting E ranked) (calls : List (Call E)) (answers : List (Answer E)) (n : ℕ) → n ≡ length calls
      → Runs before w (take n calls) (take n answers) w' → Runs before w calls (take (length calls) answers) w'
  ended w w' calls answers n all runs =
      subst₂ (λ cs k. Runs before w cs (take k answers) w') (take_all n calls (omega arith)) all runs

  -- the list w holds the entries of the bag, in so many places
  record Holds (capacity : ℕ) (bag : List E) (w : Waiting E ranked) : Type 0 where
    size : length (memory w) ≡ capacity
    same : IsPermutation bag (queued w)

  -- the service from a bag on, where `queue` waited
  record Goes_on (capacity : ℕ) (bag queue : List E) (calls : List (Call E)) (answers : List (Answer E)) (w' : Waiting E ranked) : Type 0 where
    left : List E
    serves : Serves before capacity bag calls answers left
    waits : IsPermutation left (queued w')
    kept : IsPermutation (went_in calls answers ++ queue) (came_out answers ++ queued w')

  -- as long as the list
  bag_length : {n : ℕ} (bag : List E) (w : Waiting E ranked) → Holds n bag w → length bag ≡ w.len
  bag_length bag w h = sym (length_permutation bag (queued w) h.same) ∙ length-take-le w.len (memory w) w.within

  -- nothing changed
  unchanged : {n : ℕ} (bag : List E) (w m : Waiting E ranked) → m.len ≡ w.len → memory m ≡ memory w → Holds n bag w → Holds n bag m
  unchanged {n} bag w m len same h = record {
    size = subst (λ xs. length xs ≡ n) (sym same) h.size;
    same = subst (IsPermutation bag) (sym (ap₂ take len same)) h.same;
  }

  module _ (n : ℕ) (bag : List E) (w m w' : Waiting E ranked) (calls : List (Call E)) (answers : List (Answer E)) (h : Holds n bag w)
      (next : (bag' : List E) → Holds n bag' m → Goes_on n bag' (queued m) calls answers w') where
    push_first : (e : E) (r : Result (Unit {0}) Refusal) → PushAnswer e w m r → Goes_on n bag (queued w) (Push e ∷ calls) (Pushed r ∷ answers) w'
    push_first e (Ok u) p =
        let grown : IsPermutation (e ∷ queued w) (queued m) = IsPermutation-trans _ _ _ (IsPermutation-sym _ _ (IsPermutation-to_front (queued w) e)) p.items in
        let after : Holds n (e ∷ bag) m = record {
          size = p.size ∙ h.size;
          same = IsPermutation-trans _ _ _ (IsPermutation-cons e _ _ h.same) grown;
        } in
        let go = next (e ∷ bag) after in
        let room : length bag < n = omega (arith, bag_length bag w h, p.room, h.size) in
        record {
          left = go.left;
          serves = (e ∷ bag, (room, refl), go.serves);
          waits = go.waits;
          kept = IsPermutation-trans _ _ _ (IsPermutation-sym _ _ (IsPermutation-middle (went_in calls answers) e (queued w))) (IsPermutation-trans _ _ _ (IsPermutation-append_right (went_in calls answers) _ _ grown) go.kept);
        }
    push_first e (Err x) p =
        let go = next bag (unchanged bag w m p.len p.same h) in
        record {
          left = go.left;
          serves = (bag, (p.why, bag_length bag w h ∙ (p.full ∙ h.size), refl), go.serves);
          waits = go.waits;
          kept = subst (λ q. IsPermutation (went_in calls answers ++ q) (came_out answers ++ queued w')) (ap₂ take p.len p.same) go.kept;
        }

    pop_first : (r : Option E) → PopAnswer before w m r → Goes_on n bag (queued w) (Pop ∷ calls) (Popped r ∷ answers) w'
    pop_first (Some e) p =
        let after : Holds n (queued m) m = record {
          size = p.size ∙ h.size;
          same = IsPermutation-refl (queued m);
        } in
        let go = next (queued m) after in
        record {
          left = go.left;
          serves = (queued m, (IsPermutation-trans _ _ _ h.same p.items, all_shuffled (λ x. before x e ≡ false) (queued w) bag (IsPermutation-sym _ _ h.same) p.least), go.serves);
          waits = go.waits;
          kept = IsPermutation-trans _ _ _ (IsPermutation-append_right (went_in calls answers) _ _ p.items) (IsPermutation-trans _ _ _ (IsPermutation-middle (went_in calls answers) e (queued m)) (IsPermutation-cons e _ _ go.kept));
        }
    pop_first None p =
        let go = next bag (unchanged bag w m p.len p.same h) in
        record {
          left = go.left;
          serves = (bag, (nil_from_length bag (bag_length bag w h ∙ p.none), refl), go.serves);
          waits = go.waits;
          kept = subst (λ q. IsPermutation (went_in calls answers ++ q) (came_out answers ++ queued w')) (ap₂ take p.len p.same) go.kept;
        }

  goes_on : (n : ℕ) (bag : List E) (w w' : Waiting E ranked) (calls : List (Call E)) (answers : List (Answer E)) → Holds n bag w → Runs before w calls answers w' → Goes_on n bag (queued w) calls answers w'
  goes_on n bag w w' [] [] h e = record {
    left = bag;
    serves = refl;
    waits = subst (λ v. IsPermutation bag (queued v)) e h.same;
    kept = subst (λ v. IsPermutation (queued w) (queued v)) e (IsPermutation-refl (queued w));
  }
  goes_on n bag w w' [] (a ∷ answers) h none = absurd none
  goes_on n bag w w' (c ∷ calls) [] h none = absurd none
  goes_on n bag w w' (Push e ∷ calls) (Pushed r ∷ answers) h (m, p, rest) =
      push_first n bag w m w' calls answers h (λ bag' h'. goes_on n bag' m w' calls answers h' rest) e r p
  goes_on n bag w w' (Push e ∷ calls) (Popped o ∷ answers) h (m, never, rest) = absurd never
  goes_on n bag w w' (Pop ∷ calls) (Pushed r ∷ answers) h (m, never, rest) = absurd never
  goes_on n bag w w' (Pop ∷ calls) (Popped o ∷ answers) h (m, p, rest) =
      pop_first n bag w m w' calls answers h (λ bag' h'. goes_on n bag' m w' calls answers h' rest) o p

pub lowest_first_lem : {E : Type 0} (ranked : Ghosts E) → LowestFirst ranked
lowest_first_lem ranked w w' calls answers none runs =
    let empty : queued w ≡ [] = nil_from_length (queued w) (length-take-le w.len (memory w) w.within ∙ none) in
    let start : Holds ranked.before (length (memory w)) [] w = record {
      size = refl;
      same = subst (IsPermutation []) (sym empty) (IsPermutation-refl []);
    } in
    let go = goes_on ranked.before (length (memory w)) [] w w' calls answers start runs in
    record {
      bag = go.left;
      serves = go.serves;
      waits = go.waits;
      kept = subst (λ xs. IsPermutation xs (came_out answers ++ queued w')) (append-nil _) (subst (λ q. IsPermutation (went_in calls answers ++ q) (came_out answers ++ queued w')) empty go.kept);
    }
