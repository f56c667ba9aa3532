-- What holds each time an entry is about to be taken from the waiting list.
use Rattle.std.proofs.Common.{◌≡◌, ℕ, zero, suc, ◌+◌, ◌-◌, ◌*◌, ◌/◌, ◌%◌, ◌^◌, ◌<◌, ◌≤◌, Bool, true, false, cond, ◌&&◌, eqb, ltb, List, [], ◌∷◌, ◌++◌, length, get_or, take, drop, is_some, Some, None, Option, sym, refl, ap, ◌∙◌, subst, ap₂, subst₂, ⊎_elim, mul-le-mul_left, mul-suc, arith}
use mathlib.Core.Path.{fun_ext}
use native.Mathlib.Nat.{zero-div}
use Rattle.std.proofs.lemmas.List.FromFn.{fill_by_all}
use Rattle.std.proofs.ByRecursion.{all-has, all_shuffled, has_shuffled}
use Rattle.std.proofs.lemmas.List.{length-take-le, get_or-take, take-append-drop}
use Rattle.std.proofs.lemmas.Bool.{both_ways, cases_Bool, cases_lt, or_parts, and_left, cond-true, cond-false, eqb-false, lt-ltb, le-ltb}
use Rattle.std.specs.List.{ContainsAt, AllByRecursion, FoldsTo}
use Rattle.costs.specs.Costs.{Costs}
use Rattle.entries.specs.Entry.{entry_before}
use Rattle.entries.specs.declared.Entry.{Entry}
use Rattle.masks.specs.Sets.{holds}
use Rattle.routes.specs.Leasts.{lesser, below}
use Rattle.routes.specs.Lists.{when_some}
use Rattle.routes.specs.Network.{Network, Sound}
use Rattle.routes.specs.Routes.{best as best_cost}
use Rattle.routes.specs.Settling.{also, at_first, relaxed_by, Nearest, Settling}
use Rattle.routes.specs.Theorems.{Settles}
use Rattle.routes.proofs.Members.{none_some, present_some}
use Rattle.routes.proofs.Sizes.{size, size_most}
use Rattle.routes.proofs.Theorems.{settling_steps_lem}
use Rattle.waiting.specs.Waiting.{memory, queued, Popped}
use Rattle.waiting.specs.declared.list.Waiting.{Waiting}
use Rattle.waiting.specs.declared.ranked.Ranked.{Ghosts}
use Rattle.squares.specs.Found.{NearestFirst, Searched}
use Rattle.squares.specs.Sequences.{items}
use Rattle.squares.specs.Known.{costs_in, with_offer, Short}
use Rattle.squares.specs.declared.found.Found.{Found}
use Rattle.search.specs.Steps.{entry, AboveKnown, Waits, Step, Marked}
use Rattle.search.proofs.Lines.{InLine, size_more, line_more}
use Rattle.search.proofs.Shorts.{known_inside, known_short}

-- what calls wrote is the value that each of them gave
pub all_made : {F X : Type 0} (R : F → X → F → Type 0) (z : X) → ((f : F) (x : X) (f' : F) → R f x f' → x ≡ z) →
    (xs : List X) (f last : F) → FoldsTo R f xs last → (k : ℕ) → get_or xs k z ≡ z
all_made R z h [] f last ran k = refl
all_made R z h (x ∷ xs) f last ran zero = h f x ran.0 ran.1
all_made R z h (x ∷ xs) f last ran (suc k) = all_made R z h xs ran.0 last ran.2 k

-- the entries that the routers that are not done may add yet
abbrev pub left : ℕ → ℕ → ℕ
left count done = count * (count - size count (holds done))

-- `marks` are the routers that are done
pub record Running {C : Type 0} {ranked : Ghosts (Entry C)} (N : Network C) (root : ℕ) (best : List C) (known : ℕ) (marks : Found) (w : Waiting (Entry C) ranked) : Type 0 where
  pub settling : Settling N root (holds marks.known) (costs_in N.rule best known)
  pub waits : Waits N.rule (holds marks.known) (costs_in N.rule best known) w
  pub room : w.len + left N.count marks.known ≤ N.count * N.count + 1
  pub size : N.count * N.count ≤ length (memory w)
  pub absent : (d : ℕ) → d < N.count → holds known d ≡ false → get_or best d N.rule.zero ≡ N.rule.zero
  pub line : InLine N (holds marks.known) (costs_in N.rule best known) (items marks.order)

-- an element besides the first
has_rest : {X : Type 0} (e : X) (xs : List X) (y : X) → (e ≡ y → ⊥) → ContainsAt (e ∷ xs) y → ContainsAt xs y
has_rest {X} e xs y ne h = place h.0 h.1 h.2
  where
    place : (k : ℕ) → k < length (e ∷ xs) → ((d : X) → get_or (e ∷ xs) k d ≡ y) → ContainsAt xs y
    place zero lt at = absurd (ne (at e))
    place (suc k) lt at = (k, omega arith, at)

-- the empty mask
holds_none : (mask k : ℕ) → mask ≡ 0 → holds mask k ≡ false
holds_none mask k e = ap (λ m. eqb (m / 2 ^ k % 2) 1) e ∙ ap (λ m. eqb (m % 2) 1) (zero-div (2 ^ k))

-- one router fewer, and `count` entries fewer
left_less : (count done done' : ℕ) → size count (holds done) < size count (holds done') → left count done' + count ≤ left count done
left_less count done done' h =
    let top = size_most count (holds done') in
    let more = mul-le-mul_left {m = suc (count - size count (holds done'))} {n = count - size count (holds done)} count (omega arith) in
    omega (arith, more, mul-suc count (count - size count (holds done')))

module _ {C : Type 0} {N : Network C} {root : ℕ} (sound : Sound N) (inside : root < N.count) where
  abbrev rule : Costs C
  rule = N.rule

  abbrev count : ℕ
  count = N.count

  settles : Settles N root
  settles = settling_steps_lem C N sound root inside

  -- the root alone waits
  module _ {ranked : Ghosts (Entry C)} {best best' : List C} {known' : ℕ} {w w' : Waiting (Entry C) ranked} (marks : Found) (none : marks.known ≡ 0) (empty : length (items marks.order) ≡ 0)
      (zeros : (d : ℕ) → d < count → get_or best d rule.zero ≡ rule.zero)
      (clear : w.len ≡ 0) (long : count * count ≤ length (memory w))
      (s : Step rule (with_offer rule (costs_in rule best 0) root (Some rule.zero)) (root + 1) 1 best 0 w best' known' w') where
    nothing : (d : ℕ) → costs_in rule best 0 d ≡ None
    nothing d = ap (λ t. cond t (Some (get_or best d rule.zero)) None) (holds_none 0 d refl)

    first : (d : ℕ) → at_first N root d ≡ costs_in rule best' known' d
    first d = sym (s.costs d ∙ ap (λ o. cond (eqb d root) (lesser rule o (Some rule.zero)) o) (nothing d) ∙ ap (λ o. cond (eqb d root) o None) (unfold lesser in refl))

    opened : Waits rule (holds marks.known) (costs_in rule best 0) w
    opened =
        record {
          each = λ d b _ e. absurd (none_some b (sym (nothing d) ∙ e));
          within = subst (λ k. AllByRecursion (AboveKnown rule (costs_in rule best 0)) (take k (memory w))) (sym clear) tt;
        }

    pub running_first : Running N root best' known' marks w'
    running_first =
        record {
          settling = subst₂ (Settling N root) (fun_ext (λ x. sym (holds_none marks.known x none))) (fun_ext first) settles.begins;
          waits = s.waits (holds marks.known) opened;
          room = omega (arith, s.len, mul-le-mul_left {m = count - size count (holds marks.known)} {n = count} count (omega arith));
          size = omega (arith, s.size);
          absent = λ d l u. (s.absent d u).1 ∙ zeros d l;
          line =
              record {
                few = omega arith;
                marked = λ i l. absurd (omega arith);
                placed = λ d t. absurd (both_ways (holds marks.known d) (holds_none marks.known d none) t);
                once = λ i j h l. absurd (omega arith);
                rising = λ i j h l. absurd (omega arith);
              };
        }

  module _ {ranked : Ghosts (Entry C)} {best : List C} {known : ℕ} {marks : Found} {w : Waiting (Entry C) ranked} (run : Running N root best known marks w) where
    abbrev f : ℕ → Option C
    f = costs_in rule best known

    abbrev done : ℕ → Bool
    done = holds marks.known

    module _ {e : Entry C} {v : Waiting (Entry C) ranked} (out : Popped (entry_before rule.lower) e w v) where
      head : AboveKnown rule f e
      head = (all_shuffled (AboveKnown rule f) (queued w) (e ∷ queued v) out.items run.waits.within).0

      pub router_inside : e.router < count
      router_inside = known_inside N sound root inside done f run.settling e.router head.0 head.1

      others : (d : ℕ) (b : C) → (d ≡ e.router → ⊥) → done d ≡ false → f d ≡ Some b → ContainsAt (queued v) (entry b d)
      others d b ne nd is =
          has_rest e (queued v) (entry b d) (λ same. ne (sym (ap (λ (x : Entry C). x.router) same)))
          (has_shuffled (queued w) (e ∷ queued v) (entry b d) out.items (run.waits.each d b nd is))

      rest_within : AllByRecursion (AboveKnown rule f) (queued v)
      rest_within = (all_shuffled (AboveKnown rule f) (queued w) (e ∷ queued v) out.items run.waits.within).1

      -- its router is done already
      pub running_skip : done e.router ≡ true → Running N root best known marks v
      running_skip old =
          record {
            settling = run.settling;
            waits =
                record {
                  each = λ d b nd is. others d b (λ same. both_ways (done d) nd (ap done same ∙ old)) nd is;
                  within = rest_within;
                };
            room = omega (arith, run.room, out.len);
            size = omega (arith, run.size, out.size);
            absent = run.absent;
            line = run.line;
          }

      module _ (new : done e.router ≡ false) where
        -- no router that waits is nearer
        not_lower : (y : ℕ) (b : C) → done y ≡ false → f y ≡ Some b → rule.lower b e.cost ≡ false
        not_lower y b ny is = (or_parts _ _ (all-has _ (queued w) (entry b y) out.least (run.waits.each y b ny is))).0

        near : Nearest N done f e.router e.cost
        near =
            record {
              waits = new;
              costs = head.1 ∙ ap Some (sym (sound.lawful.total e.cost head.0 head.2 (not_lower e.router head.0 new head.1)));
              least = not_lower;
            }

        pub next_short : Short rule e.cost
        next_short = known_short N sound root inside done f run.settling e.router e.cost near.costs

        pub few_marked : length (items marks.order) < 32
        few_marked = omega (arith, run.line.few, size_more count done (also done e.router) e.router (λ x. refl) router_inside new, size_most count (also done e.router), sound.few)

        module _ {marks' : Found} (m : Marked e.router marks marks') where
          fewer : left count marks'.known + count ≤ left count marks.known
          fewer = left_less count marks.known marks'.known (size_more count done (holds marks'.known) e.router m.done router_inside new)

          pub next_room : v.len + count ≤ length (memory v)
          next_room = omega (arith, fewer, run.room, run.size, out.len, out.size)

          next_waits : Waits rule (holds marks'.known) f v
          next_waits =
              record {
                each = λ d b nd is. let p = or_parts (done d) (eqb d e.router) (sym (m.done d) ∙ nd) in others d b (eqb-false d e.router p.1) p.0 is;
                within = rest_within;
              }

          module _ {best' : List C} {known' : ℕ} {w' : Waiting (Entry C) ranked}
              (s : Step rule (relaxed_by N f e.router e.cost) count count best known v best' known' w') where
            -- it is done now
            pub running_turn : Running N root best' known' marks' w'
            running_turn =
                record {
                  settling = subst₂ (Settling N root) (fun_ext (λ x. sym (m.done x))) (fun_ext (λ x. sym (s.costs x))) (settles.goes_on done f e.router e.cost run.settling near);
                  waits = s.waits (holds marks'.known) next_waits;
                  room = omega (arith, s.len, fewer, run.room, out.len);
                  size = omega (arith, s.size, run.size, out.size);
                  absent = λ d l u. let q = s.absent d u in q.1 ∙ run.absent d l q.0;
                  line = subst (InLine N (holds marks'.known) (costs_in rule best' known')) (sym m.order)
                      (line_more N sound root done f e.router e.cost run.settling near router_inside (holds marks'.known) (costs_in rule best' known') m.done s.costs (items marks.order) run.line);
                }

            pub turn_less : w'.len + left count marks'.known < w.len + left count marks.known
            turn_less = omega (arith, s.len, fewer, out.len)

    -- none waits
    module _ (empty : w.len ≡ 0) where
      all_done : (x : ℕ) (c : C) → f x ≡ Some c → done x ≡ true
      all_done x c e =
          ⊎_elim (λ t. t)
          (λ nd. let h = subst (λ k. ContainsAt (take k (memory w)) (entry c x)) empty (run.waits.each x c nd e) in absurd (omega (arith, h.1)))
          (cases_Bool (done x))

      found : (d : ℕ) → d < count → f d ≡ best_cost N root d
      found = settles.ends done f run.settling all_done

      -- a router of the network is done where it has a best cost
      done_where : (d : ℕ) → d < count → done d ≡ is_some (best_cost N root d)
      done_where d l =
          ⊎_elim
          (λ t. let q = run.settling.known d t in t ∙ sym (ap is_some (sym (found d l) ∙ q.1)))
          (λ n. n ∙ sym (⊎_elim (λ h. let q = present_some (best_cost N root d) h in absurd (both_ways (done d) n (all_done d q.0 (found d l ∙ q.1)))) (λ h. h) (cases_Bool (is_some (best_cost N root d)))))
          (cases_Bool (done d))

      done_only : (d : ℕ) → count ≤ d → done d ≡ false
      done_only d l =
          ⊎_elim
          (λ t. let q = run.settling.known d t in absurd (omega (arith, known_inside N sound root inside done f run.settling d q.0 q.1)))
          (λ n. n) (cases_Bool (done d))

      -- what the memory holds for a router of the network
      written : (d : ℕ) → d < count → get_or best d rule.zero ≡ when_some (best_cost N root d) rule.zero (λ c. c)
      written d l =
          ⊎_elim
          (λ t. sym (ap (λ o. when_some o rule.zero (λ c. c)) (sym (found d l) ∙ cond-true (holds known d) (Some (get_or best d rule.zero)) None t)))
          (λ n. run.absent d l n ∙ sym (ap (λ o. when_some o rule.zero (λ c. c)) (sym (found d l) ∙ cond-false (holds known d) (Some (get_or best d rule.zero)) None n)))
          (cases_Bool (holds known d))

      -- a router of the sequence has a best cost
      costs_of : (i : ℕ) → i < length (items marks.order) → (a : C) × (f (get_or (items marks.order) i 0) ≡ Some a) × (get_or (items marks.order) i 0 < count)
      costs_of i h =
          let x = get_or (items marks.order) i 0 in
          let q = run.settling.known x (run.line.marked i h) in
          (q.0, q.1, known_inside N sound root inside done f run.settling x q.0 q.1)

      ordered : NearestFirst N root (items marks.order)
      unfolding below
      ordered =
          record {
            fits = omega (arith, run.line.few, size_most count done, sound.few);
            reached = λ i h. let q = costs_of i h in (q.2, ap is_some (sym (found (get_or (items marks.order) i 0) q.2) ∙ q.1));
            each = λ d l t. let q = present_some (best_cost N root d) t in run.line.placed d (all_done d q.0 (found d l ∙ q.1));
            once = run.line.once;
            rising = λ i j h l.
                let p = costs_of i (omega arith) in
                let q = costs_of j l in
                subst₂ (λ x y. below rule x y ≡ false) (sym q.1 ∙ found (get_or (items marks.order) j 0) q.2) (sym p.1 ∙ found (get_or (items marks.order) i 0) p.2)
                (run.line.rising i j h l p.0 q.0 p.1 q.1);
          }

      pub running_end : (old : List C) → count ≤ length best → drop count best ≡ drop count old →
          Searched N root old best marks
      running_end old long past =
          record {
            memory = sym (take-append-drop count best) ∙ ap₂ ◌++◌
                (fill_by_all (λ d. when_some (best_cost N root d) rule.zero (λ c. c)) (take count best) count rule.zero (length-take-le count best long) (λ k h. get_or-take count best k rule.zero h ∙ written k h)) past;
            known = λ d. ⊎_elim
                (λ (l : d < count). sym (ap₂ ◌&&◌ (lt-ltb d count l) (sym (done_where d l))))
                (λ (l : count ≤ d). done_only d l ∙ sym (and_left (ltb d count) (is_some (best_cost N root d)) (le-ltb d count l)))
                (cases_lt d count);
            order = ordered;
          }
