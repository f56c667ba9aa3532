-- The network of a kept map is sound, and has a link back for each link where the rule reads every number that is kept.
use Rattle.std.proofs.Common.{◌≡◌, ℕ, ◌<◌, ◌≤◌, Bool, true, false, cond, not, ◌&&◌, eqb, ltb, ◌≢◌, is_some, Some, None, Option, sym, refl}
use Rattle.std.proofs.lemmas.Bool.{and_parts, and_from, eqb-false, ltb-true, lt-ltb, ne_eqb, not-true, not_from_false}
use Rattle.costs.specs.Costs.{Costs, Laws}
use Rattle.tables.specs.Links.{Links, is_pair, two_way, both}
use Rattle.routes.specs.Lists.{when_some}
use Rattle.routes.specs.Network.{Sound, TwoWay, standing}
use Rattle.routes.proofs.Members.{none_some, present_some}

module _ {Cost : Type 0} (rule : Costs Cost) where
  -- the number that a link is read from
  under_test : (t : Bool) (o : Option ℕ) (c : Cost) → cond t (when_some o None rule.read) None ≡ Some c →
      (t ≡ true) × ((n : ℕ) × (o ≡ Some n) × (rule.read n ≡ Some c))
  under_test true None c e = absurd (none_some c e)
  under_test true (Some n) c e = (refl, (n, refl, e))
  under_test false o c e = absurd (none_some c e)

  module _ (count : ℕ) (kept : Links) where
    stands : (a b : ℕ) (c : Cost) → (standing rule count kept).link a b ≡ Some c →
        (is_pair count a b ≡ true) × ((n : ℕ) × (two_way kept a b ≡ Some n) × (rule.read n ≡ Some c))
    stands a b c e = under_test (is_pair count a b) (two_way kept a b) c e

    -- the parts of a pair
    pair_parts : (a b : ℕ) → is_pair count a b ≡ true → (a < count) × (b < count) × (a ≢ b)
    pair_parts a b e =
        let p = and_parts (ltb a count) (ltb b count && not (eqb a b)) e in
        let q = and_parts (ltb b count) (not (eqb a b)) p.1 in
        (ltb-true a count p.0, ltb-true b count q.0, eqb-false a b (not-true (eqb a b) q.1))

    pub standing_sound : Laws rule → count ≤ 32 → Sound (standing rule count kept)
    standing_sound laws h =
        record {
          lawful = laws;
          few = h;
          from = λ a b c e. (pair_parts a b (stands a b c e).0).0;
          to = λ a b c e. (pair_parts a b (stands a b c e).0).1;
          apart = λ a b c e. (pair_parts a b (stands a b c e).0).2;
          costs = λ a b c e. let q = (stands a b c e).1 in (q.0, q.2);
        }

    -- the number of the other direction
    other_number : (o p : Option ℕ) (n : ℕ) → both o p ≡ Some n → (m : ℕ) × (p ≡ Some m) × (both p o ≡ Some m)
    other_number None p n e = absurd (none_some n e)
    other_number (Some a) None n e = absurd (none_some n e)
    other_number (Some a) (Some b) n e = (b, refl, refl)

    pair_back : (a b : ℕ) → is_pair count a b ≡ true → is_pair count b a ≡ true
    pair_back a b e =
        let p = pair_parts a b e in
        and_from (ltb b count) (ltb a count && not (eqb b a)) (lt-ltb b count p.1)
        (and_from (ltb a count) (not (eqb b a)) (lt-ltb a count p.0) (not_from_false (eqb b a) (ne_eqb b a (λ s. p.2 (sym s)))))

    pub standing_two_way : ((a b n : ℕ) → kept a b ≡ Some n → is_some (rule.read n) ≡ true) → TwoWay (standing rule count kept)
    standing_two_way readable a b c e =
        let q = stands a b c e in
        let m = other_number (kept a b) (kept b a) q.1.0 q.1.1 in
        let r = present_some (rule.read m.0) (readable b a m.0 m.1) in
        (r.0, rw (pair_back a b q.0, m.2) r.1)
