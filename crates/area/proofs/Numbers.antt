-- The numbers read off a table give the links that stand on it.
use Rattle.std.proofs.Common.{◌≡◌, ℕ, zero, suc, ◌+◌, ◌*◌, ◌<◌, ◌≤◌, Bool, true, false, cond, not, ◌&&◌, eqb, ltb, get_or, replicate, Some, None, Option, refl, ap, ◌∙◌, arith}
use mathlib.Core.Path.{fun_ext}
use Rattle.std.proofs.lemmas.Nat.{mul-add-lt, mul-le, div-mul-add, mod-mul-add}
use Rattle.std.proofs.lemmas.List.FromFn.{get_or-map-range_with_len}
use Rattle.std.proofs.lemmas.Bool.{and_parts, cond-true, lt-ltb, ltb-true}
use Rattle.costs.specs.Costs.{Costs, Laws}
use Rattle.routes.specs.Lists.{when_some}
use Rattle.routes.specs.Network.{Network}
use Rattle.squares.specs.Numbers.{number_matrix}
use Rattle.tables.specs.Links.{is_pair}
use Rattle.tables.specs.Tables.{Table}
use Rattle.tables.specs.TwoWays.{two_way_table}
use Rattle.area.specs.Networks.{standing_on, number_shown, number_at, numbers_shown}

pub zeros : (n k : ℕ) → get_or {A = ℕ} (replicate n 0) k 0 ≡ 0
zeros zero k = refl
zeros (suc n) zero = refl
zeros (suc n) (suc k) = zeros n k

-- a square of at most 32 routers has at most 1024 places
pub square_few : (count : ℕ) → count ≤ 32 → count * count ≤ 1024
square_few count h = mul-le count count 32 32 h h

-- the number of a pair stands at its place
number_placed : (t : Table) (a b : ℕ) → t.count ≤ 32 → a < t.count → b < t.count → get_or (numbers_shown t) (a * t.count + b) 0 ≡ number_shown t a b
number_placed t a b few la lb =
    let n = t.count in
    let inside : a * n + b < n * n = mul-add-lt a n b n la lb in
    get_or-map-range_with_len (number_at t) 0 1024 (a * n + b) (a * n + b) 0 (omega (arith, square_few n few)) (omega arith)
    ∙ cond-true (ltb (a * n + b) (n * n)) _ 0 (lt-ltb (a * n + b) (n * n) inside)
    ∙ (λ i. number_shown t (div-mul-add a n b lb i) (mod-mul-add a n b lb i))

-- no rule reads the number 0
read_shown : {C : Type 0} (rule : Costs C) → Laws rule → (o : Option ℕ) → rule.read (when_some o 0 (λ n. n)) ≡ when_some o None rule.read
read_shown rule laws None = laws.zero_unread
read_shown rule laws (Some n) = refl

pub links_standing : {C : Type 0} (rule : Costs C) → Laws rule → (t : Table) → t.count ≤ 32 → number_matrix rule t.count (numbers_shown (two_way_table t)) ≡ standing_on rule t
links_standing {C} rule laws t few = ap {B = Network C} (λ link. record { rule = rule; count = t.count; link = link }) (fun_ext (λ a. fun_ext (λ b. at a b (is_pair t.count a b) refl)))
  where
    at : (a b : ℕ) (p : Bool) → is_pair t.count a b ≡ p →
        cond p (rule.read (get_or (numbers_shown (two_way_table t)) (a * t.count + b) 0)) None ≡ cond p (when_some ((two_way_table t).shown a b) None rule.read) None
    at a b false e = refl
    at a b true e =
        let p = and_parts (ltb a t.count) (ltb b t.count && not (eqb a b)) e in
        let q = and_parts (ltb b t.count) (not (eqb a b)) p.1 in
        ap rule.read (number_placed (two_way_table t) a b few (ltb-true a t.count p.0) (ltb-true b t.count q.0)) ∙ read_shown rule laws ((two_way_table t).shown a b)
