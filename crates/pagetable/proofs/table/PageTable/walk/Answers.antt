use Rattle.std.proofs.Common.{◌≡◌, ℕ, ◌+◌, ◌-◌, ◌%◌, ◌<◌, [], ◌∷◌, length, get_or, take, drop, sym, ap, ◌∙◌, add-zero, arith, length-set}
use lib.Count.{ones}
use Rattle.std.proofs.lemmas.Nat.{mod_below}
use Rattle.std.proofs.lemmas.List.{length_push, length-take, get_or-take, drop_all}
use Rattle.masks.specs.Sets.{members}
use Rattle.masks.proofs.SetLaws.{members_in, members_out}
use Rattle.pagetable.specs.declared.page.Page.{Page}
use Rattle.pagetable.specs.Walks.{valid_sets, walk_by}
use Rattle.pagetable.proofs.MemberLaws.{length_members, nth_member}
use Rattle.pagetable.proofs.WalkLaws.{walk_begins, walk_turns, walk_ends, walk_none, walk_there, walk_stuck}
use Rattle.pagetable.proofs.table.PageTable.walk.Goals as goal
use Rattle.pagetable.proofs.table.PageTable.walk.Goals.{After-valid_to-set, then-has+else-rank-eq0, else-has, else-loop-v-test, then-loop-v-test+then-has+then-rank-eq0, then-here-to-via-then-here-to, then-here-to-via-else-here-to+then-i-count}

-- the set that is read is that of the page
set_is : (c : After-valid_to-set) → c.valid_to-set.result ≡ valid_sets c.args.self.now c.args.to c.loop-i.here
set_is c = c.valid_to-set.ensures ∙ ap (λ (p : Page). get_or p.valid c.args.to 0) c.page.ensures

pub loop-i-init : goal.loop-i-init
loop-i-init c = (
  walk_begins (valid_sets c.args.self.now c.args.to) c.args.to c.args.from (take (c.args.count - 1) c.args.picks.now) c.args.trail.now c.walk.trail c.walk.here c.walk.invariant.0 c.walk.invariant.1 (omega arith),
  omega (arith, c.walk.invariant.0),
  omega arith,
)

pub loop-v-init : goal.loop-v-init
unfolding members
loop-v-init c = add-zero _

pub loop-v-preserved : goal.loop-v-preserved
loop-v-preserved c =
    elim c.if-has.branch [
      | then-has+else-rank-eq0 w ↦
          let e = ap length (members_in c.valid_to-set.result c.loop-v.v (sym w.if-has.ensures)) ∙ length_push (members c.valid_to-set.result c.loop-v.v) c.loop-v.v in
          omega (arith, w.rank-is, w.if-rank-eq0.false, c.loop-v.invariant, e)
      | else-has w ↦
          let e = ap length (members_out c.valid_to-set.result c.loop-v.v (sym w.if-has.ensures)) in
          omega (arith, w.rank-is, c.loop-v.invariant, e)
    ]

pub loop-i-preserved : goal.loop-i-preserved
loop-i-preserved c =
    let sets : ℕ → ℕ = valid_sets c.args.self.now c.args.to in
    let picks = take (c.args.count - 1) c.args.picks.now in
    let here = c.loop-i.here in
    let i = c.loop-i.i in
    let same_set = set_is (goal.at.loop-i-preserved c).After-valid_to-set in
    let many_is : ones c.valid_to-set.result ≡ length (members c.valid_to-set.result 32) = sym (length_members c.valid_to-set.result 32 c.valid_to-set.type_inv) in
    let some : 0 < ones c.valid_to-set.result = omega (arith, c.if-many-eq0.false) in
    let pick = get_or c.args.picks.now i 0 in
    let rank = pick % ones c.valid_to-set.result in
    let below = mod_below pick (ones c.valid_to-set.result) some in
    let found : (c.loop-v-test.here ≡ get_or (members c.valid_to-set.result 32) rank 0) × (c.loop-v-test.here < 32) = elim c.loop-v-test.branch [
      | else-loop-v-test w ↦
          let end : c.loop-v.v ≡ 32 = omega (arith, w.loop-v-test.false, c.loop-v.auto.v-end) in
          let all = ap (λ n. length (members c.valid_to-set.result n)) end in
          absurd (omega (arith, below, all, c.loop-v.invariant, many_is))
      | then-loop-v-test+then-has+then-rank-eq0 w ↦ (
        w.here-is ∙ nth_member c.valid_to-set.result c.loop-v.v rank 0 w.loop-v-test.true (sym w.if-has.ensures) (omega (arith, w.if-rank-eq0.true, c.loop-v.invariant)),
        omega (arith, w.here-is, w.loop-v-test.true),
      )
    ] in
    let first : i < c.args.count - 1 = omega (arith, c.loop-i.invariant.2, c.if-i-count.false) in
    let same_pick : pick ≡ get_or picks i 0 = sym (get_or-take (c.args.count - 1) c.args.picks.now i 0 first) in
    let next_is : c.loop-v-test.here ≡ get_or (members (sets here) 32) (get_or picks i 0 % length (members (sets here) 32)) 0 =
    found.0 ∙ ap (λ n. get_or (members c.valid_to-set.result 32) (pick % n) 0) many_is
    ∙ (λ j. get_or (members (same_set j) 32) (same_pick j % length (members (same_set j) 32)) 0) in (
      walk_turns sets c.args.to c.args.from picks c.walk.trail c.loop-i.trail here i c.loop-v-test.here c.loop-i.invariant.0
          (omega (arith, first, length-take (c.args.count - 1) c.args.picks.now)) (omega (arith, first, ap length c.walk.invariant.1 ∙ length-set c.args.trail.now 0 c.args.from)) c.if-here-to.false
          (omega (arith, some, many_is, ap (λ n. length (members n 32)) same_set)) next_is,
      found.1,
      omega (arith, first),
    )

pub returns-then-here-to : goal.returns-then-here-to
returns-then-here-to c =
    let sets : ℕ → ℕ = valid_sets c.args.self.now c.args.to in
    let picks = take (c.args.count - 1) c.args.picks.now in
    let end : walk_by sets c.args.to (drop c.loop-i.i picks) c.loop-i.here ≡ c.loop-i.here ∷ [] = elim c.then-here-to.branch [
      | then-here-to-via-then-here-to w ↦
          walk_there sets c.args.to _ c.loop-i.here w.if-here-to.true
      | then-here-to-via-else-here-to+then-i-count w ↦
          ap (λ l. walk_by sets c.args.to l c.loop-i.here) (drop_all c.loop-i.i picks (omega (arith, w.if-i-count.true, length-take (c.args.count - 1) c.args.picks.now)))
          ∙ walk_none sets c.args.to c.loop-i.here
    ] in
    let a = walk_ends sets c.args.to c.args.from picks c.args.trail.now c.walk.trail c.loop-i.trail c.loop-i.here c.loop-i.i c.loop-i.invariant.0 c.walk.invariant.1 end in
    record { hops = a.0; within = c.loop-i.invariant.2; memory = a.1 }

pub returns-then-many-eq0 : goal.returns-then-many-eq0
returns-then-many-eq0 c =
    let sets : ℕ → ℕ = valid_sets c.args.self.now c.args.to in
    let picks = take (c.args.count - 1) c.args.picks.now in
    let same_set = set_is (goal.at.returns-then-many-eq0 c).After-valid_to-set in
    let none : length (members (sets c.loop-i.here) 32) ≡ 0 =
    ap (λ n. length (members n 32)) (sym same_set) ∙ length_members c.valid_to-set.result 32 c.valid_to-set.type_inv ∙ c.if-many-eq0.true in
    let end = walk_stuck sets c.args.to (drop c.loop-i.i picks) c.loop-i.here none in
    let a = walk_ends sets c.args.to c.args.from picks c.args.trail.now c.walk.trail c.loop-i.trail c.loop-i.here c.loop-i.i c.loop-i.invariant.0 c.walk.invariant.1 end in
    record { hops = a.0; within = c.loop-i.invariant.2; memory = a.1 }

pub returns-after-loop-i : goal.returns-after-loop-i
returns-after-loop-i c =
    let sets : ℕ → ℕ = valid_sets c.args.self.now c.args.to in
    let picks = take (c.args.count - 1) c.args.picks.now in
    let all : c.loop-i.i ≡ length c.args.picks.now = omega arith in
    let end : walk_by sets c.args.to (drop c.loop-i.i picks) c.loop-i.here ≡ c.loop-i.here ∷ [] =
    ap (λ l. walk_by sets c.args.to l c.loop-i.here) (drop_all c.loop-i.i picks (omega (arith, length-take (c.args.count - 1) c.args.picks.now)))
    ∙ walk_none sets c.args.to c.loop-i.here in
    let a = walk_ends sets c.args.to c.args.from picks c.args.trail.now c.walk.trail c.loop-i.trail c.loop-i.here c.loop-i.i c.loop-i.invariant.0 c.walk.invariant.1 end in
    record { hops = ap (λ n. n + 1) (sym all) ∙ a.0; within = omega (arith, c.loop-i.invariant.2); memory = a.1 }
