use Rattle.std.proofs.Common.{◌-◌, ◌/◌, ◌<◌, ◌≤◌, length, arith}
use Rattle.std.proofs.lemmas.List.Edits.{swapped_from_swap}
use Rattle.waiting.proofs.Depths.{depth_more}
use Rattle.waiting.proofs.Sifts.{light_step, light_end}
use Rattle.waiting.proofs.Stirs.{stirred_swap}
use Rattle.waiting.proofs.list.heap.sift_up.Goals as goal

pub returns-then-not-is_before : goal.returns-then-not-is_before
returns-then-not-is_before g c =
    record {
      stirred = c.loop-at.invariant.1;
      heaped = light_end g.met.E.Ranked.ordered c.loop-at.entries c.args.len c.loop-at.at (λ _. c.if-not-is_before.ensures) c.loop-at.invariant.2;
    }

pub loop-at-preserved : goal.loop-at-preserved
loop-at-preserved g c =
    let o = g.met.E.Ranked.ordered in
    let n = c.args.len in
    let xs = c.loop-at.entries in
    let after = c.swap.new.self in
    let at = c.loop-at.at in
    let p = (at - 1) / 2 in
    let is = c.swap.ensures.after in
    let fits : n ≤ length xs = omega (arith, c.requires.inside.1, c.loop-at.invariant.1.size) in
    let below : p < n = omega (arith, c.loop-at.invariant.0) in
    let step = light_step o xs after n at c.loop-at-test.true c.loop-at.invariant.0 c.if-not-is_before.ensures (λ d. swapped_from_swap xs after p at d (omega arith) (omega arith) is) in
    (below, stirred_swap n _ xs _ p at c.requires.inside.1 c.loop-at.invariant.1 is below c.loop-at.invariant.0, step c.loop-at.invariant.2)

pub loop-at-smaller : goal.loop-at-smaller
loop-at-smaller g c = omega (arith, depth_more c.loop-at.at c.loop-at-test.true)
