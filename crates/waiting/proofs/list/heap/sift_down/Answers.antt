use Rattle.std.proofs.Common.{◌≡◌, ◌+◌, ◌<◌, ◌≤◌, length, ap, ◌∙◌, arith}
use Rattle.std.proofs.lemmas.List.Edits.{swapped_from_swap}
use Rattle.waiting.proofs.Depths.{depth, depth_more, depth_rises}
use Rattle.waiting.proofs.Sifts.{heavy_step, heavy_end}
use Rattle.waiting.proofs.Stirs.{stirred_swap}
use Rattle.waiting.proofs.list.heap.sift_down.Goals as goal

pub returns-then-not-is_before : goal.returns-then-not-is_before
returns-then-not-is_before g c =
    record {
      stirred = c.loop-at.invariant.0;
      heaped = heavy_end g.met.E.Ranked.ordered c.loop-at.entries c.args.len c.loop-at.at c.least_child-child.result c.least_child-child.ensures c.if-not-is_before.ensures c.loop-at.invariant.1;
    }

pub loop-at-preserved : goal.loop-at-preserved
loop-at-preserved g c =
    let o = g.met.E.Ranked.ordered in
    let n = c.args.len in
    let xs = c.loop-at.entries in
    let after = c.swap.new.self in
    let at = c.loop-at.at in
    let m = c.least_child-child.ensures in
    let child = c.least_child-child.result in
    let is = c.swap.ensures.after in
    let below : at < n = omega arith in
    let fits : n ≤ length xs = omega (arith, c.requires.inside, c.loop-at.invariant.0.size) in
    let step = heavy_step o xs after n at child fits m c.if-not-is_before.ensures (λ d. swapped_from_swap xs after at child d (omega arith) (omega (arith, m.within)) is) in
    (stirred_swap n _ xs _ at child c.requires.inside c.loop-at.invariant.0 is below m.within, step c.loop-at.invariant.1)

pub loop-at-smaller : goal.loop-at-smaller
loop-at-smaller g c =
    let m = c.least_child-child.ensures in
    let child = c.least_child-child.result in
    let deeper : depth child ≡ 1 + depth c.loop-at.at = depth_more child m.above ∙ ap (λ k. 1 + depth k) m.child in
    let inside : child ≤ c.args.len = omega (arith, m.within) in
    omega (arith, deeper, depth_rises child c.args.len inside)
