use Rattle.std.proofs.Common.{◌&&◌, ltb, sym, ap, ◌∙◌, arith}
use Rattle.std.proofs.lemmas.Bool.{and_from, and_left, and_right, cond-true, cond-false, lt-ltb, le-ltb}
use Rattle.std.proofs.lemmas.List.{set-get_or, get_or-take, length-take-le}
use Rattle.masks.specs.Sets.{holds, including}
use Rattle.settling.proofs.Fills.{filled_first, filled_write, filled_keep, filled_front}
use Rattle.page_settling.proofs.add_hop.Goals as goal
use Rattle.page_settling.proofs.add_hop.Goals.{then-has, else-has}

pub loop-d-init : goal.loop-d-init
loop-d-init c = filled_first _ _ _

pub loop-d-preserved : goal.loop-d-preserved
loop-d-preserved c =
    let at = c.loop-d.d in
    let sets = c.args.sets.now in
    let chosen = ltb at c.args.count && holds c.args.chosen at in
    let cut = length-take-le c.args.count sets (omega (arith, c.told-sets, c.requires)) in
    let here = get_or-take c.args.count sets at 0 (omega (arith, cut)) in
    elim c.if-has.branch [
      | then-has w ↦ filled_write c.loop-d.invariant _ w.with.result w.set-items-is c.loop-d-test.true
          (w.with.ensures.value ∙ ap (λ m. including m c.args.hop) (c.loop-d.invariant.past at (omega arith) ∙ here)
          ∙ sym (cond-true chosen _ _ (and_from _ _ (lt-ltb at c.args.count (omega (arith, cut))) (sym w.if-has.ensures))))
      | else-has w ↦ filled_keep c.loop-d.invariant _ (w.set-items-is ∙ set-get_or _ _ _) (here ∙ sym (cond-false chosen _ _ (and_right _ _ (sym w.if-has.ensures))))
    ]

pub returns : goal.returns
returns c =
    filled_front c.args.count 32 c.args.sets.now c.loop-d.invariant (omega (arith, c.told-sets, c.requires)) c.told-sets (omega (arith, length-take-le c.args.count c.args.sets.now (omega (arith, c.told-sets, c.requires))))
    (λ k l. sym (cond-false (ltb k c.args.count && holds c.args.chosen k) _ _ (and_left _ _ (le-ltb k c.args.count l))))
