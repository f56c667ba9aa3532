use Rattle.std.proofs.Common.{length, sym, refl, ◌∙◌, arith}
use Rattle.std.proofs.lemmas.List.{set-get_or}
use Rattle.settling.proofs.Fills.{filled_first, filled_write, filled_keep, filled_all}
use Rattle.page_settling.proofs.Rests.{held_at, held_not, held_past}
use Rattle.page_settling.proofs.clear_others.Goals as goal
use Rattle.page_settling.proofs.clear_others.Goals.{then-not-has, else-not-has}

pub loop-d-init : goal.loop-d-init
loop-d-init g c = filled_first _ _ _

pub loop-d-preserved : goal.loop-d-preserved
loop-d-preserved g c =
    let rule = g.C.Cost.costs in
    let row = c.args.row.now in
    let at = c.loop-d.d in
    elim c.if-not-has.branch [
      | then-not-has w ↦ filled_write c.loop-d.invariant _ w.zero.result w.cost-items-is c.loop-d-test.true
          (w.zero.ensures ∙ sym (held_not rule row.costs.now row.reached at (sym w.if-not-has.ensures)))
      | else-not-has w ↦ filled_keep c.loop-d.invariant _ (w.cost-items-is ∙ set-get_or _ _ _) (sym (held_at rule row.costs.now row.reached at (sym w.if-not-has.ensures)))
    ]

pub returns : goal.returns
returns g c =
    let row = c.args.row.now in
    record {
      costs = filled_all c.loop-d.invariant (length row.costs.now) refl (λ k l. held_past g.C.Cost.costs row.costs.now row.reached k (omega arith));
      reached = refl;
      memory = record { same_memory = refl; same_length = c.loop-d.auto.cost-items };
    }
