use Rattle.std.proofs.Common.{get_or, Some, None, sym, refl, ◌∙◌, arith}
use Rattle.std.proofs.lemmas.List.FromFn.{fill_by_all}
use Rattle.std.proofs.lemmas.List.{get_or_past}
use Rattle.settling.proofs.Trees.{all_none}
use Rattle.settling.proofs.Fills.{filled_first, filled_write, filled_keep, filled_all}
use Rattle.page_settling.proofs.narrowed.Goals as goal
use Rattle.page_settling.proofs.narrowed.Goals.{in-Some, in_default}

pub loop-d-init : goal.loop-d-init
loop-d-init c = filled_first _ _ _

pub overflow_cast-bytes : goal.overflow_cast-bytes
overflow_cast-bytes c = record { fits = c.requires c.loop-d.d c.in-Some.x c.in-Some.is }

pub loop-d-preserved : goal.loop-d-preserved
loop-d-preserved c =
    elim c.match-routers-d.branch [
      | in-Some w ↦ filled_write c.loop-d.invariant _ (Some w.in-Some.x) w.bytes-is (omega arith) (sym w.in-Some.is)
      | in_default w ↦ filled_keep c.loop-d.invariant _ w.bytes-is (all_none 32 c.loop-d.d ∙ sym w.in_default.is)
    ]

pub returns : goal.returns
returns c =
    filled_all c.loop-d.invariant 32 refl (λ k l. all_none 32 k ∙ sym (get_or_past c.args.routers.now k None (omega (arith, c.told-routers))))
    ∙ sym (fill_by_all (λ k. get_or c.args.routers.now k None) c.args.routers.now 32 None c.told-routers (λ k _. refl))
