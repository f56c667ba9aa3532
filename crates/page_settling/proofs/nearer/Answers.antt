use Rattle.std.proofs.Common.{◌≡◌, sym, refl, ap, ◌∙◌, arith}
use Rattle.masks.specs.Sets.{including, mask}
use Rattle.page_settling.specs.Hops.{is_nearer}
use Rattle.masks.proofs.MaskLaws.{mask_with, mask_without}
use Rattle.page_settling.proofs.nearer.Goals as goal
use Rattle.page_settling.proofs.nearer.Goals.{then-is_nearer, else-is_nearer}

pub loop-d-init : goal.loop-d-init
unfolding mask
loop-d-init g c = refl

pub loop-d-preserved : goal.loop-d-preserved
loop-d-preserved g c =
    let at = c.loop-d.d in
    let p = is_nearer g.C.Cost.costs c.args.row.now.costs.now c.args.row.now.reached c.args.best.now c.args.known in
    elim c.if-is_nearer.branch [
      | then-is_nearer w ↦ w.set-is ∙ w.with-set.ensures.value ∙ ap (λ m. including m at) c.loop-d.invariant
          ∙ mask_with at p (omega (arith, c.requires.0)) (sym c.is_nearer.ensures ∙ w.if-is_nearer.true)
      | else-is_nearer w ↦ w.set-is ∙ c.loop-d.invariant ∙ mask_without at p (sym c.is_nearer.ensures ∙ w.if-is_nearer.false)
    ]

pub returns : goal.returns
returns g c =
    let all : c.loop-d.d ≡ c.args.count = omega arith in
    c.loop-d.invariant ∙ ap (λ n. mask n (is_nearer g.C.Cost.costs c.args.row.now.costs.now c.args.row.now.reached c.args.best.now c.args.known)) all
