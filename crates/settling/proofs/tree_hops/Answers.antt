use Rattle.std.proofs.Common.{sym, refl, subst, arith}
use Rattle.settling.specs.Trees.{FathersFirst}
use Rattle.settling.proofs.Trees.{all_none, hopped_more, hopped_all}
use Rattle.settling.proofs.tree_hops.Goals as goal

pub loop-router-init : goal.loop-router-init
loop-router-init c = record { long = refl; at = λ h s j l. absurd (omega arith); none = λ d n. all_none 32 d }

pub hop_of-requires : goal.hop_of-requires
hop_of-requires c =
    let first = subst (FathersFirst c.args.fathers.now c.args.root) (sym c.as_slice-router-items.ensures.value) c.requires in
    let at = c.loop-router.router-index in
    (omega (arith, c.from-d.ensures, first.routers at (omega (arith, c.loop-router-test.true))), first.bounded c.from-d.result)

pub loop-router-preserved : goal.loop-router-preserved
loop-router-preserved c =
    let first = subst (FathersFirst c.args.fathers.now c.args.root) (sym c.as_slice-router-items.ensures.value) c.requires in
    hopped_more first c.loop-router.invariant (omega (arith, c.loop-router-test.true)) (sym c.from-d.ensures) c.hop_of.ensures

pub returns : goal.returns
returns c =
    let first = subst (FathersFirst c.args.fathers.now c.args.root) (sym c.as_slice-router-items.ensures.value) c.requires in
    hopped_all first c.loop-router.invariant (omega arith)
