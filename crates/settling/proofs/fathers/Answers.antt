use Rattle.std.proofs.Common.{◌≡◌, ℕ, ◌≤◌, length, take, replicate, None, Option, sym, refl, ◌∙◌, arith}
use Rattle.std.proofs.lemmas.List.{length-take-le}
use Rattle.squares.specs.Meaning.{network_of}
use Rattle.settling.proofs.Fills.{filled_first, filled_write, filled_front}
use Rattle.settling.proofs.Trees.{all_none, places, shorts, father_lowest, fatherless}
use Rattle.settling.proofs.fathers.Goals as goal

cut : (n : ℕ) → n ≤ 32 → length (take n (replicate {A = Option ℕ} 32 None)) ≡ n
cut n few = length-take-le n (replicate {A = Option ℕ} 32 None) few

pub loop-d-init : goal.loop-d-init
loop-d-init g c = filled_first _ _ _

pub father_of-requires : goal.father_of-requires
father_of-requires g c =
    let rule = g.C.Cost.costs in
    let N = network_of rule g.L.LinkCosts c.args.links.now in
    let sound = g.met.L.LinkCosts.sound c.args.links.now in
    let few : c.count.result ≤ 32 = omega (arith, sound.few) in
    record {
      inside = (omega (arith, cut c.count.result few), places N sound c.args.root c.args.best.now c.args.found.now c.requires.left);
      short = shorts N sound c.args.root c.args.best.now c.args.found.now c.requires.left;
    }

pub loop-d-preserved : goal.loop-d-preserved
loop-d-preserved g c =
    let rule = g.C.Cost.costs in
    let N = network_of rule g.L.LinkCosts c.args.links.now in
    let sound = g.met.L.LinkCosts.sound c.args.links.now in
    let few : c.count.result ≤ 32 = omega (arith, sound.few) in
    filled_write c.loop-d.invariant _ c.father_of.result refl c.loop-d-test.true
    (c.father_of.ensures ∙ father_lowest N sound c.args.root c.args.best.now c.args.found.now c.requires.left c.loop-d.d (omega (arith, cut c.count.result few)))

pub returns : goal.returns
returns g c =
    let N = network_of g.C.Cost.costs g.L.LinkCosts c.args.links.now in
    let sound = g.met.L.LinkCosts.sound c.args.links.now in
    let few : c.count.result ≤ 32 = omega (arith, sound.few) in
    filled_front c.count.result 32 (replicate 32 None) c.loop-d.invariant few refl (omega (arith, cut c.count.result few))
    (λ k l. all_none 32 k ∙ sym (fatherless N sound c.args.root k (omega arith)))
