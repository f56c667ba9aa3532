use Rattle.std.proofs.Common.{◌<◌, length, refl, arith}
use Rattle.std.proofs.lemmas.List.{get_or_default}
use Rattle.waiting.specs.Waiting.{memory}
use Rattle.waiting.proofs.CallFacts.{popped}
use Rattle.waiting.proofs.list.Waiting.pop.Goals as goal

pub returns : goal.returns
returns g c =
    let s = c.close_up.ensures in
    let w = c.args.self.now in
    let some : 0 < w.len = omega arith in
    let there : 0 < length (memory w) = omega (arith, w.within) in
    record {
      answer = popped g.met.E.Ranked.ordered w _ _ _ some refl refl (get_or_default (memory w) 0 _ _ there) w.heaped s.stirred;
      handed = refl;
    }
