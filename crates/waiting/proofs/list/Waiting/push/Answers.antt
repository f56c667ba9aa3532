use Rattle.std.proofs.Common.{refl}
use Rattle.waiting.proofs.CallFacts.{pushed}
use Rattle.waiting.proofs.list.Waiting.push.Goals as goal

pub returns : goal.returns
returns g c =
    let s = c.sift_up.ensures in
    record {
      answer = pushed c.args.self.now _ c.args.e c.if-at-self.false refl s.stirred;
      handed = refl;
    }
