use Rattle.std.proofs.Common.{◌≡◌, ◌<◌, length, set, refl, ◌∙◌, arith}
use Rattle.std.proofs.lemmas.List.{drop-set-lt}
use Rattle.waiting.proofs.RunFacts.{turn, ended}
use Rattle.waiting.proofs.list.Waiting.serve.Goals as goal

pub loop-i-preserved : goal.loop-i-preserved
loop-i-preserved g c =
    let i = c.loop-i.i in
    let calls = c.args.calls.now in
    let answers = c.loop-i.answers in
    let one = c.serve_one in
    let here : i < length calls = omega arith in
    let room : i < length answers = omega arith in
    let runs = turn g.E.Ranked.before c.args.self.now c.loop-i.self one.new.self calls answers (set answers i one.result) i c.index-calls-i.result one.result here room c.index-calls-i.is refl c.loop-i.invariant.0 one.ensures.answer in
    let rest = drop-set-lt (length calls) answers i one.result here ∙ c.loop-i.invariant.1 in
    (runs, rest, one.ensures.handed ∙ c.loop-i.invariant.2)

pub returns : goal.returns
returns g c =
    let calls = c.args.calls.now in
    let all : c.loop-i.i ≡ length calls = omega arith in
    record {
      answer = record {
        room = c.if-answers-calls.false;
        runs = ended g.E.Ranked.before c.args.self.now c.loop-i.self calls c.loop-i.answers c.loop-i.i all c.loop-i.invariant.0;
        rest = c.loop-i.invariant.1;
      };
      handed = c.loop-i.invariant.2;
    }
