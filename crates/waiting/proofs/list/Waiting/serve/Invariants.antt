use Rattle.std.proofs.Common.{◌≡◌, length, take, drop}
use Rattle.waiting.specs.Runs.{Runs}
use Rattle.waiting.specs.Waiting.{handed}
use Rattle.waiting.proofs.list.Waiting.serve.Given as goal

abbrev pub invariant-loop-i : goal.invariant-loop-i
invariant-loop-i g l =
    Runs g.E.Ranked.before l.initial.self (take l.i l.calls) (take l.i l.answers) l.self
    × (drop (length l.calls) l.answers ≡ drop (length l.calls) l.initial.answers)
    × (handed l.self ≡ handed l.initial.self)
