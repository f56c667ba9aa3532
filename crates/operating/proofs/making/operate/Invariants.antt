use Rattle.std.proofs.Common.{◌≡◌, ℕ, ◌≤◌, take, drop}
use Rattle.area.specs.Meaning.{area_of}
use Rattle.operating.specs.Meaning.{held, Same}
use Rattle.operating.proofs.Turns.{InTurn}
use Rattle.operating.proofs.making.operate.Given as goal

-- the calls before place i were made in turn, and the answers from there on are as they were
abbrev pub invariant-loop-i : goal.invariant-loop-i
invariant-loop-i g l = record {
  turns : InTurn g.C.Cost.costs (area_of g.T.LinkTable) l.initial.area (held l.initial.memories) (take l.i l.fn.calls) (take l.i l.answers) l.area (held l.memories);
  left : (k : ℕ) → l.i ≤ k → drop k l.answers ≡ drop k l.initial.answers;
  same : Same l.initial.memories l.memories;
}
