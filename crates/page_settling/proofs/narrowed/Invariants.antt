use Rattle.std.proofs.Common.{get_or, None}
use Rattle.settling.proofs.Fills.{Filled}
use Rattle.page_settling.proofs.narrowed.Given as goal

abbrev pub invariant-loop-d : goal.invariant-loop-d
invariant-loop-d l = Filled (λ k. get_or l.routers k None) None l.initial.bytes l.bytes l.d
