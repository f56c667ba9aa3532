-- What memories that are handed over hold, and that they are the caller's own.
use Rattle.std.specs.Prelude.{◌≡◌}
use Rattle.operating.specs.Operations as operations
use Rattle.operating.specs.declared.memories.Memories.{Memories}

abbrev pub held : {C : Type 0} → Memories C → operations.Memories C
held m = record { best = m.best.now; rest = m.rest.now; waiting = m.waiting.now; path = m.path.now; trail = m.trail.now }

-- they are the same five memories
pub record Same {C : Type 0} (m n : Memories C) : Type 0 where
  pub best : n.best.ghost_name ≡ m.best.ghost_name
  pub rest : n.rest.ghost_name ≡ m.rest.ghost_name
  pub waiting : n.waiting.ghost_name ≡ m.waiting.ghost_name
  pub path : n.path.ghost_name ≡ m.path.ghost_name
  pub trail : n.trail.ghost_name ≡ m.trail.ghost_name
