-- What a sequence of routers holds.
use Rattle.std.specs.Prelude.{ℕ, List, take}
use Rattle.squares.specs.declared.sequence.Sequence.{Sequence}

-- the routers, in order
abbrev pub items : Sequence → List ℕ
items s = take s.many s.routers
