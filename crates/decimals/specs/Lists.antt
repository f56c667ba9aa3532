-- Sets of routers, as a report has them.
use Rattle.std.specs.Prelude.{ℕ, Bool, true, false, List, [], ◌∷◌, ◌++◌, decimal}

-- numbers in decimal with commas between them
unfoldable pub listed : List ℕ → List ℕ
listed [] = []
listed (n ∷ []) = decimal n
listed (n ∷ m ∷ ms) = decimal n ++ 44 ∷ listed (m ∷ ms)

-- one number of such a list: a comma stands before it unless it is the first
abbrev pub item : Bool → ℕ → List ℕ
item true n = decimal n
item false n = 44 ∷ decimal n
