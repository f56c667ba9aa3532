-- A total order, given by the test whether one value comes before another.
use Rattle.std.specs.Prelude.{◌≡◌, Bool, true, false}

pub record Ordered {E : Type 0} (before : E → E → Bool) : Type 0 where
  pub irrefl : (a : E) → before a a ≡ false
  pub trans : (a b c : E) → before a b ≡ true → before b c ≡ true → before a c ≡ true
  -- values of which neither comes before the other are the same
  pub same : (a b : E) → before a b ≡ false → before b a ≡ false → a ≡ b
