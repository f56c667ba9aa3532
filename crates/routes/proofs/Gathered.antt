-- Lists gathered over one number more, and the masks of two crates.
use Rattle.std.proofs.Common.{◌≡◌, ℕ, ◌+◌, Bool, List, ◌++◌, refl, add-one}
use Rattle.masks.specs.Sets.{mask}
use Rattle.routes.specs.Lists.{gather}
use Rattle.routes.specs.Lists as routes

pub gather_more : {A : Type 0} (n : ℕ) (f : ℕ → List A) → gather (n + 1) f ≡ gather n f ++ f n
unfolding gather
gather_more n f = rw add-one refl

-- the mask of the definitions of routes is the mask of sets
pub same_mask : (n : ℕ) (p : ℕ → Bool) → routes.mask n p ≡ mask n p
same_mask n p = refl
