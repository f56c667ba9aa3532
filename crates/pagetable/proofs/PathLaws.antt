-- How a tree path begins and goes on, and how it is written.
use Rattle.std.proofs.Common.{◌≡◌, ℕ, zero, suc, ◌+◌, ◌-◌, ◌<◌, ◌≤◌, List, [], ◌∷◌, ◌++◌, length, get_or, set, Some, None, Option, sym, refl, ap, ◌∙◌, sub-one, arith}
use Rattle.std.proofs.lemmas.List.{length_push}
use Rattle.memory.specs.Writes.{laid}
use Rattle.memory.proofs.WriteLaws.{laid_more}
use Rattle.routes.specs.Lists.{when_some}
use Rattle.pagetable.specs.Pages.{path_by}

-- the routers of a path before its last
abbrev pub path_ahead : List (Option ℕ) → ℕ → ℕ → List ℕ
path_ahead fathers zero d = []
path_ahead fathers (suc k) d = when_some (get_or fathers d None) [] (λ x. path_by fathers k x)

module _ (fathers : List (Option ℕ)) where
  pub path_is : (k d : ℕ) → path_by fathers k d ≡ path_ahead fathers k d ++ d ∷ []
  unfolding path_by
  path_is zero d = refl
  path_is (suc k) d = by (get_or fathers d None)
    where
      by : (o : Option ℕ) → when_some o (d ∷ []) (λ x. path_by fathers k x ++ d ∷ []) ≡ when_some o [] (λ x. path_by fathers k x) ++ d ∷ []
      by None = refl
      by (Some x) = refl

  -- it has at most one router more than links are left
  pub path_few : (k d : ℕ) → length (path_by fathers k d) ≤ k + 1
  unfolding path_by
  path_few zero d = omega arith
  path_few (suc k) d = by (path_few k) (get_or fathers d None)
    where
      by : ((x : ℕ) → length (path_by fathers k x) ≤ k + 1) → (o : Option ℕ) → length (when_some o (d ∷ []) (λ x. path_by fathers k x ++ d ∷ [])) ≤ suc k + 1
      by few None = omega arith
      by few (Some x) = omega (arith, length_push (path_by fathers k x) d, few x)

  -- nothing where no link is left, or there is no father; otherwise the path of the father
  pub ahead_spent : (k d : ℕ) → k ≤ 0 → path_ahead fathers k d ≡ []
  ahead_spent zero d e = refl
  ahead_spent (suc k) d e = absurd (omega arith)

  pub ahead_top : (k d : ℕ) → get_or fathers d None ≡ None → path_ahead fathers k d ≡ []
  ahead_top zero d e = refl
  ahead_top (suc k) d e = ap (λ o. when_some o [] (λ x. path_by fathers k x)) e

  pub ahead_on : (k d x : ℕ) → 0 < k → get_or fathers d None ≡ Some x → path_ahead fathers k d ≡ path_by fathers (k - 1) x
  ahead_on zero d x h e = absurd (omega arith)
  ahead_on (suc k) d x h e = rw sub-one (ap (λ o. when_some o [] (λ x. path_by fathers k x)) e)

-- what is written of a path, and how many routers it has
pub record Wrote (old out path : List ℕ) (many : ℕ) : Type 0 where
  pub many_is : many ≡ length path
  pub memory_is : out ≡ laid old 0 path

pub wrote_nothing : (old out path : List ℕ) (at : ℕ) → at ≡ 0 → out ≡ old → path ≡ [] → Wrote old out path at
wrote_nothing old out path at z o e = record { many_is = z ∙ sym (ap length e); memory_is = o ∙ sym (ap (laid old 0) e) }

-- the last router behind those ahead of it
pub wrote_last : (old out : List ℕ) (fathers : List (Option ℕ)) (k d at : ℕ) → Wrote old out (path_ahead fathers k d) at → at < length old → Wrote old (set out at d) (path_by fathers k d) (at + 1)
wrote_last old out fathers k d at w room =
    let ahead : List ℕ = path_ahead fathers k d in
    let place : at ≡ 0 + length ahead = omega (arith, w.many_is) in
    record {
      many_is = ap (λ n. n + 1) w.many_is ∙ sym (ap length (path_is fathers k d) ∙ length_push ahead d);
      memory_is = (λ i. set (w.memory_is i) (place i) d) ∙ laid_more old 0 ahead d (omega (arith, w.many_is)) ∙ ap (laid old 0) (sym (path_is fathers k d));
    }
