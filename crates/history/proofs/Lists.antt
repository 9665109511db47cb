-- A sheet's kept changes with its two counts, as two lists: what storing one shows. Assumes nothing.
use mathlib.Core.Path.{◌≡◌, refl, ap, ap₂, subst}
use mathlib.Core.List.{List, ◌∷◌}
use mathlib.Core.Logic.{⊎_elim}
use Prim.Native.Nat.{ℕ, zero, suc, ◌+◌, ◌≤◌, ◌<◌}
use native.Mathlib.Omega.{arith}
use lib.ListN.{length, set}
use lib.Seq.{get_or-set_same, get_or-set_other}
use Rattle.terms.proofs.Order.{le_or_lt}
use Rattle.changes.specs.Changes.{done_of}
use Rattle.changes.specs.declared.Change.{Change}
use Rattle.changes.specs.declared.Edit.{Edit}
use Rattle.kept.specs.Lists.{no_change, kept_at}
use Rattle.history.specs.Runs.{standing_from}

module _ (ks : List Change) where
  pub standing_length : (k : ℕ) → length (standing_from ks k) ≡ k
  standing_length zero = refl
  standing_length (suc k) = ap suc (standing_length k)

  -- the change x is stored at place j, over whatever was there
  module _ (j : ℕ) (x : Change) where
    kept_new : j < length ks → kept_at (set ks j x) j ≡ x
    kept_new h = get_or-set_same ks j x no_change h

    kept_below : (i : ℕ) → i < j → kept_at (set ks j x) i ≡ kept_at ks i
    kept_below i h = get_or-set_other ks j i x no_change (λ e. omega arith)

    abbrev join : Change → List Edit → List Edit
    join c es = done_of c ∷ es

    pub standing_below : (k : ℕ) → k ≤ j → standing_from (set ks j x) k ≡ standing_from ks k
    standing_below zero h = refl
    standing_below (suc k) h = ap₂ join (kept_below k (omega arith)) (standing_below k (omega arith))

    module _ (l : j < length ks) where
      pub standing_new : standing_from (set ks j x) (suc j) ≡ done_of x ∷ standing_from ks j
      standing_new = ap₂ join (kept_new l) (standing_below j (omega arith))

      -- what holds of each change kept below j, and of x, holds of all of them
      pub all_new : (P : ℕ → Change → Type 0) → ((i : ℕ) → i < j → P i (kept_at ks i)) → P j x
          → (i : ℕ) → i < j + 1 → P i (kept_at (set ks j x) i)
      all_new P old new i h =
          ⊎_elim
          (λ (g : j ≤ i). let e : j ≡ i = omega arith in subst (λ (k : ℕ). P k (kept_at (set ks j x) k)) e (rw kept_new new))
          (λ (g : i < j). rw kept_below (old i g))
          (le_or_lt j i)
