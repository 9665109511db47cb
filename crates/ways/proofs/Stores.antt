-- What holds of each entry of a list after a store: of the new one, and of the others as they were. Assumes nothing.
use mathlib.Core.Path.{◌≡◌}
use mathlib.Core.List.{List}
use Prim.Native.Nat.{ℕ, ◌<◌}
use native.Mathlib.Decide.{ℕ_discrete}
use lib.ListN.{length, get_or, set}
use lib.Seq.{get_or-set_same, get_or-set_other}

pub after_set : (P : ℕ → ℕ → Type 0) (l : List ℕ) (i v : ℕ) → i < length l → P i v → ((k : ℕ) → (k ≡ i → ⊥) → P k (get_or l k 0)) → (k : ℕ) → P k (get_or (set l i v) k 0)
after_set P l i v h new old k =
    elim (ℕ_discrete k i) [
      | yes e ↦ rw (e, get_or-set_same l i v 0 h) new
      | no e ↦ rw (get_or-set_other l i k v 0 e) (old k e)
    ]
