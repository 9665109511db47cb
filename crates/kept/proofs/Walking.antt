-- Going back and forth through the kept changes, each at the length it was made for. Assumes nothing.
use mathlib.Core.Path.{◌≡◌, refl}
use mathlib.Core.Bool.{true, false}
use mathlib.Core.List.{List, [], ◌∷◌}
use Prim.Native.Nat.{ℕ, ◌+◌, ◌≤◌, ◌<◌}
use borrow.Author.Tests.{le-leb, lt-leb, leb-true}
use lib.Dec.{leb}
use Rattle.terms.proofs.Below.{and_left, and_right, and_yes}
use Rattle.changes.specs.Changes.{length_by, accepts_then}
use Rattle.changes.specs.declared.Edit.{Edit}
use Rattle.kept.specs.Lists.{steps_back, steps_forth, can_go, kept_accepted}
use Rattle.changes.specs.declared.Change.{Change}

-- one step, and those behind it
module _ (n : ℕ) (z : List ℕ) (e f : Edit) (ss : List (Edit × Edit)) where
  pub go_first : can_go n z ((e, f) ∷ ss) ≡ true → accepts_then n z e f ≡ true
  unfolding can_go
  go_first h = and_left _ _ h

  pub go_rest : can_go n z ((e, f) ∷ ss) ≡ true → can_go (length_by e n) z ss ≡ true
  unfolding can_go
  go_rest h = and_right (accepts_then n z e f) _ h

  pub go_both : accepts_then n z e f ≡ true → can_go (length_by e n) z ss ≡ true → can_go n z ((e, f) ∷ ss) ≡ true
  unfolding can_go
  go_both p q = and_yes _ _ p q

pub go_none : (n : ℕ) (z : List ℕ) → can_go n z [] ≡ true
unfolding can_go
go_none n z = refl

-- both lists together
module _ (n : ℕ) (z : List ℕ) (ks : List Change) (st tk : ℕ) where
  pub kept_many : 64 < st + tk → kept_accepted n z ks st tk ≡ false
  unfolding kept_accepted
  kept_many h = simp (lt-leb _ _ h)

  pub kept_is : st + tk ≤ 64 → can_go n z (steps_back ks st) ≡ true → kept_accepted n z ks st tk ≡ can_go n z (steps_forth ks st tk)
  unfolding kept_accepted
  kept_is h e = simp (le-leb _ _ h, e)

  pub kept_few : kept_accepted n z ks st tk ≡ true → st + tk ≤ 64
  unfolding kept_accepted
  kept_few h = leb-true _ _ (and_left _ _ h)

  pub kept_back_way : kept_accepted n z ks st tk ≡ true → can_go n z (steps_back ks st) ≡ true
  unfolding kept_accepted
  kept_back_way h = and_left _ _ (and_right (leb (st + tk) 64) _ h)

  pub kept_forth_way : kept_accepted n z ks st tk ≡ true → can_go n z (steps_forth ks st tk) ≡ true
  unfolding kept_accepted
  kept_forth_way h = and_right (can_go n z (steps_back ks st)) _ (and_right (leb (st + tk) 64) _ h)
