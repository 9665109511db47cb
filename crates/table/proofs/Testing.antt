-- What the test of a span tells, for each kind. Assumes nothing.
use mathlib.Core.Path.{◌≡◌, sym}
use mathlib.Core.Logic.{◌⊎◌, inl, inr, ⊎_elim}
use Prim.Native.Nat.{ℕ, ◌+◌, ◌-◌, ◌≤◌}
use native.Mathlib.Omega.{arith}
use lib.Dec.{leb, eqb}
use lib.ListN.{get_or}
use Rattle.terms.specs.Tells.{Tells}
use Rattle.terms.proofs.Told.{tells_iff, tells_leb, tells_eqb}
use Rattle.ways.specs.declared.Spans.{Spans}
use Rattle.ways.specs.Spans.{PieceOf}

module _ (s : Spans) (a L : ℕ) (some : 1 ≤ L) (inside : a + L ≤ s.n) (long : s.m ≤ L) where
  by : ((s.kind ≡ 1) × (L ≤ get_or s.lens.now (a + a + L - 1) 0)) ⊎ ((s.kind ≡ 2) × (get_or s.lens.now (a + a + L - 1) 0 ≡ L)) → PieceOf s a L
  by is = record { some = some; inside = inside; long = long; is = is }

  pub by_one : s.kind ≡ 1 → Tells (leb L (get_or s.lens.now (a + a + L - 1) 0)) (PieceOf s a L)
  by_one e =
      tells_iff _ _ _ (tells_leb L (get_or s.lens.now (a + a + L - 1) 0)) (λ h. by (inl (e, h))) (λ p. ⊎_elim (λ w. w.1) (λ w. omega (arith, w.0)) p.is)

  pub by_two : s.kind ≡ 2 → Tells (eqb L (get_or s.lens.now (a + a + L - 1) 0)) (PieceOf s a L)
  by_two e =
      tells_iff _ _ _ (tells_eqb L (get_or s.lens.now (a + a + L - 1) 0)) (λ h. by (inr (e, sym h))) (λ p. ⊎_elim (λ w. omega (arith, w.0)) (λ w. sym w.1) p.is)
