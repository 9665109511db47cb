-- An edit that has its place among at most 1,000 letters reads inside the places. Assumes nothing.
use mathlib.Core.Path.{◌≡◌, refl}
use mathlib.Core.Bool.{true}
use Prim.Native.Nat.{ℕ, ◌≤◌, ◌<◌}
use native.Mathlib.Omega.{arith}
use borrow.Author.Tests.{ltb-true, lt-ltb}
use Rattle.changes.specs.Work.{fits}
use Rattle.changes.specs.declared.Edit.{Edit}
use Rattle.changes.specs.declared.Edit.TheVariants.{Letter, Kind, Lengths, PutIn, TakeOut}
use Rattle.changes.proofs.Accepting.{fits_letter, fits_out}
use Rattle.shifts.specs.Work.{in_places}

pub fits_places : (n : ℕ) (e : Edit) → n ≤ 1000 → fits n e ≡ true → in_places e ≡ true
unfolding in_places
fits_places n (Letter p b) h f = let k = fits_letter n p b f in lt-ltb p 1000 (omega arith)
fits_places n (Kind k d) h f = refl
fits_places n (Lengths m g) h f = refl
fits_places n (PutIn p b) h f = refl
fits_places n (TakeOut p) h f = let k = fits_out n p f in lt-ltb p 1000 (omega arith)

pub letter_inside : (p b : ℕ) → in_places (Letter p b) ≡ true → p < 1000
unfolding in_places
letter_inside p b e = ltb-true _ _ e

pub out_inside : (p : ℕ) → in_places (TakeOut p) ≡ true → p < 1000
unfolding in_places
out_inside p e = ltb-true _ _ e
