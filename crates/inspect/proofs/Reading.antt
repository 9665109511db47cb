-- What a field that was read tells of its number. Assumes nothing.
use mathlib.Core.Path.{◌≡◌, sym, subst}
use mathlib.Core.List.{List}
use Prim.Native.Nat.{ℕ, ◌≤◌}
use native.Mathlib.Omega.{arith}
use Rattle.std.specs.Prelude.{Some}
use Rattle.lines.specs.Work.{number_after}
use Rattle.lines.proofs.Numbers.{After, after_sound}

-- a number has at most 4 digits
pub four_digits : (xs : List ℕ) (i : ℕ) (p : ℕ × ℕ) → Some p ≡ number_after xs i → p.0 ≤ 9999
four_digits xs i p e = let h = subst (After xs i) (sym e) (after_sound xs i) in omega (arith, h.0)
