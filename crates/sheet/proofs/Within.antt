-- What the bounds of a sheet ask, one by one. Assumes nothing.
use mathlib.Core.Path.{◌≡◌}
use mathlib.Core.Bool.{true}
use Prim.Native.Nat.{ℕ, ◌+◌, ◌≤◌}
use borrow.Author.Tests.{le-leb, leb-true, eq-eqb, eqb-true}
use lib.Dec.{leb, eqb}
use Rattle.terms.specs.Refusals.{first_fault}
use Rattle.terms.specs.Texts.{opening_faults}
use Rattle.terms.proofs.Below.{and_left, and_right}
use Rattle.kept.specs.Lists.{kept_accepted}
use Rattle.kept.proofs.Walking.{kept_few}
use Rattle.sheet.specs.Bounds.{text_of, in_bounds}
use Rattle.sheet.specs.declared.Sheet.{Sheet}

-- The first refusal of an opening with what the sheet holds.
abbrev pub opening : Sheet → ℕ
opening s = first_fault (opening_faults (text_of s) s.limits)

-- Where the tests before it pass, the bounds come down to the kept changes.
pub within : (s : Sheet) → s.n ≤ 1000 → opening s ≡ 0 → in_bounds s ≡ kept_accepted s.n s.alphabet s.kept s.standing s.taken
unfolding in_bounds
within s n o = simp (le-leb _ _ n, eq-eqb _ _ o)

-- What a sheet in its bounds has.
pub record Within (s : Sheet) : Type 0 where
  pub letters : s.n ≤ 1000
  pub opens : opening s ≡ 0
  pub few : s.standing + s.taken ≤ 64
  pub kept : kept_accepted s.n s.alphabet s.kept s.standing s.taken ≡ true

pub bounds : (s : Sheet) → in_bounds s ≡ true → Within s
unfolding in_bounds
bounds s w =
    let a = and_right (leb s.n 1000) _ w in
    let b = and_right (eqb (opening s) 0) _ a in
    record {
      letters = leb-true _ _ (and_left _ _ w);
      opens = eqb-true _ _ (and_left _ _ a);
      few = kept_few s.n s.alphabet s.kept s.standing s.taken b;
      kept = b;
    }

-- Of these what sums and places ask.
pub few_letters : (s : Sheet) → in_bounds s ≡ true → s.n ≤ 1000
few_letters s w = (bounds s w).letters

pub few_changes : (s : Sheet) → in_bounds s ≡ true → s.standing + s.taken ≤ 64
few_changes s w = (bounds s w).few
