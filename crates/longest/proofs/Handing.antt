-- What a search that is not refused may count on. Assumes nothing.
use mathlib.Core.Path.{◌≡◌, sym, ◌∙◌}
use mathlib.Core.List.{List}
use Prim.Native.Nat.{ℕ}
use native.Mathlib.Omega.{arith}
use Rattle.terms.specs.Refusals.{first_fault}
use Rattle.terms.specs.Maps.{map_faults}
use Rattle.terms.specs.Texts.{too_long, string_faults, pair_faults}
use Rattle.terms.specs.Passed.{SoundString}
use Rattle.terms.proofs.Below.{or_left, or_right}
use Rattle.terms.proofs.Passed.{passed, sound_string}

-- Where two strings and a map meet no refusal, neither string with the map does.
pub sound_pair : (s t f : List ℕ) (k : ℕ) → k ≡ first_fault (pair_faults s t f) → k ≡ 0 → SoundString s f × SoundString t f
unfolding pair_faults string_faults first_fault
sound_pair s t f k e z =
    let a = passed 1 _ (map_faults f) (omega arith) (sym e ∙ z) in
    (sound_string s f (simp (or_left (too_long s) (too_long t) a.0) a.1), sound_string t f (simp (or_right (too_long s) (too_long t) a.0) a.1))
