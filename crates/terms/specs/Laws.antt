-- What whoever signs for the maps supplied may count on (02, L4); proved in proofs/.
use Rattle.std.specs.Prelude.{◌≡◌, List, [], ◌∷◌, ℕ, ◌<◌, length}
use Rattle.terms.specs.Refusals.{first_fault, OneOf}
use Rattle.terms.specs.Maps.{partner, map_faults, plain_map, complement_map}

-- Plain: 256 bytes, each its own partner.
pub record PlainRule (f : List ℕ) : Type 0 where
  pub bytes : length f ≡ 256
  pub own : (x : ℕ) → x < 256 → partner f x ≡ x

-- Complement: 256 bytes, of which four letters, A (65) with T (84) and C (67) with G (71), and the rest themselves.
pub record ComplementRule (f : List ℕ) : Type 0 where
  pub bytes : length f ≡ 256
  pub A : partner f 65 ≡ 84
  pub T : partner f 84 ≡ 65
  pub C : partner f 67 ≡ 71
  pub G : partner f 71 ≡ 67
  pub rest : (x : ℕ) → x < 256 → (OneOf x (65 ∷ 84 ∷ 67 ∷ 71 ∷ []) → ⊥) → partner f x ≡ x

pub record SuppliedLaws : Type 0 where
  -- the maps supplied are by their rules, at every byte
  pub plain : PlainRule plain_map
  pub complement : ComplementRule complement_map
  -- and no other map is
  pub only_plain : (f : List ℕ) → PlainRule f → f ≡ plain_map
  pub only_complement : (f : List ℕ) → ComplementRule f → f ≡ complement_map
  -- both are maps: they meet neither refusal 2 nor 3
  pub maps : (first_fault (map_faults plain_map) ≡ 0) × (first_fault (map_faults complement_map) ≡ 0)
