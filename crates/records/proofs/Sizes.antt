-- Records are of one size, and the same with every alphabet. Assumes nothing.
use mathlib.Core.Path.{◌≡◌, refl, ap}
use mathlib.Core.List.{List, [], ◌∷◌, ◌++◌}
use Prim.Native.Nat.{ℕ, ◌+◌, ◌*◌}
use native.Mathlib.Omega.{arith}
use lib.ListN.{length}
use Rattle.terms.specs.Texts.{Text, text}
use Rattle.tilings.specs.Tilings.{Part, piece, gap}
use Rattle.tilings.specs.Laws.{length_of}
use Rattle.records.specs.Records.{record_size, record_of, records_from}

pub records_length : (x : Text) (i : ℕ) (ps : List Part) → length (records_from x i ps) ≡ record_size * length ps
records_length x i [] = refl
records_length x i (p ∷ ps) =
    let h : length (records_from x (i + length_of p) ps) ≡ record_size * length ps = records_length x (i + length_of p) ps in omega arith

-- so `put_parts` promises the same with whatever alphabet it is lent
pub records_same : (s f y z : List ℕ) (i : ℕ) (ps : List Part) → records_from (text s f y) i ps ≡ records_from (text s f z) i ps
records_same s f y z i [] = refl
records_same s f y z i (piece L ∷ ps) = ap (λ (b : List ℕ). record_of (text s f z) i (piece L) ++ b) (records_same s f y z (i + L) ps)
records_same s f y z i (gap L ∷ ps) = ap (λ (b : List ℕ). record_of (text s f z) i (gap L) ++ b) (records_same s f y z (i + L) ps)
