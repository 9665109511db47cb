-- The examples marked (p), in order (01, "Read-back sheet of examples").
use Rattle.std.specs.Prelude.{◌≡◌, List, [], ◌∷◌, ℕ, ◌+◌, replicate}
use Rattle.terms.specs.Refusals.{first_fault}
use Rattle.terms.specs.Limits.{limits_faults}
use Rattle.terms.specs.declared.limits.Limits.{Limits}
use Rattle.readback.specs.Shown.{Map, text_of, TilingShown, Sample, tiling, no_tiling, all_centres, plain, complement, strand, P, G}

abbrev pub limits : ℕ → ℕ → ℕ → ℕ → Limits
limits k m g d = record { kind = k; m = m; g = g; d = d }

-- The strings, letter by letter.
abbrev pub Ac : List ℕ
Ac = 65 ∷ 67 ∷ []

abbrev pub abaca : List ℕ
abaca = 97 ∷ 98 ∷ 97 ∷ 99 ∷ 97 ∷ []

abbrev pub GTATCG : List ℕ
GTATCG = 71 ∷ 84 ∷ 65 ∷ 84 ∷ 67 ∷ 71 ∷ []

abbrev pub TAGTCGACTA : List ℕ
TAGTCGACTA = 84 ∷ 65 ∷ 71 ∷ 84 ∷ 67 ∷ 71 ∷ 65 ∷ 67 ∷ 84 ∷ 65 ∷ []

abbrev pub ACT : List ℕ
ACT = 65 ∷ 67 ∷ 84 ∷ []

-- Limits are kind, m, g, d; a tiling shows its gap total, its number of gaps, its parts, and a table where one is printed.
abbrev pub samples : List Sample
samples =
    tiling plain [] (limits 1 1 0 0) 0 0 [] (0 ∷ [])
    ∷ no_tiling plain Ac (limits 1 2 0 0)
    ∷ tiling plain Ac (limits 1 2 1 0) 2 1 (G 0 2 0 ∷ []) (65535 ∷ 2 ∷ 65535 ∷ 1 ∷ 0 ∷ 0 ∷ [])
    ∷ no_tiling plain abaca (limits 2 1 0 0)
    ∷ tiling plain abaca (limits 2 1 1 0) 1 1 (P 0 3 0 ∷ G 3 1 0 ∷ P 4 1 0 ∷ []) []
    ∷ tiling plain abaca (limits 1 1 0 0) 0 0 (P 0 3 0 ∷ P 3 1 0 ∷ P 4 1 0 ∷ []) []
    ∷ all_centres plain GTATCG 0 (1 ∷ 0 ∷ 1 ∷ 0 ∷ 3 ∷ 0 ∷ 1 ∷ 0 ∷ 1 ∷ 0 ∷ 1 ∷ [])
    ∷ all_centres plain GTATCG 1 (1 ∷ 2 ∷ 3 ∷ 2 ∷ 5 ∷ 2 ∷ 3 ∷ 2 ∷ 3 ∷ 2 ∷ 1 ∷ [])
    ∷ tiling plain GTATCG (limits 2 2 0 1) 0 0 (P 0 3 1 ∷ P 3 3 1 ∷ []) []
    ∷ tiling plain GTATCG (limits 2 1 0 1) 0 0 (P 0 5 1 ∷ P 5 1 0 ∷ []) []
    ∷ tiling complement TAGTCGACTA (limits 1 10 0 0) 0 0 (P 0 10 0 ∷ []) []
    ∷ tiling complement ACT (limits 2 3 0 1) 0 0 (P 0 3 1 ∷ []) []
    ∷ no_tiling strand ACT (limits 2 3 0 1)
    ∷ []

-- The first of them for every map and all limits: no letters, total 0, no parts, table g + 1 zeros.
abbrev pub EmptyShown : Type 0
EmptyShown =
    (f : Map) (l : Limits) → first_fault (limits_faults l) ≡ 0 → TilingShown (text_of f []) l 0 0 [] (replicate (l.g + 1) 0)
