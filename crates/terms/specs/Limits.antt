-- Kind, shortest length m, gap limit g and error limit d, and refusals 4 and 5: of kind and d, of m and g, and of all four.
use Rattle.std.specs.Prelude.{Bool, not, ◌&&◌, ◌||◌, List, [], ◌∷◌, ℕ, eqb, ltb}
use Rattle.terms.specs.Sizes.{most_letters, most_gaps, most_errors}
use Rattle.terms.specs.declared.limits.Limits.{Limits}

-- Kind not 1 or 2.
unfoldable pub wrong_kind : ℕ → Bool
wrong_kind kind = not (eqb kind 1 || eqb kind 2)

-- An error limit above 15: the part of refusal 5 that concerns d.
unfoldable pub too_many_errors : ℕ → Bool
too_many_errors d = ltb most_errors d

-- Refusal 5 of kind and d: d above 15, or kind 1 with d not 0.
unfoldable pub kind_out_of_range : ℕ → ℕ → Bool
kind_out_of_range kind d = too_many_errors d || (eqb kind 1 && not (eqb d 0))

-- Refusal 5 of m and g: m is 0 or above 1,000, or g above 15.
unfoldable pub lengths_out_of_range : ℕ → ℕ → Bool
lengths_out_of_range m g = eqb m 0 || (ltb most_letters m || ltb most_gaps g)

-- Refusal 5 of all four: either part is out of range.
unfoldable pub out_of_range : Limits → Bool
out_of_range l = lengths_out_of_range l.m l.g || kind_out_of_range l.kind l.d

-- Refusals 4 and 5, in testing order: of kind and d; of m and g; of all four.
unfoldable pub kind_faults : ℕ → ℕ → List (ℕ × Bool)
kind_faults kind d = (4, wrong_kind kind) ∷ (5, kind_out_of_range kind d) ∷ []

unfoldable pub lengths_faults : ℕ → ℕ → List (ℕ × Bool)
lengths_faults m g = (5, lengths_out_of_range m g) ∷ []

unfoldable pub limits_faults : Limits → List (ℕ × Bool)
limits_faults l = (4, wrong_kind l.kind) ∷ (5, out_of_range l) ∷ []

-- Limits with another kind and d, and with another m and g: what is not named is kept.
abbrev pub with_kind : Limits → ℕ → ℕ → Limits
with_kind l kind d = record { kind = kind; m = l.m; g = l.g; d = d }

abbrev pub with_lengths : Limits → ℕ → ℕ → Limits
with_lengths l m g = record { kind = l.kind; m = m; g = g; d = l.d }
