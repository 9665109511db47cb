-- A string with its letter map and alphabet, and the refusals of an opening.
use Rattle.std.specs.Prelude.{Bool, ◌||◌, List, ◌∷◌, ◌++◌, ℕ, ltb, length}
use Rattle.terms.specs.Sizes.{most_letters}
use Rattle.terms.specs.Maps.{map_faults}
use Rattle.terms.specs.Alphabets.{all_bytes, alphabet_faults}
use Rattle.terms.specs.Limits.{limits_faults}
use Rattle.terms.specs.declared.limits.Limits.{Limits}

-- The letters of a string, and the map and alphabet that go with them.
pub record Text : Type 0 where
  pub letters : List ℕ
  pub map : List ℕ
  pub alphabet : List ℕ

abbrev pub text : List ℕ → List ℕ → List ℕ → Text
text s f z = record { letters = s; map = f; alphabet = z }

-- With all 256 bytes for alphabet: what an old opening means.
abbrev pub text_all : List ℕ → List ℕ → Text
text_all s f = text s f all_bytes

-- The number of letters, n.
abbrev pub size : Text → ℕ
size x = length x.letters

-- More than 1,000 letters.
abbrev pub too_long : List ℕ → Bool
too_long s = ltb most_letters (length s)

-- Refusals 1, 2 and 3 of a string and its map.
unfoldable pub string_faults : List ℕ → List ℕ → List (ℕ × Bool)
string_faults s f = (1, too_long s) ∷ map_faults f

-- Of a string with its map and alphabet: 1, 2, 3, 18, 19.
unfoldable pub text_faults : Text → List (ℕ × Bool)
text_faults x = string_faults x.letters x.map ++ alphabet_faults x.letters x.map x.alphabet

-- 1, 2 and 3 of two strings with one map, either string too long counting as 1.
unfoldable pub pair_faults : List ℕ → List ℕ → List ℕ → List (ℕ × Bool)
pair_faults s t f = (1, too_long s || too_long t) ∷ map_faults f

-- Opening: 1, 2, 3, 18, 19, 4, 5.
unfoldable pub opening_faults : Text → Limits → List (ℕ × Bool)
opening_faults x l = text_faults x ++ limits_faults l
