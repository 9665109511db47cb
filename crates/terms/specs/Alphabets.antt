-- Alphabets (02, L2): 256 flags, bytes that name the letters a string may have (0 out, else in).
use Rattle.std.specs.Prelude.{Bool, false, not, ◌&&◌, ◌||◌, List, [], ◌∷◌, ℕ, zero, suc, eqb, length, get_or, replicate}
use Rattle.terms.specs.Maps.{partner, every_below}

-- The byte b is a letter of the alphabet.
abbrev pub is_in : List ℕ → ℕ → Bool
is_in z b = not (eqb (get_or z b 0) 0)

-- All 256 bytes: what an old opening and the blank sheet mean.
unfoldable pub all_bytes : List ℕ
all_bytes = replicate 256 1

-- p passes at some number below k.
unfoldable pub some_below : ℕ → (ℕ → Bool) → Bool
some_below zero p = false
some_below (suc k) p = p k || some_below k p

-- The map has an own-partner letter within the alphabet.
unfoldable pub own_partner : List ℕ → List ℕ → Bool
own_partner f z = some_below 256 (λ b. is_in z b && eqb (partner f b) b)

-- Closed under the map: every letter's partner is a letter.
unfoldable pub closed_under : List ℕ → List ℕ → Bool
closed_under f z = every_below 256 (λ b. not (is_in z b) || is_in z (partner f b))

-- Every letter of the string is of the alphabet.
unfoldable pub spelt : List ℕ → List ℕ → Bool
spelt s z = every_below (length s) (λ k. is_in z (get_or s k 0))

-- Refusals 18 and 19: flags not 256 or not closed under the map; a letter outside the alphabet.
unfoldable pub alphabet_faults : List ℕ → List ℕ → List ℕ → List (ℕ × Bool)
alphabet_faults s f z = (18, not (eqb (length z) 256 && closed_under f z)) ∷ (19, not (spelt s z)) ∷ []
