-- What the refusals let through: for the contracts of helpers. No promise to a caller rests on reading it.
use Rattle.std.specs.Prelude.{◌≡◌, true, List, ◌⊎◌, ℕ, ◌≤◌, ◌<◌, length, get_or}
use Rattle.terms.specs.Sizes.{most_letters, most_gaps, most_errors}
use Rattle.terms.specs.Maps.{partner}
use Rattle.terms.specs.Alphabets.{is_in}
use Rattle.terms.specs.Texts.{Text, text, size}
use Rattle.terms.specs.declared.limits.Limits.{Limits}

-- A string and a map that meet none of refusals 1, 2 and 3.
pub record SoundString (s f : List ℕ) : Type 0 where
  pub short : length s ≤ most_letters
  pub wide : length f ≡ 256
  pub back : (b : ℕ) → b < 256 → partner f (partner f b) ≡ b

-- With an alphabet that meets neither 18 nor 19.
pub record SoundText (x : Text) : Type 0 where
  pub short : size x ≤ most_letters
  pub wide : length x.map ≡ 256
  pub back : (b : ℕ) → b < 256 → partner x.map (partner x.map b) ≡ b
  pub flagged : length x.alphabet ≡ 256
  pub spelt : (k : ℕ) → k < size x → is_in x.alphabet (get_or x.letters k 0) ≡ true

-- Of every sound text with these letters and this map: what A says of it gives B. So a function speaks of alphabets that it is not lent.
abbrev pub EverySound : List ℕ → List ℕ → (Text → Type 0) → (Text → Type 0) → Type 0
EverySound s f A B = (z : List ℕ) → SoundText (text s f z) → A (text s f z) → B (text s f z)

-- Limits that meet neither 4 nor 5.
pub record SoundLimits (l : Limits) : Type 0 where
  pub kind : (l.kind ≡ 1) ⊎ (l.kind ≡ 2)
  pub some : 1 ≤ l.m
  pub short : l.m ≤ most_letters
  pub few : l.g ≤ most_gaps
  pub near : l.d ≤ most_errors
  pub exact : l.kind ≡ 1 → l.d ≡ 0
