-- Numbers with a space before each: those read at a place are those that stand there, and those that stand there are read. Assumes nothing.
use mathlib.Core.Path.{◌≡◌, refl, sym, ap, ◌∙◌, subst}
use mathlib.Core.Bool.{true}
use mathlib.Core.List.{List, [], ◌∷◌, ◌++◌, append_assoc}
use Prim.Native.Nat.{ℕ, suc, ◌+◌, ◌≤◌, ◌<◌}
use native.Mathlib.Omega.{arith}
use borrow.Author.Tests.{lt-ltb, lt-leb}
use lib.ListN.{length, drop}
use lib.Seq.{drop-drop, drop-append_seam}
use Rattle.terms.specs.declared.limits.Limits.{Limits}
use Rattle.printing.specs.Printing.{decimal, fields}
use Rattle.std.specs.Prelude.{Option, Some, None}
use Rattle.lines.specs.Lines.{limits_numbers, Short}
use Rattle.lines.specs.Work.{digit_at, stands, number_at, number_after, with_both, four_after}
use Rattle.lines.proofs.Standing.{by_test, both_lem, stands_drop, stands_yes}
use Rattle.lines.proofs.Numerals.{Numbered, number_sound, number_complete, on}

-- a byte below the digits is none
pub no_digit : (b : ℕ) (ys : List ℕ) → b < 48 → digit_at (b ∷ ys) 0 ≡ None
unfolding digit_at
no_digit b ys h = simp (lt-ltb 0 (suc (length ys)) (omega arith), lt-leb 48 b h)

-- nor is there one where nothing is left
pub nothing_digit : digit_at [] 0 ≡ None
unfolding digit_at
nothing_digit = refl

module _ (xs : List ℕ) where
  -- the numbers ns stand from place i up to n
  pub record Stand (i : ℕ) (ns : List ℕ) (n : ℕ) : Type 0 where
    pub small : Short ns
    pub inside : n ≤ length xs
    pub text : drop i xs ≡ fields ns ++ drop n xs

  pub none_stand : (n : ℕ) → n ≤ length xs → Stand n [] n
  none_stand n h = record { small = tt; inside = h; text = refl }

  -- one number before others
  module _ (i v a n : ℕ) (ns : List ℕ) (small : v < 10000) (e : drop i xs ≡ 32 ∷ (decimal v ++ drop a xs)) where
    pub one_stands : Stand a ns n → Stand i (v ∷ ns) n
    one_stands p =
        record {
          small = (small, p.small);
          inside = p.inside;
          text =
              e
              ∙ ap (λ (z : List ℕ). 32 ∷ (decimal v ++ z)) p.text
              ∙ ap (λ (z : List ℕ). 32 ∷ z) (sym (append_assoc (decimal v) (fields ns) (drop n xs)));
        }

  -- what a number read behind a space is
  abbrev pub After : ℕ → Option (ℕ × ℕ) → Type 0
  After i None = Unit {0}
  After i (Some p) = (p.0 < 10000) × (p.1 ≤ length xs) × (drop i xs ≡ 32 ∷ (decimal p.0 ++ drop p.1 xs))

  behind : (i : ℕ) (r : Option (ℕ × ℕ)) → Numbered xs (i + 1) r → stands xs i 32 ≡ true → After i r
  behind i None p s = tt
  behind i (Some r) p s = (p.0, p.1.inside, stands_drop xs i 32 s ∙ ap (λ (z : List ℕ). 32 ∷ z) p.1.text)

  pub after_sound : (i : ℕ) → After i (number_after xs i)
  unfolding number_after
  after_sound i =
      by_test (After i) (stands xs i 32) _ _ (behind i (number_at xs (i + 1)) (number_sound xs (i + 1))) (λ _. tt)

  -- what four numbers read are
  abbrev pub Fours : ℕ → Option (Limits × ℕ) → Type 0
  Fours i None = Unit {0}
  Fours i (Some p) = Stand i (limits_numbers p.0) p.1

  -- goes on with what is known of a number
  pub going : {A : Type 0} (P : Option A → Type 0) (i : ℕ) (then : ℕ → ℕ → Option A) → P None
      → ((v n : ℕ) → v < 10000 → n ≤ length xs → drop i xs ≡ 32 ∷ (decimal v ++ drop n xs) → P (then v n)) → P (with_both (number_after xs i) then)
  going P i then p q = both_lem (After i) P (number_after xs i) then (after_sound i) p (λ v n h. q v n h.0 h.1 h.2)

  pub four_sound : (i : ℕ) → Fours i (four_after xs i)
  unfolding four_after
  four_sound i =
      going (Fours i) i _ tt (λ kind a h₁ l₁ e₁.
      going (Fours i) a _ tt (λ m b h₂ l₂ e₂.
      going (Fours i) b _ tt (λ g c h₃ l₃ e₃.
      going (Fours i) c _ tt (λ d n h₄ l₄ e₄.
      one_stands i kind a n _ h₁ e₁ (one_stands a m b n _ h₂ e₂ (one_stands b g c n _ h₃ e₃ (one_stands c d n n _ h₄ e₄ (none_stand n l₄))))))))

  -- a number found behind a space, with what is left behind it
  pub record Found (i v : ℕ) (rest : List ℕ) : Type 0 where
    pub place : ℕ
    pub read : number_after xs i ≡ Some (v, place)
    pub left : drop place xs ≡ rest
    pub inside : place ≤ length xs

  pub after_complete : (i v : ℕ) (ns rest : List ℕ) → v < 10000 → drop i xs ≡ fields (v ∷ ns) ++ rest → digit_at (fields ns ++ rest) 0 ≡ None → Found i v (fields ns ++ rest)
  unfolding number_after
  after_complete i v ns rest small e h =
      record { place = i + 1 + length (decimal v); read = read; left = left; inside = (subst (After i) read (after_sound i)).1 }
    where
      e₀ : drop i xs ≡ 32 ∷ (decimal v ++ (fields ns ++ rest))
      e₀ = e ∙ ap (λ (z : List ℕ). 32 ∷ z) (append_assoc (decimal v) (fields ns) rest)

      e₁ : drop (i + 1) xs ≡ decimal v ++ (fields ns ++ rest)
      e₁ = on xs i (i + 1) 32 _ e₀ refl

      read : number_after xs i ≡ Some (v, i + 1 + length (decimal v))
      read = simp (stands_yes xs i 32 32 _ e₀ refl, number_complete xs (i + 1) v (fields ns ++ rest) small e₁ h)

      left : drop (i + 1 + length (decimal v)) xs ≡ fields ns ++ rest
      left = sym (drop-drop (length (decimal v)) (i + 1) xs) ∙ ap (drop (length (decimal v))) e₁ ∙ drop-append_seam (decimal v) (fields ns ++ rest)

  -- four numbers found
  pub record FoundFour (i : ℕ) (l : Limits) (rest : List ℕ) : Type 0 where
    pub place : ℕ
    pub read : four_after xs i ≡ Some (l, place)
    pub left : drop place xs ≡ rest
    pub inside : place ≤ length xs

  pub four_complete : (i : ℕ) (l : Limits) (rest : List ℕ) → Short (limits_numbers l) → drop i xs ≡ fields (limits_numbers l) ++ rest → digit_at rest 0 ≡ None → FoundFour i l rest
  unfolding four_after
  four_complete i l rest small e h =
      let s : (v : ℕ) (ns : List ℕ) → digit_at (fields (v ∷ ns) ++ rest) 0 ≡ None = λ v ns. no_digit 32 ((decimal v ++ fields ns) ++ rest) (omega arith) in
      let f₁ = after_complete i l.kind (l.m ∷ l.g ∷ l.d ∷ []) rest small.0 e (s l.m (l.g ∷ l.d ∷ [])) in
      let f₂ = after_complete f₁.place l.m (l.g ∷ l.d ∷ []) rest small.1.0 f₁.left (s l.g (l.d ∷ [])) in
      let f₃ = after_complete f₂.place l.g (l.d ∷ []) rest small.1.1.0 f₂.left (s l.d []) in
      let f₄ = after_complete f₃.place l.d [] rest small.1.1.1.0 f₃.left h in
      record { place = f₄.place; read = simp (f₁.read, f₂.read, f₃.read, f₄.read); left = f₄.left; inside = f₄.inside }
