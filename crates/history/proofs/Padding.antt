-- A sheet that holds a content: its letters with zeros behind them. Assumes nothing.
use mathlib.Core.Path.{◌≡◌, sym, ap, ap₂, ◌∙◌}
use mathlib.Core.List.{List, ◌∷◌, ◌++◌}
use Prim.Native.Nat.{ℕ, suc, ◌+◌, ◌-◌, ◌≤◌, ◌<◌}
use native.Mathlib.Numerals.{add-one}
use native.Mathlib.Omega.{arith}
use lib.ListN.{get_or, set, length, take, drop, replicate, length-set, length-append, length-drop, get_or-append}
use lib.Seq.{set-append_left, length-take-le, take-append_seam, drop-append_seam, drop-append-add}
use Rattle.terms.specs.Texts.{size}
use Rattle.shifts.specs.Shifts.{put_in, take_out, places_put_in, places_take_out}
use Rattle.places.specs.Places.{padded, padded_to}
use Rattle.sheet.specs.declared.Sheet.{Sheet}
use Rattle.history.specs.History.{Content}
use Rattle.history.specs.Runs.{content_of}

module _ (x : List ℕ) where
  pub padded_take : take (length x) (padded x) ≡ x
  unfolding padded_to
  padded_take = take-append_seam x (replicate (1000 - length x) 0)

  module _ (p : ℕ) (h : p < length x) where
    pub padded_set : (b : ℕ) → set (padded x) p b ≡ padded (set x p b)
    unfolding padded_to
    padded_set b =
        set-append_left x (replicate (1000 - length x) 0) p b h
        ∙ ap (λ (k : ℕ). set x p b ++ replicate (1000 - k) 0) (sym (length-set x p b))

    padded_at : get_or (padded x) p 0 ≡ get_or x p 0
    unfolding padded_to
    padded_at = get_or-append x (replicate (1000 - length x) 0) 0 p h

  -- a letter put in and one taken out
  pub length_in : (p b : ℕ) → p ≤ length x → length (put_in x p b) ≡ length x + 1
  length_in p b h =
      let a : length (take p x) ≡ p = length-take-le p x h in
      let d : length (drop p x) ≡ length x - p = length-drop p x in
      length-append (take p x) (b ∷ drop p x) ∙ omega arith

  pub length_out : (p : ℕ) → p < length x → length (take_out x p) ≡ length x - 1
  length_out p h =
      let a : length (take p x) ≡ p = length-take-le p x (omega arith) in
      let d : length (drop (suc p) x) ≡ length x - suc p = length-drop (suc p) x in
      length-append (take p x) (drop (suc p) x) ∙ omega arith

  padded_next : length x < 1000 → drop (suc (length x)) (padded x) ≡ replicate (1000 - (length x + 1)) 0
  unfolding padded_to
  padded_next k =
      let m : 1000 - length x ≡ suc (1000 - (length x + 1)) = omega arith in
      ap (λ (j : ℕ). drop (suc (length x)) (x ++ replicate j 0)) m
      ∙ sym (ap (λ (j : ℕ). drop j (x ++ 0 ∷ replicate (1000 - (length x + 1)) 0)) (add-one (length x)))
      ∙ drop-append-add x (0 ∷ replicate (1000 - (length x + 1)) 0) 1

  padded_rest : drop (length x) (padded x) ≡ replicate (1000 - length x) 0
  unfolding padded_to
  padded_rest = drop-append_seam x (replicate (1000 - length x) 0)

  pub padded_in : (p b : ℕ) → p ≤ length x → length x < 1000 → places_put_in (padded x) (length x) p b ≡ padded (put_in x p b)
  unfolding places_put_in padded_to
  padded_in p b h k =
      ap₂ (λ (y z : List ℕ). put_in y p b ++ z) padded_take (padded_next k)
      ∙ ap (λ (j : ℕ). put_in x p b ++ replicate (1000 - j) 0) (sym (length_in p b h))

  pub padded_out : (p : ℕ) → p < length x → length x ≤ 1000 → places_take_out (padded x) (length x) p ≡ padded (take_out x p)
  unfolding places_take_out padded_to
  padded_out p h k =
      let m : suc (1000 - length x) ≡ 1000 - (length x - 1) = omega arith in
      ap₂ (λ (y z : List ℕ). take_out y p ++ 0 ∷ z) padded_take padded_rest
      ∙ ap (λ (j : ℕ). take_out x p ++ replicate j 0) m
      ∙ ap (λ (j : ℕ). take_out x p ++ replicate (1000 - j) 0) (sym (length_out p h))

pub record Holds (s : Sheet) (c : Content) : Type 0 where
  pub letters : s.letters ≡ padded c.text.letters
  pub n : s.n ≡ size c.text
  pub map : s.map ≡ c.text.map
  pub alphabet : s.alphabet ≡ c.text.alphabet
  pub limits : s.limits ≡ c.limits

module _ {s : Sheet} {c : Content} (H : Holds s c) where
  pub letters_are : take s.n s.letters ≡ c.text.letters
  letters_are = ap₂ take H.n H.letters ∙ padded_take c.text.letters

  pub content_is : content_of s ≡ c
  content_is =
      let x : take s.n s.letters ≡ c.text.letters = letters_are in
      let f : s.map ≡ c.text.map = H.map in
      let z : s.alphabet ≡ c.text.alphabet = H.alphabet in
      let l : s.limits ≡ c.limits = H.limits in
      rw (x, f, z, l)

  pub letter_at : (p : ℕ) → p < s.n → get_or s.letters p 0 ≡ get_or c.text.letters p 0
  letter_at p h =
      let n : s.n ≡ size c.text = H.n in
      ap (λ (x : List ℕ). get_or x p 0) H.letters ∙ padded_at c.text.letters p (omega arith)

  -- two sheets that hold the same, with the same changes kept, are one
  pub holds_same : {t : Sheet} → Holds t c → s.kept ≡ t.kept → s.standing ≡ t.standing → s.taken ≡ t.taken → s ≡ t
  holds_same {t} K ks st tk =
      let x : s.letters ≡ t.letters = H.letters ∙ sym K.letters in
      let n : s.n ≡ t.n = H.n ∙ sym K.n in
      let f : s.map ≡ t.map = H.map ∙ sym K.map in
      let z : s.alphabet ≡ t.alphabet = H.alphabet ∙ sym K.alphabet in
      let l : s.limits ≡ t.limits = H.limits ∙ sym K.limits in
      λ i. record { letters = x i; n = n i; map = f i; alphabet = z i; limits = l i; kept = ks i; standing = st i; taken = tk i }
