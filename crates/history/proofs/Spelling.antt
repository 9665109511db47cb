-- Strings whose letters are all of an alphabet stay so when a letter of it is written or put in, and when one is taken out. Assumes nothing.
use mathlib.Core.Path.{◌≡◌, sym, ap, ◌∙◌}
use mathlib.Core.Bool.{true, not, ◌&&◌}
use mathlib.Core.List.{List, [], ◌∷◌, ◌++◌}
use mathlib.Core.Logic.{⊎_elim}
use Prim.Native.Nat.{ℕ, zero, suc, ◌+◌, ◌-◌, ◌≤◌, ◌<◌}
use native.Mathlib.Decide.{ℕ_discrete}
use native.Mathlib.Omega.{arith}
use lib.Dec.{eqb}
use lib.ListN.{get_or, set, length, take, drop, length-set, length-append, length-drop, get_or-append}
use lib.Seq.{get_or-set_same, get_or-set_other, length-take-le, get_or-append-add, get_or-take, get_or-drop}
use Rattle.terms.specs.Refusals.{first_fault}
use Rattle.terms.specs.Alphabets.{is_in, closed_under, spelt, alphabet_faults}
use Rattle.terms.proofs.Below.{below_each}
use Rattle.terms.proofs.Order.{le_or_lt}
use Rattle.terms.proofs.Passed.{passed, sound_alphabet}
use Rattle.shifts.specs.Shifts.{put_in, take_out}

-- every letter of x is of the alphabet z
abbrev pub Spells : List ℕ → List ℕ → Type 0
Spells z x = (k : ℕ) → k < length x → is_in z (get_or x k 0) ≡ true

module _ (z : List ℕ) where
  spells_append : (x y : List ℕ) → Spells z x → Spells z y → Spells z (x ++ y)
  spells_append x y f g k h =
      let l : length (x ++ y) ≡ length x + length y = length-append x y in
      ⊎_elim
      (λ (w : length x ≤ k).
      let q : length x + (k - length x) ≡ k = omega arith in
      ap (is_in z) (sym (ap (λ (j : ℕ). get_or (x ++ y) j 0) q) ∙ get_or-append-add x y (k - length x) 0) ∙ g (k - length x) (omega arith))
      (λ (w : k < length x). ap (is_in z) (get_or-append x y 0 k w) ∙ f k w)
      (le_or_lt (length x) k)

  spells_cons : (b : ℕ) (x : List ℕ) → is_in z b ≡ true → Spells z x → Spells z (b ∷ x)
  spells_cons b x i f zero h = i
  spells_cons b x i f (suc k) h = f k (omega arith)

  spells_take : (p : ℕ) (x : List ℕ) → p ≤ length x → Spells z x → Spells z (take p x)
  spells_take p x l f k h =
      let q : length (take p x) ≡ p = length-take-le p x l in
      ap (is_in z) (get_or-take p x k 0 (omega arith)) ∙ f k (omega arith)

  spells_drop : (p : ℕ) (x : List ℕ) → Spells z x → Spells z (drop p x)
  spells_drop p x f k h =
      let q : length (drop p x) ≡ length x - p = length-drop p x in
      ap (is_in z) (get_or-drop p x k 0) ∙ f (p + k) (omega arith)

  module _ (x : List ℕ) (p : ℕ) where
    pub spells_set : (b : ℕ) → is_in z b ≡ true → Spells z x → Spells z (set x p b)
    spells_set b i f k h =
        let q : length (set x p b) ≡ length x = length-set x p b in
        elim (ℕ_discrete k p) [
          | yes e ↦ ap (is_in z) (ap (λ (j : ℕ). get_or (set x p b) j 0) e ∙ get_or-set_same x p b 0 (omega arith)) ∙ i
          | no n ↦ ap (is_in z) (get_or-set_other x p k b 0 n) ∙ f k (omega arith)
        ]

    pub spells_in : (b : ℕ) → p ≤ length x → is_in z b ≡ true → Spells z x → Spells z (put_in x p b)
    spells_in b h i f = spells_append (take p x) (b ∷ drop p x) (spells_take p x h f) (spells_cons b (drop p x) i (spells_drop p x f))

    pub spells_out : p < length x → Spells z x → Spells z (take_out x p)
    spells_out h f = spells_append (take p x) (drop (suc p) x) (spells_take p x (omega arith) f) (spells_drop (suc p) x f)

-- an alphabet that meets no refusal with x meets none with y, where y is spelt if x is
pub flagged_by : (x y f z : List ℕ) → (Spells z x → Spells z y) → first_fault (alphabet_faults x f z) ≡ 0 → first_fault (alphabet_faults y f z) ≡ 0
unfolding alphabet_faults first_fault spelt
flagged_by x y f z i e =
    let a = passed 18 (not (eqb (length z) 256 && closed_under f z)) ((19, not (spelt x z)) ∷ []) (omega arith) e in
    simp (a.0, below_each (λ k. is_in z (get_or y k 0)) (length y) (i (sound_alphabet x f z e).1))
