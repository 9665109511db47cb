-- Popping: one law for the two lists, with k the number where there is nothing. Assumes nothing.
use mathlib.Core.Path.{◌≡◌, refl, ap, ◌∙◌}
use mathlib.Core.Bool.{Bool, true, false}
use mathlib.Core.List.{List, [], ◌∷◌}
use Prim.Native.Nat.{ℕ, zero, suc, ◌+◌, ◌-◌, ◌≤◌, ◌<◌}
use native.Mathlib.Omega.{arith}
use borrow.Author.Tests.{eq-eqb, ne_eqb, eqb-true, eqb-false}
use lib.Dec.{eqb}
use lib.ListN.{get_or, length, take, drop, length-drop}
use lib.Seq.{length-take-le, get_or-take, get_or-drop}
use Rattle.std.specs.Prelude.{Option, Some}
use Rattle.std.specs.List.{slice_get}
use Rattle.std.proofs.lemmas.Option.{slice_get-get_or, slice_get_past}
use Rattle.terms.specs.Refusals.{first_fault}
use Rattle.changes.specs.declared.Change.{Change}
use Rattle.kept.specs.Lists.{no_change, kept_at}
use Rattle.kept.specs.Work.{popping, popped_number, popped_of}
use Rattle.kept.specs.declared.Popped.TheVariants.{Change as PoppedChange, Nothing}

module _ (k many : ℕ) (c : Change) where
  pub pop_none : many ≡ 0 → (Nothing ≡ popping many c) × (k ≡ first_fault ((k, eqb many 0) ∷ []))
  unfolding first_fault
  pop_none h = let e = eq-eqb _ _ h in (simp e, simp e)

  pub pop_some : (many ≡ 0 → ⊥) → (PoppedChange c ≡ popping many c) × (0 ≡ first_fault ((k, eqb many 0) ∷ []))
  unfolding first_fault
  pop_some h = let e = ne_eqb _ _ h in (simp e, simp e)

-- Of a slice of so many changes the one at a place, which is inside where there is any.
popped_at : (k many : ℕ) (c : Change) (xs : List Change) (i : ℕ) (r : Option Change) → length xs ≡ many → (0 < many → i < many) → (0 < many → get_or xs i no_change ≡ c) → r ≡ slice_get xs i
    → (popped_of r ≡ popping many c) × (popped_number k (popped_of r) ≡ first_fault ((k, eqb many 0) ∷ []))
popped_at k zero c xs i r l w g e = rw (e ∙ slice_get_past xs i (omega arith)) (pop_none k 0 c refl)
popped_at k (suc j) c xs i r l w g e =
    let h : i < suc j = w (omega arith) in
    rw (e ∙ slice_get-get_or xs i no_change (omega arith) ∙ ap (λ (y : Change). Some y) (g (omega arith))) (pop_some k (suc j) c (λ z. omega arith))

-- The last of those that stand, and the first of those taken back.
pub newest_popped : (k st : ℕ) (ks : List Change) (r : Option Change) → st ≤ length ks → r ≡ slice_get (take st ks) (length (take st ks) - 1)
    → (popped_of r ≡ popping st (kept_at ks (st - 1))) × (popped_number k (popped_of r) ≡ first_fault ((k, eqb st 0) ∷ []))
newest_popped k st ks r h e =
    let l : length (take st ks) ≡ st = length-take-le st ks h in
    popped_at k st (kept_at ks (st - 1)) (take st ks) (length (take st ks) - 1) r l (λ p. omega arith)
    (λ p. get_or-take st ks (length (take st ks) - 1) no_change (omega arith) ∙ ap (λ (j : ℕ). get_or ks (j - 1) no_change) l)
    e

pub last_popped : (k st tk : ℕ) (ks : List Change) (r : Option Change) → st + tk ≤ length ks → r ≡ slice_get (take (st + tk - st) (drop st ks)) 0
    → (popped_of r ≡ popping tk (kept_at ks st)) × (popped_number k (popped_of r) ≡ first_fault ((k, eqb tk 0) ∷ []))
last_popped k st tk ks r h e =
    let many : ℕ = st + tk - st in
    let d : length (drop st ks) ≡ length ks - st = length-drop st ks in
    let l : length (take many (drop st ks)) ≡ many = length-take-le many (drop st ks) (omega arith) in
    let z : st + 0 ≡ st = omega arith in
    popped_at k tk (kept_at ks st) (take many (drop st ks)) 0 r (l ∙ omega arith) (λ p. omega arith)
    (λ p. get_or-take many (drop st ks) 0 no_change (omega arith) ∙ get_or-drop st ks 0 no_change ∙ ap (λ (j : ℕ). get_or ks j no_change) z)
    e

-- What is popped is the change asked for, and there was one.
pub popped_is : (many : ℕ) (c c' : Change) → popping many c ≡ PoppedChange c' → (c ≡ c') × (many ≡ 0 → ⊥)
popped_is many c c' e = go (eqb many 0) refl
  where
    go : (b : Bool) → eqb many 0 ≡ b → (c ≡ c') × (many ≡ 0 → ⊥)
    go true h = let z : Nothing ≡ PoppedChange c' = (pop_none 0 many c (eqb-true many 0 h)).0 ∙ e in let y : ◌≡◌ {A = ℕ} 0 1 = cc in absurd (omega arith)
    go false h = let z : PoppedChange c ≡ PoppedChange c' = (pop_some 0 many c (eqb-false many 0 h)).0 ∙ e in ((cc), eqb-false many 0 h)
