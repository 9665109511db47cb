-- Where no refusal holds, the text and the limits are sound. Assumes nothing.
use mathlib.Core.Path.{◌≡◌, refl, sym, ap, ◌∙◌}
use mathlib.Core.Bool.{Bool, true, false, not, ◌&&◌, ◌||◌}
use mathlib.Core.List.{List, [], ◌∷◌}
use mathlib.Core.Logic.{◌⊎◌, inl, inr, ⊎_elim}
use Prim.Native.Nat.{ℕ, ◌≤◌, ◌<◌}
use native.Mathlib.Omega.{arith}
use borrow.Author.Tests.{ltb-false, eqb-true, eqb-false, eq-eqb}
use lib.Dec.{eqb, ltb}
use lib.ListN.{length, get_or, get_or-eq_default}
use Rattle.terms.specs.Sizes.{most_letters, most_errors}
use Rattle.terms.specs.Refusals.{first_fault}
use Rattle.terms.specs.Maps.{map_faults, own_inverse}
use Rattle.terms.specs.Alphabets.{is_in, all_bytes, closed_under, spelt, alphabet_faults}
use Rattle.terms.specs.Limits.{wrong_kind, too_many_errors, kind_out_of_range, lengths_out_of_range, kind_faults, lengths_faults, limits_faults}
use Rattle.terms.specs.Texts.{Text, text, size, string_faults, text_faults, opening_faults}
use Rattle.terms.specs.Passed.{SoundString, SoundText, SoundLimits}
use Rattle.terms.specs.declared.limits.Limits.{Limits}
use Rattle.terms.proofs.Order.{le_or_lt}
use Rattle.terms.proofs.Below.{and_left, or_left, or_right, below_at}
use Rattle.terms.proofs.Refusals.{false_true, fault_none, string_numbered, limits_parts, opening_parts}
use Rattle.terms.proofs.Supplied.{comes_back, all_long, all_in}

-- a test that a list of refusals passed, and the rest of the list
pub passed : (k : ℕ) (b : Bool) (ts : List (ℕ × Bool)) → 0 < k → first_fault ((k, b) ∷ ts) ≡ 0 → (b ≡ false) × (first_fault ts ≡ 0)
unfolding first_fault
passed k true ts h e = absurd (omega arith)
passed k false ts h e = (refl, e)

-- what a negation and a disjunction that fail say
pub not_off : (b : Bool) → not b ≡ false → b ≡ true
not_off true e = refl
not_off false e = let z : true ≡ false = e in cc

pub or_either : (a b : Bool) → (a || b) ≡ true → (a ≡ true) ⊎ (b ≡ true)
or_either true b e = inl refl
or_either false b e = inr e

and_off : (a b : Bool) → (a && b) ≡ false → a ≡ true → b ≡ false
and_off true b e h = e
and_off false b e h = let z : true ≡ false = sym h in cc

pub sound_map : (f : List ℕ) → first_fault (map_faults f) ≡ 0 → (length f ≡ 256) × (own_inverse f ≡ true)
unfolding map_faults
sound_map f e =
    let a = passed 2 (not (eqb (length f) 256)) ((3, not (own_inverse f)) ∷ []) (omega arith) e in
    let b = passed 3 (not (own_inverse f)) [] (omega arith) a.1 in
    (eqb-true _ _ (not_off _ a.0), not_off _ b.0)

pub sound_string : (s f : List ℕ) → first_fault (string_faults s f) ≡ 0 → SoundString s f
unfolding string_faults
sound_string s f e =
    let a = passed 1 (ltb most_letters (length s)) (map_faults f) (omega arith) e in
    let b = sound_map f a.1 in
    record { short = ltb-false _ _ a.0; wide = b.0; back = comes_back f b.1 }

pub sound_alphabet : (s f z : List ℕ) → first_fault (alphabet_faults s f z) ≡ 0 → (length z ≡ 256) × ((k : ℕ) → k < length s → is_in z (get_or s k 0) ≡ true)
unfolding alphabet_faults spelt
sound_alphabet s f z e =
    let a = passed 18 (not (eqb (length z) 256 && closed_under f z)) ((19, not (spelt s z)) ∷ []) (omega arith) e in
    let b = passed 19 (not (spelt s z)) [] (omega arith) a.1 in
    (eqb-true _ _ (and_left (eqb (length z) 256) (closed_under f z) (not_off _ a.0)), λ k h. below_at (λ i. is_in z (get_or s i 0)) (length s) k (not_off _ b.0) h)

pub sound_text : (x : Text) → first_fault (text_faults x) ≡ 0 → SoundText x
unfolding text_faults
sound_text x e =
    let h = fault_none (string_faults x.letters x.map) (alphabet_faults x.letters x.map x.alphabet) (string_numbered x.letters x.map) e in
    let a = sound_string x.letters x.map h.0 in
    let b = sound_alphabet x.letters x.map x.alphabet h.1 in
    record { short = a.short; wide = a.wide; back = a.back; flagged = b.0; spelt = b.1 }

-- without its alphabet
pub sound_letters : (x : Text) → SoundText x → SoundString x.letters x.map
sound_letters x a = record { short = a.short; wide = a.wide; back = a.back }

-- with all 256 bytes for its alphabet, a string of bytes is sound where string and map are
pub sound_all : (s f : List ℕ) → SoundString s f → ((k : ℕ) → get_or s k 0 < 256) → SoundText (text s f all_bytes)
sound_all s f a y =
    record { short = a.short; wide = a.wide; back = a.back; flagged = all_long; spelt = λ k h. all_in (get_or s k 0) (y k) }

-- its letters are bytes, since no flag stands past the 256th
pub sound_bytes : (x : Text) → SoundText x → (k : ℕ) → get_or x.letters k 0 < 256
sound_bytes x a k =
    ⊎_elim
    (λ (h : size x ≤ k). let e : get_or x.letters k 0 ≡ 0 = get_or-eq_default x.letters 0 h in omega arith)
    (λ (h : k < size x). ⊎_elim
    (λ (y : 256 ≤ get_or x.letters k 0).
    let w : length x.alphabet ≡ 256 = a.flagged in
    let o : get_or x.alphabet (get_or x.letters k 0) 0 ≡ 0 = get_or-eq_default x.alphabet 0 (omega arith) in
    absurd (false_true (sym (a.spelt k h) ∙ ap not (eq-eqb _ 0 o))))
    (λ (y : get_or x.letters k 0 < 256). y)
    (le_or_lt 256 (get_or x.letters k 0)))
    (le_or_lt (size x) k)

pub sound_limits : (l : Limits) → first_fault (limits_faults l) ≡ 0 → SoundLimits l
unfolding kind_faults lengths_faults wrong_kind kind_out_of_range lengths_out_of_range too_many_errors
sound_limits l e =
    let (p, q) = limits_parts l e in
    let a = passed 4 (wrong_kind l.kind) ((5, kind_out_of_range l.kind l.d) ∷ []) (omega arith) p in
    let h = (passed 5 (kind_out_of_range l.kind l.d) [] (omega arith) a.1).0 in
    let b = (passed 5 (lengths_out_of_range l.m l.g) [] (omega arith) q).0 in
    let c = or_right (eqb l.m 0) _ b in
    let i = or_right (ltb most_errors l.d) _ h in
    let z : l.m ≡ 0 → ⊥ = eqb-false _ _ (or_left (eqb l.m 0) _ b) in
    record {
      kind =
          ⊎_elim (λ (k : eqb l.kind 1 ≡ true). inl (eqb-true _ _ k)) (λ (k : eqb l.kind 2 ≡ true). inr (eqb-true _ _ k))
          (or_either (eqb l.kind 1) (eqb l.kind 2) (not_off _ a.0));
      some = omega arith;
      short = ltb-false _ _ (or_left (ltb most_letters l.m) _ c);
      few = ltb-false _ _ (or_right (ltb most_letters l.m) _ c);
      near = ltb-false _ _ (or_left (ltb most_errors l.d) _ h);
      exact = λ k. eqb-true _ _ (not_off _ (and_off (eqb l.kind 1) _ i (one_is l.kind k)));
    }
  where
    one_is : (k : ℕ) → k ≡ 1 → eqb k 1 ≡ true
    one_is k e = ap (λ (j : ℕ). eqb j 1) e

-- Both halves of an opening that is accepted.
pub sound_opening : (x : Text) (l : Limits) → first_fault (opening_faults x l) ≡ 0 → SoundText x × SoundLimits l
sound_opening x l e = let h = opening_parts x l e in (sound_text x h.0, sound_limits l h.1)
