-- A slice of which the entries from lo up to hi are filled, one store at a time; two slices filled alike are equal. Assumes nothing.
use mathlib.Core.Path.{◌≡◌, refl, sym, ◌∙◌, subst}
use mathlib.Core.Logic.{⊎_elim}
use mathlib.Core.List.{List}
use Prim.Native.Nat.{ℕ, ◌+◌, ◌-◌, ◌≤◌, ◌<◌}
use native.Mathlib.Decide.{ℕ_discrete}
use native.Mathlib.Omega.{arith}
use lib.ListN.{length, get_or, set, length-set}
use lib.Seq.{ext_get_or, get_or-set_same, get_or-set_other}
use Rattle.terms.proofs.Order.{le_or_lt}

-- Entry k holds a value that P asks of it, for k from lo and below hi; the others are as they were.
pub record Filled (P : ℕ → ℕ → Type 0) (lo hi : ℕ) (before after : List ℕ) : Type 0 where
  pub long : length after ≡ length before
  pub held : (k : ℕ) → lo ≤ k → k < hi → P k (get_or after k 0)
  pub under : (k : ℕ) → k < lo → get_or after k 0 ≡ get_or before k 0
  pub past : (k : ℕ) → hi ≤ k → get_or after k 0 ≡ get_or before k 0

module _ (P : ℕ → ℕ → Type 0) where
  pub fill_none : (i : ℕ) (l : List ℕ) → Filled P i i l l
  fill_none i l = record { long = refl; held = λ k a b. absurd (omega arith); under = λ k h. refl; past = λ k h. refl }

  module _ (lo hi : ℕ) (b a : List ℕ) (f : Filled P lo hi b a) (v : ℕ) where
    -- a store at i, by which the range grows
    grown : (i lo' hi' : ℕ) → lo' ≤ i → i < hi' → lo' ≤ lo → hi ≤ hi' → ((k : ℕ) → lo' ≤ k → k < hi' → (k ≡ i → ⊥) → (lo ≤ k) × (k < hi)) → i < length a → P i v → Filled P lo' hi' b (set a i v)
    grown i lo' hi' il ih lower higher others l p =
        record {
          long = length-set a i v ∙ f.long;
          held = λ k j h.
              elim (ℕ_discrete k i) [
                | yes q ↦ subst (λ (m : ℕ). P m (get_or (set a i v) m 0)) (sym q) (rw (get_or-set_same a i v 0 l) p)
                | no n ↦ let o = others k j h n in rw (get_or-set_other a i k v 0 n) (f.held k o.0 o.1)
              ];
          under = λ k h. get_or-set_other a i k v 0 (omega arith) ∙ f.under k (omega arith);
          past = λ k h. get_or-set_other a i k v 0 (omega arith) ∙ f.past k (omega arith);
        }

    pub fill_up : lo ≤ hi → hi < length a → P hi v → Filled P lo (hi + 1) b (set a hi v)
    fill_up o = grown hi lo (hi + 1) o (omega arith) (omega arith) (omega arith) (λ k j h n. (j, omega arith))

    pub fill_down : 0 < lo → lo ≤ hi → lo - 1 < length a → P (lo - 1) v → Filled P (lo - 1) hi b (set a (lo - 1) v)
    fill_down z o = grown (lo - 1) (lo - 1) hi (omega arith) (omega arith) (omega arith) (omega arith) (λ k j h n. (omega arith, h))

  -- One value for each entry below n, and later entries as they were: one slice.
  pub entries_unique :
      ((k v v' : ℕ) → P k v → P k v' → v ≡ v') → (n : ℕ) (b a a' : List ℕ) → length a ≡ length b → length a' ≡ length b
      → ((k : ℕ) → k < n → P k (get_or a k 0)) → ((k : ℕ) → k < n → P k (get_or a' k 0))
      → ((k : ℕ) → n ≤ k → get_or a k 0 ≡ get_or b k 0) → ((k : ℕ) → n ≤ k → get_or a' k 0 ≡ get_or b k 0) → a ≡ a'
  entries_unique only n b a a' l l' p p' s s' =
      ext_get_or 0 a a' (l ∙ sym l')
      (λ k h. ⊎_elim (λ (w : n ≤ k). s k w ∙ sym (s' k w)) (λ (w : k < n). only k _ _ (p k w) (p' k w)) (le_or_lt n k))
