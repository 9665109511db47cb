-- The search for the first longest exact palindrome, centre by centre. Assumes nothing.
use mathlib.Core.Path.{◌≡◌, sym, subst, subst₂}
use mathlib.Core.List.{List}
use mathlib.Core.Logic.{◌⊎◌, inl, inr, ⊎_elim}
use Prim.Native.Nat.{ℕ, ◌+◌, ◌-◌, ◌/◌, ◌≤◌, ◌<◌}
use native.Mathlib.Omega.{arith}
use native.Mathlib.Nat.{le_antisymm}
use lib.ListN.{length}
use Rattle.terms.proofs.Order.{le_or_lt}
use Rattle.terms.specs.Alphabets.{all_bytes}
use Rattle.terms.specs.Texts.{Text, text}
use Rattle.terms.specs.Passed.{SoundString}
use Rattle.terms.proofs.Passed.{sound_all}
use Rattle.spans.specs.Palindromes.{ExactPalindrome, DPalindrome, centre, centres, MaximalLength}
use Rattle.longest.specs.Longest.{FirstLongest}
use Rattle.longest.specs.Work.{Longer, LongestBelow}
use Rattle.longest.specs.declared.search.Span.{Span}
use Rattle.spans.proofs.Exactness.{Bytes, exact_pal, pal_exact}

-- A centre's maximal length ends within the string.
pub length_fits : (x : Text) (d c r : ℕ) → MaximalLength x d c r → r ≤ c + 1
length_fits x d c r m =
    ⊎_elim (λ (z : r ≡ 0). omega arith)
    (λ (w : (a : ℕ) × DPalindrome x d a r × (centre a r ≡ c)). let e : centre w.0 r ≡ c = w.2 in let p : 1 ≤ r = w.1.some in omega arith)
    m.attained

module _ (s f : List ℕ) where
  module _ (sound : SoundString s f) (bytes : Bytes s) (c : ℕ) (best next : Span) (r : ℕ) (q : LongestBelow s f c best) (m : MaximalLength (text s f all_bytes) 0 c r) (l : Longer best c r next) where
    -- every exact palindrome of the centre c is no longer than r
    at_centre : (b M : ℕ) → ExactPalindrome s f b M → centre b M ≡ c → M ≤ r
    at_centre b M p e = m.longest b M (exact_pal (text s f all_bytes) (sound_all s f sound bytes) b M p) e

    -- a palindrome at a centre up to c stands below c, or at c
    up_to : (b M : ℕ) → centre b M < c + 1 → (centre b M < c) ⊎ (centre b M ≡ c)
    up_to b M h = ⊎_elim (λ (w : c ≤ centre b M). inr (omega arith)) (λ (w : centre b M < c). inl w) (le_or_lt c (centre b M))

    kept : r ≤ best.len → LongestBelow s f (c + 1) best
    kept h =
        record {
          is =
              ⊎_elim (λ (w : (best.start ≡ 0) × (best.len ≡ 0)). inl w)
              (λ (w : ExactPalindrome s f best.start best.len × (centre best.start best.len < c)). let k : centre best.start best.len < c = w.1 in inr (w.0, omega arith))
              q.is;
          longest = λ b M p k.
              ⊎_elim (λ (w : centre b M < c). q.longest b M p w)
              (λ (w : centre b M ≡ c). let j : M ≤ r = at_centre b M p w in omega arith) (up_to b M k);
          first = λ b p k.
              ⊎_elim (λ (w : centre b best.len < c). q.first b p w) (λ (w : centre b best.len ≡ c). earlier b p w) (up_to b best.len k);
        }
      where
        earlier : (b : ℕ) → ExactPalindrome s f b best.len → centre b best.len ≡ c → best.start ≤ b
        earlier b p w =
            ⊎_elim (λ (z : (best.start ≡ 0) × (best.len ≡ 0)). let e : best.start ≡ 0 = z.0 in omega arith)
            (λ (z : ExactPalindrome s f best.start best.len × (centre best.start best.len < c)). let e : centre best.start best.len < c = z.1 in omega arith)
            q.is

    taken : best.len < r → LongestBelow s f (c + 1) next
    taken h =
        let e : next.len ≡ r = (l.more h).1 in
        let st : next.start ≡ (c + 1 - r) / 2 = (l.more h).0 in
        let w : (a : ℕ) × DPalindrome (text s f all_bytes) 0 a r × (centre a r ≡ c) = ⊎_elim (λ (z : r ≡ 0). absurd (omega arith)) (λ (w : (a : ℕ) × DPalindrome (text s f all_bytes) 0 a r × (centre a r ≡ c)). w) m.attained in
        let k : centre w.0 r ≡ c = w.2 in
        let a : w.0 ≡ next.start = omega arith in
        let p : ExactPalindrome s f next.start next.len = subst₂ (ExactPalindrome s f) a (sym e) (pal_exact (text s f all_bytes) sound.back bytes w.0 r w.1) in
        record {
          is = inr (p, omega arith);
          longest = λ b M o j.
              ⊎_elim (λ (y : centre b M < c). let z : M ≤ best.len = q.longest b M o y in omega arith)
              (λ (y : centre b M ≡ c). let z : M ≤ r = at_centre b M o y in omega arith) (up_to b M j);
          first = λ b o j.
              ⊎_elim (λ (y : centre b next.len < c). let z : next.len ≤ best.len = q.longest b next.len o y in absurd (omega arith))
              (λ (y : centre b next.len ≡ c). omega arith) (up_to b next.len j);
        }

    pub search_next : LongestBelow s f (c + 1) next
    search_next =
        ⊎_elim (λ (h : r ≤ best.len). subst (LongestBelow s f (c + 1)) (sym (l.same h)) (kept h)) taken (le_or_lt r best.len)

  -- Every centre is below 2n - 1.
  pub search_end : (c : ℕ) (best : Span) → LongestBelow s f c best → centres (length s) ≤ c → FirstLongest s f best.start best.len
  search_end c best q h =
      record {
        is = ⊎_elim (λ (w : (best.start ≡ 0) × (best.len ≡ 0)). inl w) (λ (w : ExactPalindrome s f best.start best.len × (centre best.start best.len < c)). inr w.0) q.is;
        longest = λ b M p. q.longest b M p (omega arith);
        first = λ b p. q.first b p (omega arith);
      }

  -- The first longest palindrome is one.
  pub longest_one : (a L b M : ℕ) → FirstLongest s f a L → FirstLongest s f b M → (a ≡ b) × (L ≡ M)
  longest_one a L b M p q = (le_antisymm (start a L b M e p q) (start b M a L (sym e) q p), e)
    where
      half : (a L b M : ℕ) → FirstLongest s f a L → FirstLongest s f b M → L ≤ M
      half a L b M p q =
          ⊎_elim (λ (w : (a ≡ 0) × (L ≡ 0)). let k : L ≡ 0 = w.1 in omega arith) (λ (w : ExactPalindrome s f a L). q.longest a L w) p.is

      e : L ≡ M
      e = le_antisymm (half a L b M p q) (half b M a L q p)

      start : (a L b M : ℕ) → L ≡ M → FirstLongest s f a L → FirstLongest s f b M → a ≤ b
      start a L b M e p q =
          ⊎_elim
          (λ (w : (b ≡ 0) × (M ≡ 0)).
          ⊎_elim (λ (v : (a ≡ 0) × (L ≡ 0)). let z : a ≡ 0 = v.0 in omega arith) (λ (v : ExactPalindrome s f a L). let z : M ≡ 0 = w.1 in absurd (omega arith)) p.is)
          (λ (w : ExactPalindrome s f b M). p.first b (subst (ExactPalindrome s f b) (sym e) w))
          q.is
