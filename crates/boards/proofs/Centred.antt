-- A span is a piece, by the maximal length of its centre. Assumes nothing.
use mathlib.Core.Path.{◌≡◌, sym, subst}
use mathlib.Core.Logic.{inl, inr, ⊎_elim}
use Prim.Native.Nat.{ℕ, ◌+◌, ◌-◌, ◌≤◌}
use native.Mathlib.Omega.{arith}
use Rattle.terms.specs.Texts.{Text, size}
use Rattle.terms.specs.Passed.{SoundText, SoundLimits}
use Rattle.terms.specs.declared.limits.Limits.{Limits}
use Rattle.spans.specs.Palindromes.{ExactPalindrome, DPalindrome, Maximal, MaximalLength}
use Rattle.spans.proofs.Exactness.{Bytes, exact_pal, pal_exact, within, is_maximal, maximal_is}
use Rattle.boards.specs.Pieces.{Piece}

module _ (x : Text) (l : Limits) (sound : SoundText x) (limited : SoundLimits l) (bytes : Bytes x.letters) (a L r : ℕ) (some : 1 ≤ L) (inside : a + L ≤ size x) (most : MaximalLength x l.d (a + a + L - 1) r) where
  -- kind 1: no longer than the maximal one
  pub short_piece : l.kind ≡ 1 → l.m ≤ L → L ≤ r → Piece x l a L
  short_piece e long h =
      record { long = long; is = inl (e, pal_exact x sound.back bytes a L (subst (λ (d : ℕ). DPalindrome x d a L) (limited.exact e) (within x l.d _ _ a L most some (omega arith) inside h))) }

  pub piece_short : l.kind ≡ 1 → Piece x l a L → L ≤ r
  piece_short e p =
      ⊎_elim
      (λ (w : (l.kind ≡ 1) × ExactPalindrome x.letters x.map a L). most.longest a L (subst (λ (d : ℕ). DPalindrome x d a L) (sym (limited.exact e)) (exact_pal x sound a L w.1)) (omega arith))
      (λ (w : (l.kind ≡ 2) × Maximal x l.d a L). absurd (omega (arith, w.0)))
      p.is

  -- kind 2: the maximal one
  pub maximal_piece : l.kind ≡ 2 → l.m ≤ L → r ≡ L → Piece x l a L
  maximal_piece e long h = record { long = long; is = inr (e, is_maximal x l.d _ _ a L most some (omega arith) h) }

  pub piece_maximal : l.kind ≡ 2 → Piece x l a L → r ≡ L
  piece_maximal e p =
      ⊎_elim
      (λ (w : (l.kind ≡ 1) × ExactPalindrome x.letters x.map a L). absurd (omega (arith, w.0)))
      (λ (w : (l.kind ≡ 2) × Maximal x l.d a L). maximal_is x l.d _ _ a L most some (omega arith) w.1)
      p.is
