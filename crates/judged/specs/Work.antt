-- Working notions: what the helper of one piece says, and what the invariant of `Judge` needs. No promise to a caller rests on reading them.
use Rattle.std.specs.Prelude.{◌≡◌, ◌⊎◌, ℕ}
use Rattle.std.proofs.Common.{inl, inr, ap, arith}
use Rattle.std.proofs.Props.{props}
use native.Mathlib.Nat.{ℕ_set}
use Rattle.terms.specs.Texts.{Text}
use Rattle.terms.specs.Passed.{SoundLimits}
use Rattle.terms.specs.declared.limits.Limits.{Limits}
use Rattle.spans.specs.Palindromes.{error_count}
use Rattle.boards.specs.Pieces.{Piece}

-- A piece with so many errors.
pub record RightPiece (x : Text) (l : Limits) (i L e : ℕ) : Type 0 where
  pub is : Piece x l i L
  pub errors : error_count x.letters x.map i L ≡ e

-- That a kind is 1 or 2 has at most one proof.
kind_prop : (k : ℕ) → IsProp ((k ≡ 1) ⊎ (k ≡ 2))
kind_prop k (inl a) (inl b) = ap inl (ℕ_set k 1 a b)
kind_prop k (inl a) (inr b) = absurd (omega arith)
kind_prop k (inr a) (inl b) = absurd (omega arith)
kind_prop k (inr a) (inr b) = ap inr (ℕ_set k 2 a b)

-- That limits are sound has at most one proof, as a ghost field needs.
pub sound_limits_prop : (l : Limits) → IsProp (SoundLimits l)
sound_limits_prop l = Prim.hlevel (kind_prop, props)
