-- Pieces have letters, lie within the string and have few errors; the laws for a reader hold on every board of a string. Assumes nothing.
use mathlib.Core.Path.{◌≡◌, sym, ◌∙◌}
use mathlib.Core.Bool.{true}
use mathlib.Core.Logic.{◌⊎◌, inl, inr, ⊎_elim}
use Prim.Native.Nat.{ℕ, ◌+◌, ◌%◌, ◌≤◌, ◌<◌}
use native.Mathlib.Omega.{arith}
use Rattle.terms.specs.Alphabets.{own_partner}
use Rattle.terms.specs.Texts.{Text, size}
use Rattle.terms.specs.declared.limits.Limits.{Limits}
use Rattle.spans.specs.Palindromes.{ExactPalindrome, Maximal, error_count}
use Rattle.terms.proofs.Order.{le_or_lt}
use Rattle.terms.proofs.Refusals.{false_true}
use Rattle.terms.proofs.Passed.{sound_text}
use Rattle.spans.proofs.Exactness.{same_errors, middle_own}
use Rattle.tilings.specs.Laws.{TilingLaws}
use Rattle.tilings.proofs.Laws.{tiling_laws}
use Rattle.boards.specs.Pieces.{Piece, board}
use Rattle.boards.specs.Laws.{EvenPieces}

module _ (x : Text) (l : Limits) where
  module _ (a L : ℕ) (p : Piece x l a L) where
    pub piece_some : 1 ≤ L
    piece_some = ⊎_elim (λ (w : (l.kind ≡ 1) × ExactPalindrome x.letters x.map a L). w.1.some) (λ (w : (l.kind ≡ 2) × Maximal x l.d a L). w.1.is.some) p.is

    pub piece_inside : a + L ≤ size x
    piece_inside = ⊎_elim (λ (w : (l.kind ≡ 1) × ExactPalindrome x.letters x.map a L). w.1.inside) (λ (w : (l.kind ≡ 2) × Maximal x l.d a L). w.1.is.inside) p.is

    pub piece_errors : error_count x.letters x.map a L ≤ l.d
    piece_errors =
        ⊎_elim
        (λ (w : (l.kind ≡ 1) × ExactPalindrome x.letters x.map a L). let z : error_count x.letters x.map a L ≡ 0 = same_errors x.letters x.map a L w.1.same in omega arith)
        (λ (w : (l.kind ≡ 2) × Maximal x l.d a L). w.1.is.few)
        p.is

  pub board_laws : TilingLaws (board x l)
  board_laws = tiling_laws (board x l) piece_some

-- a piece of odd length has an own-partner letter in its middle (kind 1), or is no palindrome (kind 2)
pub even_pieces : EvenPieces
even_pieces x l e none a L p =
    let odd : L % 2 ≡ 1 → ⊥ = λ h. false_true (sym (own h) ∙ none) in
    ⊎_elim (λ (w : L % 2 ≡ 0). w) (λ (w : L % 2 ≡ 1). absurd (odd w)) (parity L)
  where
    own : L % 2 ≡ 1 → own_partner x.map x.alphabet ≡ true
    own h =
        ⊎_elim
        (λ (w : (l.kind ≡ 1) × ExactPalindrome x.letters x.map a L). middle_own x (sound_text x e) a L w.1 h)
        (λ (w : (l.kind ≡ 2) × Maximal x l.d a L). w.1.is.odd h)
        p.is

    parity : (k : ℕ) → (k % 2 ≡ 0) ⊎ (k % 2 ≡ 1)
    parity k = ⊎_elim (λ (w : 1 ≤ k % 2). inr (omega arith)) (λ (w : k % 2 < 1). inl (omega arith)) (le_or_lt 1 (k % 2))
