-- Which spans are pieces (01, kinds 1 and 2), and the board of a string with its map and limits.
use Rattle.std.specs.Prelude.{◌≡◌, ◌⊎◌, ℕ, ◌≤◌}
use Rattle.terms.specs.Texts.{Text, size}
use Rattle.terms.specs.declared.limits.Limits.{Limits}
use Rattle.spans.specs.Palindromes.{ExactPalindrome, Maximal}
use Rattle.tilings.specs.Tilings.{Board}

-- Kind 1: any exact palindrome of length m or more. Kind 2: a maximal d-palindrome of length m or more.
pub record Piece (x : Text) (l : Limits) (a L : ℕ) : Type 0 where
  pub long : l.m ≤ L
  pub is : ((l.kind ≡ 1) × ExactPalindrome x.letters x.map a L) ⊎ ((l.kind ≡ 2) × Maximal x l.d a L)

-- The board of a string: maximal means maximal in the whole string, also when a later part of it is looked at.
abbrev pub board : Text → Limits → Board
board x l = record { size = size x; Piece = Piece x l }
