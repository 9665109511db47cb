-- What a reader may count on of shuffled palindromes and of their fill; proved in proofs/.
use Rattle.std.specs.Prelude.{◌≡◌, List, [], ◌∷◌, ℕ, ◌≤◌, ◌<◌, Result, Ok, get_or}
use Rattle.terms.specs.Refusals.{fault_of, OneOf}
use Rattle.terms.specs.declared.refusal.Refusal.{Refusal}
use Rattle.terms.specs.Maps.{plain_map}
use Rattle.spans.specs.Palindromes.{letter, ExactPalindrome}
use Rattle.shuffled.specs.Shuffled.{Shuffled, ShuffledReply}

-- Every exact palindrome under the plain map passes, in any string of bytes.
abbrev pub ExactPass : Type 0
ExactPass =
    (s : List ℕ) → ((k : ℕ) → letter s k < 256) → (a L : ℕ) → ExactPalindrome s plain_map a L → Shuffled s a L

pub record ShuffledLaws (s before : List ℕ) : Type 0 where
  -- the number answered is always one of these
  pub listed : (after : List ℕ) (r : Result (Unit {0}) Refusal) → ShuffledReply s before after r → OneOf (fault_of r) (0 ∷ 1 ∷ 20 ∷ 11 ∷ [])
  -- two replies to one question are equal, slices included
  pub one : (after after' : List ℕ) (r r' : Result (Unit {0}) Refusal) → ShuffledReply s before after r → ShuffledReply s before after' r' → (after ≡ after') × (r ≡ r')
  -- no exact palindrome under the plain map is longer than the entry of its start
  pub exact :
      (after : List ℕ) → ShuffledReply s before after (Ok tt) → (a L : ℕ) → ExactPalindrome s plain_map a L → L ≤ get_or after a 0
