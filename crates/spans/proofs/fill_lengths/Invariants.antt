-- `fill_lengths` meets its contract: the entries below c hold their centres' maximal lengths. Assumes nothing.
use Prim.Native.Nat.{ℕ, ◌<◌}
use lib.ListN.{get_or}
use Rattle.texts.specs.Lent.{text_of}
use Rattle.spans.specs.Palindromes.{MaximalLength}
use Rattle.spans.proofs.fill_lengths.Given as goal

abbrev pub invariant-loop-c : goal.invariant-loop-c
invariant-loop-c l = (k : ℕ) → k < l.c → MaximalLength (text_of l.fn.text) l.d k (get_or l.to-items k 0)
