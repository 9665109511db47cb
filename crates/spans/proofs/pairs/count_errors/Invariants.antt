-- `count_errors` meets its contract: what is counted and what is left make up the whole. Assumes nothing.
use Rattle.spans.specs.Palindromes.{error_count}
use Prim.Native.Nat.{◌+◌, ◌-◌, ◌≤◌}
use mathlib.Core.Path.{◌≡◌}
use Rattle.spans.proofs.pairs.count_errors.Given as goal

abbrev pub invariant-loop-k : goal.invariant-loop-k
invariant-loop-k l = (l.e + error_count l.text.letters.now l.text.map.now (l.a + l.k) (l.len - (l.k + l.k)) ≡ error_count l.text.letters.now l.text.map.now l.a l.len) × (l.e ≤ l.k)
