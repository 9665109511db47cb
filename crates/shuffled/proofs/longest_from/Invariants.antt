-- `longest_from` meets its contract: the word is that of the letters left, and no longer length passes. Assumes nothing.
use Rattle.std.proofs.Common.{ℕ, ◌-◌, ◌≤◌, ◌<◌, length}
use Rattle.shuffled.specs.Shuffled.{Shuffled}
use Rattle.shuffled.specs.Work.{ParityWord}
use Rattle.shuffled.proofs.longest_from.Given as goal

abbrev pub invariant-loop-end : goal.invariant-loop-end
invariant-loop-end l = record { some : l.a < l.end; inside : l.end ≤ length l.s; word : ParityWord l.s l.a (l.end - l.a) l.rest; longest : (M : ℕ) → Shuffled l.s l.a M → M ≤ l.end - l.a }

abbrev pub decreases-loop-end : goal.decreases-loop-end
decreases-loop-end l = l.end
