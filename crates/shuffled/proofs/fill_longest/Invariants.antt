-- `fill_longest` meets its contract: the entries from a on hold their starts' longest lengths, and the word is that of the letters from a on. Assumes nothing.
use Rattle.std.proofs.Common.{◌-◌, length}
use Rattle.terms.proofs.Ranges.{Filled}
use Rattle.shuffled.specs.Shuffled.{LongestShuffled}
use Rattle.shuffled.specs.Work.{ParityWord}
use Rattle.shuffled.proofs.fill_longest.Given as goal

abbrev pub invariant-loop-a : goal.invariant-loop-a
invariant-loop-a l = record { word : ParityWord l.s l.a (length l.s - l.a) l.w; filled : Filled (LongestShuffled l.s) l.a (length l.s) l.initial.out l.out }
