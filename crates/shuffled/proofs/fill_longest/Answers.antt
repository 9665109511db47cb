-- `fill_longest` meets its contract: the entries from a on hold their starts' longest lengths, and the word is that of the letters from a on. Assumes nothing.
use Rattle.std.proofs.Common.{◌-◌, arith, length}
use Rattle.terms.proofs.Ranges.{fill_none, fill_down}
use Rattle.shuffled.specs.Work.{ParityWord}
use Rattle.shuffled.proofs.Parities.{capital_at, word_end, word_before}
use Rattle.shuffled.proofs.fill_longest.Goals as goal
use Rattle.shuffled.proofs.fill_longest.Goals.{After-turned-w}

-- the word has one more letter
word : (c : After-turned-w) → ParityWord c.args.s.now (c.loop-a.a - 1) (length c.args.s.now - (c.loop-a.a - 1)) c.turned-w.result
word c =
    let s = c.args.s.now in
    let l = c.loop-a in
    let low = (capital_at s c.requires.2 (l.a - 1) (omega arith)).0 in
    rw c.turned-w.ensures (word_before s l.a (length s) l.w (omega arith) l.auto.a low l.invariant.word)

pub loop-a-init : goal.loop-a-init
loop-a-init c = record { word = word_end c.args.s.now; filled = fill_none _ _ _ }

pub turned-w-requires : goal.turned-w-requires
turned-w-requires c = capital_at _ c.requires.2 _ (omega arith)

pub longest_from-requires-clause-parity_word : goal.longest_from-requires-clause-parity_word
longest_from-requires-clause-parity_word c = word (goal.at.longest_from-requires-clause-parity_word c).After-turned-w

pub loop-a-preserved : goal.loop-a-preserved
loop-a-preserved c =
    let l = c.loop-a in
    record {
      word = word (goal.at.loop-a-preserved c).After-turned-w;
      filled = fill_down _ l.a (length c.args.s.now) _ _ l.invariant.filled _ (omega arith) l.auto.a (omega arith) c.longest_from.ensures;
    }
