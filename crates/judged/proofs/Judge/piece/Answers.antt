-- `Judge::piece` meets its contract. Assumes nothing.
use Rattle.terms.proofs.Passed.{sound_bytes}
use Rattle.judged.proofs.Testing.{tells_one, tells_two}
use Rattle.judged.proofs.Judge.piece.Goals as goal

pub returns-then-limits-eq1 : goal.returns-then-limits-eq1
returns-then-limits-eq1 c = λ z sound own. tells_one _ _ _ _ _ sound c.args.self.sound_limits (sound_bytes _ sound) c.if-len-limits.false c.if-self-start.false _ c.count_errors-counted.ensures (cc) c.if-limits-eq1.true

pub returns : goal.returns
returns c = λ z sound own. rw c.from-2.ensures (tells_two _ _ _ _ _ sound c.args.self.sound_limits (sound_bytes _ sound) c.if-len-limits.false c.if-self-start.false _ c.count_errors-counted.ensures (cc) c.if-limits-eq1.false _ (c.walk-reach.ensures.maximal z sound own))
