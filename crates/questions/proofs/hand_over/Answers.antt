-- `hand_over` meets its contract: none, too little room, or the tiling given. Assumes nothing.
use native.Mathlib.Omega.{arith}
use Rattle.texts.specs.Lent.{text_of}
use Rattle.ways.specs.Spans.{board_of}
use Rattle.questions.proofs.Over.{handed_none, handed_given}
use Rattle.questions.proofs.hand_over.Goals as goal

pub returns-then-least : goal.returns-then-least
returns-then-least c = let a = c.args in handed_none (text_of a.text) (board_of a.totals.spans) a.totals.g a.totals.t.now (omega arith) c.requires.known.2 _ c.at-least.ensures c.if-least.true _

pub returns : goal.returns
returns c = let a = c.args in let r = c.read_parts-read in handed_given (text_of a.text) (board_of a.totals.spans) a.totals.g a.totals.t.now (omega arith) c.requires.known.2 _ c.at-least.ensures _ _ _ r.ensures.0 (omega (arith, r.auto.codes)) (omega arith) _ c.from.ensures _ _ c.if-room-parts.false c.put_parts.ensures
