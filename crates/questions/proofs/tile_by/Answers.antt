-- `tile_by` meets its contract: the engine's table is the string's. Assumes nothing.
use Rattle.texts.specs.Lent.{text_of}
use Rattle.questions.proofs.Over.{over_table, over_writable, over_handed}
use Rattle.questions.proofs.tile_by.Goals as goal

pub hand_over-requires-clause-writable : goal.hand_over-requires-clause-writable
hand_over-requires-clause-writable c = over_writable _ c.args.limits c.args.lens.now c.requires.sound_text c.requires.sound_limits c.requires.held

pub returns : goal.returns
returns c =
    let a = c.args in
    let q = c.requires in
    (over_table (text_of a.text) a.limits a.lens.now q.sound_text q.sound_limits q.held _ _ c.fill_table.ensures, over_handed (text_of a.text) a.limits a.lens.now q.sound_text q.sound_limits q.held _ _ _ c.hand_over.ensures)
