-- `walk` meets its contract: a centre is barred, or walked outward. Assumes nothing.
use mathlib.Core.Path.{sym, ◌∙◌}
use Rattle.spans.proofs.Walking.{walked_barred, walked_out}
use Rattle.spans.proofs.outward.walk.Goals as goal

pub returns-then-bars : goal.returns-then-bars
returns-then-bars c =
    let w = walked_barred c.args.text.letters.now c.args.text.map.now c.args.d c.args.c c.args.own (sym c.bars.ensures ∙ c.if-bars.true) in
    record { maximal = w.0; stopped = w.1 }

pub returns : goal.returns
returns c =
    let u = c.walk_out.ensures in
    let w = walked_out c.args.text.letters.now c.args.text.map.now c.args.d c.args.c c.args.own (sym c.bars.ensures ∙ c.if-bars.false) _ c.walk_out.result.stop (u.maximal, u.stopped) in
    record { maximal = w.0; stopped = w.1 }
