-- `open` meets its contract. Assumes nothing.
use Rattle.desk.proofs.Turns.{opening_accepted, opening_refused}
use Rattle.desk.proofs.Desk.open.Goals as goal

pub returns-in-Ok : goal.returns-in-Ok
returns-in-Ok c = opening_accepted _ _ _ _ c.args.complement _ _ c.open-reply.ensures.whole c.map_of-map.ensures c.all-all.ensures _ c.in-Ok.is c.said.ensures

pub returns-in-Err : goal.returns-in-Err
returns-in-Err c = opening_refused _ _ _ _ c.args.complement _ _ c.open-reply.ensures.whole c.map_of-map.ensures c.all-all.ensures _ c.in-Err.is c.refused.ensures
