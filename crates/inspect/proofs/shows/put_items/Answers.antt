-- `put_items` meets its contract: after the letter the first items are put. Assumes nothing.
use mathlib.Core.Path.{refl}
use mathlib.Core.List.{[], ◌∷◌, ◌++◌}
use lib.Seq.{take_all}
use native.Mathlib.Omega.{arith}
use Rattle.printing.proofs.Laws.{put_none, put_end, put_length, then_on, fields_append}
use Rattle.inspect.proofs.Showing.{numbers_next}
use Rattle.inspect.proofs.shows.put_items.Goals as goal

pub loop-item-init : goal.loop-item-init
loop-item-init g c =
    let p = c.put_byte.ensures.put in
    ([], tt, record { same_room = refl; put = put_none (omega (arith, put_end p, put_length p)) })

pub loop-item-preserved : goal.loop-item-preserved
loop-item-preserved g c =
    let h = c.loop-item.invariant in (
      h.0 ++ (c.into.result ∷ []),
      numbers_next _ _ _ h.0 _ _ c.loop-item-test.true c.item-item.is h.1 c.into.ensures,
      rw fields_append (then_on h.2 c.put_field.ensures),
    )

pub returns : goal.returns
returns g c =
    let h = c.loop-item.invariant in
    (h.0, rw (take_all _ _ c.loop-item-test.false) at h.1, then_on c.put_byte.ensures (then_on h.2 c.put_byte-2.ensures))
