-- What is handed over of a tiling, where the room is short and where it is not. Assumes nothing.
use mathlib.Core.Path.{◌≡◌, ap}
use mathlib.Core.Bool.{Bool, cond}
use mathlib.Core.List.{List, ◌++◌}
use Prim.Native.Nat.{ℕ, ◌*◌, ◌≤◌, ◌<◌}
use borrow.Author.Tests.{lt-ltb, le-ltb}
use lib.ListN.{length, drop}
use Rattle.terms.specs.Texts.{Text}
use Rattle.tilings.specs.Tilings.{Part}
use Rattle.records.specs.Records.{record_size, records_from}
use Rattle.questions.specs.Tiling.{Answer, room_refusal, figures, handing}

module _ (x : Text) (ps : List Part) (room : List ℕ) where
  choose : Bool → Answer × List ℕ
  choose b = cond b (room_refusal ps, room) (figures ps, records_from x 0 ps ++ drop (record_size * length ps) room)

  pub handing_short : length room < record_size * length ps → handing x ps room ≡ (room_refusal ps, room)
  unfolding choose
  handing_short h = ap choose (lt-ltb _ _ h)

  pub handing_whole : record_size * length ps ≤ length room → handing x ps room ≡ (figures ps, records_from x 0 ps ++ drop (record_size * length ps) room)
  unfolding choose
  handing_whole h = ap choose (le-ltb _ _ h)
