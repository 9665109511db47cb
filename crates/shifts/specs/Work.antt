-- A working notion: which edit reads inside the places. No promise to a caller rests on reading it.
use Rattle.std.specs.Prelude.{Bool, true, ltb}
use Rattle.terms.specs.Sizes.{most_letters}
use Rattle.changes.specs.declared.Edit.{Edit}
use Rattle.changes.specs.declared.Edit.TheVariants.{Letter, Kind, Lengths, PutIn, TakeOut}

-- The letter that an edit replaces or takes out stands at one of the 1,000 places.
unfoldable pub in_places : Edit → Bool
in_places (Letter p b) = ltb p most_letters
in_places (Kind k d) = true
in_places (Lengths m g) = true
in_places (PutIn p b) = true
in_places (TakeOut p) = ltb p most_letters
