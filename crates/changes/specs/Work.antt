-- A working notion: what inner contracts ask of an edit. No promise to a caller rests on reading it.
use Rattle.std.specs.Prelude.{Bool, true, ◌&&◌, ℕ, leb, ltb}
use Rattle.terms.specs.Sizes.{most_letters}
use Rattle.changes.specs.declared.Edit.{Edit}
use Rattle.changes.specs.declared.Edit.TheVariants.{Letter, Kind, Lengths, PutIn, TakeOut}

-- The edit has its place among n letters, and leaves at most 1,000.
unfoldable pub fits : ℕ → Edit → Bool
fits n (Letter p b) = ltb p n
fits n (Kind k d) = true
fits n (Lengths m g) = true
fits n (PutIn p b) = leb p n && ltb n most_letters
fits n (TakeOut p) = ltb p n
