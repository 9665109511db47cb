-- A working notion: what works on pairs of letters asks of a text. No promise to a caller rests on reading it.
use Rattle.std.specs.Prelude.{◌≡◌, ◌≤◌, length}
use Rattle.texts.specs.declared.Text.{Text}

-- At most 1,000 letters, and a map of 256 bytes.
abbrev pub Sized : Text → Type 0
Sized x = (length x.letters.now ≤ 1000) × (length x.map.now ≡ 256)
