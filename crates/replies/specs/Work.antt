-- Working notions: the part lines as they are read off the records. No promise to a caller rests on reading them.
use Rattle.std.specs.Prelude.{List, [], ◌∷◌, ◌++◌, ℕ, zero, suc, ◌+◌, ◌*◌, get_or}
use Rattle.records.specs.Records.{record_size}
use Rattle.printing.specs.Printing.{printed}

-- The line of the record at place i of a room.
abbrev pub record_line : List ℕ → ℕ → List ℕ
record_line room i =
    printed (get_or room i 0) ((get_or room (i + 2) 0 * 256 + get_or room (i + 3) 0) ∷ (get_or room (i + 4) 0 * 256 + get_or room (i + 5) 0) ∷ get_or room (i + 1) 0 ∷ [])

-- The lines of the first k records.
abbrev pub record_lines : List ℕ → ℕ → List ℕ
record_lines room zero = []
record_lines room (suc k) = record_lines room k ++ record_line room (record_size * k)
