-- The text of every reply (01, "The call program"; 02, L5 and L6).
use Rattle.std.specs.Prelude.{List, [], ◌∷◌, ◌++◌, ℕ, ◌+◌, length, Result, Ok, Err}
use Rattle.terms.specs.Texts.{Text}
use Rattle.terms.specs.declared.refusal.Refusal.{Refusal}
use Rattle.tilings.specs.Tilings.{Part, gaps, total}
use Rattle.tilings.specs.Laws.{length_of}
use Rattle.records.specs.Records.{tag_of, errors_of}
use Rattle.sheet.specs.Calls.{number_of, values_of}
use Rattle.sheet.specs.declared.Said.{Said}
use Rattle.sheet.specs.declared.Said.TheVariants.{Letter, Kind, Lengths, PutIn, TakeOut, Opened}
use Rattle.printing.specs.Printing.{printed}

-- A refusal prints `!` and its number.
abbrev pub refusal_text : ℕ → List ℕ
refusal_text k = printed 33 (k ∷ [])

-- `O n 0`; `L place old new standing`; `I place letter n standing`; `X place letter n standing`; `K kind m g d standing`; `M kind m g d standing`.
abbrev pub said_text : Result Said Refusal → List ℕ
said_text (Ok (Opened n)) = printed 79 (values_of (Ok (Opened n)))
said_text (Ok (Letter p old new k)) = printed 76 (values_of (Ok (Letter p old new k)))
said_text (Ok (PutIn p b n k)) = printed 73 (values_of (Ok (PutIn p b n k)))
said_text (Ok (TakeOut p b n k)) = printed 88 (values_of (Ok (TakeOut p b n k)))
said_text (Ok (Kind l k)) = printed 75 (values_of (Ok (Kind l k)))
said_text (Ok (Lengths l k)) = printed 77 (values_of (Ok (Lengths l k)))
said_text (Err e) = refusal_text (number_of (Err e))

-- After B or A that letter, a space and the L, I, X, K or M line of what was restored: a letter put in is taken out again, and one taken out put in.
abbrev pub restored_text : ℕ → Result Said Refusal → List ℕ
restored_text letter (Ok said) = letter ∷ 32 ∷ said_text (Ok said)
restored_text letter (Err e) = said_text (Err e)

-- One line a part, from place i on: `P` or `G`, start, length, errors.
abbrev pub part_lines : Text → ℕ → List Part → List ℕ
part_lines x i [] = []
part_lines x i (p ∷ ps) = printed (tag_of p) (i ∷ length_of p ∷ errors_of x i p ∷ []) ++ part_lines x (i + length_of p) ps

-- For Q `Q total parts gaps`, and the parts.
abbrev pub tiling_text : Text → List Part → List ℕ
tiling_text x ps = printed 81 (total ps ∷ length ps ∷ gaps ps ∷ []) ++ part_lines x 0 ps
