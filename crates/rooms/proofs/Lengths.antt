-- How long the text of a reply is, where its numbers have at most 4 digits. Assumes nothing.
use mathlib.Core.List.{List, [], ◌∷◌}
use Prim.Native.Nat.{ℕ, ◌+◌, ◌*◌, ◌≤◌, ◌<◌}
use native.Mathlib.Omega.{arith}
use lib.ListN.{length, length-append}
use Rattle.std.specs.Prelude.{Result, Ok, Err}
use Rattle.terms.specs.Refusals.{refusal_number}
use Rattle.terms.specs.Texts.{Text, size}
use Rattle.terms.specs.declared.limits.Limits.{Limits}
use Rattle.terms.specs.declared.refusal.Refusal.{Refusal}
use Rattle.tilings.specs.Tilings.{Part, piece, gap, gaps, total, Tiles, Permitted}
use Rattle.tilings.specs.Laws.{lengths, length_of}
use Rattle.tilings.proofs.Covers.{covers, gaps_fit}
use Rattle.boards.specs.Pieces.{board}
use Rattle.boards.proofs.Laws.{board_laws, piece_errors}
use Rattle.records.specs.Records.{tag_of, errors_of}
use Rattle.sheet.specs.Calls.{number_of, values_of}
use Rattle.sheet.specs.declared.Said.{Said}
use Rattle.sheet.specs.declared.Said.TheVariants.{Letter as SaidLetter, Kind as SaidKind, Lengths as SaidLengths, PutIn as SaidPutIn, TakeOut as SaidTakeOut, Opened}
use Rattle.printing.specs.Printing.{decimal, fields, printed}
use Rattle.printing.proofs.Laws.{decimal_short}
use Rattle.lines.specs.Lines.{Short}
use Rattle.replies.specs.Replies.{refusal_text, said_text, restored_text, part_lines, tiling_text}

-- a number takes at most 5 bytes, with the space before it
fields_length : (ns : List ℕ) → Short ns → length (fields ns) ≤ 5 * length ns
fields_length [] h = omega arith
fields_length (n ∷ ns) h =
    let d : length (decimal n) ≤ 4 = decimal_short 3 n h.0 in
    rw (length-append (decimal n) (fields ns)) (omega (arith, fields_length ns h.1))

-- a line has two bytes more
line_length : (c : ℕ) (ns : List ℕ) → Short ns → length (printed c ns) ≤ 2 + 5 * length ns
line_length c ns h = rw (length-append (fields ns) (10 ∷ [])) (omega (arith, fields_length ns h))

-- a refusal
pub refusal_length : (k : ℕ) → k < 10000 → length (refusal_text k) ≤ 7
refusal_length k h = line_length 33 (k ∷ []) (h, tt)

-- what a call says, its numbers of at most 4 digits
pub record Small (w : Result Said Refusal) : Type 0 where
  pub number : number_of w < 10000
  pub values : Short (values_of w)

-- the line of a change or an opening, or a refusal
pub said_length : (w : Result Said Refusal) → Small w → length (said_text w) ≤ 27
said_length (Ok (SaidLetter p old new k)) h = omega (arith, line_length 76 (values_of (Ok (SaidLetter p old new k))) h.values)
said_length (Ok (SaidKind l k)) h = line_length 75 (values_of (Ok (SaidKind l k))) h.values
said_length (Ok (SaidLengths l k)) h = line_length 77 (values_of (Ok (SaidLengths l k))) h.values
said_length (Ok (SaidPutIn p b n k)) h = omega (arith, line_length 73 (values_of (Ok (SaidPutIn p b n k))) h.values)
said_length (Ok (SaidTakeOut p b n k)) h = omega (arith, line_length 88 (values_of (Ok (SaidTakeOut p b n k))) h.values)
said_length (Ok (Opened n)) h = omega (arith, line_length 79 (values_of (Ok (Opened n))) h.values)
said_length (Err e) h = omega (arith, refusal_length (refusal_number e) h.number)

-- after B or A two bytes more
pub restored_length : (c : ℕ) (w : Result Said Refusal) → Small w → length (restored_text c w) ≤ 29
restored_length c (Ok w) h = omega (arith, said_length (Ok w) h)
restored_length c (Err e) h = omega (arith, said_length (Err e) h)

-- of a string of at most 1,000 letters, with at most 15 errors a piece
module _ (x : Text) (l : Limits) (n : size x ≤ 1000) (d : l.d ≤ 15) where
  -- one part from place i on
  part_length : (i : ℕ) (p : Part) (ps : List Part) → i + (length_of p + lengths ps) ≤ 1000 → errors_of x i p ≤ 15 → length (part_lines x (i + length_of p) ps) ≤ 17 * length ps
      → length (part_lines x i (p ∷ ps)) ≤ 17 * length (p ∷ ps)
  part_length i p ps h e k =
      let ns : List ℕ = i ∷ length_of p ∷ errors_of x i p ∷ [] in
      rw (length-append (printed (tag_of p) ns) (part_lines x (i + length_of p) ps))
      (omega (arith, line_length (tag_of p) ns (omega arith, (omega arith, (omega arith, tt)))))

  -- all parts from place i on
  parts_length : (i : ℕ) (ps : List Part) → Tiles (board x l) i ps → length (part_lines x i ps) ≤ 17 * length ps
  parts_length i [] t = omega arith
  parts_length i (piece L ∷ ps) t =
      part_length i (piece L) ps (omega (arith, covers (board x l) i (piece L ∷ ps) t)) (omega (arith, piece_errors x l i L t.0)) (parts_length (i + L) ps t.1)
  parts_length i (gap L ∷ ps) t =
      part_length i (gap L) ps (omega (arith, covers (board x l) i (gap L ∷ ps) t)) (omega arith) (parts_length (i + L) ps t.2)

  -- the header line, and at most 1,000 lines of parts
  pub tiling_length : (g : ℕ) (ps : List Part) → g ≤ 15 → Permitted (board x l) 0 g ps → length (tiling_text x ps) ≤ 17017
  tiling_length g ps q p =
      let few : length ps ≤ size x = (board_laws x l).few g ps p in
      let sum : 0 + total ps ≤ size x = gaps_fit (board x l) 0 ps p.tiles in
      let ns : List ℕ = total ps ∷ length ps ∷ gaps ps ∷ [] in
      rw (length-append (printed 81 ns) (part_lines x 0 ps))
      (omega (arith, line_length 81 ns (omega arith, (omega arith, (omega (arith, p.few), tt))), parts_length 0 ps p.tiles))
