-- Working notions: how a line is gone through, place by place. No promise to a caller rests on reading them.
use Rattle.std.specs.Prelude.{Bool, true, false, cond, Option, Some, None, List, ℕ, ◌+◌, ◌-◌, ◌*◌, leb, ltb, eqb, length, get_or}
use Rattle.terms.specs.declared.limits.Limits.{Limits}
use Rattle.changes.specs.declared.Edit.TheVariants.{Letter, Kind, Lengths, PutIn, TakeOut}
use Rattle.lines.specs.declared.Line.{Line}
use Rattle.lines.specs.declared.Line.TheVariants.{Open, Change, TakeBack, PutAgain, Question}

-- The digit at a place, if one stands there.
unfoldable pub digit_at : List ℕ → ℕ → Option ℕ
digit_at xs i = cond (ltb i (length xs)) (cond (leb 48 (get_or xs i 0)) (cond (leb (get_or xs i 0) 57) (Some (get_or xs i 0 - 48)) None) None) None

-- The number that five digits begin, with the place after it.
unfoldable pub number_of : ℕ → Option ℕ → Option ℕ → Option ℕ → Option ℕ → Option ℕ → Option (ℕ × ℕ)
number_of i None b c d e = None
number_of i (Some a) None c d e = Some (a, i + 1)
number_of i (Some a) (Some b) None d e = cond (eqb a 0) None (Some (a * 10 + b, i + 2))
number_of i (Some a) (Some b) (Some c) None e = cond (eqb a 0) None (Some (a * 100 + b * 10 + c, i + 3))
number_of i (Some a) (Some b) (Some c) (Some d) None = cond (eqb a 0) None (Some (a * 1000 + b * 100 + c * 10 + d, i + 4))
number_of i (Some a) (Some b) (Some c) (Some d) (Some e) = None

-- The number at a place, with the place after it.
abbrev pub number_at : List ℕ → ℕ → Option (ℕ × ℕ)
number_at xs i = number_of i (digit_at xs i) (digit_at xs (i + 1)) (digit_at xs (i + 2)) (digit_at xs (i + 3)) (digit_at xs (i + 4))

-- The byte b stands at place i.
unfoldable pub stands : List ℕ → ℕ → ℕ → Bool
stands xs i b = cond (ltb i (length xs)) (eqb (get_or xs i 0) b) false

-- A space at a place, and the number behind it.
unfoldable pub number_after : List ℕ → ℕ → Option (ℕ × ℕ)
number_after xs i = cond (stands xs i 32) (number_at xs (i + 1)) None

-- Goes on with the two that were read: a number and the place after it, two numbers, or a place and a byte.
abbrev pub with_both : {A B C : Type 0} → Option (A × B) → (A → B → Option C) → Option C
with_both None then = None
with_both (Some p) then = then p.0 p.1

-- Four numbers, a space before each.
unfoldable pub four_after : List ℕ → ℕ → Option (Limits × ℕ)
four_after xs i =
    with_both (number_after xs i) (λ kind a. with_both (number_after xs a) (λ m b.
    with_both (number_after xs b) (λ g c. with_both (number_after xs c) (λ d e. Some (record { kind = kind; m = m; g = g; d = d }, e)))))

-- The line ends here, or it is not understood.
abbrev pub ending : List ℕ → ℕ → Line → Option Line
ending xs i line = cond (eqb i (length xs)) (Some line) None

-- Two numbers behind the line's letter, up to its end.
unfoldable pub two_of : List ℕ → Option (ℕ × ℕ)
two_of xs =
    with_both (number_after xs 1) (λ a i. with_both (number_after xs i) (λ b e. cond (eqb e (length xs)) (Some (a, b)) None))

-- A place and a byte up to the line's end.
unfoldable pub placed_of : List ℕ → Option (ℕ × ℕ)
placed_of xs = with_both (two_of xs) (λ p b. cond (leb b 255) (Some (p, b)) None)

-- A line `L place byte`.
unfoldable pub letter_line : List ℕ → Option Line
letter_line xs = with_both (placed_of xs) (λ p b. Some (Change (Letter p b)))

-- A line `I place byte`.
unfoldable pub in_line : List ℕ → Option Line
in_line xs = with_both (placed_of xs) (λ p b. Some (Change (PutIn p b)))

-- A line `X place`.
unfoldable pub out_line : List ℕ → Option Line
out_line xs = with_both (number_after xs 1) (λ p e. ending xs e (Change (TakeOut p)))

-- A line `K kind d`.
unfoldable pub kind_line : List ℕ → Option Line
kind_line xs = with_both (two_of xs) (λ k d. Some (Change (Kind k d)))

-- A line `M m g`.
unfoldable pub lengths_line : List ℕ → Option Line
lengths_line xs = with_both (two_of xs) (λ m g. Some (Change (Lengths m g)))

-- A space, the map's letter and a space; then the string.
abbrev pub string_after : List ℕ → Limits → ℕ → Option Line
string_after xs l i =
    cond (stands xs i 32) (cond (stands xs (i + 2) 32)
    (cond (stands xs (i + 1) 73) (Some (Open l false (i + 3))) (cond (stands xs (i + 1) 67) (Some (Open l true (i + 3))) None)) None) None

-- A line `O kind m g d map string`.
unfoldable pub open_line : List ℕ → Option Line
open_line xs = with_both (four_after xs 1) (λ l i. string_after xs l i)

-- A whole line.
unfoldable pub line_of : List ℕ → Option Line
line_of xs =
    cond (stands xs 0 79) (open_line xs) (cond (stands xs 0 76) (letter_line xs) (cond (stands xs 0 73) (in_line xs) (cond (stands xs 0 88) (out_line xs) (cond (stands xs 0 75) (kind_line xs) (cond (stands xs 0 77) (lengths_line xs)
    (cond (stands xs 0 66) (ending xs 1 TakeBack) (cond (stands xs 0 65) (ending xs 1 PutAgain) (cond (stands xs 0 81) (ending xs 1 Question) None))))))))
