-- Changes and edits (01, "The sheet"; 02, L5 and L6). A change keeps what it replaced; an edit is what is done to letters or limits, forward or back.
use Rattle.std.specs.Prelude.{Bool, not, ◌&&◌, List, [], ◌∷◌, ◌++◌, ℕ, ◌+◌, ◌-◌, eqb, leb, ltb}
use Rattle.terms.specs.Sizes.{most_letters}
use Rattle.terms.specs.Refusals.{first_fault}
use Rattle.terms.specs.Alphabets.{is_in}
use Rattle.terms.specs.Limits.{kind_faults, lengths_faults, with_kind, with_lengths}
use Rattle.terms.specs.declared.limits.Limits.{Limits}
use Rattle.changes.specs.declared.Change.{Change}
use Rattle.changes.specs.declared.Change.TheVariants.{Letter as ChangedLetter, Kind as DidKind, Lengths as DidLengths, PutIn as DidPutIn, TakeOut as DidTakeOut}
use Rattle.changes.specs.declared.Edit.{Edit}
use Rattle.changes.specs.declared.Edit.TheVariants.{Letter, Kind, Lengths, PutIn, TakeOut}

-- What a change does.
abbrev pub done_of : Change → Edit
done_of (ChangedLetter p old new) = Letter p new
done_of (DidKind k₀ d₀ k d) = Kind k d
done_of (DidLengths m₀ g₀ m g) = Lengths m g
done_of (DidPutIn p b) = PutIn p b
done_of (DidTakeOut p b) = TakeOut p

-- What takes it back: it restores what was replaced; a letter put in is taken out, a letter taken out is put in where it stood.
abbrev pub back_of : Change → Edit
back_of (ChangedLetter p old new) = Letter p old
back_of (DidKind k₀ d₀ k d) = Kind k₀ d₀
back_of (DidLengths m₀ g₀ m g) = Lengths m₀ g₀
back_of (DidPutIn p b) = TakeOut p
back_of (DidTakeOut p b) = PutIn p b

-- The number of letters after an edit of n letters, and the limits after an edit: what it does not name is kept.
abbrev pub length_by : Edit → ℕ → ℕ
length_by (Letter p b) n = n
length_by (Kind k d) n = n
length_by (Lengths m g) n = n
length_by (PutIn p b) n = n + 1
length_by (TakeOut p) n = n - 1

abbrev pub limits_by : Edit → Limits → Limits
limits_by (Letter p b) l = l
limits_by (Kind k d) l = with_kind l k d
limits_by (Lengths m g) l = with_lengths l m g
limits_by (PutIn p b) l = l
limits_by (TakeOut p) l = l

-- 6 for a place where a letter must stand: it is not one of n letters.
unfoldable pub place_fault : ℕ → ℕ → List (ℕ × Bool)
place_fault n p = (6, leb n p) ∷ []

-- 19 for one letter: it is not of the alphabet z.
unfoldable pub letter_fault : List ℕ → ℕ → List (ℕ × Bool)
letter_fault z b = (19, not (is_in z b)) ∷ []

-- What its call refuses of the edit, on n letters of the alphabet z, in testing order. Letter: 6, 19. Kind and d: 4, 5. m and g: 5. Put in before place p, up to n: 6, 1, 19. Take out: 6.
unfoldable pub edit_faults : ℕ → List ℕ → Edit → List (ℕ × Bool)
edit_faults n z (Letter p b) = place_fault n p ++ letter_fault z b
edit_faults n z (Kind k d) = kind_faults k d
edit_faults n z (Lengths m g) = lengths_faults m g
edit_faults n z (PutIn p b) = (6, ltb n p) ∷ (1, leb most_letters n) ∷ letter_fault z b
edit_faults n z (TakeOut p) = place_fault n p

-- Its call would refuse nothing of it.
unfoldable pub accepts : ℕ → List ℕ → Edit → Bool
accepts n z e = eqb (first_fault (edit_faults n z e)) 0

-- Nor, of n letters, the one edit and, of those it leaves, the other.
unfoldable pub accepts_then : ℕ → List ℕ → Edit → Edit → Bool
accepts_then n z e f = accepts n z e && accepts (length_by e n) z f
