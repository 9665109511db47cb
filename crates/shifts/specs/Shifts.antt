-- What an edit makes of the letters in the 1,000 places of a sheet, and what it replaces (01, "The sheet"; 02, L5 and L6).
use Rattle.std.specs.Prelude.{List, ◌∷◌, ◌++◌, ℕ, suc, get_or, set, take, drop}
use Rattle.terms.specs.declared.limits.Limits.{Limits}
use Rattle.changes.specs.declared.Change.{Change}
use Rattle.changes.specs.declared.Change.TheVariants.{Letter as ChangedLetter, Kind as DidKind, Lengths as DidLengths, PutIn as DidPutIn, TakeOut as DidTakeOut}
use Rattle.changes.specs.declared.Edit.{Edit}
use Rattle.changes.specs.declared.Edit.TheVariants.{Letter, Kind, Lengths, PutIn, TakeOut}

-- The string x with the byte b put in before place p; and without the letter at place p.
abbrev pub put_in : List ℕ → ℕ → ℕ → List ℕ
put_in x p b = take p x ++ b ∷ drop p x

abbrev pub take_out : List ℕ → ℕ → List ℕ
take_out x p = take p x ++ drop (suc p) x

-- The same of the first n of all places: place n is used up, or a zero is left at n - 1; later places stay.
unfoldable pub places_put_in : List ℕ → ℕ → ℕ → ℕ → List ℕ
places_put_in a n p b = put_in (take n a) p b ++ drop (suc n) a

unfoldable pub places_take_out : List ℕ → ℕ → ℕ → List ℕ
places_take_out a n p = take_out (take n a) p ++ 0 ∷ drop n a

-- What an edit makes of n letters in their places.
abbrev pub letters_by : Edit → ℕ → List ℕ → List ℕ
letters_by (Letter p b) n a = set a p b
letters_by (Kind k d) n a = a
letters_by (Lengths m g) n a = a
letters_by (PutIn p b) n a = places_put_in a n p b
letters_by (TakeOut p) n a = places_take_out a n p

-- The change that an edit makes of letters in their places and of limits, with what it replaces.
unfoldable pub replacing : Edit → List ℕ → Limits → Change
replacing (Letter p b) a l = ChangedLetter p (get_or a p 0) b
replacing (Kind k d) a l = DidKind l.kind l.d k d
replacing (Lengths m g) a l = DidLengths l.m l.g m g
replacing (PutIn p b) a l = DidPutIn p b
replacing (TakeOut p) a l = DidTakeOut p (get_or a p 0)
