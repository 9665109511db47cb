-- The history of a sheet (01, "The sheet"): reckoned from the calls made since the opening, by the rules there, and not read off the sheet.
use Rattle.std.specs.Prelude.{Bool, cond, List, [], ◌∷◌, ◌++◌, ℕ, eqb, leb, get_or, set, length, Result, Ok, Err}
use Rattle.terms.specs.Sizes.{most_changes}
use Rattle.terms.specs.Refusals.{refusal_of, first_fault}
use Rattle.terms.specs.Limits.{with_kind, with_lengths}
use Rattle.terms.specs.Texts.{Text, text, size}
use Rattle.terms.specs.declared.limits.Limits.{Limits}
use Rattle.terms.specs.declared.refusal.Refusal.{Refusal}
use Rattle.changes.specs.Changes.{edit_faults}
use Rattle.changes.specs.declared.Edit.{Edit}
use Rattle.changes.specs.declared.Edit.TheVariants.{Letter as EditLetter, Kind as EditKind, Lengths as EditLengths, PutIn as EditPutIn, TakeOut as EditTakeOut}
use Rattle.shifts.specs.Shifts.{put_in, take_out}
use Rattle.sheet.specs.declared.Said.{Said}
use Rattle.sheet.specs.declared.Said.TheVariants.{Letter as SaidLetter, Kind as SaidKind, Lengths as SaidLengths, PutIn as SaidPutIn, TakeOut as SaidTakeOut}

-- What a question is asked of: letters with their map and alphabet, and limits.
pub record Content : Type 0 where
  pub text : Text
  pub limits : Limits

-- An edit made: what it does not name is kept.
abbrev pub make : Edit → Content → Content
make (EditLetter p b) c = record { text = text (set c.text.letters p b) c.text.map c.text.alphabet; limits = c.limits }
make (EditKind k d) c = record { text = c.text; limits = with_kind c.limits k d }
make (EditLengths m g) c = record { text = c.text; limits = with_lengths c.limits m g }
make (EditPutIn p b) c = record { text = text (put_in c.text.letters p b) c.text.map c.text.alphabet; limits = c.limits }
make (EditTakeOut p) c = record { text = text (take_out c.text.letters p) c.text.map c.text.alphabet; limits = c.limits }

-- The edit that takes e back, where e was made of c: it restores what was there.
abbrev pub back : Content → Edit → Edit
back c (EditLetter p b) = EditLetter p (get_or c.text.letters p 0)
back c (EditKind k d) = EditKind c.limits.kind c.limits.d
back c (EditLengths m g) = EditLengths c.limits.m c.limits.g
back c (EditPutIn p b) = EditTakeOut p
back c (EditTakeOut p) = EditPutIn p (get_or c.text.letters p 0)

-- The opening with changes made in their order; the list has the newest first.
abbrev pub made : Content → List Edit → Content
made o [] = o
made o (e ∷ es) = make e (made o es)

-- What is said back of an edit that led from `was` to `is`: place, letter replaced, letter now there; or all four limits now in force; or place, letter
-- put in or taken out, number of letters; and k standing.
abbrev pub say_back : Edit → Content → Content → ℕ → Said
say_back (EditLetter p b) was is k = SaidLetter p (get_or was.text.letters p 0) (get_or is.text.letters p 0) k
say_back (EditKind kind d) was is k = SaidKind is.limits k
say_back (EditLengths m g) was is k = SaidLengths is.limits k
say_back (EditPutIn p b) was is k = SaidPutIn p (get_or is.text.letters p 0) (size is.text) k
say_back (EditTakeOut p) was is k = SaidTakeOut p (get_or was.text.letters p 0) (size is.text) k

-- The opening, the standing changes (the newest first) and those taken back (the next to put again first).
pub record History : Type 0 where
  pub opening : Content
  pub standing : List Edit
  pub taken : List Edit

-- A new opening starts a new history.
abbrev pub start : Text → Limits → History
start x l = record { opening = record { text = x; limits = l }; standing = []; taken = [] }

-- The opening with just the standing changes made in their order.
abbrev pub current : History → Content
current h = made h.opening h.standing

-- A call that asks for a change, of any kind, or moves one.
pub data Request : Type 0 where
  change : Edit → Request
  take_back put_again : Request

-- From a history to the next by the edit e: what is said compares the two.
abbrev pub moved : History → Edit → History → History × Result Said Refusal
moved h e h' = (h', Ok (say_back e (current h) (current h') (length h'.standing)))

-- Refused: the history stays.
abbrev pub refuse : History → ℕ → History × Result Said Refusal
refuse h k = (h, Err (refusal_of k))

-- An accepted change joins the standing list as its newest, and empties the taken-back list.
abbrev pub accept : History → Edit → History × Result Said Refusal
accept h e = moved h e (record { opening = h.opening; standing = e ∷ h.standing; taken = [] })

-- 64 changes stand.
abbrev pub full : History → Bool
full h = leb most_changes (length h.standing)

-- A call for a change: it refuses what it refuses of the edit as things now stand, then 7, in testing order; else it is accepted.
abbrev pub faults_of : History → Edit → List (ℕ × Bool)
faults_of h e = edit_faults (size (current h).text) (current h).text.alphabet e ++ (7, full h) ∷ []

abbrev pub decide : History → Edit → History × Result Said Refusal
decide h e = cond (eqb (first_fault (faults_of h e)) 0) (accept h e) (refuse h (first_fault (faults_of h e)))

-- Take-back moves the newest standing change over and restores what it replaced; 8 where there is none.
abbrev pub back_from : History → List Edit → History × Result Said Refusal
back_from h [] = refuse h 8
back_from h (e ∷ es) = moved h (back (made h.opening es) e) (record { opening = h.opening; standing = es; taken = e ∷ h.taken })

-- Put-again moves back the one taken back last, and makes it; 9 where there is none.
abbrev pub again_from : History → List Edit → History × Result Said Refusal
again_from h [] = refuse h 9
again_from h (e ∷ es) = moved h e (record { opening = h.opening; standing = e ∷ h.standing; taken = es })

-- What a request makes of the history, and what is said back.
abbrev pub reckon : History → Request → History × Result Said Refusal
reckon h (change e) = decide h e
reckon h take_back = back_from h h.standing
reckon h put_again = again_from h h.taken
