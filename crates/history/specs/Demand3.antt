-- Demand 3, Faithful: after any run of calls the letters and limits are the opening's with just the standing changes made in order; each question
-- answers as a sheet freshly opened with them would; every accepted change, take-back and put-again says back what it did and the number standing.
use Rattle.std.specs.Prelude.{◌≡◌, true, List, [], ◌∷◌, ◌++◌, ◌≤◌, length}
use Rattle.terms.specs.Sizes.{most_letters, most_changes}
use Rattle.terms.specs.Texts.{Text, size}
use Rattle.terms.specs.declared.limits.Limits.{Limits}
use Rattle.changes.specs.declared.Edit.{Edit}
use Rattle.sheet.specs.Bounds.{in_bounds}
use Rattle.sheet.specs.Calls.{number_of, change_call, take_back_call, put_again_call, open_call}
use Rattle.sheet.specs.declared.Sheet.{Sheet}
use Rattle.history.specs.History.{History, Request, start, current}
use Rattle.history.specs.Runs.{content_of, standing_of, taken_of, perform, Exchange, Run, after, Faithful}

-- A sheet that a run of calls left, beside the history reckoned from those calls.
pub record Stands (h : History) (s : Sheet) : Type 0 where
  -- the letters, map, alphabet and limits are the opening's with just the standing changes made in their order
  pub content : content_of s ≡ current h
  -- the sheet's two lists are the history's
  pub standing : standing_of s ≡ h.standing
  pub taken : taken_of s ≡ h.taken
  -- there are at most 1,000 letters
  pub short : size (current h).text ≤ most_letters
  -- at most 64 changes stand, and no call will refuse the sheet with 24
  pub few : length h.standing ≤ most_changes
  pub bounds : in_bounds s ≡ true

-- A sheet that came from an opening, by a run of calls.
pub record Came (x : Text) (l : Limits) (calls : List Exchange) (s : Sheet) : Type 0 where
  pub accepted : number_of (open_call x l).said ≡ 0
  pub run : Run (open_call x l).sheet calls s

-- The theorem: for every accepted opening and every list of calls.
abbrev pub Demand3 : Type 0
Demand3 =
    (x : Text) (l : Limits) (calls : List Exchange) (s : Sheet)
    → Came x l calls s → Faithful (start x l) calls × Stands (after (start x l) calls) s

-- At no moment of a run are there more than 1,000 letters (02, L5): cut where you will, it is a run to a sheet with no more, and from there a run on.
abbrev pub NeverMore : Type 0
NeverMore =
    (x : Text) (l : Limits) (calls later : List Exchange) (s : Sheet)
    → Came x l (calls ++ later) s → (t : Sheet) × Came x l calls t × Run t later s × (t.n ≤ most_letters)

-- Map and alphabet are the opening's after any run of calls (02, L2).
abbrev pub AlphabetStays : Type 0
AlphabetStays =
    (x : Text) (l : Limits) (calls : List Exchange) (s : Sheet)
    → Came x l calls s → (s.map ≡ x.map) × (s.alphabet ≡ x.alphabet)

-- A refused call leaves the sheet as it stood: any sheet handed in.
abbrev pub RefusedStays : Type 0
RefusedStays = (s : Sheet) (q : Request) → (number_of (perform s q).said ≡ 0 → ⊥) → (perform s q).sheet ≡ s

-- On a sheet that came from an opening: an accepted take-back followed by put-again restores the whole sheet.
abbrev pub BackAndAgain : Type 0
BackAndAgain =
    (x : Text) (l : Limits) (calls : List Exchange) (s : Sheet)
    → Came x l calls s
    → number_of (take_back_call s).said ≡ 0
    → (number_of (put_again_call (take_back_call s).sheet).said ≡ 0) × ((put_again_call (take_back_call s).sheet).sheet ≡ s)

-- An accepted change, of any kind, followed by take-back, which is accepted, restores letters, limits and standing list only: that change is then all that is taken back.
abbrev pub ChangeAndBack : Type 0
ChangeAndBack =
    (x : Text) (l : Limits) (calls : List Exchange) (s : Sheet)
    → Came x l calls s
    → (e : Edit)
    → number_of (change_call s e).said ≡ 0
    → (number_of (take_back_call (change_call s e).sheet).said ≡ 0)
    × (content_of (take_back_call (change_call s e).sheet).sheet ≡ content_of s)
    × (standing_of (take_back_call (change_call s e).sheet).sheet ≡ standing_of s)
    × (taken_of (take_back_call (change_call s e).sheet).sheet ≡ e ∷ [])
