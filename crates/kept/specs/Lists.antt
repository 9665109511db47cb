-- The kept changes of a sheet, and what refusal 24 asks of them (01, "Numbers that say no"; 02, L5).
use Rattle.std.specs.Prelude.{Bool, true, ◌&&◌, List, [], ◌∷◌, ℕ, zero, suc, ◌+◌, leb, get_or}
use Rattle.terms.specs.Sizes.{most_changes}
use Rattle.changes.specs.Changes.{done_of, back_of, length_by, accepts_then}
use Rattle.changes.specs.declared.Change.{Change}
use Rattle.changes.specs.declared.Change.TheVariants.{Letter}
use Rattle.changes.specs.declared.Edit.{Edit}

-- What stands past the end of the kept changes: nothing reads it.
abbrev pub no_change : Change
no_change = Letter 0 0 0

-- The kept change at place i: those below `standing` stand, oldest first; the next `taken` are taken back, the next to put again first.
abbrev pub kept_at : List Change → ℕ → Change
kept_at ks i = get_or ks i no_change

-- A step goes one change back or forth: an edit, and the one that undoes it. The first k changes taken back, the newest first;
abbrev pub steps_back : List Change → ℕ → List (Edit × Edit)
steps_back ks zero = []
steps_back ks (suc k) = (back_of (kept_at ks k), done_of (kept_at ks k)) ∷ steps_back ks k

-- and the t changes from place i on put again, in their order.
abbrev pub steps_forth : List Change → ℕ → ℕ → List (Edit × Edit)
steps_forth ks i zero = []
steps_forth ks i (suc t) = (done_of (kept_at ks i), back_of (kept_at ks i)) ∷ steps_forth ks (suc i) t

-- The steps can be gone, from n letters of the alphabet z: at the length that each comes to, its call would accept the edit, and of what that leaves the one that undoes it.
unfoldable pub can_go : ℕ → List ℕ → List (Edit × Edit) → Bool
can_go n z [] = true
can_go n z (s ∷ ss) = accepts_then n z s.0 s.1 && can_go (length_by s.0 n) z ss

-- At most 64 changes in both lists together; and from the present n letters one can go back to the opening, and forth through all that is taken back: so each change is
-- one that its call would accept, old and new, at the length it was made for.
unfoldable pub kept_accepted : ℕ → List ℕ → List Change → ℕ → ℕ → Bool
kept_accepted n z ks standing taken = leb (standing + taken) most_changes && (can_go n z (steps_back ks standing) && can_go n z (steps_forth ks standing taken))
