-- What each call on a sheet replies: the sheet afterwards and what is said (01, "The sheet"; 02, L5 and L6).
use Rattle.std.specs.Prelude.{◌≡◌, Bool, not, cond, List, [], ◌∷◌, ◌++◌, ℕ, ◌+◌, ◌-◌, eqb, leb, set, length, replicate, Result, Ok, Err}
use Rattle.terms.specs.Sizes.{most_changes}
use Rattle.terms.specs.Refusals.{refusal_of, fault_of, first_fault}
use Rattle.terms.specs.Maps.{plain_map}
use Rattle.terms.specs.Texts.{Text, text_all, opening_faults}
use Rattle.terms.specs.declared.limits.Limits.{Limits}
use Rattle.terms.specs.declared.refusal.Refusal.{Refusal}
use Rattle.changes.specs.Changes.{done_of, back_of, length_by, limits_by, edit_faults}
use Rattle.changes.specs.declared.Change.{Change}
use Rattle.changes.specs.declared.Change.TheVariants.{Letter as ChangedLetter, Kind as DidKind, Lengths as DidLengths, PutIn as DidPutIn, TakeOut as DidTakeOut}
use Rattle.changes.specs.declared.Edit.{Edit}
use Rattle.changes.specs.declared.Edit.TheVariants.{Letter as EditLetter, Kind as EditKind, Lengths as EditLengths, PutIn as EditPutIn, TakeOut as EditTakeOut}
use Rattle.shifts.specs.Shifts.{letters_by, replacing}
use Rattle.kept.specs.Lists.{no_change, kept_at}
use Rattle.places.specs.Places.{padded}
use Rattle.sheet.specs.Bounds.{in_bounds}
use Rattle.sheet.specs.declared.Said.{Said}
use Rattle.sheet.specs.declared.Said.TheVariants.{Letter as SaidLetter, Kind as SaidKind, Lengths as SaidLengths, PutIn as SaidPutIn, TakeOut as SaidTakeOut, Opened}
use Rattle.sheet.specs.declared.Sheet.{Sheet}
use Rattle.sheet.specs.declared.Reply.{Reply}

-- 01's number of what is said, 0 where the call was accepted; and its values in 01's order, zeros on a refusal.
abbrev pub number_of : Result Said Refusal → ℕ
number_of w = fault_of w

abbrev pub values_of : Result Said Refusal → List ℕ
values_of (Ok (SaidLetter p old new k)) = p ∷ old ∷ new ∷ k ∷ []
values_of (Ok (SaidKind l k)) = l.kind ∷ l.m ∷ l.g ∷ l.d ∷ k ∷ []
values_of (Ok (SaidLengths l k)) = l.kind ∷ l.m ∷ l.g ∷ l.d ∷ k ∷ []
values_of (Ok (SaidPutIn p b n k)) = p ∷ b ∷ n ∷ k ∷ []
values_of (Ok (SaidTakeOut p b n k)) = p ∷ b ∷ n ∷ k ∷ []
values_of (Ok (Opened n)) = n ∷ 0 ∷ []
values_of (Err e) = 0 ∷ 0 ∷ 0 ∷ 0 ∷ []

-- A refusal says its number, and the sheet stays.
abbrev pub refusing : Sheet → ℕ → Reply
refusing s k = record { sheet = s; said = Err (refusal_of k) }

-- The reply of a call with these faults, in testing order: the first that holds is refused, else the call is accepted.
unfoldable pub answered : List (ℕ × Bool) → Sheet → Reply → Reply
answered faults s accepted = cond (eqb (first_fault faults) 0) accepted (refusing s (first_fault faults))

-- The promise of a call: its whole reply, the number said is the first fault's, and a refusal says zeros beside its number.
pub record CallReply (faults : List (ℕ × Bool)) (reply r : Reply) : Type 0 where
  pub whole : r ≡ reply
  pub number : number_of r.said ≡ first_fault faults
  pub zeros : (number_of r.said ≡ 0 → ⊥) → values_of r.said ≡ 0 ∷ 0 ∷ 0 ∷ 0 ∷ []

-- What is said of a change that leaves n letters, k standing and the limits l: place, letter replaced, letter now there; or all four limits; or place, letter put in or taken out, n.
abbrev pub said_of : Change → ℕ → ℕ → Limits → Said
said_of (ChangedLetter p old new) n k l = SaidLetter p old new k
said_of (DidKind k₀ d₀ kind d) n k l = SaidKind l k
said_of (DidLengths m₀ g₀ m g) n k l = SaidLengths l k
said_of (DidPutIn p b) n k l = SaidPutIn p b n k
said_of (DidTakeOut p b) n k l = SaidTakeOut p b n k

-- An edit made, and said back with the number standing; the kept changes become ks, the two counts st and tk.
abbrev pub editing : Sheet → Edit → List Change → ℕ → ℕ → Reply
editing s e ks st tk =
    record {
      sheet =
          record {
            letters = letters_by e s.n s.letters;
            n = length_by e s.n;
            map = s.map;
            alphabet = s.alphabet;
            limits = limits_by e s.limits;
            kept = ks;
            standing = st;
            taken = tk;
          };
      said = Ok (said_of (replacing e s.letters s.limits) (length_by e s.n) st (limits_by e s.limits));
    }

-- An edit made over the same kept changes.
unfoldable pub applied : Sheet → Edit → ℕ → ℕ → Reply
applied s e st tk = editing s e s.kept st tk

-- An accepted change joins the standing list as its newest and empties the taken-back list.
unfoldable pub changed : Sheet → Edit → Reply
changed s e = editing s e (set s.kept s.standing (replacing e s.letters s.limits)) (s.standing + 1) 0

-- Every call on a sheet: 24 first. A call for a change: then what it refuses of the edit, then 7.
unfoldable pub change_faults : Sheet → Edit → List (ℕ × Bool)
change_faults s e = (24, not (in_bounds s)) ∷ edit_faults s.n s.alphabet e ++ (7, leb most_changes s.standing) ∷ []

abbrev pub change_call : Sheet → Edit → Reply
change_call s e = answered (change_faults s e) s (changed s e)

-- Letter: 6, 19, 7.
abbrev pub letter_faults : Sheet → ℕ → ℕ → List (ℕ × Bool)
letter_faults s p b = change_faults s (EditLetter p b)

abbrev pub letter_call : Sheet → ℕ → ℕ → Reply
letter_call s p b = change_call s (EditLetter p b)

-- Put in before place p: 6, 1, 19, 7.
abbrev pub put_in_faults : Sheet → ℕ → ℕ → List (ℕ × Bool)
put_in_faults s p b = change_faults s (EditPutIn p b)

abbrev pub put_in_call : Sheet → ℕ → ℕ → Reply
put_in_call s p b = change_call s (EditPutIn p b)

-- Take out: 6, 7.
abbrev pub take_out_faults : Sheet → ℕ → List (ℕ × Bool)
take_out_faults s p = change_faults s (EditTakeOut p)

abbrev pub take_out_call : Sheet → ℕ → Reply
take_out_call s p = change_call s (EditTakeOut p)

-- Kind and d: 4, 5, 7.
abbrev pub kind_call_faults : Sheet → ℕ → ℕ → List (ℕ × Bool)
kind_call_faults s kind d = change_faults s (EditKind kind d)

abbrev pub kind_call : Sheet → ℕ → ℕ → Reply
kind_call s kind d = change_call s (EditKind kind d)

-- m and g: 5, 7.
abbrev pub lengths_call_faults : Sheet → ℕ → ℕ → List (ℕ × Bool)
lengths_call_faults s m g = change_faults s (EditLengths m g)

abbrev pub lengths_call : Sheet → ℕ → ℕ → Reply
lengths_call s m g = change_call s (EditLengths m g)

-- The newest standing change, and the one taken back last.
abbrev pub newest_of : Sheet → Change
newest_of s = kept_at s.kept (s.standing - 1)

abbrev pub last_taken : Sheet → Change
last_taken s = kept_at s.kept s.standing

-- Take-back: 8. It moves the newest standing change over and restores what that replaced.
unfoldable pub take_back_faults : Sheet → List (ℕ × Bool)
take_back_faults s = (24, not (in_bounds s)) ∷ (8, eqb s.standing 0) ∷ []

abbrev pub take_back_call : Sheet → Reply
take_back_call s = answered (take_back_faults s) s (applied s (back_of (newest_of s)) (s.standing - 1) (s.taken + 1))

-- Put-again: 9. It moves back the change taken back last, and makes it again.
unfoldable pub put_again_faults : Sheet → List (ℕ × Bool)
put_again_faults s = (24, not (in_bounds s)) ∷ (9, eqb s.taken 0) ∷ []

abbrev pub put_again_call : Sheet → Reply
put_again_call s = answered (put_again_faults s) s (applied s (done_of (last_taken s)) (s.standing + 1) (s.taken - 1))

-- A sheet newly opened with a text and limits: no changes.
unfoldable pub opened : Text → Limits → Sheet
opened x l =
    record {
      letters = padded x.letters;
      n = length x.letters;
      map = x.map;
      alphabet = x.alphabet;
      limits = l;
      kept = replicate most_changes no_change;
      standing = 0;
      taken = 0;
    }

-- The blank sheet: no letters, plain map, all 256 bytes, kind 1, m 1, g 0, d 0, no changes.
unfoldable pub blank_sheet : Sheet
blank_sheet = opened (text_all [] plain_map) (record { kind = 1; m = 1; g = 0; d = 0 })

-- Opening: 1, 2, 3, 18, 19, 4, 5. A refused opening gives the blank sheet.
abbrev pub open_call : Text → Limits → Reply
open_call x l = answered (opening_faults x l) blank_sheet (record { sheet = opened x l; said = Ok (Opened (length x.letters)) })
