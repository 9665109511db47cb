-- Runs of calls on a sheet, questions and refused calls included; and what the history says of them.
use Rattle.std.specs.Prelude.{◌≡◌, List, [], ◌∷◌, ℕ, zero, suc, Result}
use Rattle.terms.specs.declared.refusal.Refusal.{Refusal}
use Rattle.changes.specs.Changes.{done_of}
use Rattle.changes.specs.declared.Change.{Change}
use Rattle.changes.specs.declared.Edit.{Edit}
use Rattle.kept.specs.Lists.{kept_at}
use Rattle.questions.specs.Tiling.{Answer, TilingReply}
use Rattle.sheet.specs.Bounds.{text_of}
use Rattle.sheet.specs.Calls.{number_of, change_call, take_back_call, put_again_call, open_call}
use Rattle.sheet.specs.Question.{SheetReply}
use Rattle.sheet.specs.declared.Said.{Said}
use Rattle.sheet.specs.declared.Sheet.{Sheet}
use Rattle.sheet.specs.declared.Reply.{Reply}
use Rattle.history.specs.History.{Content, History, Request, change, take_back, put_again, current, reckon}

-- A sheet's letters, map, alphabet and limits.
abbrev pub content_of : Sheet → Content
content_of s = record { text = text_of s; limits = s.limits }

-- A sheet's two lists, read off as lists: what its standing changes did, the newest first; what those taken back did, the next to put again first.
abbrev pub standing_from : List Change → ℕ → List Edit
standing_from ks zero = []
standing_from ks (suc k) = done_of (kept_at ks k) ∷ standing_from ks k

abbrev pub taken_from : List Change → ℕ → ℕ → List Edit
taken_from ks i zero = []
taken_from ks i (suc t) = done_of (kept_at ks i) ∷ taken_from ks (suc i) t

abbrev pub standing_of : Sheet → List Edit
standing_of s = standing_from s.kept s.standing

abbrev pub taken_of : Sheet → List Edit
taken_of s = taken_from s.kept s.standing s.taken

-- What a request does on a sheet, by the promises of the calls.
abbrev pub perform : Sheet → Request → Reply
perform s (change e) = change_call s e
perform s take_back = take_back_call s
perform s put_again = put_again_call s

-- A call with its answer: a request with what is said; a tiling question with table and room as lent, table and room as left, and the reply.
pub data Exchange : Type 0 where
  requested : Request → Result Said Refusal → Exchange
  asked : List ℕ → List ℕ → List ℕ → List ℕ → Answer → Exchange

-- A run of calls on the sheet s, with what each was answered, ends with the sheet s'.
abbrev pub Run : Sheet → List Exchange → Sheet → Type 0
Run s [] s' = s' ≡ s
Run s (requested q w ∷ xs) s' = (w ≡ (perform s q).said) × Run (perform s q).sheet xs s'
Run s (asked t room t' room' r ∷ xs) s' = SheetReply s t t' room room' r × Run s xs s'

-- The history after a run of calls: only what was asked counts.
abbrev pub after : History → List Exchange → History
after h [] = h
after h (requested q w ∷ xs) = after (reckon h q).0 xs
after h (asked t room t' room' r ∷ xs) = after h xs

-- A question's reply is demand 2's for that content; and it is the one that a sheet newly opened with that content gives, lent the same rooms.
pub record FreshReply (c : Content) (t t' room room' : List ℕ) (r : Answer) : Type 0 where
  pub right : TilingReply c.text c.limits t t' room room' r
  pub opens : number_of (open_call c.text c.limits).said ≡ 0
  pub same :
      (t'' room'' : List ℕ) (r'' : Answer)
      → SheetReply (open_call c.text c.limits).sheet t t'' room room'' r'' → (t'' ≡ t') × (room'' ≡ room') × (r'' ≡ r)

-- Every answer is the one that the history gives.
abbrev pub Faithful : History → List Exchange → Type 0
Faithful h [] = Unit {0}
Faithful h (requested q w ∷ xs) = (w ≡ (reckon h q).1) × Faithful (reckon h q).0 xs
Faithful h (asked t room t' room' r ∷ xs) = FreshReply (current h) t t' room room' r × Faithful h xs
