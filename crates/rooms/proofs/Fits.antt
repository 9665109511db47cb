-- No reply is longer than 65,536 bytes. Assumes nothing.
use mathlib.Core.Path.{◌≡◌, refl, sym, ap, ◌∙◌}
use mathlib.Core.Bool.{Bool, true, not}
use mathlib.Core.List.{List, [], ◌∷◌}
use mathlib.Core.Logic.{inl, inr, ⊎_elim}
use Prim.Native.Nat.{ℕ, ◌+◌, ◌-◌, ◌≤◌, ◌<◌}
use native.Mathlib.Omega.{arith}
use borrow.Author.Tests.{eqb-false}
use lib.Dec.{eqb}
use lib.ListN.{length, drop}
use Rattle.std.specs.Prelude.{Result, Ok, Option, None, Some, IfSome}
use Rattle.terms.specs.Refusals.{first_fault, OneOf}
use Rattle.terms.specs.Maps.{map_faults}
use Rattle.terms.specs.Limits.{kind_faults, lengths_faults, limits_faults}
use Rattle.terms.specs.Alphabets.{alphabet_faults}
use Rattle.terms.specs.Texts.{Text, text_all, string_faults, text_faults, opening_faults}
use Rattle.terms.specs.declared.limits.Limits.{Limits}
use Rattle.terms.specs.declared.refusal.Refusal.{Refusal}
use Rattle.terms.proofs.Named.{AllNamed, fault_named, opening_named}
use Rattle.terms.proofs.Refusals.{numbers, fault_listed, opening_parts}
use Rattle.terms.proofs.Passed.{passed, not_off, sound_limits, sound_opening}
use Rattle.tilings.specs.Tilings.{Part, Given}
use Rattle.boards.specs.Pieces.{board}
use Rattle.questions.specs.Tiling.{number_in, figures}
use Rattle.changes.specs.Changes.{done_of, back_of, length_by, limits_by, place_fault, letter_fault, edit_faults, accepts}
use Rattle.changes.specs.declared.Change.{Change}
use Rattle.changes.specs.declared.Change.TheVariants.{Letter as ChangedLetter, Kind as DidKind, Lengths as DidLengths, PutIn as DidPutIn, TakeOut as DidTakeOut}
use Rattle.changes.specs.declared.Edit.{Edit}
use Rattle.changes.specs.declared.Edit.TheVariants.{Letter as EditLetter, Kind as EditKind, Lengths as EditLengths, PutIn as EditPutIn, TakeOut as EditTakeOut}
use Rattle.changes.proofs.Accepting.{limits_pass, accepts_fits, fits_letter, fits_in, fits_out}
use Rattle.shifts.specs.Shifts.{replacing}
use Rattle.sheet.specs.Bounds.{text_of, in_bounds}
use Rattle.sheet.specs.Calls.{answered, said_of, applied, changed, change_faults, change_call, newest_of, last_taken, take_back_faults, take_back_call, put_again_faults, put_again_call, open_call}
use Rattle.sheet.specs.Question.{SheetReply}
use Rattle.sheet.specs.declared.Said.{Said}
use Rattle.sheet.specs.declared.Sheet.{Sheet}
use Rattle.sheet.specs.declared.Reply.{Reply}
use Rattle.sheet.proofs.Asked.{sheet_laws}
use Rattle.sheet.proofs.Replying.{answered_either, change_named, change_sound, back_accepted, done_accepted}
use Rattle.sheet.proofs.Within.{bounds}
use Rattle.lines.specs.Lines.{change, Short, Proper, Reads}
use Rattle.lines.specs.declared.Line.{Line}
use Rattle.lines.specs.declared.Line.TheVariants.{Open, Change as Changing, TakeBack, PutAgain, Question}
use Rattle.replies.specs.Replies.{said_text, restored_text, tiling_text}
use Rattle.desk.specs.Desk.{map_of, opening, called, calling, Shown, Does}
use Rattle.desk.specs.declared.Desk.{Desk}
use Rattle.rooms.specs.Rooms.{LettersOf, Bytes, RepliesFit}
use Rattle.rooms.proofs.Rooms.{holds}
use Rattle.rooms.proofs.Lengths.{refusal_length, Small, said_length, restored_length, tiling_length}

-- a number listed is as short as those of the list
listed_short : (k : ℕ) (ns : List ℕ) → Short ns → OneOf k ns → k < 10000
listed_short k [] h o = absurd o
listed_short k (n ∷ ns) h (inl e) = omega (arith, h.0)
listed_short k (n ∷ ns) h (inr o) = listed_short k ns h.1 o

-- a call says short numbers where its refusals' are, each of which it names, and those of what it accepts
answered_small : (faults : List (ℕ × Bool)) (s : Sheet) (accepted : Reply) → AllNamed faults → Short (numbers faults) → (0 ≡ first_fault faults → Small accepted.said) → Small (answered faults s accepted).said
answered_small faults s accepted n h a =
    answered_either faults s accepted (λ r. Small r.said)
    (λ z. record { number = rw (fault_named faults n z) (listed_short (first_fault faults) (0 ∷ numbers faults) (omega arith, h) (fault_listed faults)); values = (omega arith, (omega arith, (omega arith, (omega arith, tt)))) })
    a

-- an edit that writes a letter writes a byte
abbrev ByteOf : Edit → Type 0
ByteOf (EditLetter p b) = b < 256
ByteOf (EditKind k d) = Unit {0}
ByteOf (EditLengths m g) = Unit {0}
ByteOf (EditPutIn p b) = b < 256
ByteOf (EditTakeOut p) = Unit {0}

-- so does one that a line asks for
asked_byte : (e : Edit) → Proper (change e) → ByteOf e
asked_byte (EditLetter p b) h = omega (arith, h.1)
asked_byte (EditKind k d) h = tt
asked_byte (EditLengths m g) h = tt
asked_byte (EditPutIn p b) h = omega (arith, h.1)
asked_byte (EditTakeOut p) h = tt

-- one that takes back a kept change
back_byte : (c : Change) → LettersOf c → ByteOf (back_of c)
back_byte (ChangedLetter p old new) h = h.0
back_byte (DidKind k₀ d₀ k d) h = tt
back_byte (DidLengths m₀ g₀ m g) h = tt
back_byte (DidPutIn p b) h = tt
back_byte (DidTakeOut p b) h = h

-- and one that makes it again
done_byte : (c : Change) → LettersOf c → ByteOf (done_of c)
done_byte (ChangedLetter p old new) h = h.1
done_byte (DidKind k₀ d₀ k d) h = tt
done_byte (DidLengths m₀ g₀ m g) h = tt
done_byte (DidPutIn p b) h = h
done_byte (DidTakeOut p b) h = tt

-- limits that pass are short numbers, with k changes standing
limits_short : (l : Limits) (k : ℕ) → first_fault (limits_faults l) ≡ 0 → k ≤ 64 → Short (l.kind ∷ l.m ∷ l.g ∷ l.d ∷ k ∷ [])
limits_short l k f few =
    let w = sound_limits l f in
    let kind : l.kind ≤ 2 = ⊎_elim (λ (e : l.kind ≡ 1). omega arith) (λ (e : l.kind ≡ 2). omega arith) w.kind in
    (omega arith, (omega (arith, w.short), (omega (arith, w.few), (omega (arith, w.near), (omega arith, tt)))))

-- each call on a sheet says short numbers
module _ (s : Sheet) (b : Bytes s) where
  -- an accepted edit leaves limits that pass
  passes : in_bounds s ≡ true → (e : Edit) → accepts s.n s.alphabet e ≡ true → first_fault (limits_faults (limits_by e s.limits)) ≡ 0
  passes i e a = limits_pass s.n s.alphabet s.limits (opening_parts (text_of s) s.limits (bounds s i).opens).1 e a

  -- an edit that is accepted, with k changes standing
  edit_small : (e : Edit) (k : ℕ) → in_bounds s ≡ true → accepts s.n s.alphabet e ≡ true → ByteOf e → k ≤ 64
      → Small (Ok (said_of (replacing e s.letters s.limits) (length_by e s.n) k (limits_by e s.limits)))
  unfolding replacing
  edit_small (EditLetter p c) k i a h few =
      let n = (bounds s i).letters in
      let w = fits_letter s.n p c (accepts_fits s.n s.alphabet (EditLetter p c) a) in
      record { number = omega arith; values = (omega arith, (omega (arith, b.letters p), (omega arith, (omega arith, tt)))) }
  edit_small (EditKind c d) k i a h few = record { number = omega arith; values = limits_short _ k (passes i (EditKind c d) a) few }
  edit_small (EditLengths m g) k i a h few = record { number = omega arith; values = limits_short _ k (passes i (EditLengths m g) a) few }
  edit_small (EditPutIn p c) k i a h few =
      let w = fits_in s.n p c (accepts_fits s.n s.alphabet (EditPutIn p c) a) in
      record { number = omega arith; values = (omega arith, (omega arith, (omega arith, (omega arith, tt)))) }
  edit_small (EditTakeOut p) k i a h few =
      let n = (bounds s i).letters in
      let w = fits_out s.n p (accepts_fits s.n s.alphabet (EditTakeOut p) a) in
      record { number = omega arith; values = (omega arith, (omega (arith, b.letters p), (omega arith, (omega arith, tt)))) }

  -- a call for a change
  faults_short : (e : Edit) → Short (numbers (change_faults s e))
  unfolding change_faults edit_faults place_fault letter_fault kind_faults lengths_faults
  faults_short (EditLetter p c) = (omega arith, (omega arith, (omega arith, (omega arith, tt))))
  faults_short (EditKind k d) = (omega arith, (omega arith, (omega arith, (omega arith, tt))))
  faults_short (EditLengths m g) = (omega arith, (omega arith, (omega arith, tt)))
  faults_short (EditPutIn p c) = (omega arith, (omega arith, (omega arith, (omega arith, (omega arith, tt)))))
  faults_short (EditTakeOut p) = (omega arith, (omega arith, (omega arith, tt)))

  change_small : (e : Edit) → ByteOf e → Small (change_call s e).said
  unfolding changed
  change_small e h =
      answered_small (change_faults s e) _ _ (change_named s e) (faults_short e)
      (λ z. let w = change_sound s e z in edit_small e (s.standing + 1) w.0 w.1 h (omega (arith, w.2)))

  -- past 24 and the test after it there is a change to take back, or to put again
  there_is : (k many : ℕ) → 0 < k → 0 ≡ first_fault ((24, not (in_bounds s)) ∷ (k, eqb many 0) ∷ []) → (in_bounds s ≡ true) × (many ≡ 0 → ⊥)
  there_is k many h e =
      let (w, z) = passed 24 (not (in_bounds s)) ((k, eqb many 0) ∷ []) (omega arith) (sym e) in
      (not_off _ w, eqb-false _ _ (passed k (eqb many 0) [] h z).0)

  -- a take-back
  back_small : Small (take_back_call s).said
  unfolding take_back_faults applied
  back_small =
      answered_small (take_back_faults s) _ _ (refl, (refl, tt)) (omega arith, (omega arith, tt))
      (λ e.
      let (i, some) = there_is 8 s.standing (omega arith) e in
      edit_small (back_of (newest_of s)) (s.standing - 1) i (back_accepted s i some)
      (back_byte (newest_of s) (b.kept (s.standing - 1))) (omega (arith, (bounds s i).few)))

  -- a put-again
  again_small : Small (put_again_call s).said
  unfolding put_again_faults applied
  again_small =
      answered_small (put_again_faults s) _ _ (refl, (refl, tt)) (omega arith, (omega arith, tt))
      (λ e.
      let (i, some) = there_is 9 s.taken (omega arith) e in
      edit_small (done_of (last_taken s)) (s.standing + 1) i (done_accepted s i some)
      (done_byte (last_taken s) (b.kept s.standing)) (omega (arith, (bounds s i).few)))

-- so does an opening
open_small : (x : Text) (l : Limits) → Small (open_call x l).said
unfolding opening_faults text_faults string_faults map_faults alphabet_faults limits_faults
open_small x l =
    answered_small (opening_faults x l) _ _ (opening_named x l) (omega arith, (omega arith, (omega arith, (omega arith, (omega arith, (omega arith, (omega arith, tt)))))))
    (λ e. record { number = omega arith; values = (omega (arith, (sound_opening x l (sym e)).0.short), (omega arith, tt)) })

-- a question: its refusal, or the tiling given
shown_length : (s : Sheet) (t t' m m' out : List ℕ) → Shown s t t' m m' out → length out ≤ 65536
shown_length s t t' m m' out p =
    ⊎_elim (λ r. rw r.1 (omega (arith, refusal_length (number_in p.answer) number))) (λ r. rw r.3 (given r.0 r.1 r.2 p.reply)) p.printed
  where
    number : number_in p.answer < 10000
    number =
        listed_short (number_in p.answer) (0 ∷ 24 ∷ 11 ∷ 10 ∷ 12 ∷ []) (omega arith, (omega arith, (omega arith, (omega arith, (omega arith, tt)))))
        ((sheet_laws s t m).listed t' m' p.answer p.reply)

    given : (ps : List Part) → Given (board (text_of s) s.limits) 0 s.limits.g ps → p.answer ≡ figures ps → SheetReply s t t' m m' p.answer → length (tiling_text (text_of s) ps) ≤ 65536
    given ps g e (inl r) = let z : ◌≡◌ {A = ℕ} 24 0 = ap number_in (sym r.1 ∙ e) in absurd (omega arith)
    given ps g e (inr r) =
        let (x, l) = holds s r.0 in
        omega (arith, tiling_length (text_of s) s.limits x.short l.near s.limits.g ps l.few g.permitted)

-- a call: 14, or what it says
calling_length : (d : Desk) → IfSome d.sheet Bytes → (call : Sheet → Reply) (show : Result Said Refusal → List ℕ) → ((s : Sheet) → Bytes s → length (show (call s).said) ≤ 29)
    → length (calling d call show).1 ≤ 65536
unfolding calling
calling_length d b call show h = go d.sheet b
  where
    go : (o : Option Sheet) → IfSome o Bytes → length (called d call show o).1 ≤ 65536
    go None b = omega (arith, refusal_length 14 (omega arith))
    go (Some s) b = omega (arith, h s b)

-- every line's reply
module _ (d : Desk) (xs : List ℕ) (b : IfSome d.sheet Bytes) (t t' m m' : List ℕ) where
  text_length : (line : Option Line) (o : Desk × List ℕ) → Reads xs line → Does d xs line t t' m m' o → length o.1 ≤ 65536
  unfolding opening
  text_length (Some (Open l c from)) o q p = rw p.0 (omega (arith, said_length _ (open_small (text_all (drop from xs) (map_of c)) l)))
  text_length (Some (Changing e)) o q p = rw p.0 (calling_length d b _ said_text (λ s i. omega (arith, said_length _ (change_small s i e (asked_byte e q.proper)))))
  text_length (Some TakeBack) o q p = rw p.0 (calling_length d b _ (restored_text 66) (λ s i. restored_length 66 _ (back_small s i)))
  text_length (Some PutAgain) o q p = rw p.0 (calling_length d b _ (restored_text 65) (λ s i. restored_length 65 _ (again_small s i)))
  text_length (Some Question) o q (inl p) = rw p.1 (omega (arith, refusal_length 14 (omega arith)))
  text_length (Some Question) o q (inr p) = shown_length p.0 t t' m m' o.1 p.3
  text_length None o q p = rw p.0 (omega (arith, refusal_length 13 (omega arith)))

-- so the room holds the whole text
pub replies_fit : RepliesFit
replies_fit d line t t' m m' out out' r b h reply =
    omega (arith, reply.puts.next, text_length d line b t t' m m' reply.line (r.desk, reply.text) reply.reads reply.does)
