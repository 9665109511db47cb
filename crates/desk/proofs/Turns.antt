-- What the desk does with a call's reply, and with a question's. Assumes nothing.
use mathlib.Core.Path.{◌≡◌, refl, sym, ap, ap₂, ◌∙◌, subst}
use mathlib.Core.Bool.{Bool, true, false}
use mathlib.Core.List.{List, [], ◌∷◌, ◌++◌}
use mathlib.Core.Logic.{inl, inr}
use Prim.Native.Nat.{ℕ, ◌*◌, ◌/◌, ◌<◌}
use native.Mathlib.Omega.{arith}
use borrow.Author.Tests.{eq-eqb, ne_eqb}
use lib.Dec.{ltb}
use lib.ListN.{length, take, drop}
use lib.Seq.{take-append_seam}
use Rattle.std.specs.Prelude.{Ok, Err, Some}
use Rattle.terms.specs.Refusals.{first_fault, refusal_number}
use Rattle.terms.specs.Alphabets.{all_bytes}
use Rattle.terms.specs.Texts.{Text, text, text_all}
use Rattle.terms.specs.declared.limits.Limits.{Limits}
use Rattle.terms.specs.declared.refusal.Refusal.{Refusal}
use Rattle.terms.proofs.Named.{not_zero}
use Rattle.tilings.specs.Tilings.{Part, Given, gaps, total}
use Rattle.boards.specs.Pieces.{board}
use Rattle.records.specs.Records.{record_size, records_from}
use Rattle.records.proofs.Sizes.{records_length}
use Rattle.questions.specs.Tiling.{Answer, number_in, table_faults, refusal, figures, room_refusal, handing, HandsOver}
use Rattle.questions.specs.declared.Figures.{Figures}
use Rattle.questions.proofs.Passing.{refused_number}
use Rattle.sheet.specs.Bounds.{text_of}
use Rattle.sheet.specs.Calls.{number_of, open_call}
use Rattle.sheet.specs.Question.{SheetReply}
use Rattle.sheet.specs.declared.Said.{Said}
use Rattle.sheet.specs.declared.Sheet.{Sheet}
use Rattle.sheet.specs.declared.Reply.{Reply}
use Rattle.printing.specs.Printing.{printed, Put}
use Rattle.replies.specs.Replies.{refusal_text, said_text, tiling_text}
use Rattle.replies.specs.Work.{record_lines}
use Rattle.replies.proofs.Lines.{lines_of_records}
use Rattle.desk.specs.declared.Desk.{Desk}
use Rattle.desk.specs.declared.Turn.{Turn}
use Rattle.desk.specs.Desk.{with_sheet, map_of, opening}
use Rattle.desk.specs.Work.{Turned, AskedOf}

-- an opening: accepted, or refused with the former sheet
module _ (d : Desk) (string map z : List ℕ) (c : Bool) (l : Limits) (given : Reply) (e : given ≡ open_call (text string map z) l) (f : map ≡ map_of c) (y : z ≡ all_bytes) where
  -- the reply is that of the map named
  named : given ≡ open_call (text_all string (map_of c)) l
  named = e ∙ ap₂ (λ (m w : List ℕ). open_call (text string m w) l) f y

  module _ {out out' : List ℕ} {r : Turn} where
    pub opening_accepted : (w : Said) → given.said ≡ Ok w → Turned (with_sheet given.sheet, said_text given.said) out out' r → Turned (opening d (open_call (text_all string (map_of c)) l)) out out' r
    unfolding opening
    opening_accepted w h p = rw (← named, eq-eqb (number_of given.said) 0 (ap number_of h)) p

    pub opening_refused : (f : Refusal) → given.said ≡ Err f → Turned (d, refusal_text (refusal_number f)) out out' r → Turned (opening d (open_call (text_all string (map_of c)) l)) out out' r
    unfolding opening
    opening_refused f h p =
        rw (← named, ne_eqb (number_of given.said) 0 (λ z. not_zero f (sym (ap number_of h) ∙ z)))
        (p.0, subst (λ (t : List ℕ). Put out 0 t r.written out') (ap said_text (sym h)) p.1)

-- A question that was accepted.
pub record Accepted (s : Sheet) (room' : List ℕ) (a : Answer) : Type 0 where
  pub parts : List Part
  pub given : Given (board (text_of s) s.limits) 0 s.limits.g parts
  pub answer : a ≡ figures parts
  pub rest : List ℕ
  pub records : room' ≡ records_from (text_of s) 0 parts ++ rest

module _ (s : Sheet) (room room' : List ℕ) (a : Answer) (z : number_in a ≡ 0) where
  -- a reply with another number is none
  not_refused : (b : Answer) → a ≡ b → 0 < number_in b → ⊥
  not_refused b e h = let q : number_in b ≡ 0 = ap number_in (sym e) ∙ z in omega arith

  handed_over : (ps : List Part) → Given (board (text_of s) s.limits) 0 s.limits.g ps → (t : Bool) → ltb (length room) (record_size * length ps) ≡ t
      → a ≡ (handing (text_of s) ps room).0 → room' ≡ (handing (text_of s) ps room).1 → Accepted s room' a
  handed_over ps g true h e f = absurd (not_refused (room_refusal ps) (rw h at e) (omega arith))
  handed_over ps g false h e f = record { parts = ps; given = g; answer = rw h at e; rest = drop (record_size * length ps) room; records = rw h at f }

  hands : HandsOver (text_of s) s.limits room room' a → Accepted s room' a
  hands (inl p) = absurd (not_refused (refusal 10) p.1 (omega arith))
  hands (inr p) = handed_over p.0 p.1 (ltb (length room) (record_size * length p.0)) refl p.2 p.3

  pub accepted : (table table' : List ℕ) → SheetReply s table table' room room' a → Accepted s room' a
  accepted table table' (inl p) = absurd (not_refused (refusal 24) p.1 (omega arith))
  accepted table table' (inr (b, inl p)) =
      let h : 0 < first_fault (table_faults (text_of s) s.limits (length table)) = p.fault in
      let k : number_in a ≡ first_fault (table_faults (text_of s) s.limits (length table)) = refused_number p in
      absurd (omega arith)
  accepted table table' (inr (b, inr p)) = hands p.handed

-- a question that is answered with figures shows the tiling given
module _ (d : Desk) (q : Sheet) (h : d.sheet ≡ Some q) (f : Figures) {table table' room room' : List ℕ} (s : SheetReply q table table' room room' (Ok f)) {out out' : List ℕ} {r : Turn} where
  pub asked_shown : r.desk ≡ d
      → Put out 0 (printed 81 (f.total ∷ f.parts ∷ f.gaps ∷ []) ++ record_lines (take (6 * f.parts) room') (length (take (6 * f.parts) room') / 6)) r.written out'
      → AskedOf d table table' room room' out out' r
  asked_shown e p =
      let w = accepted q room room' (Ok f) refl table table' s in
      let x : Text = text_of q in
      let k : Ok f ≡ figures w.parts = w.answer in
      let those : f ≡ record { total = total w.parts; parts = length w.parts; gaps = gaps w.parts } = cc in
      let first : List ℕ = records_from x 0 w.parts in
      let long : length first ≡ 6 * length w.parts = records_length x 0 w.parts in
      let lent : take (6 * f.parts) room' ≡ first =
      ap₂ (λ (b : Figures) (m : List ℕ). take (6 * b.parts) m) those w.records
      ∙ ap (λ (n : ℕ). take n (first ++ w.rest)) (sym long)
      ∙ take-append_seam first w.rest in
      let many : length first / 6 ≡ length w.parts = omega (arith, long) in
      let same : printed 81 (f.total ∷ f.parts ∷ f.gaps ∷ []) ++ record_lines (take (6 * f.parts) room') (length (take (6 * f.parts) room') / 6) ≡ tiling_text x w.parts =
      ap₂ (λ (b : Figures) (m : List ℕ). printed 81 (b.total ∷ b.parts ∷ b.gaps ∷ []) ++ record_lines m (length m / 6)) those lent
      ∙ ap (λ (m : List ℕ). printed 81 (total w.parts ∷ length w.parts ∷ gaps w.parts ∷ []) ++ m) (ap (record_lines first) many ∙ lines_of_records x 0 w.parts) in
      (tiling_text x w.parts, inr (q, h, e, record { answer = Ok f; reply = s; printed = inr (w.parts, w.given, w.answer, refl) }), subst (λ (m : List ℕ). Put out 0 m r.written out') same p)
