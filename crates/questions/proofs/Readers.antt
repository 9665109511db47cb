-- The laws for a reader hold of every reply to the tiling question, and there is one reply. Assumes nothing.
use mathlib.Core.Path.{◌≡◌, refl, sym, ap, ◌∙◌}
use mathlib.Core.List.{List, [], ◌∷◌}
use mathlib.Core.Logic.{inl, inr, ⊎_elim}
use Prim.Native.Nat.{ℕ, ◌*◌, ◌≤◌, ◌<◌}
use native.Mathlib.Omega.{arith}
use lib.ListN.{length}
use Rattle.terms.proofs.Order.{le_or_lt}
use Rattle.terms.specs.Refusals.{first_fault, OneOf}
use Rattle.terms.specs.Maps.{map_faults}
use Rattle.terms.specs.Alphabets.{alphabet_faults}
use Rattle.terms.specs.Limits.{limits_faults}
use Rattle.terms.specs.Texts.{Text, size, string_faults, text_faults, opening_faults}
use Rattle.terms.specs.declared.limits.Limits.{Limits}
use Rattle.terms.proofs.Refusals.{Numbered, numbered_append, opening_numbered, fault_listed, member, absent, one_of_append, tested_first, tested_next}
use Rattle.tilings.specs.Tilings.{Part, None, Given}
use Rattle.boards.specs.Pieces.{board}
use Rattle.boards.proofs.Laws.{board_laws}
use Rattle.records.specs.Records.{record_size}
use Rattle.questions.specs.Tiling.{Answer, number_in, parts_in, table_faults, refusal, room_refusal, figures, handing, HandsOver, Refused, Answered, TilingReply}
use Rattle.questions.specs.Laws.{NoRoom, tiling_numbers, ReplyLaws, OneReply}
use Rattle.questions.proofs.Handed.{handing_short, handing_whole}
use Rattle.questions.proofs.Passing.{refused_number}

module _ (x : Text) (l : Limits) where
  pub table_numbered : (lent : ℕ) → Numbered (table_faults x l lent)
  unfolding table_faults
  table_numbered lent = numbered_append (opening_faults x l) _ (opening_numbered x l) (omega arith, tt)

  -- the numbers that the tests may give
  early_listed : (lent : ℕ) → OneOf (first_fault (table_faults x l lent)) (0 ∷ 1 ∷ 2 ∷ 3 ∷ 18 ∷ 19 ∷ 4 ∷ 5 ∷ 11 ∷ [])
  unfolding table_faults opening_faults text_faults string_faults map_faults alphabet_faults limits_faults
  early_listed lent = fault_listed (table_faults x l lent)

  -- so 10 is none of them
  early_ten : (lent : ℕ) → first_fault (table_faults x l lent) ≡ 10 → ⊥
  unfolding member
  early_ten lent e = absent 10 (0 ∷ 1 ∷ 2 ∷ 3 ∷ 18 ∷ 19 ∷ 4 ∷ 5 ∷ 11 ∷ []) refl (rw e at (early_listed lent))

  abbrev Laws : List ℕ → List ℕ → List ℕ → List ℕ → Answer → Type 0
  Laws = ReplyLaws x l

  module _ (t t' room room' : List ℕ) (r : Answer) where
    refused_laws : Refused x l t t' room room' r → Laws t t' room room' r
    refused_laws f =
        record {
          number = tested_first _ (number_in r) (table_faults x l (length t)) f.fault e;
          listed = widen (number_in r) (rw (sym e) at (early_listed (length t)));
          ten = λ z. absurd (early_ten (length t) (sym e ∙ z));
          none = λ z. let h : 0 < first_fault (table_faults x l (length t)) = f.fault in absurd (omega arith);
          few = let z : parts_in r ≡ 0 = ap parts_in f.reply in omega arith;
        }
      where
        e : number_in r ≡ first_fault (table_faults x l (length t))
        e = refused_number f

        widen : (k : ℕ) → OneOf k (0 ∷ 1 ∷ 2 ∷ 3 ∷ 18 ∷ 19 ∷ 4 ∷ 5 ∷ 11 ∷ []) → OneOf k tiling_numbers
        widen k = one_of_append k (0 ∷ 1 ∷ 2 ∷ 3 ∷ 18 ∷ 19 ∷ 4 ∷ 5 ∷ 11 ∷ []) (10 ∷ 12 ∷ [])

    module _ (f : first_fault (table_faults x l (length t)) ≡ 0) where
      none_laws : None (board x l) 0 l.g → r ≡ refusal 10 → Laws t t' room room' r
      none_laws n e =
          let k : number_in r ≡ 10 = ap number_in e in
          let h = (board_laws x l).none l.g n in
          record {
            number = tested_next _ (number_in r) (table_faults x l (length t)) (table_numbered (length t)) f (inl (n, k));
            listed = inr (inr (inr (inr (inr (inr (inr (inr (inr (inl k)))))))));
            ten = λ z. (f, n, h.0, h.1);
            none = λ z y. k;
            few = let z : parts_in r ≡ 0 = ap parts_in e in omega arith;
          }

      module _ (ps : List Part) (g : Given (board x l) 0 l.g ps) where
        few_parts : (r : Answer) → parts_in r ≡ length ps → parts_in r ≤ size x
        few_parts r e = let h : length ps ≤ size x = (board_laws x l).few l.g ps g.permitted in omega arith

        some : None (board x l) 0 l.g → ⊥
        some n = n ps g.permitted

        short_laws : length room < record_size * length ps → r ≡ room_refusal ps → Laws t t' room room' r
        short_laws h e =
            let k : number_in r ≡ 12 = ap number_in e in
            record {
              number = tested_next _ (number_in r) (table_faults x l (length t)) (table_numbered (length t)) f (inr (some, inl ((ps, g, h), k)));
              listed = inr (inr (inr (inr (inr (inr (inr (inr (inr (inr (inl k))))))))));
              ten = λ z. absurd (omega arith);
              none = λ z y. absurd (some y);
              few = few_parts r (ap parts_in e);
            }

        whole_laws : record_size * length ps ≤ length room → r ≡ figures ps → Laws t t' room room' r
        whole_laws h e =
            let k : number_in r ≡ 0 = ap number_in e in
            record {
              number = tested_next _ (number_in r) (table_faults x l (length t)) (table_numbered (length t)) f (inr (some, inr (fits, k)));
              listed = inl k;
              ten = λ z. absurd (omega arith);
              none = λ z y. absurd (some y);
              few = few_parts r (ap parts_in e);
            }
          where
            fits : NoRoom x l room → ⊥
            fits w =
                let q : length w.0 ≡ length ps = ap length ((board_laws x l).given 0 l.g w.0 ps w.1 g) in
                let z : length room < record_size * length w.0 = w.2 in omega arith

  pub reply_laws : (t t' room room' : List ℕ) (r : Answer) → TilingReply x l t t' room room' r → Laws t t' room room' r
  reply_laws t t' room room' r (inl f) = refused_laws t t' room room' r f
  reply_laws t t' room room' r (inr a) =
      ⊎_elim
      (λ (w : None (board x l) 0 l.g × (r ≡ refusal 10) × (room' ≡ room)). none_laws t t' room room' r a.fault w.0 w.1)
      (λ (w : (ps : List Part) × Given (board x l) 0 l.g ps × (r ≡ (handing x ps room).0) × (room' ≡ (handing x ps room).1)).
      ⊎_elim
      (λ (h : record_size * length w.0 ≤ length room). whole_laws t t' room room' r a.fault w.0 w.1 h (w.2 ∙ ap (λ (y : Answer × List ℕ). y.0) (handing_whole x w.0 room h)))
      (λ (h : length room < record_size * length w.0). short_laws t t' room room' r a.fault w.0 w.1 h (w.2 ∙ ap (λ (y : Answer × List ℕ). y.0) (handing_short x w.0 room h)))
      (le_or_lt (record_size * length w.0) (length room)))
      a.handed

  -- The reply is one.
  module _ (t room : List ℕ) where
    never : (t' room' : List ℕ) (r : Answer) (t'' room'' : List ℕ) (s : Answer) → Refused x l t t' room room' r → Answered x l t t'' room room'' s → ⊥
    never t' room' r t'' room'' s f a = let h : 0 < first_fault (table_faults x l (length t)) = f.fault in let z = a.fault in omega arith

    handed_one : (room' room'' : List ℕ) (r s : Answer) → HandsOver x l room room' r → HandsOver x l room room'' s → (room' ≡ room'') × (r ≡ s)
    handed_one room' room'' r s (inl a) (inl b) = (a.2 ∙ sym b.2, a.1 ∙ sym b.1)
    handed_one room' room'' r s (inl a) (inr b) = absurd (a.0 b.0 b.1.permitted)
    handed_one room' room'' r s (inr a) (inl b) = absurd (b.0 a.0 a.1.permitted)
    handed_one room' room'' r s (inr a) (inr b) =
        let e : handing x a.0 room ≡ handing x b.0 room = ap (λ (ps : List Part). handing x ps room) ((board_laws x l).given 0 l.g a.0 b.0 a.1 b.1) in
        (a.3 ∙ ap (λ (y : Answer × List ℕ). y.1) e ∙ sym b.3, a.2 ∙ ap (λ (y : Answer × List ℕ). y.0) e ∙ sym b.2)

    pub one_reply : OneReply x l t room
    one_reply t' t'' room' room'' r s (inl a) (inl b) = (a.stays ∙ sym b.stays, a.kept ∙ sym b.kept, a.reply ∙ sym b.reply)
    one_reply t' t'' room' room'' r s (inl a) (inr b) = absurd (never t' room' r t'' room'' s a b)
    one_reply t' t'' room' room'' r s (inr a) (inl b) = absurd (never t'' room'' s t' room' r b a)
    one_reply t' t'' room' room'' r s (inr a) (inr b) =
        let h = handed_one room' room'' r s a.handed b.handed in
        ((board_laws x l).table l.g t t' t'' a.filled b.filled, h.0, h.1)
