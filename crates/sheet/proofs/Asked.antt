-- What the opening's faults tell of the question's number, and the laws for a reader of the question on a sheet. Assumes nothing.
use mathlib.Core.Path.{◌≡◌, refl, sym, ap, ◌∙◌, subst}
use mathlib.Core.Bool.{true}
use mathlib.Core.List.{List, [], ◌∷◌}
use mathlib.Core.Logic.{inl, inr, ⊎_elim}
use Prim.Native.Nat.{ℕ, ◌*◌, ◌≤◌}
use native.Mathlib.Omega.{arith}
use borrow.Author.Tests.{le-ltb}
use lib.Dec.{T, ltb}
use lib.ListN.{length}
use Rattle.terms.specs.Refusals.{first_fault, OneOf}
use Rattle.terms.specs.Maps.{map_faults}
use Rattle.terms.specs.Alphabets.{alphabet_faults}
use Rattle.terms.specs.Limits.{limits_faults}
use Rattle.terms.specs.Texts.{Text, size, string_faults, opening_faults}
use Rattle.terms.specs.declared.limits.Limits.{Limits}
use Rattle.terms.proofs.Order.{le_or_lt}
use Rattle.terms.proofs.Refusals.{opening_numbered, string_passes, text_passes, fault_stays, fault_goes_on, fault_listed, one_of_append}
use Rattle.tilings.specs.Tilings.{Part, entries}
use Rattle.records.specs.Records.{record_size}
use Rattle.questions.specs.Tiling.{Answer, number_in, table_faults, handing, TilingReply}
use Rattle.questions.proofs.Handed.{handing_short, handing_whole}
use Rattle.questions.proofs.Passing.{refused_number}
use Rattle.questions.proofs.Readers.{one_reply}
use Rattle.sheet.specs.Bounds.{text_of, in_bounds}
use Rattle.sheet.specs.Question.{SheetReply, SheetLaws}
use Rattle.sheet.specs.declared.Sheet.{Sheet}
use Rattle.sheet.proofs.Within.{bounds}

module _ (x : Text) (l : Limits) where
  -- An opening has no fault where its string is no longer than 1,000, and its map, alphabet and limits pass.
  pub opening_passes : size x ≤ 1000 → first_fault (map_faults x.map) ≡ 0 → first_fault (alphabet_faults x.letters x.map x.alphabet) ≡ 0 → first_fault (limits_faults l) ≡ 0 → first_fault (opening_faults x l) ≡ 0
  unfolding string_faults first_fault
  opening_passes n f a g = sym (text_passes x l 0 0 (string_passes x 0 0 (simp (le-ltb _ _ n) (sym f)) refl (sym a)) refl (sym g))

  module _ (t t' room room' : List ℕ) (r : Answer) (p : TilingReply x l t t' room room' r) where
    -- A fault of the opening's is the question's.
    pub same_number : (first_fault (opening_faults x l) ≡ 0 → ⊥) → number_in r ≡ first_fault (opening_faults x l)
    unfolding table_faults
    same_number n = go p
      where
        stays : first_fault (table_faults x l (length t)) ≡ first_fault (opening_faults x l)
        stays = fault_stays (opening_faults x l) _ (omega arith)

        go : TilingReply x l t t' room room' r → number_in r ≡ first_fault (opening_faults x l)
        go (inl f) = refused_number f ∙ stays
        go (inr a) = absurd (n (sym stays ∙ a.fault))

    -- With no fault of the opening's the tests can only give 11, and what is handed over 10, 12 or 0.
    pub late : first_fault (opening_faults x l) ≡ 0 → OneOf (number_in r) (0 ∷ 11 ∷ 10 ∷ 12 ∷ [])
    unfolding table_faults
    late e = go p
      where
        goes : first_fault (table_faults x l (length t)) ≡ first_fault ((11, ltb (length t) (entries (size x) l.g)) ∷ [])
        goes = fault_goes_on (opening_faults x l) _ (opening_numbered x l) e

        given : (ps : List Part) → r ≡ (handing x ps room).0 → OneOf (number_in r) (0 ∷ 11 ∷ 10 ∷ 12 ∷ [])
        given ps q =
            ⊎_elim
            (λ h. inl (ap number_in q ∙ ap (λ (a : Answer × List ℕ). number_in a.0) (handing_whole x ps room h)))
            (λ h. inr (inr (inr (inl (ap number_in q ∙ ap (λ (a : Answer × List ℕ). number_in a.0) (handing_short x ps room h))))))
            (le_or_lt (record_size * length ps) (length room))

        go : TilingReply x l t t' room room' r → OneOf (number_in r) (0 ∷ 11 ∷ 10 ∷ 12 ∷ [])
        go (inl f) =
            one_of_append (number_in r) (0 ∷ 11 ∷ []) (10 ∷ 12 ∷ [])
            (rw (sym (refused_number f ∙ goes)) at (fault_listed ((11, ltb (length t) (entries (size x) l.g)) ∷ [])))
        go (inr a) = ⊎_elim (λ h. inr (inr (inl (ap number_in h.1)))) (λ h. given h.0 h.2) a.handed

-- What a sheet in its bounds holds could be opened.
pub content_opens : (s : Sheet) → in_bounds s ≡ true → first_fault (opening_faults (text_of s) s.limits) ≡ 0
content_opens s w = (bounds s w).opens

module _ (s : Sheet) (t m : List ℕ) where
  -- Out of bounds 24; in bounds what the question without a sheet gives, the opening's faults left out.
  listed : (t' m' : List ℕ) (r : Answer) → SheetReply s t t' m m' r → OneOf (number_in r) (0 ∷ 24 ∷ 11 ∷ 10 ∷ 12 ∷ [])
  listed t' m' r (inl p) = inr (inl (ap number_in p.1))
  listed t' m' r (inr p) = ⊎_elim inl (λ o. inr (inr o)) (late (text_of s) s.limits t t' m m' r p.1 (content_opens s p.0))

  -- The question on a sheet has one reply.
  one : (t' t'' m' m'' : List ℕ) (a b : Answer) → SheetReply s t t' m m' a → SheetReply s t t'' m m'' b → (t' ≡ t'') × (m' ≡ m'') × (a ≡ b)
  one t' t'' m' m'' a b (inl p) (inl q) = (p.2 ∙ sym q.2, p.3 ∙ sym q.3, p.1 ∙ sym q.1)
  one t' t'' m' m'' a b (inl p) (inr q) = absurd (subst T (sym q.0 ∙ p.0) tt)
  one t' t'' m' m'' a b (inr p) (inl q) = absurd (subst T (sym p.0 ∙ q.0) tt)
  one t' t'' m' m'' a b (inr p) (inr q) = one_reply (text_of s) s.limits t m t' t'' m' m'' a b p.1 q.1

  -- The laws for a reader hold of every sheet, table and room.
  pub sheet_laws : SheetLaws s t m
  sheet_laws = record { listed = listed; one = one }
