-- The laws for a reader hold. Assumes nothing.
use Rattle.std.proofs.Common.{◌≡◌, ℕ, ◌+◌, ◌%◌, ◌<◌, List, [], ◌∷◌, length, refl, sym, ap, subst, inl, inr, ⊎_elim, arith, eq-zero-or-pos}
use Rattle.terms.specs.Refusals.{first_fault, FirstFault, OneOf}
use Rattle.terms.specs.Texts.{Text, size, string_faults, text_faults, opening_faults}
use Rattle.terms.specs.Maps.{map_faults}
use Rattle.terms.specs.Alphabets.{alphabet_faults}
use Rattle.terms.specs.Limits.{limits_faults}
use Rattle.terms.specs.declared.limits.Limits.{Limits}
use Rattle.terms.proofs.Refusals.{fault_unique}
use Rattle.tilings.specs.Tilings.{Part, piece, gap, Tiles}
use Rattle.tilings.specs.Laws.{lengths}
use Rattle.tilings.proofs.Covers.{covers}
use Rattle.boards.specs.Pieces.{board}
use Rattle.records.specs.Records.{record_of, records_from}
use Rattle.records.proofs.Sizes.{records_length}
use Rattle.reader.proofs.Laws.{walked}
use Rattle.returned.specs.Returned.{Agrees, file_faults, agree_faults, AgreeReply}
use Rattle.returned.specs.Laws.{AgreeLaws}
use Rattle.returned.specs.Work.{AllRight}
use Rattle.returned.proofs.Records.{all_more}
use Rattle.returned.proofs.Judging.{reply_opening, reply_yes}

-- the numbers of a list of faults, and 0: the first fault is one of them
abbrev numbers : List (ℕ × Type 0) → List ℕ
numbers [] = []
numbers (t ∷ ts) = t.0 ∷ numbers ts

listed_faults : (ts : List (ℕ × Type 0)) (k : ℕ) → FirstFault ts k → OneOf k (0 ∷ numbers ts)
listed_faults [] k f = inl f
listed_faults (t ∷ ts) k (inl f) = inr (inl f.1)
listed_faults (t ∷ ts) k (inr f) = ⊎_elim inl (λ o. inr (inr o)) (listed_faults ts k f.1)

module _ (x : Text) (l : Limits) where
  -- every record of a tiling is a right part
  all_right : (i : ℕ) (ps : List Part) → Tiles (board x l) i ps → AllRight x l (records_from x i ps)
  all_right i [] t = λ k h. absurd (omega arith)
  all_right i (piece L ∷ ps) t =
      all_more x l (record_of x i (piece L)) _ refl (record { start = i; part = piece L; is = t.0; written = refl }) (all_right (i + L) ps t.1)
  all_right i (gap L ∷ ps) t =
      let h : i + L + lengths ps ≡ size x = covers (board x l) (i + L) ps t.2 in
      all_more x l (record_of x i (gap L)) _ refl (record { start = i; part = gap L; is = (t.0, omega arith); written = refl }) (all_right (i + L) ps t.2)

  module _ (file : List ℕ) where
    one_answer : (j k : ℕ) → AgreeReply x l file j → AgreeReply x l file k → j ≡ k
    one_answer j k a b = fault_unique (agree_faults x l file) j k a.number b.number

    opened : AgreeReply x l file 0 → first_fault (opening_faults x l) ≡ 0
    opened r =
        ⊎_elim (λ h. h)
        (λ (h : 0 < first_fault (opening_faults x l)). sym (one_answer 0 _ r (reply_opening x l file _ refl (λ z. omega arith))))
        (eq-zero-or-pos (first_fault (opening_faults x l)))

    yes_reply : first_fault (opening_faults x l) ≡ 0 → Agrees x l file → AgreeReply x l file 0
    yes_reply z a =
        let even : length file % 6 ≡ 0 = omega (arith, ap length a.written, records_length x 0 a.parts) in
        reply_yes x l file (sym z) even (subst (AllRight x l) (sym a.written) (all_right 0 a.parts a.permitted.tiles)) a

    pub agree_laws : AgreeLaws x l file
    unfolding file_faults opening_faults text_faults string_faults map_faults alphabet_faults limits_faults
    agree_laws =
        record {
          yes = λ r. (opened r, r.yes refl);
          exactly = λ z a k r. one_answer k 0 r (yes_reply z a);
          handed = λ a. walked x file 0 0 a.parts refl (omega arith) a.written;
          listed = λ k r. listed_faults (agree_faults x l file) k r.number;
          one = one_answer;
        }
