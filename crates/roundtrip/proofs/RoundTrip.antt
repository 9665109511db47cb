-- What a question wrote is the records of a permitted tiling, so it agrees. Assumes nothing.
use mathlib.Core.Path.{◌≡◌, ap, ap₂, ◌∙◌}
use mathlib.Core.List.{List, ◌++◌}
use mathlib.Core.Logic.{inl, inr, ⊎_elim}
use Prim.Native.Nat.{ℕ, ◌*◌, ◌≤◌, ◌<◌}
use native.Mathlib.Omega.{arith}
use lib.ListN.{length, take, drop}
use lib.Seq.{take_at}
use Rattle.terms.specs.Refusals.{first_fault}
use Rattle.terms.specs.Texts.{Text, opening_faults}
use Rattle.terms.specs.declared.limits.Limits.{Limits}
use Rattle.terms.proofs.Order.{le_or_lt}
use Rattle.terms.proofs.Refusals.{fault_none, opening_numbered}
use Rattle.tilings.specs.Tilings.{Part, None, Given}
use Rattle.boards.specs.Pieces.{board}
use Rattle.records.specs.Records.{record_size, records_from}
use Rattle.records.proofs.Sizes.{records_length}
use Rattle.questions.specs.Tiling.{Answer, number_in, parts_in, table_faults, refusal, figures, handing}
use Rattle.questions.proofs.Handed.{handing_short, handing_whole}
use Rattle.questions.proofs.Passing.{refused_number}
use Rattle.returned.specs.Returned.{Agrees}
use Rattle.returned.proofs.Laws.{agree_laws}
use Rattle.roundtrip.specs.RoundTrip.{file_of, ComesBack, WrittenComesBack, SheetComesBack}

module _ (x : Text) (l : Limits) (room room' : List ℕ) (r : Answer) where
  -- the opening is among what the question tests first
  opening_passed : (lent : ℕ) → first_fault (table_faults x l lent) ≡ 0 → first_fault (opening_faults x l) ≡ 0
  unfolding table_faults
  opening_passed lent f = (fault_none (opening_faults x l) _ (opening_numbered x l) f).0

  module _ (ps : List Part) (g : Given (board x l) 0 l.g ps) where
    -- the records written are the file
    file_is : r ≡ figures ps → room' ≡ records_from x 0 ps ++ drop (record_size * length ps) room → file_of r room' ≡ records_from x 0 ps
    file_is e w =
        ap₂ (λ (n : ℕ) (y : List ℕ). take (record_size * n) y) (ap parts_in e) w
        ∙ take_at (records_from x 0 ps) (drop (record_size * length ps) room) (record_size * length ps) (records_length x 0 ps)

    back : first_fault (opening_faults x l) ≡ 0 → file_of r room' ≡ records_from x 0 ps → ComesBack x l room' r
    back f e =
        let a : Agrees x l (file_of r room') = record { parts = ps; permitted = g.permitted; written = e } in
        let laws = agree_laws x l (file_of r room') in
        record { parts = ps; given = g; handed = laws.handed a; yes = laws.exactly f a }

pub written_comes_back : WrittenComesBack
written_comes_back x l t t' room room' r (inl f) z =
    let k : number_in r ≡ first_fault (table_faults x l (length t)) = refused_number f in
    let h : 0 < first_fault (table_faults x l (length t)) = f.fault in
    absurd (omega arith)
written_comes_back x l t t' room room' r (inr a) z =
    ⊎_elim
    (λ (w : None (board x l) 0 l.g × (r ≡ refusal 10) × (room' ≡ room)). absurd (let k : number_in r ≡ 10 = ap number_in w.1 in omega arith))
    (λ (w : (ps : List Part) × Given (board x l) 0 l.g ps × (r ≡ (handing x ps room).0) × (room' ≡ (handing x ps room).1)).
    ⊎_elim
    (λ (h : record_size * length w.0 ≤ length room).
    let e = handing_whole x w.0 room h in
    back x l room room' r w.0 w.1 (opening_passed x l room room' r (length t) a.fault) (file_is x l room room' r w.0 w.1 (w.2 ∙ ap (λ (y : Answer × List ℕ). y.0) e) (w.3 ∙ ap (λ (y : Answer × List ℕ). y.1) e)))
    (λ (h : length room < record_size * length w.0).
    absurd (let k : number_in r ≡ 12 = ap number_in (w.2 ∙ ap (λ (y : Answer × List ℕ). y.0) (handing_short x w.0 room h)) in omega arith))
    (le_or_lt (record_size * length w.0) (length room)))
    a.handed

pub sheet_comes_back : SheetComesBack
sheet_comes_back s t t' room room' r (inl f) z = absurd (let k : number_in r ≡ 24 = ap number_in f.1 in omega arith)
sheet_comes_back s t t' room room' r (inr a) z = written_comes_back _ _ t t' room room' r a.1 z
