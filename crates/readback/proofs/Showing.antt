-- Every reply that the promises allow shows what the definitions give. Assumes nothing.
use mathlib.Core.Path.{◌≡◌, sym, ap, ◌∙◌, subst}
use mathlib.Core.List.{List, ◌++◌}
use mathlib.Core.Logic.{inl, inr}
use Prim.Native.Nat.{ℕ, ◌+◌, ◌*◌, ◌/◌, ◌%◌, ◌≤◌, ◌<◌}
use native.Mathlib.Omega.{arith}
use native.Mathlib.Nat.{div-add-mod', mod-lt, div-lt_iff_lt-mul}
use borrow.Author.Tests.{le-ltb}
use lib.ListN.{length, get_or, take, drop}
use lib.Seq.{ext_get_or, get_or-take, length-take-le, take_at}
use Rattle.std.specs.Prelude.{Result, Ok, Err}
use Rattle.terms.specs.Refusals.{first_fault}
use Rattle.terms.specs.Limits.{too_many_errors}
use Rattle.terms.specs.Texts.{Text, size, text_faults, opening_faults}
use Rattle.terms.specs.declared.limits.Limits.{Limits}
use Rattle.terms.specs.declared.refusal.Refusal.{Refusal}
use Rattle.terms.proofs.Named.{not_zero}
use Rattle.terms.proofs.Refusals.{text_numbered, opening_numbered, fault_goes_on}
use Rattle.spans.specs.Palindromes.{centres}
use Rattle.spans.specs.Centres.{Holds, centres_faults, CentresReply}
use Rattle.spans.proofs.Walking.{longest_unique}
use Rattle.tilings.specs.Tilings.{Part, None, Given, Entry, entries, Table}
use Rattle.boards.specs.Pieces.{board}
use Rattle.boards.proofs.Laws.{board_laws}
use Rattle.records.specs.Records.{record_size, records_from}
use Rattle.records.proofs.Sizes.{records_length}
use Rattle.questions.specs.Tiling.{Answer, table_faults, refusal, figures, handing, HandsOver, Answered, TilingReply}
use Rattle.questions.proofs.Handed.{handing_whole}

-- A list of which the first entries are known begins with them.
begins : (xs ys : List ℕ) → length ys ≤ length xs → ((k : ℕ) → k < length ys → get_or xs k 0 ≡ get_or ys k 0) → take (length ys) xs ≡ ys
begins xs ys h at =
    ext_get_or 0 (take (length ys) xs) ys (length-take-le (length ys) xs h)
    (λ k l.
    let n : length (take (length ys) xs) ≡ length ys = length-take-le (length ys) xs h in
    let j : k < length ys = omega arith in
    get_or-take (length ys) xs k 0 j ∙ at k j)

module _ (x : Text) (l : Limits) (clear : first_fault (opening_faults x l) ≡ 0) where
  -- With a table long enough no test refuses.
  early : (lent : ℕ) → entries (size x) l.g ≤ lent → first_fault (table_faults x l lent) ≡ 0
  unfolding table_faults first_fault
  early lent h = fault_goes_on (opening_faults x l) _ (opening_numbered x l) clear ∙ simp (le-ltb _ _ h)

  answered : (t t' room room' : List ℕ) (r : Answer) → entries (size x) l.g ≤ length t → TilingReply x l t t' room room' r → Answered x l t t' room room' r
  answered t t' room room' r h (inl f) = let a = early (length t) h in let b : 0 < first_fault (table_faults x l (length t)) = f.fault in absurd (omega arith)
  answered t t' room room' r h (inr a) = a

  pub none_replies : None (board x l) 0 l.g → (t t' room room' : List ℕ) (r : Answer) → TilingReply x l t t' room room' r → entries (size x) l.g ≤ length t → (r ≡ refusal 10) × (room' ≡ room)
  none_replies n t t' room room' r p h = go (answered t t' room room' r h p).handed
    where
      go : HandsOver x l room room' r → (r ≡ refusal 10) × (room' ≡ room)
      go (inl w) = (w.1, w.2)
      go (inr w) = absurd (n w.0 w.1.permitted)

  -- Entries of the table that an example prints.
  abbrev pub Printed : List ℕ → Type 0
  Printed T = (k : ℕ) → k < length T → Entry (board x l) (k / (l.g + 1)) (k % (l.g + 1)) (get_or T k 0)

  table_begins : (t t' T : List ℕ) → entries (size x) l.g ≤ length t → length T ≤ entries (size x) l.g → Printed T → Table (board x l) l.g t t' → take (length T) t' ≡ T
  table_begins t t' T h n p tb = begins t' T (let e : length t' ≡ length t = tb.long in omega arith) at
    where
      at : (k : ℕ) → k < length T → get_or t' k 0 ≡ get_or T k 0
      at k j =
          let e : k / (l.g + 1) * (l.g + 1) + k % (l.g + 1) ≡ k = div-add-mod' k (l.g + 1) in
          let m : k % (l.g + 1) < l.g + 1 = mod-lt k (omega arith) in
          let w : k < (size x + 1) * (l.g + 1) = omega arith in
          let i : k / (l.g + 1) < size x + 1 = (div-lt_iff_lt-mul {k = l.g + 1} (omega arith)).1 w in
          (board_laws x l).entry (k / (l.g + 1)) (k % (l.g + 1)) _ _
          (subst (λ (z : ℕ). Entry (board x l) (k / (l.g + 1)) (k % (l.g + 1)) (get_or t' z 0)) e (tb.entry (k / (l.g + 1)) (k % (l.g + 1)) (omega arith) (omega arith)))
          (p k j)

  pub tiling_replies : (ps : List Part) → Given (board x l) 0 l.g ps → (T : List ℕ) → length T ≤ entries (size x) l.g → Printed T
      → (t t' room room' : List ℕ) (r : Answer) → TilingReply x l t t' room room' r → entries (size x) l.g ≤ length t → record_size * length ps ≤ length room
      → (r ≡ figures ps) × (take (record_size * length ps) room' ≡ records_from x 0 ps) × (take (length T) t' ≡ T)
  tiling_replies ps g T n p t t' room room' r q h w = go a.handed
    where
      a : Answered x l t t' room room' r
      a = answered t t' room room' r h q

      go : HandsOver x l room room' r → (r ≡ figures ps) × (take (record_size * length ps) room' ≡ records_from x 0 ps) × (take (length T) t' ≡ T)
      go (inl o) = absurd (o.0 ps g.permitted)
      go (inr o) =
          let e : handing x o.0 room ≡ (figures ps, records_from x 0 ps ++ drop (record_size * length ps) room) = ap (λ (qs : List Part). handing x qs room) ((board_laws x l).given 0 l.g o.0 ps o.1 g) ∙ handing_whole x ps room w in (
            o.2 ∙ ap (λ (y : Answer × List ℕ). y.0) e,
            ap (take (record_size * length ps)) (o.3 ∙ ap (λ (y : Answer × List ℕ). y.1) e) ∙ take_at (records_from x 0 ps) (drop (record_size * length ps) room) (record_size * length ps) (records_length x 0 ps),
            table_begins t t' T h n p a.filled,
          )

pub centres_replies : (x : Text) (d : ℕ) → first_fault (text_faults x) ≡ 0 → d ≤ 15 → (T : List ℕ) → length T ≡ centres (size x) → Holds x d T
    → (b a : List ℕ) (r : Result ℕ Refusal) → CentresReply x d b a r → centres (size x) ≤ length b → (r ≡ Ok (length T)) × (take (length T) a ≡ T)
unfolding centres_faults first_fault too_many_errors
centres_replies x d clear h T n held b a r p w = go r p
  where
    k : first_fault (centres_faults x d (length b)) ≡ 0
    k = fault_goes_on (text_faults x) _ (text_numbered x) clear ∙ simp (le-ltb _ _ h, le-ltb _ _ w)

    go : (r : Result ℕ Refusal) → CentresReply x d b a r → (r ≡ Ok (length T)) × (take (length T) a ≡ T)
    go (Ok c) p =
        let q = p.accepted in
        (ap Ok (q.0 ∙ sym n), begins a T (let e : length a ≡ length b = q.1.long in omega arith) (λ c j. longest_unique (q.1.filled c (omega arith)) (held c (omega arith))))
    go (Err e) p = absurd (not_zero e (p.number ∙ k))
