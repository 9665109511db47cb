-- Two replies to one line are equal. Assumes nothing.
use mathlib.Core.Path.{◌≡◌, sym, ap, ap₂, ◌∙◌, subst}
use mathlib.Core.List.{List}
use mathlib.Core.Logic.{◌⊎◌, inl, inr}
use Prim.Native.Nat.{ℕ, ◌+◌, ◌<◌, min}
use native.Mathlib.Omega.{arith}
use lib.Dec.{T}
use lib.ListN.{length}
use lib.Seq.{sets}
use Rattle.std.specs.Prelude.{Option, Some, None, is_none}
use Rattle.tilings.specs.Tilings.{Part, Given}
use Rattle.tilings.proofs.Unique.{given_unique}
use Rattle.boards.specs.Pieces.{board}
use Rattle.questions.specs.Tiling.{Answer, number_in, figures}
use Rattle.sheet.specs.Bounds.{text_of}
use Rattle.sheet.specs.declared.Sheet.{Sheet}
use Rattle.sheet.proofs.Asked.{sheet_laws}
use Rattle.lines.specs.declared.Line.{Line}
use Rattle.lines.specs.declared.Line.TheVariants.{Open, Change, TakeBack, PutAgain, Question}
use Rattle.lines.proofs.Reading.{one_reading}
use Rattle.replies.specs.Replies.{refusal_text, tiling_text}
use Rattle.desk.specs.declared.Desk.{Desk}
use Rattle.desk.specs.Desk.{Shown, Stay, Does, OneTurn}

-- figures are no refusal
figures_not : (a b : Answer) (ps : List Part) → a ≡ b → 0 < number_in a → b ≡ figures ps → ⊥
figures_not a b ps e h f = let z : number_in a ≡ 0 = ap number_in (e ∙ f) in omega arith

-- what is shown of a question is one
shown_one : (s : Sheet) (t t' t'' m m' m'' x y : List ℕ) → Shown s t t' m m' x → Shown s t t'' m m'' y → (t' ≡ t'') × (m' ≡ m'') × (x ≡ y)
shown_one s t t' t'' m m' m'' x y p q = (same.0, same.1, go p.printed q.printed)
  where
    same : (t' ≡ t'') × (m' ≡ m'') × (p.answer ≡ q.answer)
    same = (sheet_laws s t m).one t' t'' m' m'' p.answer q.answer p.reply q.reply

    Print : Answer → List ℕ → Type 0
    Print a z = ((0 < number_in a) × (z ≡ refusal_text (number_in a))) ⊎ ((ps : List Part) × Given (board (text_of s) s.limits) 0 s.limits.g ps × (a ≡ figures ps) × (z ≡ tiling_text (text_of s) ps))

    go : Print p.answer x → Print q.answer y → x ≡ y
    go (inl u) (inl v) = u.1 ∙ ap (λ (a : Answer). refusal_text (number_in a)) same.2 ∙ sym v.1
    go (inl u) (inr v) = absurd (figures_not p.answer q.answer v.0 same.2 u.0 v.2)
    go (inr u) (inl v) = absurd (figures_not q.answer p.answer u.0 (sym same.2) v.0 u.2)
    go (inr u) (inr v) = u.3 ∙ ap (tiling_text (text_of s)) (given_unique (board (text_of s) s.limits) 0 s.limits.g u.0 v.0 u.1 v.1) ∙ sym v.3

-- One line brings about one thing.
abbrev Same : (o o' : Desk × List ℕ) (t' t'' m' m'' : List ℕ) → Type 0
Same o o' t' t'' m' m'' = (o ≡ o') × (t' ≡ t'') × (m' ≡ m'')

settled : (t t' t'' m m' m'' : List ℕ) (o o' w : Desk × List ℕ) → (o ≡ w) × Stay t t' m m' → (o' ≡ w) × Stay t t'' m m'' → Same o o' t' t'' m' m''
settled t t' t'' m m' m'' o o' w p q = (p.0 ∙ sym q.0, p.1.0 ∙ sym q.1.0, p.1.1 ∙ sym q.1.1)

does_one : (d : Desk) (xs : List ℕ) (line : Option Line) (t t' t'' m m' m'' : List ℕ) (o o' : Desk × List ℕ) → Does d xs line t t' m m' o → Does d xs line t t'' m m'' o' → Same o o' t' t'' m' m''
does_one d xs (Some (Open l c from)) t t' t'' m m' m'' o o' p q = settled t t' t'' m m' m'' o o' _ p q
does_one d xs (Some (Change e)) t t' t'' m m' m'' o o' p q = settled t t' t'' m m' m'' o o' _ p q
does_one d xs (Some TakeBack) t t' t'' m m' m'' o o' p q = settled t t' t'' m m' m'' o o' _ p q
does_one d xs (Some PutAgain) t t' t'' m m' m'' o o' p q = settled t t' t'' m m' m'' o o' _ p q
does_one d xs None t t' t'' m m' m'' o o' p q = settled t t' t'' m m' m'' o o' _ p q
does_one d xs (Some Question) t t' t'' m m' m'' o o' (inl p) (inl q) = (p.1 ∙ sym q.1, p.2.0 ∙ sym q.2.0, p.2.1 ∙ sym q.2.1)
does_one d xs (Some Question) t t' t'' m m' m'' o o' (inl p) (inr q) = absurd (subst (λ (x : Option Sheet). T (is_none x)) (sym p.0 ∙ q.1) tt)
does_one d xs (Some Question) t t' t'' m m' m'' o o' (inr p) (inl q) = absurd (subst (λ (x : Option Sheet). T (is_none x)) (sym q.0 ∙ p.1) tt)
does_one d xs (Some Question) t t' t'' m m' m'' o o' (inr p) (inr q) =
    let e : Some q.0 ≡ Some p.0 = sym q.1 ∙ p.1 in
    let one : q.0 ≡ p.0 = cc in
    let s = shown_one p.0 t t' t'' m m' m'' o.1 o'.1 p.3 (subst (λ (x : Sheet). Shown x t t'' m m'' o'.1) one q.3) in
    (ap₂ (λ (x : Desk) (y : List ℕ). (x, y)) (p.2 ∙ sym q.2) s.2, s.0, s.1)

pub one_turn : OneTurn
one_turn d xs t m out t' t'' m' m'' out' out'' r s p q =
    let e : q.line ≡ p.line = one_reading xs q.line p.line q.reads p.reads in
    let w : Does d xs p.line t t'' m m'' (s.desk, q.text) = subst (λ (z : Option Line). Does d xs z t t'' m m'' (s.desk, q.text)) e q.does in
    let same : Same (r.desk, p.text) (s.desk, q.text) t' t'' m' m'' = does_one d xs p.line t t' t'' m m' m'' (r.desk, p.text) (s.desk, q.text) p.does w in
    let text : p.text ≡ q.text = ap (λ (z : Desk × List ℕ). z.1) same.0 in
    let many : r.written ≡ s.written = p.puts.next ∙ ap (λ (z : List ℕ). min (0 + length z) (length out)) text ∙ sym q.puts.next in
    (ap₂ (λ (x : Desk) (n : ℕ). record { desk = x; written = n }) (ap (λ (z : Desk × List ℕ). z.0) same.0) many, same.1, same.2, p.puts.now ∙ ap (sets out 0) text ∙ sym q.puts.now)
