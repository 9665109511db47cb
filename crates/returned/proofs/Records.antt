-- A record, and the records behind it. Assumes nothing.
use Rattle.std.proofs.Common.{◌≡◌, ℕ, zero, suc, ◌+◌, ◌*◌, ◌%◌, Bool, true, false, List, [], ◌∷◌, ◌++◌, length, take, drop, length-append, get_or-append-add, sym, ap, ◌∙◌, subst, arith}
use Rattle.std.proofs.lemmas.List.{take-append-le}
use Rattle.std.proofs.Math.Seq.{drop-append-add}
use denote.Ref.{Bor}
use denote.Param.Members.{Mut, Called}
use Rattle.std.specs.Prelude.{None, Some}
use Rattle.std.specs.Iterator.{ChecksAll}
use Rattle.std.specs.declared.slice.ChunksExact.{ChunksExact}
use Rattle.std.specs.Slice.Iter.{chunks_exact_rest, chunks_exact_size, chunks_exact_steps}
use Rattle.terms.specs.Tells.{Tells}
use Rattle.terms.specs.Texts.{Text}
use Rattle.terms.specs.declared.limits.Limits.{Limits}
use Rattle.spans.proofs.Exactness.{Bytes}
use Rattle.reader.specs.Reader.{record_bytes}
use Rattle.judged.specs.Judged.{Right}
use Rattle.returned.specs.Work.{AllRight, Judged}

module _ (x : Text) (l : Limits) (s t : List ℕ) (six : length s ≡ 6) where
  pub first : record_bytes (s ++ t) 0 ≡ record_bytes s 0
  first = take-append-le 6 s t (omega arith)

  later : (k : ℕ) → record_bytes (s ++ t) (6 * suc k) ≡ record_bytes t (6 * k)
  later k =
      let e : 6 * suc k ≡ length s + 6 * k = omega arith in
      ap (take 6) (ap (λ (n : ℕ). drop n (s ++ t)) e ∙ drop-append-add s t (6 * k))

  pub all_first : AllRight x l (s ++ t) → Right x l (record_bytes s 0)
  all_first all = subst (Right x l) first (all 0 (omega (arith, length-append s t)))

  pub all_later : AllRight x l (s ++ t) → AllRight x l t
  all_later all k h = subst (Right x l) (later k) (all (suc k) (omega (arith, length-append s t)))

  pub all_more : Right x l (record_bytes s 0) → AllRight x l t → AllRight x l (s ++ t)
  all_more w all zero h = subst (Right x l) (sym first) w
  all_more w all (suc k) h = subst (Right x l) (sym (later k)) (all k (omega (arith, length-append s t)))

module _ (x : Text) (l : Limits) where
  -- the first is no right part; or it is one, and the others are judged
  judged_off : (whole s t : List ℕ) → whole ≡ s ++ t → length s ≡ 6 → (Right x l (record_bytes s 0) → ⊥) → Judged false x l whole
  unfolding Judged
  judged_off whole s t e six n =
      rw e (record { number = 0; inside = omega (arith, length-append s t); wrong = λ w. n (subst (Right x l) (first x l s t six) w) })

  judged_on : (whole s t : List ℕ) → whole ≡ s ++ t → length s ≡ 6 → Right x l (record_bytes s 0) → (r : Bool) → Judged r x l t → Judged r x l whole
  unfolding Judged
  judged_on whole s t e six w true all = rw e (all_more x l s t six w all)
  judged_on whole s t e six w false h =
      let wrong = λ (v : Right x l (record_bytes (s ++ t) (6 * suc h.number))). h.wrong (subst (Right x l) (later x l s t six h.number) v) in
      rw e (record { number = suc h.number; inside = omega (arith, h.inside, length-append s t); wrong = wrong })

pub whole_later : (whole s t : List ℕ) → whole ≡ s ++ t → length s ≡ 6 → length whole % 6 ≡ 0 → length t % 6 ≡ 0
whole_later whole s t e six h = omega (arith, ap length e, length-append s t)

pub bytes_later : (whole s t : List ℕ) → whole ≡ s ++ t → Bytes whole → Bytes t
bytes_later whole s t e h k = rw (e, get_or-append-add) at (h (length s + k))

-- The calls of `all` on what is left, each of which tells of its record.
module _ (x : Text) (l : Limits) {F : Type 0} {g : Mut F (Bor (List ℕ) × Unit {0}) Bool} (f : F)
    (told : (y : Bor (List ℕ)) (b : Bool) (q : F) → Called g f (y, tt) b q → (q ≡ f) × Tells b (Right x l (record_bytes y.now 0))) where
  pub judged_all : (s u : ChunksExact ℕ) (r : Bool) → chunks_exact_size s ≡ 6 → length (chunks_exact_rest s) % 6 ≡ 0
      → ChecksAll chunks_exact_steps g s f r u → Judged r x l (chunks_exact_rest s)
  unfolding Judged Tells
  judged_all s u r six even ([], None, j, y, k, m) = let p = rw (sym y.1, six) at y.2 in rw m (λ i low. absurd (omega (arith, p.1.0)))
  judged_all s u r six even ([], Some v, j, y, k, m) =
      let p = rw (sym y.1, six) at y.2 in
      let n = rw (sym k) at m.1.1 in
      rw m.0 (judged_off x l _ _ _ p.1.0 p.1.1 (told v false m.1.0 n).1)
  judged_all s u r six even (v ∷ xs, o, j, y, k, m) =
      let n = y.1.1 in
      let w = told v true k.0 k.1 in
      judged_on x l _ _ _ n.1.0 (n.1.1 ∙ six) w.1 r (judged_all y.1.0 u r (n.0 ∙ six) (whole_later _ _ _ n.1.0 (n.1.1 ∙ six) even) (xs, o, j, (y.0, y.1.2, y.2), rw w.0 at k.2, m))
