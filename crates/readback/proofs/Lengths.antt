-- The maximal length of a centre as a function that antt computes, and the list of all of them. Assumes nothing.
use mathlib.Core.Path.{◌≡◌, refl, sym, ap, ◌∙◌, subst}
use mathlib.Core.Bool.{Bool, true, false}
use mathlib.Core.List.{List}
use Prim.Native.Nat.{ℕ, zero, suc, ◌+◌, ◌-◌, ◌/◌, ◌%◌, ◌≤◌, ◌<◌}
use native.Mathlib.Omega.{arith}
use borrow.Author.Tests.{ltb-true, ltb-false, leb-true, leb-false, eqb-true, eqb-false}
use lib.Dec.{ltb, leb, eqb}
use Rattle.terms.specs.Maps.{values_from}
use Rattle.terms.specs.Alphabets.{own_partner}
use Rattle.terms.specs.Texts.{Text, size}
use Rattle.terms.proofs.Supplied.{values_at}
use Rattle.spans.specs.Palindromes.{differs, one, centres, MaximalLength}
use Rattle.spans.specs.Centres.{Holds}
use Rattle.spans.proofs.Walking.{Walk, Reaches, barred, walk_start, walk_step, stop_start, stop_end, stop_over}

-- Outward from a, with e errors so far.
unfoldable pub outward : Text → ℕ → ℕ → ℕ → ℕ → ℕ
unfolding one
outward x d c zero e = c + 1
outward x d c (suc i) e =
    elim (ltb (c - i) (size x)) [
      | false ↦ c + 1 - (suc i + suc i)
      | true ↦ elim (leb (e + one (differs x.letters x.map i (c - i))) d) [ false ↦ c + 1 - (suc i + suc i) | true ↦ outward x d c i (e + one (differs x.letters x.map i (c - i))) ]
    ]

outward_is : (x : Text) (d c a e : ℕ) → Walk x.letters x.map d c a e → Reaches x.letters x.map d c (outward x d c a e)
unfolding outward
outward_is x d c zero e w = stop_start x.letters x.map d c 0 e w (omega arith) (c + 1) (omega arith)
outward_is x d c (suc i) e w = first (λ e' w'. outward_is x d c i e' w') (ltb (c - i) (size x)) refl
  where
    v : ℕ
    v = one (differs x.letters x.map i (c - i))

    p : suc i - 1 ≡ i
    p = omega arith

    same : v ≡ one (differs x.letters x.map (suc i - 1) (c - (suc i - 1)))
    same = ap (λ (j : ℕ). one (differs x.letters x.map j (c - j))) (sym p)

    second : ((e' : ℕ) → Walk x.letters x.map d c i e' → Reaches x.letters x.map d c (outward x d c i e')) → (t : Bool) → leb (e + v) d ≡ t → c - i < size x → Reaches x.letters x.map d c (elim t [ false ↦ c + 1 - (suc i + suc i) | true ↦ outward x d c i (e + v) ])
    second ih false h l = stop_over x.letters x.map d c (suc i) e w v (omega arith) same (leb-false (e + v) d h) _ refl
    second ih true h l =
        ih (e + v)
        (subst (λ (j : ℕ). Walk x.letters x.map d c j (e + v)) p (walk_step x.letters x.map d c (suc i) e w v (omega arith) (omega arith) same (leb-true (e + v) d h)))

    first : ((e' : ℕ) → Walk x.letters x.map d c i e' → Reaches x.letters x.map d c (outward x d c i e')) → (t : Bool) → ltb (c - i) (size x) ≡ t → Reaches x.letters x.map d c (elim t [ false ↦ c + 1 - (suc i + suc i) | true ↦ elim (leb (e + v) d) [ false ↦ c + 1 - (suc i + suc i) | true ↦ outward x d c i (e + v) ] ])
    first ih false h = let k : size x ≤ c - i = ltb-false (c - i) (size x) h in stop_end x.letters x.map d c (suc i) e w (omega arith) (omega arith) _ refl
    first ih true h = second ih (leb (e + v) d) refl (ltb-true (c - i) (size x) h)

-- own says whether a letter of the alphabet is its own partner
unfoldable pub longest : Bool → Text → ℕ → ℕ → ℕ
unfolding outward
longest true x d c = outward x d c (c / 2 + 1) 0
longest false x d c = elim (eqb (c % 2) 0) [ true ↦ 0 | false ↦ outward x d c (c / 2 + 1) 0 ]

pub longest_is : (own : Bool) (x : Text) → own ≡ own_partner x.map x.alphabet → (d c : ℕ) → c < centres (size x) → MaximalLength x d c (longest own x d c)
unfolding longest
longest_is true x o d c h = outward_is x d c (c / 2 + 1) 0 (walk_start x.letters x.map d c h) x.alphabet (λ z. sym o)
longest_is false x o d c h = go (eqb (c % 2) 0) refl
  where
    go : (t : Bool) → eqb (c % 2) 0 ≡ t → MaximalLength x d c (elim t [ true ↦ 0 | false ↦ outward x d c (c / 2 + 1) 0 ])
    go true e = barred x d c (eqb-true (c % 2) 0 e) (sym o)
    go false e = outward_is x d c (c / 2 + 1) 0 (walk_start x.letters x.map d c h) x.alphabet (λ z. absurd (eqb-false (c % 2) 0 e z))

unfoldable pub lengths_of : Text → ℕ → List ℕ
lengths_of x d = values_from 0 (centres (size x)) (longest (own_partner x.map x.alphabet) x d)

pub lengths_held : (x : Text) (d : ℕ) → Holds x d (lengths_of x d)
unfolding lengths_of
lengths_held x d c h =
    let own : Bool = own_partner x.map x.alphabet in
    subst (MaximalLength x d c) (sym (values_at (longest own x d) 0 (centres (size x)) c h ∙ ap (longest own x d) (let e : 0 + c ≡ c = omega arith in e))) (longest_is own x refl d c h)
