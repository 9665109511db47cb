-- The number read at a place is the one spelt there, and the number spelt there is read. Assumes nothing.
use mathlib.Core.Path.{◌≡◌, refl, sym, ap, ap₂, ◌∙◌, subst}
use mathlib.Core.List.{List, [], ◌∷◌, ◌++◌, append_assoc}
use Prim.Native.Nat.{ℕ, zero, suc, ◌+◌, ◌-◌, ◌*◌, ◌/◌, ◌%◌, ◌≤◌, ◌<◌}
use native.Mathlib.Omega.{arith}
use native.Mathlib.Decide.{dec_le}
use borrow.Author.Tests.{eqb-false, ne_eqb}
use lib.Dec.{eqb}
use lib.ListN.{length, drop}
use lib.Seq.{drop-drop}
use Rattle.printing.specs.Printing.{decimal}
use Rattle.printing.proofs.Laws.{decimal_one, decimal_more}
use Rattle.std.specs.Prelude.{Option, Some, None, cond}
use Rattle.std.proofs.lemmas.Bool.Decides.{nat_tests}
use Rattle.lines.specs.Work.{digit_at, number_of, number_at}
use Rattle.lines.proofs.Standing.{by_test, digit_most, digit_in, digit_drop, digit_on, digit_head}

-- w is spelt from place i up to n
pub record Spelt (xs : List ℕ) (i w n : ℕ) : Type 0 where
  pub inside : n ≤ length xs
  pub text : drop i xs ≡ decimal w ++ drop n xs

-- by a digit, if one is there
abbrev pub by_digit : {A : Type 0} → Option ℕ → A → (ℕ → A) → A
by_digit None none then = none
by_digit (Some d) none then = then d

by_digit_lem : {A : Type 0} (P : A → Type 0) (o : Option ℕ) (none : A) (then : ℕ → A) → (o ≡ None → P none) → ((d : ℕ) → o ≡ Some d → P (then d)) → P (by_digit o none then)
by_digit_lem P None none then p q = p refl
by_digit_lem P (Some d) none then p q = q d refl

-- a number gone on with, behind which so many digits more are looked for
abbrev pub further : List ℕ → ℕ → ℕ → ℕ → Option (ℕ × ℕ)
further xs zero v n = None
further xs (suc turns) v n = by_digit (digit_at xs n) (Some (v, n)) (λ d. cond (eqb v 0) None (further xs turns (v * 10 + d) (n + 1)))

-- how large it is
pub record Bounded (turns v : ℕ) : Type 0 where
  pub one : 4 ≤ turns → v ≤ 9
  pub two : 3 ≤ turns → v ≤ 99
  pub three : 2 ≤ turns → v ≤ 999
  pub four : 1 ≤ turns → v ≤ 9999

pub bounded_first : (v : ℕ) → v ≤ 9 → Bounded 4 v
bounded_first v h = record { one = λ _. h; two = λ _. omega arith; three = λ _. omega arith; four = λ _. omega arith }

pub bounded_next : (turns v d : ℕ) → Bounded (suc turns) v → turns ≤ 3 → d ≤ 9 → Bounded turns (v * 10 + d)
bounded_next turns v d b h k =
    record { one = λ l. absurd (omega arith); two = λ l. omega (arith, b.one (omega arith)); three = λ l. omega (arith, b.two (omega arith)); four = λ l. omega (arith, b.three (omega arith)) }

-- the number that five digits begin is its first digit gone on with
digits : (i a : ℕ) (b c d e : Option ℕ)
    → number_of i (Some a) b c d e
    ≡ by_digit b (Some (a, i + 1)) (λ b. cond (eqb a 0) None (by_digit c (Some (a * 10 + b, i + 2)) (λ c. cond (eqb (a * 10 + b) 0) None
    (by_digit d (Some ((a * 10 + b) * 10 + c, i + 3)) (λ d. cond (eqb ((a * 10 + b) * 10 + c) 0) None
    (by_digit e (Some (((a * 10 + b) * 10 + c) * 10 + d, i + 4)) (λ e. cond (eqb (((a * 10 + b) * 10 + c) * 10 + d) 0) None None)))))))
unfolding number_of
digits i a None c d e = refl
digits i a (Some b) None d e = refl
digits i a (Some b) (Some c) None e = grind (arith, nat_tests)
digits i a (Some b) (Some c) (Some d) None = grind (arith, nat_tests)
digits i a (Some b) (Some c) (Some d) (Some e) = grind (arith, nat_tests)

module _ (xs : List ℕ) (i : ℕ) where
  number_further : (v : ℕ) → digit_at xs i ≡ Some v → number_at xs i ≡ further xs 4 v (i + 1)
  number_further v e =
      let p₂ : i + 1 + 1 ≡ i + 2 = omega arith in
      let p₃ : i + 2 + 1 ≡ i + 3 = omega arith in
      let p₄ : i + 3 + 1 ≡ i + 4 = omega arith in
      rw e (rw (p₂, p₃, p₄) (digits i v (digit_at xs (i + 1)) (digit_at xs (i + 2)) (digit_at xs (i + 3)) (digit_at xs (i + 4))))

  -- v stands from place i up to n, and what it is the beginning of is read
  pub record Begun (v n : ℕ) : Type 0 where
    pub small : Bounded (i + 5 - n) v
    pub rest : number_at xs i ≡ further xs (i + 5 - n) v n

  pub begun_first : (v : ℕ) → digit_at xs i ≡ Some v → Begun v (i + 1)
  begun_first v e =
      let n : i + 5 - (i + 1) ≡ 4 = omega arith in
      record { small = rw n (bounded_first v (digit_most xs i v e)); rest = rw n (number_further v e) }

  pub begun_next : (v n d : ℕ) → i + 1 ≤ n → n < i + 5 → Begun v n → digit_at xs n ≡ Some d → (v ≡ 0 → ⊥) → Begun (v * 10 + d) (n + 1)
  begun_next v n d l h b e z =
      let t : i + 5 - n ≡ suc (i + 5 - (n + 1)) = omega arith in
      record {
        small = bounded_next (i + 5 - (n + 1)) v d (rw t at b.small) (omega arith) (digit_most xs n d e);
        rest = b.rest ∙ simp (t, e, ne_eqb v 0 z);
      }

  -- one digit more
  spelt_more : (w n d : ℕ) → Spelt xs i w n → 1 ≤ w → digit_at xs n ≡ Some d → Spelt xs i (w * 10 + d) (n + 1)
  spelt_more w n d p some e =
      let h = digit_most xs n d e in
      let v : ℕ = w * 10 + d in
      let q : v / 10 ≡ w = omega arith in
      let r : v % 10 ≡ d = omega arith in
      let t : decimal v ≡ decimal w ++ ((48 + d) ∷ []) = decimal_more v (omega arith) ∙ ap₂ (λ (x y : ℕ). decimal x ++ ((48 + y) ∷ [])) q r in
      record {
        inside = let l = digit_in xs n d e in omega arith;
        text =
            p.text
            ∙ ap (λ (z : List ℕ). decimal w ++ z) (digit_drop xs n d e)
            ∙ sym (append_assoc (decimal w) ((48 + d) ∷ []) (drop (n + 1) xs))
            ∙ ap (λ (z : List ℕ). z ++ drop (n + 1) xs) (sym t);
      }

  -- what a number read is
  abbrev pub Numbered : Option (ℕ × ℕ) → Type 0
  Numbered None = Unit {0}
  Numbered (Some p) = (p.0 < 10000) × Spelt xs i p.0 p.1

  further_sound : (turns v n : ℕ) → turns ≤ 4 → Bounded turns v → Spelt xs i v n → Numbered (further xs turns v n)
  further_sound zero v n h b p = tt
  further_sound (suc turns) v n h b p =
      by_digit_lem Numbered (digit_at xs n) _ _ (λ e. (omega (arith, b.four (omega arith)), p)) (λ d e.
      by_test Numbered (eqb v 0) _ _ (λ _. tt) (λ z.
      further_sound turns (v * 10 + d) (n + 1) (omega arith) (bounded_next turns v d b (omega arith) (digit_most xs n d e)) (spelt_more v n d p (omega (arith, eqb-false v 0 z)) e)))

  pub number_sound : Numbered (number_at xs i)
  unfolding number_of
  number_sound = go (digit_at xs i) refl
    where
      go : (o : Option ℕ) → digit_at xs i ≡ o → Numbered (number_at xs i)
      go None e = rw e tt
      go (Some a) e =
          let h = digit_most xs i a e in
          let p : Spelt xs i a (i + 1) =
          record {
            inside = let l = digit_in xs i a e in omega arith;
            text = digit_drop xs i a e ∙ ap (λ (z : List ℕ). z ++ drop (i + 1) xs) (sym (decimal_one a (omega arith)));
          } in
          subst Numbered (sym (number_further a e)) (further_sound 4 a (i + 1) (omega arith) (bounded_first a h) p)

-- the decimals of numbers of two, three and four digits
two_digits : (v : ℕ) → 10 ≤ v → v < 100 → decimal v ≡ (48 + v / 10) ∷ (48 + v % 10) ∷ []
two_digits v h l = decimal_more v h ∙ ap (λ (z : List ℕ). z ++ ((48 + v % 10) ∷ [])) (decimal_one (v / 10) (omega arith))

three_digits : (v : ℕ) → 100 ≤ v → v < 1000 → decimal v ≡ (48 + v / 10 / 10) ∷ (48 + v / 10 % 10) ∷ (48 + v % 10) ∷ []
three_digits v h l = decimal_more v (omega arith) ∙ ap (λ (z : List ℕ). z ++ ((48 + v % 10) ∷ [])) (two_digits (v / 10) (omega arith) (omega arith))

four_digits : (v : ℕ) → 1000 ≤ v → v < 10000 → decimal v ≡ (48 + v / 10 / 10 / 10) ∷ (48 + v / 10 / 10 % 10) ∷ (48 + v / 10 % 10) ∷ (48 + v % 10) ∷ []
four_digits v h l = decimal_more v (omega arith) ∙ ap (λ (z : List ℕ). z ++ ((48 + v % 10) ∷ [])) (three_digits (v / 10) (omega arith) (omega arith))

module _ (xs : List ℕ) where
  -- the digit with which what is left begins, or that none is there
  first : (i a : ℕ) (ys : List ℕ) → drop i xs ≡ (48 + a) ∷ ys → a ≤ 9 → digit_at xs i ≡ Some a
  first i a ys e h =
      let z : i ≡ i + 0 = omega arith in
      ap (digit_at xs) z ∙ digit_on xs i 0 ∙ ap (λ (l : List ℕ). digit_at l 0) e ∙ digit_head a ys h

  none : (i : ℕ) (ys : List ℕ) → drop i xs ≡ ys → digit_at ys 0 ≡ None → digit_at xs i ≡ None
  none i ys e h =
      let z : i ≡ i + 0 = omega arith in
      ap (digit_at xs) z ∙ digit_on xs i 0 ∙ ap (λ (l : List ℕ). digit_at l 0) e ∙ h

  pub on : (i j b : ℕ) (ys : List ℕ) → drop i xs ≡ b ∷ ys → j ≡ i + 1 → drop j xs ≡ ys
  on i j b ys e f = ap (λ (k : ℕ). drop k xs) f ∙ sym (drop-drop 1 i xs) ∙ ap (drop 1) e

  module _ (i v : ℕ) (rest : List ℕ) (small : v < 10000) (e : drop i xs ≡ decimal v ++ rest) (h : digit_at rest 0 ≡ None) where
    -- the digits found, one after the other
    module _ (ds : List ℕ) (t : decimal v ≡ ds) where
      begins : drop i xs ≡ ds ++ rest
      begins = e ∙ ap (λ (z : List ℕ). z ++ rest) t

      reading : (w : ℕ) → number_at xs i ≡ Some (w, i + length ds) → w ≡ v → number_at xs i ≡ Some (v, i + length (decimal v))
      reading w r q = r ∙ ap₂ (λ (x : ℕ) (z : List ℕ). Some (x, i + length z)) q (sym t)

    one : v < 10 → number_at xs i ≡ Some (v, i + length (decimal v))
    unfolding number_of
    one l =
        let t = decimal_one v l in
        let e₁ = begins _ t in
        let a = first i v rest e₁ (omega arith) in
        let q = none (i + 1) rest (on i (i + 1) _ _ e₁ refl) h in
        reading _ t _ (simp (a, q)) refl

    two : 10 ≤ v → v < 100 → number_at xs i ≡ Some (v, i + length (decimal v))
    unfolding number_of
    two k l =
        let t = two_digits v k l in
        let e₁ = begins _ t in
        let e₂ = on i (i + 1) _ _ e₁ refl in
        let e₃ = on (i + 1) (i + 2) _ _ e₂ (omega arith) in
        let a = first i (v / 10) _ e₁ (omega arith) in
        let b = first (i + 1) (v % 10) _ e₂ (omega arith) in
        reading _ t (v / 10 * 10 + v % 10) (simp (a, b, none (i + 2) rest e₃ h, ne_eqb (v / 10) 0 (λ z. omega arith))) (omega arith)

    three : 100 ≤ v → v < 1000 → number_at xs i ≡ Some (v, i + length (decimal v))
    unfolding number_of
    three k l =
        let t = three_digits v k l in
        let e₁ = begins _ t in
        let e₂ = on i (i + 1) _ _ e₁ refl in
        let e₃ = on (i + 1) (i + 2) _ _ e₂ (omega arith) in
        let e₄ = on (i + 2) (i + 3) _ _ e₃ (omega arith) in
        let a = first i (v / 10 / 10) _ e₁ (omega arith) in
        let b = first (i + 1) (v / 10 % 10) _ e₂ (omega arith) in
        let c = first (i + 2) (v % 10) _ e₃ (omega arith) in
        reading _ t (v / 10 / 10 * 100 + v / 10 % 10 * 10 + v % 10) (simp (a, b, c, none (i + 3) rest e₄ h, ne_eqb (v / 10 / 10) 0 (λ z. omega arith))) (omega arith)

    four : 1000 ≤ v → number_at xs i ≡ Some (v, i + length (decimal v))
    unfolding number_of
    four k =
        let t = four_digits v k small in
        let e₁ = begins _ t in
        let e₂ = on i (i + 1) _ _ e₁ refl in
        let e₃ = on (i + 1) (i + 2) _ _ e₂ (omega arith) in
        let e₄ = on (i + 2) (i + 3) _ _ e₃ (omega arith) in
        let e₅ = on (i + 3) (i + 4) _ _ e₄ (omega arith) in
        let a = first i (v / 10 / 10 / 10) _ e₁ (omega arith) in
        let b = first (i + 1) (v / 10 / 10 % 10) _ e₂ (omega arith) in
        let c = first (i + 2) (v / 10 % 10) _ e₃ (omega arith) in
        let d = first (i + 3) (v % 10) _ e₄ (omega arith) in
        reading _ t (v / 10 / 10 / 10 * 1000 + v / 10 / 10 % 10 * 100 + v / 10 % 10 * 10 + v % 10) (simp (a, b, c, d, none (i + 4) rest e₅ h, ne_eqb (v / 10 / 10 / 10) 0 (λ z. omega arith))) (omega arith)

    pub number_complete : number_at xs i ≡ Some (v, i + length (decimal v))
    number_complete =
        elim (dec_le 10 v) [
          | no h₁ ↦ one (omega arith)
          | yes h₁ ↦ elim (dec_le 100 v) [
            | no h₂ ↦ two h₁ (omega arith)
            | yes h₂ ↦ elim (dec_le 1000 v) [
              | no h₃ ↦ three h₂ (omega arith)
              | yes h₃ ↦ four h₃
            ]
          ]
        ]
