-- The part records, stored one after the other. Assumes nothing.
use mathlib.Core.Path.{◌≡◌, refl, sym, ap, ap₂, ◌∙◌, subst}
use mathlib.Core.Bool.{true, false}
use mathlib.Core.List.{List, [], ◌∷◌, ◌++◌, map, append-nil, append_assoc}
use Prim.Native.Nat.{ℕ, suc, ◌+◌, ◌*◌, ◌/◌, ◌%◌, ◌≤◌, ◌<◌}
use native.Mathlib.Omega.{arith}
use native.Mathlib.Numerals.{add-one}
use lib.Dec.{eqb}
use lib.ListN.{length, get_or, take, drop, length-append, drop_of_length-le}
use lib.Seq.{take_at, drop-cons, drop-drop, drop-append-add}
use Rattle.terms.specs.Texts.{Text}
use Rattle.spans.specs.Palindromes.{error_count}
use Rattle.tilings.specs.Tilings.{Part, piece, gap}
use Rattle.tilings.specs.Laws.{length_of}
use Rattle.tilings.specs.Work.{decode}
use Rattle.tilings.proofs.Codes.{decode_even, decode_odd}
use Rattle.records.specs.Records.{record_size, record_of, records_from}
use Rattle.records.specs.Work.{Fit, Writable}

-- One record more: where the next part begins, and what the room holds.
abbrev pub Put : Text → ℕ → Part → ℕ → List ℕ → List ℕ → ℕ → Type 0
Put x i q at l l' r = (r ≡ i + length_of q) × (l' ≡ take at l ++ record_of x i q ++ drop (at + record_size) l)

pub code_length : (c : ℕ) → length_of (decode c) ≡ c / 2
unfolding decode
code_length c = elim (eqb (c % 2) 0) as (λ b. length_of (elim b [ true ↦ piece (c / 2) | false ↦ gap (c / 2) ]) ≡ c / 2) [ true ↦ refl | false ↦ refl ]

-- The part numbered c, from place i, its length len, with t for tag and error count.
module _ (x : Text) (c i len : ℕ) (e : len ≡ c / 2) where
  even : c % 2 ≡ 0 → decode c ≡ piece len
  even h = decode_even c h ∙ ap piece (sym e)

  module _ (t : ℕ × ℕ) (b : List ℕ) (made : b ≡ t.0 ∷ t.1 ∷ i / 256 ∷ i % 256 ∷ len / 256 ∷ len % 256 ∷ []) where
    pub bytes_piece : c % 2 ≡ 0 → (u : ℕ) → u ≡ error_count x.letters x.map i len → t ≡ (80, u) → b ≡ record_of x i (decode c)
    bytes_piece h u k q = rw (even h, made, q, k) refl

    pub bytes_gap : (c % 2 ≡ 0 → ⊥) → t ≡ (71, 0) → b ≡ record_of x i (decode c)
    bytes_gap n q = rw (decode_odd c n, made, q, e) refl

-- The first k records are stored; i is the place of the next part.
pub record Putting (x : Text) (codes : List ℕ) (room₀ : List ℕ) (room : List ℕ) (k i : ℕ) : Type 0 where
  pub long : length room ≡ length room₀
  pub rest : Writable x i (map decode (drop k codes))
  pub stored : List ℕ
  pub size : length stored ≡ 6 * k
  pub now : room ≡ stored ++ drop (6 * k) room₀
  pub all : stored ++ records_from x i (map decode (drop k codes)) ≡ records_from x 0 (map decode codes)

module _ (x : Text) (codes : List ℕ) (room₀ : List ℕ) where
  pub putting_start : Writable x 0 (map decode codes) → Putting x codes room₀ room₀ 0 0
  putting_start w =
      record { long = refl; rest = w; stored = []; size = refl; now = refl; all = refl }

  pub putting_end : (room : List ℕ) (k i n : ℕ) → Putting x codes room₀ room k i → length codes ≤ k → k ≡ n
      → room ≡ records_from x 0 (map decode codes) ++ drop (6 * n) room₀
  putting_end room k i n p h e =
      let d : drop k codes ≡ [] = drop_of_length-le codes {i = k} h in
      let a : p.stored ≡ records_from x 0 (map decode codes) = sym (append-nil p.stored) ∙ ap (λ (z : List ℕ). p.stored ++ records_from x i (map decode z)) (sym d) ∙ p.all in
      p.now ∙ ap₂ (λ (s : List ℕ) (z : ℕ). s ++ drop (6 * z) room₀) a e

  module _ (room : List ℕ) (k i : ℕ) (p : Putting x codes room₀ room k i) (lt : k < length codes) where
    cell : drop k codes ≡ get_or codes k 0 ∷ drop (suc k) codes
    cell = drop-cons codes k 0 lt

    head : Writable x i (map decode (get_or codes k 0 ∷ drop (suc k) codes))
    head = subst (λ (z : List ℕ). Writable x i (map decode z)) cell p.rest

    pub putting_fit : Fit x i (decode (get_or codes k 0))
    unfolding Writable
    putting_fit = head.0

    pub putting_next : (room' : List ℕ) (r : ℕ) → length room' ≡ length room → Put x i (decode (get_or codes k 0)) (6 * k) room room' r → Putting x codes room₀ room' (k + 1) r
    unfolding Writable
    putting_next room' r kept w =
        record {
          long = kept ∙ p.long;
          rest = subst (λ (z : ℕ). Writable x z (map decode (drop (k + 1) codes))) (sym w.0) (subst (λ (z : ℕ). Writable x (i + length_of (decode (get_or codes k 0))) (map decode (drop z codes))) (sym (add-one k)) head.1);
          stored = p.stored ++ S;
          size = let a : length (p.stored ++ S) ≡ length p.stored + length S = length-append p.stored S in let b : length S ≡ 6 = refl in let c : length p.stored ≡ 6 * k = p.size in omega arith;
          now = w.1 ∙ ap₂ (λ (a b : List ℕ). a ++ S ++ b) front back;
          all = append_assoc p.stored S (records_from x r (map decode (drop (k + 1) codes))) ∙ ap (λ (z : List ℕ). p.stored ++ z) tail ∙ p.all;
        }
      where
        S : List ℕ
        S = record_of x i (decode (get_or codes k 0))

        front : take (6 * k) room ≡ p.stored
        front = ap (take (6 * k)) p.now ∙ take_at p.stored (drop (6 * k) room₀) (6 * k) p.size

        back : drop (6 * k + 6) room ≡ drop (6 * (k + 1)) room₀
        back =
            ap₂ (λ (n : ℕ) (z : List ℕ). drop n z) (let e : 6 * k + 6 ≡ length p.stored + 6 = let c : length p.stored ≡ 6 * k = p.size in omega arith in e) p.now
            ∙ drop-append-add p.stored (drop (6 * k) room₀) 6
            ∙ drop-drop 6 (6 * k) room₀
            ∙ ap (λ (n : ℕ). drop n room₀) (let e : 6 * k + 6 ≡ 6 * (k + 1) = omega arith in e)

        tail : S ++ records_from x r (map decode (drop (k + 1) codes)) ≡ records_from x i (map decode (drop k codes))
        tail =
            ap₂ (λ (a b : ℕ). S ++ records_from x a (map decode (drop b codes))) w.0 (add-one k)
            ∙ sym (ap (λ (z : List ℕ). records_from x i (map decode z)) cell)
