-- Laws of what is printed: texts put one after the other, and numbers in decimal. Assumes nothing.
use mathlib.Core.Path.{◌≡◌, refl, sym, ap, ◌∙◌}
use mathlib.Core.Bool.{cond}
use mathlib.Core.List.{List, [], ◌∷◌, ◌++◌, append_assoc}
use Prim.Native.Nat.{ℕ, zero, suc, ◌+◌, ◌/◌, ◌%◌, ◌^◌, ◌≤◌, ◌<◌, min}
use native.Mathlib.Nat.{add-zero, min-eq_left, mod-eq_of_lt, one-le-pow, pow-suc}
use native.Mathlib.Numerals.{add-one, sub-one}
use native.Mathlib.Omega.{arith}
use native.Mathlib.Decide.{dec_le}
use lib.Dec.{ltb}
use lib.ListN.{length, take, set, get_or, length-append}
use lib.Seq.{sets, length-sets, set_out, take-suc}
use borrow.Author.Tests.{lt-ltb, le-ltb}
use Rattle.io.specs.Digits.{last_digits, IsDigitCount}
use Rattle.printing.specs.Printing.{decimal_by, decimal, fields, Put}
use Rattle.printing.specs.Pages.{PutOn}
use Rattle.printing.specs.declared.Page.{Page}

-- stores past the end change nothing
pub sets_past : (l : List ℕ) (i : ℕ) (a : List ℕ) → length l ≤ i → sets l i a ≡ l
sets_past l i [] h = refl
sets_past l i (x ∷ a) h = rw (set_out l i x h) (sets_past l (suc i) a (omega arith))

-- stores one after the other
pub sets_append : (l : List ℕ) (i : ℕ) (a b : List ℕ) → sets (sets l i a) (i + length a) b ≡ sets l i (a ++ b)
sets_append l i [] b = rw add-zero
sets_append l i (x ∷ a) b =
    let e : i + suc (length a) ≡ suc i + length a = omega arith in
    rw e (sets_append (set l i x) (suc i) a b)

-- stores past the end may as well start at the end
sets_min : (l : List ℕ) (i : ℕ) (a : List ℕ) → sets l (min i (length l)) a ≡ sets l i a
sets_min l i a =
    elim (dec_le i (length l)) [
      | yes h ↦ rw (min-eq_left h)
      | no h ↦ sets_past l _ a (omega arith) ∙ sym (sets_past l i a (omega arith))
    ]

-- nothing put
pub put_none : {xs : List ℕ} {i : ℕ} → i ≤ length xs → Put xs i [] i xs
put_none h = record { next = omega arith; now = refl }

module _ {xs : List ℕ} {i : ℕ} {a : List ℕ} {r : ℕ} {ys : List ℕ} (p : Put xs i a r ys) where
  pub put_length : length ys ≡ length xs
  put_length = ap length p.now ∙ length-sets xs i a

  pub put_end : r ≤ length xs
  put_end = omega (arith, p.next)

  -- one text after the other
  pub and_then : {b : List ℕ} {q : ℕ} {zs : List ℕ} → Put ys r b q zs → Put xs i (a ++ b) q zs
  and_then {b} t =
      record {
        next = omega (arith, p.next, t.next, put_length, length-append a b);
        now = cc (p.next, p.now, t.now, put_length, sets_min ys (i + length a) b, sets_append xs i a b);
      }

-- one text after the other on a page
pub then_on : {p q r : Page} {a b : List ℕ} → PutOn p a q → PutOn q b r → PutOn p (a ++ b) r
then_on s t = record { same_room = t.same_room ∙ s.same_room; put = and_then s.put t.put }

-- one more entry
pub take_next : (l : List ℕ) (i : ℕ) → i < length l → take (i + 1) l ≡ take i l ++ (get_or l i 0 ∷ [])
take_next l i h = rw (add-one, take-suc l i 0)

pub fields_append : (a b : List ℕ) → fields (a ++ b) ≡ fields a ++ fields b
fields_append [] b = refl
fields_append (n ∷ a) b = simp (fields_append a b, append_assoc)

pub fields_next : (l : List ℕ) (i : ℕ) → i < length l → fields (take (i + 1) l) ≡ fields (take i l) ++ fields (get_or l i 0 ∷ [])
fields_next l i h = rw (take_next l i h) (fields_append (take i l) (get_or l i 0 ∷ []))

-- divisions beyond the number change nothing
turns : (f g n : ℕ) → n ≤ f → n ≤ g → decimal_by f n ≡ decimal_by g n
turns zero zero n h k = refl
turns zero (suc g) n h k = let e : n ≡ 0 = omega arith in rw e
turns (suc f) zero n h k = let e : n ≡ 0 = omega arith in rw e
turns (suc f) (suc g) n h k = rw (turns f g (n / 10) (omega arith) (omega arith))

-- a number by its last digit and the others
step : (n : ℕ) → decimal n ≡ cond (ltb n 10) ((48 + n) ∷ []) (decimal (n / 10) ++ ((48 + n % 10) ∷ []))
unfolding decimal
step n = turns n (suc n) n (omega arith) (omega arith) ∙ rw (turns n (n / 10) (n / 10) (omega arith) (omega arith))

pub decimal_one : (n : ℕ) → n < 10 → decimal n ≡ (48 + n) ∷ []
decimal_one n h = rw (step n, lt-ltb n 10 h)

pub decimal_more : (n : ℕ) → 10 ≤ n → decimal n ≡ decimal (n / 10) ++ ((48 + n % 10) ∷ [])
decimal_more n h = rw (step n, le-ltb n 10 h)

-- a number of two digits or more, and its tenth
module _ (k n : ℕ) (h : IsDigitCount 10 1 n (suc (suc k))) where
  low : 10 ^ suc k ≤ n
  low = rw sub-one at (h.2 (omega arith))

  tenth : IsDigitCount 10 1 (n / 10) (suc k)
  tenth = (omega arith, omega (arith, pow-suc 10 (suc k)), λ x. rw sub-one (omega (arith, low, pow-suc 10 k)))

-- the digits that io writes are those of decimal
pub decimal_digits : (k n : ℕ) → IsDigitCount 10 1 n k → last_digits 10 k n ≡ decimal n
decimal_digits zero n h = absurd (omega arith)
decimal_digits (suc zero) n h =
    let l : n < 10 = omega arith in
    rw (decimal_one n l, mod-eq_of_lt l, lt-ltb n 10 l)
decimal_digits (suc (suc k)) n h =
    let l : 10 ≤ n = omega (arith, low k n h, pow-suc 10 k, one-le-pow k 10 (omega arith)) in
    rw (decimal_more n l, decimal_digits (suc k) (n / 10) (tenth k n h), lt-ltb (n % 10) 10 (omega arith))

-- a number below a power of ten has few digits
pub decimal_short : (k n : ℕ) → n < 10 ^ suc k → length (decimal n) ≤ suc k
decimal_short zero n h = rw (decimal_one n (omega arith)) (omega arith)
decimal_short (suc k) n h =
    elim (dec_le 10 n) [
      | yes l ↦ rw (decimal_more n l, length-append) (omega (arith, decimal_short k (n / 10) (omega (arith, pow-suc 10 (suc k)))))
      | no l ↦ rw (decimal_one n (omega arith)) (omega arith)
    ]
