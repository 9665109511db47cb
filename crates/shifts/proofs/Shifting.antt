-- Letters put in and taken out: the others are copied one place up or down, and a letter or a zero is stored. Assumes nothing.
use mathlib.Core.Path.{◌≡◌, sym, ap, ap₂, ◌∙◌}
use mathlib.Core.List.{List, [], ◌∷◌, ◌++◌, append_assoc}
use Prim.Native.Nat.{ℕ, suc, ◌+◌, ◌-◌, ◌≤◌, ◌<◌}
use native.Mathlib.Numerals.{add-one}
use native.Mathlib.Omega.{arith}
use lib.ListN.{get_or, set, length, take, drop, length-append, length-drop}
use lib.Seq.{set_at, take-suc, drop-cons, append_snoc, length-take-le, take-take, take-add, drop_at}
use Rattle.std.specs.List.{copy_within}
use Rattle.shifts.specs.Shifts.{places_put_in, places_take_out}

-- The first n letters from place p on.
drop_of_first : (a : List ℕ) (n p : ℕ) → p ≤ n → p ≤ length a → drop p (take n a) ≡ take (n - p) (drop p a)
drop_of_first a n p h l =
    let e : n ≡ p + (n - p) = omega arith in
    ap (λ (k : ℕ). drop p (take k a)) e ∙ ap (drop p) (take-add p (n - p) a) ∙ drop_at (take p a) (take (n - p) (drop p a)) p (length-take-le p a l)

-- Copied up, and the byte stored at the place.
pub put_stored : (a x : List ℕ) (n p b : ℕ) → p ≤ n → n < length a → x ≡ copy_within a p n (p + 1) → set x p b ≡ places_put_in a n p b
unfolding places_put_in
put_stored a x n p b h l e =
    let v : ℕ = get_or a p 0 in
    let F : List ℕ = take p a in
    let M : List ℕ = take (n - p) (drop p a) in
    let z : List ℕ = drop (suc n) a in
    let q : p + 1 + (n - p) ≡ suc n = omega arith in
    let up : take (p + 1) a ≡ F ++ (v ∷ []) = ap (λ (k : ℕ). take k a) (add-one p) ∙ take-suc a p 0 (omega arith) in
    let at : x ≡ F ++ v ∷ (M ++ z) = e ∙ ap₂ (λ (u : List ℕ) (k : ℕ). (u ++ M) ++ drop k a) up q ∙ append_assoc (F ++ (v ∷ [])) M z ∙ append_snoc F v (M ++ z) in
    ap (λ (y : List ℕ). set y p b) at
    ∙ set_at F v (M ++ z) b p (length-take-le p a (omega arith))
    ∙ ap₂ (λ (u w : List ℕ). u ++ b ∷ (w ++ z)) (sym (take-take p n a h)) (sym (drop_of_first a n p h (omega arith)))
    ∙ sym (append_assoc (take p (take n a)) (b ∷ drop p (take n a)) z)

-- Copied down, and a zero stored behind them.
pub out_stored : (a x : List ℕ) (n p : ℕ) → p < n → n ≤ length a → x ≡ copy_within a (p + 1) n p → set x (n - 1) 0 ≡ places_take_out a n p
unfolding places_take_out
out_stored a x n p h l e =
    let F : List ℕ = take p a ++ take (n - suc p) (drop (suc p) a) in
    let s : suc (n - 1) ≡ n = omega arith in
    let q : p + (n - suc p) ≡ n - 1 = omega arith in
    let f : length (take p a) ≡ p = length-take-le p a (omega arith) in
    let d : length (drop (suc p) a) ≡ length a - suc p = length-drop (suc p) a in
    let m : length (take (n - suc p) (drop (suc p) a)) ≡ n - suc p = length-take-le (n - suc p) (drop (suc p) a) (omega arith) in
    let long : length F ≡ n - 1 = length-append (take p a) (take (n - suc p) (drop (suc p) a)) ∙ ap₂ ◌+◌ f m ∙ q in
    let at : x ≡ F ++ get_or a (n - 1) 0 ∷ drop n a
    = rw add-one at e ∙ ap (λ (k : ℕ). F ++ drop k a) q ∙ ap (λ (y : List ℕ). F ++ y) (drop-cons a (n - 1) 0 (omega arith)) ∙ ap (λ (k : ℕ). F ++ get_or a (n - 1) 0 ∷ drop k a) s in
    ap (λ (y : List ℕ). set y (n - 1) 0) at
    ∙ set_at F (get_or a (n - 1) 0) (drop n a) 0 (n - 1) long
    ∙ ap₂ (λ (u v : List ℕ). (u ++ v) ++ 0 ∷ drop n a) (sym (take-take p n a (omega arith))) (sym (drop_of_first a n (suc p) (omega arith) (omega arith)))
