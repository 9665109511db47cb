-- What the library's methods give, in the words of the contracts, and a slice of which a part was written. Assumes nothing.
use mathlib.Core.Path.{◌≡◌}
use mathlib.Core.List.{List}
use mathlib.Core.Logic.{inl, inr, ⊎_elim}
use Prim.Native.Nat.{ℕ, ◌+◌, ◌≤◌, ◌<◌, min}
use native.Mathlib.Omega.{arith}
use borrow.Author.Rules.{rules}
use borrow.Rule.Slice.PartMut.{mid_of, put_mid, same_len_mid}
use lib.ListN.{length, get_or, length-take, length-drop}
use Rattle.std.proofs.lemmas.List.{places}
use Rattle.terms.proofs.Order.{le_or_lt}
use Rattle.tilings.specs.Work.{Lesser, Onward}

pub lesser_min : {a b v : ℕ} → v ≡ min a b → Lesser a b v
lesser_min {a} {b} e =
    record {
      left = omega arith;
      right = omega arith;
      is = ⊎_elim (λ (h : a ≤ b). inl (omega arith)) (λ (h : b < a). inr (omega arith)) (le_or_lt a b);
    }

pub onward_min : {v r : ℕ} → r ≡ min (v + 1) 65535 → Onward v r
onward_min e = record { none = λ h. omega arith; some = λ h. omega arith }

-- The m numbers from lo on are the part; all else stays.
pub record Put (lo m : ℕ) (part before after : List ℕ) : Type 0 where
  pub long : length after ≡ length before
  pub held : (k : ℕ) → k < m → get_or after (lo + k) 0 ≡ get_or part k 0
  pub under : (k : ℕ) → k < lo → get_or after k 0 ≡ get_or before k 0
  pub past : (k : ℕ) → lo + m ≤ k → get_or after k 0 ≡ get_or before k 0

pub part_put : (lo m : ℕ) (before part : List ℕ) → lo + m ≤ length before → length part ≡ m → Put lo m part before (put_mid lo m before part)
part_put lo m before part l s =
    let e : length (mid_of lo m before) ≡ m = simp (length-take, length-drop) (omega arith) in
    record {
      long = same_len_mid lo m before part (omega (arith, s, e));
      held = λ k h. search (rules, places);
      under = λ k a. search (rules, places);
      past = λ k a. search (rules, places);
    }
