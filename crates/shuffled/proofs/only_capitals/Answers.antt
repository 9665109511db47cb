-- `only_capitals` meets its contract: all bytes pass the library's test, which is that of A to Z. Assumes nothing.
use Rattle.std.proofs.Common.{rules, ◌≡◌, refl, sym, ◌↔◌, ℕ, List, Bool, true, false, length, get_or, IsTrue, EachIndex}
use Rattle.std.proofs.lemmas.Bool.{iff_false, false_from_ne_true}
use Rattle.std.specs.Char.{is_ascii_uppercase}
use Rattle.terms.proofs.Below.{below_each, below_at}
use Rattle.shuffled.specs.Shuffled.{capital, capitals}
use Rattle.shuffled.proofs.only_capitals.Goals as goal

-- what passes where every byte does says whether the string is of A to Z
told : (b : Bool) (s : List ℕ) → (IsTrue b ↔ EachIndex s (λ k. is_ascii_uppercase (get_or s k 0) ≡ true)) → b ≡ capitals s
unfolding capitals capital
told true s h = sym (below_each _ (length s) (h.0 refl))
told false s h = sym (false_from_ne_true _ (λ e. iff_false h refl (λ i l. below_at _ (length s) i e l)))

pub returns : goal.returns
returns c = told _ _ (search rules)
