-- What the tests of a map say, and that both maps supplied pass them. Assumes nothing.
use mathlib.Core.Path.{◌≡◌, refl, sym, ap, ◌∙◌}
use mathlib.Core.Bool.{true, not}
use mathlib.Core.List.{List}
use Prim.Native.Nat.{ℕ, zero, suc, ◌+◌, ◌<◌, ◌≤◌}
use native.Mathlib.Omega.{arith}
use borrow.Author.Tests.{eqb-true, ne_eqb}
use lib.Dec.{eqb}
use lib.ListN.{length, get_or, replicate, length-replicate, get_or-replicate}
use lib.Seq.{ext_get_or}
use Rattle.terms.specs.Maps.{partner, every_below, values_from, own_inverse, plain_map, complement_map, map_faults}
use Rattle.terms.specs.Alphabets.{is_in, all_bytes}
use Rattle.terms.specs.Refusals.{first_fault}
use Rattle.terms.proofs.Below.{below_at}
use Rattle.terms.proofs.Ranges.{Filled}

-- f(f(x)) = x, at one byte
pub comes_back : (f : List ℕ) → own_inverse f ≡ true → (x : ℕ) → x < 256 → partner f (partner f x) ≡ x
unfolding own_inverse
comes_back f o x h = eqb-true _ _ (below_at (λ b. eqb (partner f (partner f b)) b) 256 x o h)

pub plain_passes : first_fault (map_faults plain_map) ≡ 0
unfolding first_fault map_faults own_inverse every_below plain_map
plain_passes = refl

pub complement_passes : first_fault (map_faults complement_map) ≡ 0
unfolding first_fault map_faults own_inverse every_below complement_map
complement_passes = refl

-- Every byte is a letter of all 256.
pub all_long : length all_bytes ≡ 256
unfolding all_bytes
all_long = length-replicate {A = ℕ} 256 1

pub all_in : (b : ℕ) → b < 256 → is_in all_bytes b ≡ true
unfolding all_bytes
all_in b h =
    let e : ◌≡◌ {A = ℕ} (get_or (replicate 256 1) b 0) 1 = get_or-replicate {A = ℕ} 256 b 1 0 h in
    ap not (ne_eqb _ 0 (λ (z : get_or (replicate 256 1) b 0 ≡ 0). omega arith))

-- A rule's values, as many as asked, each in its place.
pub values_length : (rule : ℕ → ℕ) (x k : ℕ) → length (values_from x k rule) ≡ k
values_length rule x zero = refl
values_length rule x (suc k) = ap suc (values_length rule (suc x) k)

pub values_at : (rule : ℕ → ℕ) (x k i : ℕ) → i < k → get_or (values_from x k rule) i 0 ≡ rule (x + i)
values_at rule x zero i h = absurd (omega arith)
values_at rule x (suc k) zero h = ap rule (omega arith)
values_at rule x (suc k) (suc i) h = values_at rule (suc x) k i (omega arith) ∙ ap rule (let e : suc x + i ≡ x + suc i = omega arith in e)

-- The map of a rule: the partner of each byte is the rule's, and no other 256 bytes are so.
pub rule_at : (rule : ℕ → ℕ) (x : ℕ) → x < 256 → partner (values_from 0 256 rule) x ≡ rule x
rule_at rule x h = values_at rule 0 256 x h ∙ ap rule (let e : 0 + x ≡ x = omega arith in e)

pub rule_only : (rule : ℕ → ℕ) (f : List ℕ) → length f ≡ 256 → ((x : ℕ) → x < 256 → partner f x ≡ rule x) → f ≡ values_from 0 256 rule
rule_only rule f e at = ext_get_or 0 f (values_from 0 256 rule) (e ∙ sym (values_length rule 0 256)) (λ x h. at x (omega arith) ∙ sym (rule_at rule x (omega arith)))

-- 256 entries that hold a rule's values are the rule's list.
pub rule_filled : (rule : ℕ → ℕ) (b a : List ℕ) {k : ℕ} → 256 ≤ k → length b ≡ 256 → Filled (λ i v. v ≡ rule i) 0 k b a → a ≡ values_from 0 256 rule
rule_filled rule b a l e f = rule_only rule a (f.long ∙ e) (λ x h. f.held x (omega arith) (omega arith))
