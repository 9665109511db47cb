-- The maps supplied are by their rules, byte for byte, and a rule leaves no choice. Assumes nothing.
use mathlib.Core.Path.{◌≡◌, refl, ap, ◌∙◌}
use mathlib.Core.List.{List}
use mathlib.Core.Logic.{inl, inr, ⊎_elim}
use Prim.Native.Nat.{ℕ, ◌<◌}
use native.Mathlib.Decide.{ℕ_discrete}
use borrow.Author.Tests.{eq-eqb, ne_eqb}
use Rattle.terms.specs.Maps.{partner, paired, plain_map, complement_map}
use Rattle.terms.specs.Laws.{ComplementRule, SuppliedLaws}
use Rattle.terms.proofs.Supplied.{plain_passes, complement_passes, values_length, rule_at, rule_only}

-- what is b at a, a at b, and the rule's value elsewhere
paired_is : (a b : ℕ) (rule : ℕ → ℕ) (x v : ℕ) → (x ≡ a → v ≡ b) → (x ≡ b → v ≡ a) → ((x ≡ a → ⊥) → (x ≡ b → ⊥) → v ≡ rule x) → v ≡ paired a b rule x
paired_is a b rule x v at_a at_b else =
    elim (ℕ_discrete x a) [
      | yes e ↦ rw (eq-eqb x a e) (at_a e)
      | no n ↦ elim (ℕ_discrete x b) [ yes e ↦ rw (ne_eqb x a n, eq-eqb x b e) (at_b e) | no m ↦ rw (ne_eqb x a n, ne_eqb x b m) (else n m) ]
    ]

-- what `complement_map` holds at a byte
abbrev c_with_g : ℕ → ℕ
c_with_g = paired 67 71 (λ x. x)

abbrev rule : ℕ → ℕ
rule = paired 65 84 c_with_g

-- the partner of a byte that is known
pub partner_at : (f : List ℕ) {x k v : ℕ} → x ≡ k → partner f k ≡ v → partner f x ≡ v
partner_at f e p = ap (λ (y : ℕ). partner f y) e ∙ p

by_rule : (f : List ℕ) → ComplementRule f → (x : ℕ) → x < 256 → partner f x ≡ rule x
by_rule f r x h =
    paired_is 65 84 c_with_g x (partner f x) (λ e. partner_at f e r.A) (λ e. partner_at f e r.T)
    (λ a t. paired_is 67 71 (λ y. y) x (partner f x) (λ e. partner_at f e r.C) (λ e. partner_at f e r.G) (λ c g. r.rest x h (⊎_elim a (⊎_elim t (⊎_elim c (⊎_elim g (λ (z : ⊥). z)))))))

pub supplied_laws : SuppliedLaws
unfolding plain_map complement_map
supplied_laws =
    record {
      plain = record { bytes = values_length (λ x. x) 0 256; own = rule_at (λ x. x) };
      complement =
          record {
            bytes = values_length rule 0 256;
            A = refl;
            T = refl;
            C = refl;
            G = refl;
            rest = λ x h n.
                rule_at rule x h
                ∙ simp (ne_eqb x 65 (λ e. n (inl e)), ne_eqb x 84 (λ e. n (inr (inl e))), ne_eqb x 67 (λ e. n (inr (inr (inl e)))), ne_eqb x 71 (λ e. n (inr (inr (inr (inl e))))));
          };
      only_plain = λ f r. rule_only (λ x. x) f r.bytes r.own;
      only_complement = λ f r. rule_only rule f r.bytes (by_rule f r);
      maps = (plain_passes, complement_passes);
    }
