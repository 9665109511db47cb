-- Letter maps (01, "Letters, spans and palindromes"): a map f is 256 bytes, with f(f(x)) = x for every byte x.
use Rattle.std.specs.Prelude.{Bool, true, not, cond, ◌&&◌, List, [], ◌∷◌, ℕ, zero, suc, eqb, length, get_or}

-- The partner of the byte x, f(x).
abbrev pub partner : List ℕ → ℕ → ℕ
partner f x = get_or f x 0

-- p passes at every number below k.
unfoldable pub every_below : ℕ → (ℕ → Bool) → Bool
every_below zero p = true
every_below (suc k) p = p k && every_below k p

-- f(f(x)) = x for every byte x.
unfoldable pub own_inverse : List ℕ → Bool
own_inverse f = every_below 256 (λ x. eqb (partner f (partner f x)) x)

-- Refusals 2 and 3: map not 256 bytes long; f(f(x)) differs from x for some x.
unfoldable pub map_faults : List ℕ → List (ℕ × Bool)
map_faults f = (2, not (eqb (length f) 256)) ∷ (3, not (own_inverse f)) ∷ []

-- The values of a rule at k numbers from x on.
abbrev pub values_from : ℕ → ℕ → (ℕ → ℕ) → List ℕ
values_from x zero rule = []
values_from x (suc k) rule = rule x ∷ values_from (suc x) k rule

-- Plain: each byte its own partner.
unfoldable pub plain_map : List ℕ
plain_map = values_from 0 256 (λ x. x)

-- a and b are each other's partner; rule gives every other byte's.
abbrev pub paired : ℕ → ℕ → (ℕ → ℕ) → ℕ → ℕ
paired a b rule x = cond (eqb x a) b (cond (eqb x b) a (rule x))

-- Complement: A with T, C with G as capitals, every other byte its own partner.
unfoldable pub complement_map : List ℕ
complement_map = values_from 0 256 (paired 65 84 (paired 67 71 (λ x. x)))
