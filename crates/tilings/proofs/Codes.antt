-- Parts by their numbers. Assumes nothing.
use mathlib.Core.Path.{◌≡◌, ap, ◌∙◌}
use mathlib.Core.Bool.{Bool, true, false}
use Prim.Native.Nat.{ℕ, ◌+◌, ◌*◌, ◌/◌, ◌%◌}
use native.Mathlib.Omega.{arith}
use borrow.Author.Tests.{eq-eqb, ne_eqb}
use Rattle.tilings.specs.Tilings.{Part, piece, gap}
use Rattle.tilings.specs.Work.{decode}

choose : Bool → ℕ → Part
choose b L = elim b [ true ↦ piece L | false ↦ gap L ]

pub decode_even : (c : ℕ) → c % 2 ≡ 0 → decode c ≡ piece (c / 2)
unfolding decode choose
decode_even c e = ap (λ (b : Bool). choose b (c / 2)) (eq-eqb (c % 2) 0 e)

pub decode_odd : (c : ℕ) → (c % 2 ≡ 0 → ⊥) → decode c ≡ gap (c / 2)
unfolding decode choose
decode_odd c n = ap (λ (b : Bool). choose b (c / 2)) (ne_eqb (c % 2) 0 n)

pub decode_piece : (L : ℕ) → decode (2 * L) ≡ piece L
decode_piece L = decode_even (2 * L) (omega arith) ∙ ap piece (let e : 2 * L / 2 ≡ L = omega arith in e)

pub decode_gap : (L : ℕ) → decode (2 * L + 1) ≡ gap L
decode_gap L = decode_odd (2 * L + 1) (λ e. omega arith) ∙ ap gap (let e : (2 * L + 1) / 2 ≡ L = omega arith in e)
