-- Two replies to one question are the same part of the caller's string. Assumes nothing.
use mathlib.Core.Path.{◌≡◌, sym, ◌∙◌, subst₂}
use mathlib.Core.List.{List}
use mathlib.Core.Logic.{⊎_elim}
use Prim.Native.Nat.{ℕ, ◌≤◌, ◌<◌}
use native.Mathlib.Omega.{arith}
use native.Mathlib.Decide.{ℕ_discrete}
use denote.Ref.{Bor}
use Rattle.terms.specs.Refusals.{first_fault}
use Rattle.terms.specs.Texts.{string_faults, pair_faults}
use Rattle.terms.proofs.Order.{le_or_lt}
use Rattle.longest.specs.Longest.{PartOf, SamePart, OneLongest, OneLonger}
use Rattle.longest.proofs.Firsts.{longest_one}

part_unique : (r r' s : Bor (List ℕ)) (a L : ℕ) → PartOf r s a L → PartOf r' s a L → SamePart r r'
part_unique r r' s a L p q = ((λ i. ((p.block ∙ sym q.block) i, (p.place ∙ sym q.place) i)), p.bytes ∙ sym q.bytes)

moved : (r s : Bor (List ℕ)) (a L b M : ℕ) → (a ≡ b) × (L ≡ M) → PartOf r s a L → PartOf r s b M
moved r s a L b M e p = subst₂ (PartOf r s) e.0 e.1 p

pub longest_reply_unique : OneLongest
longest_reply_unique r r' s f p q = elim (ℕ_discrete (first_fault (string_faults s.now f)) 0) [ yes e ↦ given e | no n ↦ part_unique r r' s 0 0 (p.refused n) (q.refused n) ]
  where
    given : first_fault (string_faults s.now f) ≡ 0 → SamePart r r'
    given e =
        let (a, L, l, h) = p.accepted e in
        let (b, M, m, k) = q.accepted e in
        part_unique r r' s b M (moved r s a L b M (longest_one s.now f a L b M l m) h) k

pub longer_reply_unique : OneLonger
longer_reply_unique r r' s t f p q = elim (ℕ_discrete (first_fault (pair_faults s.now t.now f)) 0) [ yes e ↦ given e | no n ↦ part_unique r r' s 0 0 (p.refused n) (q.refused n) ]
  where
    given : first_fault (pair_faults s.now t.now f) ≡ 0 → SamePart r r'
    given e =
        let (a, L, b, M, l, m, mine, other) = p.accepted e in
        let (a', L', b', M', l', m', mine', other') = q.accepted e in
        let u : (a ≡ a') × (L ≡ L') = longest_one s.now f a L a' L' l l' in
        let v : (b ≡ b') × (M ≡ M') = longest_one t.now f b M b' M' m m' in
        ⊎_elim
        (λ (h : M ≤ L). let h' : M' ≤ L' = omega arith in part_unique r r' s a' L' (moved r s a L a' L' u (mine h)) (mine' h'))
        (λ (h : L < M). let h' : L' < M' = omega arith in part_unique r r' t b' M' (moved r t b M b' M' v (other h)) (other' h'))
        (le_or_lt M L)
