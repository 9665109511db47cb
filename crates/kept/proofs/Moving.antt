-- A change kept, taken back or put again leaves the kept changes as their calls would accept them. Assumes nothing.
use mathlib.Core.Path.{◌≡◌, refl, ap, ap₂, ◌∙◌}
use mathlib.Core.Bool.{true}
use mathlib.Core.List.{List, ◌∷◌}
use Prim.Native.Nat.{ℕ, zero, suc, ◌+◌, ◌≤◌, ◌<◌}
use native.Mathlib.Numerals.{add-one}
use native.Mathlib.Omega.{arith}
use lib.ListN.{set, length}
use lib.Seq.{get_or-set_same, get_or-set_other}
use Rattle.changes.specs.Changes.{done_of, back_of, length_by, accepts}
use Rattle.changes.specs.declared.Change.{Change}
use Rattle.changes.specs.declared.Edit.{Edit}
use Rattle.changes.proofs.Accepting.{accepts_fits, length_back, length_again, then_first, then_second, then_both}
use Rattle.kept.specs.Lists.{no_change, kept_at, steps_back, steps_forth, can_go, kept_accepted}
use Rattle.kept.proofs.Walking.{go_first, go_rest, go_both, go_none, kept_is, kept_few, kept_back_way, kept_forth_way}

-- A step e, which f undoes, gone from n letters: it can be gone back from where it led, before whatever could be gone from n.
turned : (n : ℕ) (z : List ℕ) (e f : Edit) (us : List (Edit × Edit)) → length_by f (length_by e n) ≡ n → accepts n z e ≡ true → accepts (length_by e n) z f ≡ true
    → can_go n z us ≡ true → can_go (length_by e n) z ((f, e) ∷ us) ≡ true
turned n z e f us r a b w =
    let m : ℕ = length_by e n in go_both m z f e us (then_both m z f e b (ap (λ (k : ℕ). accepts k z e) r ∙ a)) (ap (λ (k : ℕ). can_go k z us) r ∙ w)

-- A way that begins with such a step.
module _ (n : ℕ) (z : List ℕ) (e f : Edit) (ss : List (Edit × Edit)) (w : can_go n z ((e, f) ∷ ss) ≡ true) where
  begins : accepts n z e ≡ true
  begins = then_first n z e f (go_first n z e f ss w)

  goes_back : (us : List (Edit × Edit)) → length_by f (length_by e n) ≡ n → can_go n z us ≡ true → can_go (length_by e n) z ((f, e) ∷ us) ≡ true
  goes_back us r v = turned n z e f us r begins (then_second n z e f (go_first n z e f ss w)) v

module _ (n : ℕ) (z : List ℕ) (ks : List Change) where
  -- The newest that stands can be taken back, and the lists stay sound.
  module _ (j tk : ℕ) (w : kept_accepted n z ks (suc j) tk ≡ true) where
    abbrev newest : Change
    newest = kept_at ks j

    pub newest_back : accepts n z (back_of newest) ≡ true
    newest_back = begins n z _ _ (steps_back ks j) (kept_back_way n z ks (suc j) tk w)

    pub kept_back : kept_accepted (length_by (back_of newest) n) z ks j (suc tk) ≡ true
    kept_back =
        let few : suc j + tk ≤ 64 = kept_few n z ks (suc j) tk w in
        let way : can_go n z (steps_back ks (suc j)) ≡ true = kept_back_way n z ks (suc j) tk w in
        kept_is _ z ks j (suc tk) (omega arith) (go_rest n z _ _ (steps_back ks j) way)
        ∙ goes_back n z _ _ (steps_back ks j) way (steps_forth ks (suc j) tk) (length_again n newest (accepts_fits n z _ newest_back)) (kept_forth_way n z ks (suc j) tk w)

  -- The one taken back last can be put again, and the lists stay sound.
  module _ (st t : ℕ) (w : kept_accepted n z ks st (suc t) ≡ true) where
    abbrev next : Change
    next = kept_at ks st

    pub next_done : accepts n z (done_of next) ≡ true
    next_done = begins n z _ _ (steps_forth ks (suc st) t) (kept_forth_way n z ks st (suc t) w)

    pub kept_again : kept_accepted (length_by (done_of next) n) z ks (suc st) t ≡ true
    kept_again =
        let few : st + suc t ≤ 64 = kept_few n z ks st (suc t) w in
        let way : can_go n z (steps_forth ks st (suc t)) ≡ true = kept_forth_way n z ks st (suc t) w in
        kept_is _ z ks (suc st) t (omega arith)
        (goes_back n z _ _ (steps_forth ks (suc st) t) way (steps_back ks st) (length_back n next (accepts_fits n z _ next_done)) (kept_back_way n z ks st (suc t) w))
        ∙ go_rest n z _ _ (steps_forth ks (suc st) t) way

-- The way back does not see what is stored above it.
back_set : (ks : List Change) (j : ℕ) (x : Change) (k : ℕ) → k ≤ j → steps_back (set ks j x) k ≡ steps_back ks k
back_set ks j x zero l = refl
back_set ks j x (suc k) l =
    let e : kept_at (set ks j x) k ≡ kept_at ks k = get_or-set_other ks j k x no_change (λ e. omega arith) in
    ap₂ (λ (c : Change) (ss : List (Edit × Edit)). (back_of c, done_of c) ∷ ss) e (back_set ks j x k (omega arith))

-- A change made of n letters and kept as the newest.
pub kept_changed : (n : ℕ) (z : List ℕ) (ks : List Change) (st tk : ℕ) (c : Change) → kept_accepted n z ks st tk ≡ true → accepts n z (done_of c) ≡ true
    → accepts (length_by (done_of c) n) z (back_of c) ≡ true → st < 64 → st < length ks
    → kept_accepted (length_by (done_of c) n) z (set ks st c) (st + 1) 0 ≡ true
kept_changed n z ks st tk c w d b few room =
    let m : ℕ = length_by (done_of c) n in
    let at : kept_at (set ks st c) st ≡ c = get_or-set_same ks st c no_change room in
    let steps : steps_back (set ks st c) (st + 1) ≡ (back_of c, done_of c) ∷ steps_back ks st
    = ap (steps_back (set ks st c)) (add-one st) ∙ ap₂ (λ (y : Change) (ss : List (Edit × Edit)). (back_of y, done_of y) ∷ ss) at (back_set ks st c st (omega arith)) in
    kept_is m z (set ks st c) (st + 1) 0 (omega arith)
    (ap (can_go m z) steps
    ∙ turned n z (done_of c) (back_of c) (steps_back ks st) (length_back n c (accepts_fits n z _ d)) d b (kept_back_way n z ks st tk w))
    ∙ go_none m z
