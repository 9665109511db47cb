-- Two boards with the same pieces have the same tilings, entries and tables. Assumes nothing.
use mathlib.Core.Path.{◌≡◌, ◌∙◌, subst}
use mathlib.Core.List.{List, [], ◌∷◌}
use mathlib.Core.Logic.{inl, inr}
use Prim.Native.Nat.{ℕ, ◌+◌, ◌≤◌}
use Rattle.tilings.specs.Tilings.{Board, Part, piece, gap, Tiles, Permitted, Given, None, Entry, entries, Table}

-- The pieces of A are pieces of B, of one size.
pub record Into (A B : Board) : Type 0 where
  pub size : A.size ≡ B.size
  pub to : (i L : ℕ) → A.Piece i L → B.Piece i L

tiles_to : (A B : Board) → Into A B → (i : ℕ) (ps : List Part) → Tiles A i ps → Tiles B i ps
tiles_to A B f i [] t = t ∙ f.size
tiles_to A B f i (piece L ∷ ps) t = (f.to i L t.0, tiles_to A B f (i + L) ps t.1)
tiles_to A B f i (gap L ∷ ps) t = (t.0, t.1, tiles_to A B f (i + L) ps t.2)

pub permitted_to : (A B : Board) → Into A B → (i q : ℕ) (ps : List Part) → Permitted A i q ps → Permitted B i q ps
permitted_to A B f i q ps p = record { tiles = tiles_to A B f i ps p.tiles; few = p.few }

module _ (A B : Board) (f : Into A B) (g : Into B A) where
  pub given_to : (i q : ℕ) (ps : List Part) → Given A i q ps → Given B i q ps
  given_to i q ps h =
      record {
        permitted = permitted_to A B f i q ps h.permitted;
        least = λ qs p. h.least qs (permitted_to B A g i q qs p);
        first = λ qs p e. h.first qs (permitted_to B A g i q qs p) e;
      }

  pub none_to : (i q : ℕ) → None A i q → None B i q
  none_to i q h qs p = h qs (permitted_to B A g i q qs p)

  pub entry_to : (i q v : ℕ) → Entry A i q v → Entry B i q v
  entry_to i q v (inl h) =
      inl (record { reached = (h.reached.0, permitted_to A B f i q h.reached.0 h.reached.1, h.reached.2); least = λ qs p. h.least qs (permitted_to B A g i q qs p) })
  entry_to i q v (inr h) = inr (h.0, none_to i q h.1)

  pub table_to : (k : ℕ) (b a : List ℕ) → Table A k b a → Table B k b a
  table_to k b a t =
      record {
        long = t.long;
        entry = λ i q hi hq. entry_to i q _ (t.entry i q (subst (λ (z : ℕ). i ≤ z) g.size hi) hq);
        stay = λ j l. t.stay j (subst (λ (z : ℕ). entries z k ≤ j) g.size l);
      }
