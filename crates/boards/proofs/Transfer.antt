-- The board by maximal lengths is the board of the string: what the engine finds on the one holds on the other. Assumes nothing.
use mathlib.Core.Path.{◌≡◌, refl}
use mathlib.Core.List.{List}
use mathlib.Core.Logic.{inl, inr, ⊎_elim}
use Prim.Native.Nat.{ℕ, ◌+◌, ◌-◌, ◌≤◌}
use native.Mathlib.Omega.{arith}
use lib.ListN.{get_or}
use Rattle.terms.specs.Texts.{Text, size}
use Rattle.terms.specs.Passed.{SoundText, SoundLimits}
use Rattle.terms.specs.declared.limits.Limits.{Limits}
use Rattle.spans.specs.Palindromes.{MaximalLength}
use Rattle.spans.specs.Centres.{Holds}
use Rattle.spans.proofs.Exactness.{Bytes}
use Rattle.tilings.specs.Tilings.{Part, Given, None, Entry, Table}
use Rattle.tilings.specs.Work.{PieceBy, board_by}
use Rattle.tilings.proofs.Same.{Into, given_to, none_to, entry_to, table_to}
use Rattle.boards.specs.Pieces.{Piece, board}
use Rattle.boards.proofs.Centred.{short_piece, piece_short, maximal_piece, piece_maximal}
use Rattle.boards.proofs.Laws.{piece_some, piece_inside}

module _ (x : Text) (l : Limits) (lens : List ℕ) (sound : SoundText x) (limited : SoundLimits l) (bytes : Bytes x.letters) (held : Holds x l.d lens) where
  abbrev By : ℕ → ℕ → Type 0
  By = PieceBy lens (size x) l.kind l.m

  -- the maximal length of a span's centre
  at : (a L : ℕ) → 1 ≤ L → a + L ≤ size x → MaximalLength x l.d (a + a + L - 1) (get_or lens (a + a + L - 1) 0)
  at a L some inside = held (a + a + L - 1) (omega arith)

  by_to : (a L : ℕ) → By a L → Piece x l a L
  by_to a L p =
      let m = at a L p.some p.inside in
      ⊎_elim
      (λ (w : (l.kind ≡ 1) × (L ≤ get_or lens (a + a + L - 1) 0)). short_piece x l sound limited bytes a L _ p.some p.inside m w.0 p.long w.1)
      (λ (w : (l.kind ≡ 2) × (get_or lens (a + a + L - 1) 0 ≡ L)). maximal_piece x l sound limited bytes a L _ p.some p.inside m w.0 p.long w.1)
      p.is

  to_by : (a L : ℕ) → Piece x l a L → By a L
  to_by a L p =
      let some = piece_some x l a L p in
      let inside = piece_inside x l a L p in
      let m = at a L some inside in
      record {
        some = some;
        inside = inside;
        long = p.long;
        is =
            ⊎_elim
            (λ (e : l.kind ≡ 1). inl (e, piece_short x l sound limited bytes a L _ some inside m e p))
            (λ (e : l.kind ≡ 2). inr (e, piece_maximal x l sound limited bytes a L _ some inside m e p))
            limited.kind;
      }

  to : Into (board_by lens (size x) l.kind l.m) (board x l)
  to = record { size = refl; to = by_to }

  from : Into (board x l) (board_by lens (size x) l.kind l.m)
  from = record { size = refl; to = to_by }

  -- the law: tables, tilings given and 'none' are the same on both boards
  pub record Transfer : Type 0 where
    pub table : (g : ℕ) (b a : List ℕ) → Table (board_by lens (size x) l.kind l.m) g b a → Table (board x l) g b a
    pub given : (i q : ℕ) (ps : List Part) → Given (board_by lens (size x) l.kind l.m) i q ps → Given (board x l) i q ps
    pub entry : (i q v : ℕ) → Entry (board_by lens (size x) l.kind l.m) i q v → Entry (board x l) i q v
    pub none : (i q : ℕ) → None (board_by lens (size x) l.kind l.m) i q → None (board x l) i q

  pub transfer : Transfer
  transfer =
      record {
        table = table_to (board_by lens (size x) l.kind l.m) (board x l) to from;
        given = given_to (board_by lens (size x) l.kind l.m) (board x l) to from;
        entry = entry_to (board_by lens (size x) l.kind l.m) (board x l) to from;
        none = none_to (board_by lens (size x) l.kind l.m) (board x l) to from;
      }
