-- The empty string, for every map and all limits. Assumes nothing.
use mathlib.Core.Path.{◌≡◌, refl, sym}
use mathlib.Core.List.{List, [], ◌∷◌}
use mathlib.Core.Logic.{inl}
use Prim.Native.Nat.{ℕ, ◌+◌, ◌/◌, ◌%◌, ◌≤◌, ◌<◌}
use native.Mathlib.Omega.{arith}
use native.Mathlib.Nat.{div-eq_of_lt}
use lib.ListN.{length, get_or, replicate, length-replicate, get_or-replicate}
use Rattle.terms.specs.Refusals.{first_fault}
use Rattle.terms.specs.Maps.{every_below, own_inverse, map_faults, plain_map, complement_map}
use Rattle.terms.specs.Alphabets.{all_bytes, closed_under, spelt, alphabet_faults}
use Rattle.terms.specs.Texts.{size, string_faults, text_faults, opening_faults}
use Rattle.terms.specs.declared.limits.Limits.{Limits}
use Rattle.terms.proofs.Refusals.{text_passes}
use Rattle.tilings.specs.Tilings.{Part, Permitted, Given, Entry, entries}
use Rattle.boards.specs.Pieces.{board}
use Rattle.boards.proofs.Laws.{board_laws}
use Rattle.readback.specs.Shown.{Map, plain, complement, strand, bases, text_of}
use Rattle.readback.specs.Samples.{EmptyShown}
use Rattle.readback.proofs.Showing.{tiling_replies}

-- its string and map meet no refusal
text_clear : (f : Map) → first_fault (text_faults (text_of f [])) ≡ 0
unfolding text_faults string_faults map_faults own_inverse alphabet_faults closed_under spelt every_below first_fault plain_map complement_map all_bytes bases
text_clear plain = refl
text_clear complement = refl
text_clear strand = refl

no_letters : (f : Map) → size (text_of f []) ≡ 0
no_letters plain = refl
no_letters complement = refl
no_letters strand = refl

module _ (f : Map) (l : Limits) where
  -- it is tiled by no parts, and by nothing else
  none : (q : ℕ) → Permitted (board (text_of f []) l) 0 q []
  none q = record { tiles = sym (no_letters f); few = omega arith }

  only : (q : ℕ) (ps : List Part) → Permitted (board (text_of f []) l) 0 q ps → ps ≡ []
  only q [] p = refl
  only q (a ∷ ps) p = let few : length (a ∷ ps) ≤ size (text_of f []) = (board_laws (text_of f []) l).few q (a ∷ ps) p in absurd (omega (arith, no_letters f))

  -- so each entry of its table is 0
  zero_entry : (q : ℕ) → Entry (board (text_of f []) l) 0 q 0
  zero_entry q = inl (record { reached = ([], none q, refl); least = λ ps p. omega arith })

pub empty_shown : EmptyShown
empty_shown f l e =
    record {
      given = given;
      lined = refl;
      summed = refl;
      counted = refl;
      replies = tiling_replies (text_of f []) l clear [] given zeros long entry;
    }
  where
    zeros : List ℕ
    zeros = replicate (l.g + 1) 0

    given : Given (board (text_of f []) l) 0 l.g []
    given = record { permitted = none f l l.g; least = λ qs p. omega arith; first = λ qs p s. inl (only f l l.g qs p) }

    clear : first_fault (opening_faults (text_of f []) l) ≡ 0
    clear = sym (text_passes (text_of f []) l 0 0 (sym (text_clear f)) refl (sym e))

    long : length zeros ≤ entries (size (text_of f [])) l.g
    long = let many : length zeros ≡ l.g + 1 = length-replicate (l.g + 1) 0 in rw (no_letters f) (omega arith)

    entry : (k : ℕ) → k < length zeros → Entry (board (text_of f []) l) (k / (l.g + 1)) (k % (l.g + 1)) (get_or zeros k 0)
    entry k h =
        let many : length zeros ≡ l.g + 1 = length-replicate (l.g + 1) 0 in
        let lt : k < l.g + 1 = omega arith in
        rw (div-eq_of_lt lt, get_or-replicate {A = ℕ} (l.g + 1) k 0 0 lt) (zero_entry f l (k % (l.g + 1)))
