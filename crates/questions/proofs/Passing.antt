-- The tests of the tiling question: the opening's refusal first, then 11; and what an accepted question may count on. Assumes nothing.
use mathlib.Core.Path.{◌≡◌, refl, sym, ap, ◌∙◌}
use mathlib.Core.Bool.{Bool}
use mathlib.Core.List.{List, [], ◌∷◌}
use mathlib.Core.Logic.{inl, inr}
use Prim.Native.Nat.{ℕ, ◌≤◌, ◌<◌}
use native.Mathlib.Omega.{arith}
use borrow.Author.Tests.{lt-ltb, le-ltb, ltb-false}
use lib.Dec.{ltb}
use lib.ListN.{length}
use Rattle.std.specs.Prelude.{Err, IsErrAnd}
use Rattle.std.proofs.lemmas.Result.{err_from_is_err_and}
use Rattle.terms.specs.Refusals.{first_fault, refusal_number, refusal_of}
use Rattle.terms.specs.Texts.{Text, size, opening_faults}
use Rattle.terms.specs.Passed.{SoundText, SoundLimits}
use Rattle.terms.specs.declared.limits.Limits.{Limits}
use Rattle.terms.specs.declared.refusal.Refusal.{Refusal}
use Rattle.terms.proofs.Refusals.{opening_numbered, fault_none, fault_first, fault_next}
use Rattle.terms.proofs.Passed.{passed, sound_opening}
use Rattle.terms.proofs.Named.{AllNamed, named_append, opening_named, fault_named, some_number, refusal_named}
use Rattle.tilings.specs.Tilings.{entries, Table}
use Rattle.boards.specs.Pieces.{board}
use Rattle.questions.specs.Tiling.{Answer, number_in, table_faults, HandsOver, Refused, TilingReply}
use Rattle.questions.specs.declared.Untiled.TheVariants.{Refused as refused_for}

module _ (x : Text) (l : Limits) (lent : ℕ) where
  abbrev Later : List (ℕ × Bool)
  Later = (11, ltb lent (entries (size x) l.g)) ∷ []

  pub opening_refuses : (k : ℕ) → k ≡ first_fault (opening_faults x l) → (k ≡ 0 → ⊥) → k ≡ first_fault (table_faults x l lent)
  unfolding table_faults
  opening_refuses = fault_first (opening_faults x l) Later

  -- every number of the list names a refusal
  pub table_named : AllNamed (table_faults x l lent)
  unfolding table_faults
  table_named = named_append (opening_faults x l) Later (opening_named x l) (refl, tt)

  module _ (j : ℕ) (e : j ≡ first_fault (opening_faults x l)) (z : j ≡ 0) where
    later : (k : ℕ) → k ≡ first_fault Later → k ≡ first_fault (table_faults x l lent)
    unfolding table_faults
    later k = fault_next (opening_faults x l) Later (opening_numbered x l) j k e z

    pub table_refuses : lent < entries (size x) l.g → 11 ≡ first_fault (table_faults x l lent)
    unfolding first_fault
    table_refuses h = later 11 (simp (lt-ltb _ _ h))

    pub table_passes : entries (size x) l.g ≤ lent → 0 ≡ first_fault (table_faults x l lent)
    unfolding first_fault
    table_passes h = later 0 (simp (le-ltb _ _ h))

    pub opened : SoundText x × SoundLimits l
    opened = sound_opening x l (sym e ∙ z)

  pub table_sound : (k : ℕ) → k ≡ first_fault (table_faults x l lent) → k ≡ 0 → SoundText x × SoundLimits l × (entries (size x) l.g ≤ lent)
  unfolding table_faults
  table_sound k e z =
      let h = fault_none (opening_faults x l) Later (opening_numbered x l) (sym e ∙ z) in
      let a = sound_opening x l h.0 in
      (a.0, a.1, ltb-false _ _ (passed 11 _ [] (omega arith) h.1).0)

-- A test's refusal has the number of its fault.
pub refused_number : {x : Text} {l : Limits} {t t' room room' : List ℕ} {r : Answer} → Refused x l t t' room room' r → number_in r ≡ first_fault (table_faults x l (length t))
refused_number {x} {l} {t} f =
    ap number_in f.reply ∙ fault_named (table_faults x l (length t)) (table_named x l (length t)) (λ z. let h : 0 < first_fault (table_faults x l (length t)) = f.fault in absurd (omega arith))

-- A question refused by a test, and one that is not.
module _ (x : Text) (l : Limits) (t room : List ℕ) where
  pub reply_refused : (e : Refusal) → refusal_number e ≡ first_fault (table_faults x l (length t)) → (r : Answer) → IsErrAnd r (λ u. u ≡ refused_for e) → TilingReply x l t t room room r
  reply_refused e h r q =
      let p = err_from_is_err_and r q in
      inl (record {
        fault = let n = some_number e in omega arith;
        reply = p.1 ∙ ap Err (p.2 ∙ ap refused_for (sym (refusal_named e) ∙ ap refusal_of h));
        stays = refl;
        kept = refl;
      })

  pub reply_given : 0 ≡ first_fault (table_faults x l (length t)) → (t' room' : List ℕ) (r : Answer) → Table (board x l) l.g t t' × HandsOver x l room room' r → TilingReply x l t t' room room' r
  reply_given e t' room' r h = inr (record { fault = sym e; filled = h.0; handed = h.1 })
