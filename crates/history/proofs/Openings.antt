-- A sheet newly opened, and a question's reply beside the one that such a sheet gives. Assumes nothing.
use mathlib.Core.Path.{◌≡◌, refl, sym, subst, ◌∙◌}
use mathlib.Core.Bool.{true, false}
use mathlib.Core.List.{List, []}
use mathlib.Core.Logic.{inl, inr}
use Prim.Native.Nat.{ℕ}
use native.Mathlib.Omega.{arith}
use lib.ListN.{length-replicate}
use Rattle.std.specs.Prelude.{Ok}
use Rattle.terms.specs.Refusals.{first_fault}
use Rattle.terms.specs.Maps.{every_below, plain_map}
use Rattle.terms.specs.Alphabets.{all_bytes, closed_under, spelt, alphabet_faults}
use Rattle.terms.specs.Limits.{limits_faults, wrong_kind, out_of_range, lengths_out_of_range, kind_out_of_range, too_many_errors}
use Rattle.terms.specs.Texts.{Text, text_all, size, opening_faults}
use Rattle.terms.specs.declared.limits.Limits.{Limits}
use Rattle.terms.proofs.Supplied.{plain_passes}
use Rattle.terms.proofs.Passed.{sound_opening}
use Rattle.terms.proofs.Named.{opening_named}
use Rattle.questions.specs.Tiling.{Answer, TilingReply}
use Rattle.questions.proofs.Readers.{one_reply}
use Rattle.kept.specs.Lists.{no_change}
use Rattle.kept.proofs.Walking.{go_none, kept_is}
use Rattle.sheet.specs.Bounds.{in_bounds}
use Rattle.sheet.specs.Calls.{number_of, opened, blank_sheet, open_call}
use Rattle.sheet.specs.Question.{SheetReply}
use Rattle.sheet.specs.declared.Said.TheVariants.{Opened}
use Rattle.sheet.specs.declared.Sheet.{Sheet}
use Rattle.sheet.proofs.Within.{within}
use Rattle.sheet.proofs.Replying.{answer_yes, number_is}
use Rattle.sheet.proofs.Asked.{opening_passes, content_opens}
use Rattle.history.specs.History.{Content, made}
use Rattle.history.specs.Runs.{content_of, standing_of, FreshReply}
use Rattle.history.proofs.Padding.{padded_take, content_is}
use Rattle.history.proofs.Invariant.{Invariant}

module _ (x : Text) (l : Limits) where
  abbrev opening : Content
  opening = record { text = x; limits = l }

  -- an opening is accepted where it has no fault
  pub opens : first_fault (opening_faults x l) ≡ 0 → open_call x l ≡ record { sheet = opened x l; said = Ok (Opened (size x)) }
  opens e = answer_yes _ _ _ (sym e)

  pub number_of_opening : number_of (open_call x l).said ≡ first_fault (opening_faults x l)
  number_of_opening = number_is (opening_faults x l) blank_sheet (record { sheet = opened x l; said = Ok (Opened (size x)) }) (opening_named x l) refl

  -- and its sheet is the opening with no changes made
  pub opened_invariant : first_fault (opening_faults x l) ≡ 0 → Invariant opening (opened x l)
  unfolding opened
  opened_invariant e =
      record {
        bounds =
            within (opened x l) (sound_opening x l e).0.short (rw (padded_take x.letters) e)
            ∙ kept_is _ _ _ 0 0 (omega arith) (go_none _ _)
            ∙ go_none _ _;
        room = length-replicate 64 no_change;
        holds = record { letters = refl; n = refl; map = refl; alphabet = refl; limits = refl };
        restores = λ i h. absurd (omega arith);
      }

module _ (t t' room room' : List ℕ) (r : Answer) where
  -- a sheet in its bounds replies as the question without a sheet, of what it holds
  reply_of : (s : Sheet) (c : Content) → in_bounds s ≡ true → content_of s ≡ c → SheetReply s t t' room room' r
      → TilingReply c.text c.limits t t' room room' r
  reply_of s c w e (inl a) = let z : true ≡ false = sym w ∙ a.0 in let y : ◌≡◌ {A = ℕ} 0 1 = cc in absurd (omega arith)
  reply_of s c w e (inr a) = subst (λ (d : Content). TilingReply d.text d.limits t t' room room' r) e a.1

-- a question's reply is the one that a sheet newly opened gives
pub fresh_reply : {o : Content} {s : Sheet} → Invariant o s → (t t' room room' : List ℕ) (r : Answer) → SheetReply s t t' room room' r
    → FreshReply (made o (standing_of s)) t t' room room' r
unfolding opened
fresh_reply {o} {s} S t t' room room' r a =
    let c : Content = made o (standing_of s) in
    let is : content_of s ≡ c = content_is S.holds in
    let f : first_fault (opening_faults c.text c.limits) ≡ 0
    = subst (λ (d : Content). first_fault (opening_faults d.text d.limits) ≡ 0) is (content_opens s S.bounds) in
    let N : Invariant c (opened c.text c.limits) = opened_invariant c.text c.limits f in
    let right = reply_of t t' room room' r s c S.bounds is a in
    record {
      right = right;
      opens = number_of_opening c.text c.limits ∙ f;
      same =
          λ t'' room'' r'' b.
          let fresh = reply_of t t'' room room'' r'' (opened c.text c.limits) c N.bounds (content_is N.holds) (rw (opens c.text c.limits f) at b) in
          one_reply c.text c.limits t room t'' t' room'' room' r'' r fresh right;
    }

-- all 256 bytes are closed under the plain map
all_closed : first_fault (alphabet_faults [] plain_map all_bytes) ≡ 0
unfolding first_fault alphabet_faults closed_under spelt every_below plain_map all_bytes
all_closed = refl

-- the blank sheet's opening has no fault
pub blank_passes : first_fault (opening_faults (text_all [] plain_map) (record { kind = 1; m = 1; g = 0; d = 0 })) ≡ 0
unfolding first_fault limits_faults wrong_kind out_of_range lengths_out_of_range kind_out_of_range too_many_errors
blank_passes = opening_passes _ _ (omega arith) plain_passes all_closed refl
