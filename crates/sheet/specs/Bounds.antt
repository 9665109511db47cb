-- The bounds of a sheet: what refusal 24 denies (01, "Numbers that say no"; 02, L5).
use Rattle.std.specs.Prelude.{Bool, ◌&&◌, eqb, leb, take}
use Rattle.terms.specs.Sizes.{most_letters}
use Rattle.terms.specs.Refusals.{first_fault}
use Rattle.terms.specs.Texts.{Text, text, opening_faults}
use Rattle.kept.specs.Lists.{kept_accepted}
use Rattle.sheet.specs.declared.Sheet.{Sheet}

-- The sheet's letters, map and alphabet.
abbrev pub text_of : Sheet → Text
text_of s = text (take s.n s.letters) s.map s.alphabet

-- Letters, map, alphabet and limits that an opening would not refuse, at most 64 changes in both lists together, each one that its call would accept at the length it was made for.
unfoldable pub in_bounds : Sheet → Bool
in_bounds s =
    leb s.n most_letters
    && (eqb (first_fault (opening_faults (text_of s) s.limits)) 0 && kept_accepted s.n s.alphabet s.kept s.standing s.taken)
