-- Working notions: what the walk of a centre is told of the alphabet. No promise to a caller rests on reading them.
use Rattle.std.specs.Prelude.{◌≡◌, Bool, true, ℕ, ◌%◌}
use Rattle.terms.specs.Alphabets.{own_partner}
use Rattle.terms.specs.Texts.{Text}

-- `own` says whether the map has an own-partner letter within the alphabet.
abbrev pub Own : Bool → Text → Type 0
Own own x = own ≡ own_partner x.map x.alphabet

-- The alphabet does not bar the centre c, whose lengths are odd where c is even.
abbrev pub Unbarred : ℕ → Text → Type 0
Unbarred c x = c % 2 ≡ 0 → own_partner x.map x.alphabet ≡ true
