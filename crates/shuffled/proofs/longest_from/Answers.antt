-- `longest_from` meets its contract: the word is that of the letters left, and no longer length passes. Assumes nothing.
use Rattle.std.proofs.Common.{◌≡◌, sym, ◌∙◌, ◌+◌, ◌-◌, ◌<◌, ◌≤◌, ℕ, arith, leb-false}
use lib.Count.{ones}
use Rattle.shuffled.specs.Shuffled.{Shuffled}
use Rattle.shuffled.proofs.Parities.{capital_at, word_without, passes, fails}
use Rattle.shuffled.proofs.Exact.{one_letter}
use Rattle.shuffled.proofs.longest_from.Goals as goal

pub loop-end-init : goal.loop-end-init
loop-end-init c = record { some = omega arith; inside = omega arith; word = c.requires.parity_word; longest = λ M h. omega (arith, h.inside) }

pub turned-rest-requires : goal.turned-rest-requires
turned-rest-requires c = capital_at _ c.requires.sizes.2 _ (omega (arith, c.loop-end.invariant.some, c.loop-end.invariant.inside))

pub loop-end-preserved : goal.loop-end-preserved
loop-end-preserved c =
    let s = c.args.s.now in
    let a = c.args.a in
    let l = c.loop-end in
    let h = l.invariant in
    let many : 1 < ones l.rest = leb-false _ _ (sym c.at_most_one.ensures ∙ c.loop-end-test.true) in
    let least : (M : ℕ) → Shuffled s a M → M ≤ l.end - 1 - a = λ M p. omega (arith, fails _ _ _ l.rest h.word many M p (h.longest M p)) in
    record {
      some = omega (arith, h.some, least 1 (one_letter _ a (omega (arith, h.some, h.inside))));
      inside = omega (arith, h.inside);
      word = rw c.turned-rest.ensures (word_without s a l.end l.rest h.some (capital_at _ c.requires.sizes.2 _ (omega (arith, h.some, h.inside))).0 h.word);
      longest = least;
    }

pub returns : goal.returns
returns c =
    let h = c.loop-end.invariant in
    record {
      is = passes _ _ _ c.loop-end.rest h.word c.requires.sizes.2 (omega (arith, h.some)) (omega (arith, h.some, h.inside)) (sym c.at_most_one.ensures ∙ c.loop-end-test.false);
      longest = h.longest;
    }
