-- With as many values as intervals the chain tests each; else they do not fit.
use Rattle.std.proofs.Common.{sym, ap, ◌∙◌, length, arith, rules}
use borrow.Author.Tests.{tests}
use Rattle.std.proofs.lemmas.Bool.{ne_eqb}
use Rattle.std.proofs.lemmas.List.{map-id}
use Rattle.std.proofs.lemmas.Iterator.{YieldsList-from_slice, YieldsList-from_zip}
use Rattle.std.proofs.lemmas.Iterator.Search.{all_from_yields_List}
use Rattle.rules.specs.Intervals.{inside, within}
use Rattle.rules.proofs.Matching.{within_each, within_uneven}
use Rattle.rules.proofs.interval.within.Goals as goal

pub returns-then-values-intervals : goal.returns-then-values-intervals
returns-then-values-intervals c =
    all_from_yields_List (λ p. inside p.0 p.1) c.all.new.self _ _ c.all.ensures.ran
    (YieldsList-from_zip {s = c.zip.result} (YieldsList-from_slice c.args.intervals.now cc) (YieldsList-from_slice c.args.values.now cc))
    (λ x b q k. search (rules, tests))
    ∙ sym (within_each (λ i. i) c.args.intervals.now c.args.values.now (omega arith))
    ∙ ap (λ l. within l c.args.values.now) (map-id c.args.intervals.now)

pub returns-else-values-intervals : goal.returns-else-values-intervals
returns-else-values-intervals c =
    ne_eqb (length c.args.values.now) (length c.args.intervals.now) c.if-values-intervals.false
    ∙ sym (within_uneven c.args.intervals.now c.args.values.now (λ e. omega arith))
