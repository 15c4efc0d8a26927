-- With as many values as ranges the chain tests each field; else nothing matches.
use Rattle.std.proofs.Common.{sym, ap, ◌∙◌, length, arith, rules}
use borrow.Author.Tests.{tests}
use Rattle.std.specs.List.{zip}
use Rattle.std.proofs.lemmas.Bool.{ne_eqb}
use Rattle.std.proofs.lemmas.Iterator.{YieldsList-from_slice, YieldsList-from_zip}
use Rattle.std.proofs.lemmas.Iterator.Search.{all_from_yields_List}
use Rattle.std.proofs.lemmas.Slice.Zip.{length-zip}
use Rattle.rules.specs.Intervals.{inside, within}
use Rattle.rules.specs.Rules.{cut_clauses}
use Rattle.rules.proofs.Matching.{cut_pair, cut_each, within_each, within_uneven, length_cut_clauses}
use Rattle.rules.proofs.rule.all_hold.Goals as goal

pub returns-then-values-ranges : goal.returns-then-values-ranges
returns-then-values-ranges c =
    let pairs = zip c.args.ranges.now c.args.clauses.now in
    let room = c.requires in
    all_from_yields_List (λ p. inside (cut_pair p.0) p.1) c.all.new.self _ _ c.all.ensures.ran
    (YieldsList-from_zip {s = c.zip-then-values-ranges.result} (YieldsList-from_zip (YieldsList-from_slice c.args.ranges.now cc) (YieldsList-from_slice c.args.clauses.now cc)) (YieldsList-from_slice c.args.values.now cc))
    (λ x b q k. search (rules, tests))
    ∙ sym (within_each cut_pair pairs c.args.values.now (omega (arith, length-zip c.args.ranges.now c.args.clauses.now)))
    ∙ sym (ap (λ l. within l c.args.values.now) (cut_each c.args.ranges.now c.args.clauses.now room))

pub returns-else-values-ranges : goal.returns-else-values-ranges
returns-else-values-ranges c =
    ne_eqb (length c.args.values.now) (length c.args.ranges.now) c.if-values-ranges.false
    ∙ sym (within_uneven (cut_clauses c.args.ranges.now c.args.clauses.now) c.args.values.now (λ e. omega (arith, length_cut_clauses c.args.ranges.now c.args.clauses.now)))
