-- `find` asks the places from the top and stops at the first that matches.
use Rattle.std.proofs.Common.{◌≡◌, false, true, rules, tests}
use Rattle.std.proofs.lemmas.Iterator.{first_from_Range}
use Rattle.rules.specs.Rules.{matches, rule_at}
use Rattle.judges.proofs.Firsts.{found}
use Rattle.judges.proofs.view.View.first_match.Goals as goal

pub returns : goal.returns
returns c =
    found c.args.self.now c.args.values.now c.count.result c.find.result c.count.ensures.all
    (first_from_Range _ _ _ _ (λ p. matches (rule_at c.args.self.now p) c.args.values.now ≡ true) (λ p. matches (rule_at c.args.self.now p) c.args.values.now ≡ false) c.find.ensures.ran
    (λ x q k. search (rules, tests)) (λ x q k. search (rules, tests)))
