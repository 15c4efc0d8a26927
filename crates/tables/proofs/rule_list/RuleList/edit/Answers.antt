-- An edit that is not declined on the rules as cut is in place on the list, and cutting and editing may change places.
use Rattle.std.proofs.Common.{[], vec_items, sym, ap, ◌∙◌, subst}
use Rattle.tables.specs.Edits.{InPlace}
use Rattle.rules.specs.Rules.{cut}
use Rattle.tables.proofs.Cuts.{cut_in_place, cut_edited}
use Rattle.tables.proofs.rule_list.RuleList.edit.Goals as goal

pub apply-requires : goal.apply-requires
apply-requires c =
    let list = c.args.self.now.rules in
    subst (λ n. InPlace n c.args.edit) (sym list.ok.0) (cut_in_place [] c.args.decisions (vec_items list) c.args.edit (sym (c.in_ok-check_edit.ensures [])))

pub returns : goal.returns
returns c ranges =
    let rules = vec_items c.args.self.now.rules in
    let taken = c.in_ok-check_edit.ensures ranges in
    let at = cut_in_place ranges c.args.decisions rules c.args.edit (sym taken) in
    record {
      declines = taken;
      leaves = ap (cut ranges c.args.decisions) c.apply.ensures ∙ cut_edited ranges c.args.decisions rules c.args.edit at c.requires;
    }
