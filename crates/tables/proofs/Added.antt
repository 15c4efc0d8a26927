-- What a draft's call to add a rule leaves, on the rules as cut. Assumes nothing.
use Rattle.std.proofs.Common.{◌≡◌, ℕ, ◌-◌, ◌<◌, ◌≤◌, min, List, [], ◌∷◌, ◌++◌, length, take, None, sym, refl, ap, ◌∙◌, arith}
use Rattle.std.specs.List.{insert}
use Rattle.std.proofs.lemmas.List.{append_assoc, length_push}
use Rattle.std.proofs.lemmas.List.Edits.{insert-append_right}
use Rattle.std.proofs.lemmas.Bool.{lt-leb}
use Rattle.rules.specs.declared.decline.Decline.TheVariants.{Full}
use Rattle.rules.specs.declared.interval.Interval.{Interval}
use Rattle.rules.specs.declared.rule.Rule.{Rule}
use Rattle.tables.specs.Adding.{Added, clauses_decline, given_rule}
use Rattle.rules.specs.Declines.{unless}
use Rattle.rules.specs.Rules.{cut, above_default}
use Rattle.tables.proofs.Adding.{taken_cut}
use Rattle.tables.proofs.Cuts.{cut_add}

-- above the last of a list is behind all the others
above_last : (accepted : List Rule) (default rule : Rule) → above_default (accepted ++ (default ∷ [])) rule ≡ (accepted ++ (rule ∷ [])) ++ (default ∷ [])
above_last accepted default rule =
    let long = length_push accepted default in
    let behind : length (accepted ++ (default ∷ [])) - 1 - length accepted ≡ 0 = omega arith in
    insert-append_right accepted (default ∷ []) (length accepted) (length (accepted ++ (default ∷ [])) - 1) rule refl (omega arith)
    ∙ ap (λ k. accepted ++ insert (default ∷ []) k rule) behind
    ∙ sym (append_assoc accepted (rule ∷ []) (default ∷ []))

pub added : (ranges : List Interval) (count : ℕ) (rules after : List Rule) (clauses kept : List Interval) (decision : ℕ) → length (cut ranges count rules) < 64 → length ranges ≤ length clauses → decision < count
    → None ≡ clauses_decline ranges clauses → take (length ranges) kept ≡ take (length ranges) clauses → after ≡ above_default rules (record { clauses = kept; decision = decision })
    → Added ranges (cut ranges count rules) clauses decision None (cut ranges count after)
added ranges count rules after clauses kept decision free six known taken same done =
    let clauses_are = taken_cut ranges clauses kept six (sym taken) same in
    let least : min decision (count - 1) ≡ decision = omega arith in
    let leaves = ap (cut ranges count) done ∙ cut_add ranges count rules (record { clauses = kept; decision = decision })
    ∙ (λ k. above_default (cut ranges count rules) (record { clauses = clauses_are k; decision = least k })) in
    record {
      declines = taken ∙ sym (ap (λ b. unless b Full (clauses_decline ranges clauses)) (lt-leb 64 (length (cut ranges count rules)) free));
      leaves = leaves;
      in_order = λ accepted default split. leaves ∙ ap (λ l. above_default l (given_rule ranges clauses decision)) split ∙ above_last accepted default (given_rule ranges clauses decision);
    }
