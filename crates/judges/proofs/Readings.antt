-- A verdict on a table by limits that are the kinds' own. Assumes nothing.
use Rattle.std.proofs.Common.{◌≡◌, ℕ, ◌<◌, ◌≤◌, true, false, List, [], length, None, Some, Option, IsSome, MatchOption, vec_items, refl, sym, ap, ◌∙◌, subst, arith}
use Rattle.std.proofs.lemmas.Bool.{both_ways}
use Rattle.tables.specs.declared.edit.Edit.{Edit}
use Rattle.tables.specs.declared.edit.Edit.TheVariants.{Change, Swap, Delete}
use Rattle.rules.specs.declared.interval.Interval.{Interval}
use Rattle.rules.specs.declared.limits.Limits.{Limits}
use Rattle.rules.specs.declared.rule.Rule.{Rule}
use Rattle.tables.specs.declared.rule_list.RuleList.{RuleList}
use Rattle.tables.proofs.Cuts.{list_lawful}
use Rattle.tables.specs.Edits.{Known, plain_edit, edit_decline}
use Rattle.rules.specs.Kinds.{LawfulRanges}
use Rattle.rules.specs.Intervals.{within}
use Rattle.rules.specs.Limits.{ranges_in}
use Rattle.rules.specs.Rules.{cut, matches, rule_at}
use Rattle.judges.specs.Matches.{FirstMatch, matching_set}
use Rattle.judges.specs.Meanings.{Judged}
use Rattle.judges.specs.Views.{under, seen, Readable}
use Rattle.judges.proofs.Defaults.{default_matches, decision_below}
use Rattle.judges.proofs.Firsts.{first_is}
use Rattle.judges.proofs.Judging.{judged}

-- seen by the kinds' own limits, a table is what it stands for, under the edit
pub seen_own : {ranges : List Interval} {count : ℕ} (rules : List Rule) (edit : Option (Edit ℕ)) (limits : Limits) → ranges_in limits ≡ ranges → limits.decisions ≡ count
    → seen rules edit limits ≡ under edit (cut ranges count rules)
seen_own rules edit limits own_ranges own_count = λ k. under edit (cut (own_ranges k) (own_count k) rules)

module _ (ranges : List Interval) (count : ℕ) (rules : List Rule) (edit : Option (Edit ℕ)) (read : Readable ranges count rules edit) where
  abbrev shown : List Rule
  shown = under edit (cut ranges count rules)

  -- some rule matches, since the default does
  pub place_found : (values : List ℕ) → within ranges values ≡ true → (place : Option ℕ)
      → MatchOption place ((p : ℕ) → 1 ≤ p → p ≤ length shown → matches (rule_at shown p) values ≡ false) (FirstMatch shown values) → IsSome place
  place_found values ranged None none =
      let last = default_matches ranges count (cut ranges count rules) edit read.lawful read.taken values ranged in
      absurd (both_ways true (sym last.1 ∙ none (length shown) last.0 (omega arith)) refl)
  place_found values ranged (Some place) first = refl

  -- the decision of the rule there is one of those that there are
  pub decision_known : {values : List ℕ} {place number : ℕ} → FirstMatch shown values place → number ≡ (rule_at shown place).decision → number < count
  decision_known {values} {place} {number} first told =
      let below = decision_below ranges count (cut ranges count rules) edit read.lawful read.taken read.known place first.from_one first.to_last in
      omega arith

  pub verdict_judged : {values : List ℕ} {decision place set : ℕ} → FirstMatch shown values place → decision ≡ (rule_at shown place).decision → set ≡ matching_set shown values
      → Judged (record { rules = shown; notes = [] }) values decision place set
  verdict_judged {values} {decision} {place} {set} first told all =
      let is = first_is shown values place first in
      judged (record { rules = shown; notes = [] }) values (subst (FirstMatch shown values) is first) (told ∙ ap (λ p. (rule_at shown p).decision) is) is all

-- an edit of a kind's own decisions names a number that there is
known_plain : {D : Type 0} (number : D → ℕ) (count : ℕ) → ((d : D) → number d < count) → (edit : Edit D) → Known count (plain_edit number edit)
known_plain number count below (Change i d) = below d
known_plain number count below (Swap i j) = tt
known_plain number count below (Delete i) = tt

-- a table's own rules can be read, as they are and under an edit that is not declined
module _ (ranges : List Interval) (count : ℕ) (list : RuleList) (lawful : LawfulRanges ranges) (counted : 1 ≤ count) {kept : List Rule} (own : kept ≡ vec_items list.rules) where
  pub readable : Readable ranges count kept None
  readable = subst (λ rules. Readable ranges count rules None) (sym own) (record { lawful = list_lawful list ranges count lawful counted; taken = tt; known = tt })

  pub readable_under : {D : Type 0} (number : D → ℕ) → ((d : D) → number d < count) → (edit : Edit D) {plain : Edit ℕ} → plain ≡ plain_edit number edit
      → edit_decline (cut ranges count (vec_items list.rules)) (plain_edit number edit) ≡ None → Readable ranges count kept (Some plain)
  readable_under number below edit same taken =
      let given : Readable ranges count (vec_items list.rules) (Some (plain_edit number edit)) = record { lawful = list_lawful list ranges count lawful counted; taken = taken; known = known_plain number count below edit } in
      subst (λ e. Readable ranges count kept (Some e)) (sym same) (subst (λ rules. Readable ranges count rules (Some (plain_edit number edit))) (sym own) given)
