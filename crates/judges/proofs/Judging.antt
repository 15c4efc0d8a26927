-- The computed answers are what installers read: the first match, and the matching set bit by bit. Assumes nothing.
use Rattle.std.proofs.Common.{◌≡◌, ℕ, zero, suc, ◌+◌, ◌-◌, ◌*◌, ◌/◌, ◌%◌, ◌<◌, Bool, true, false, cond, eqb, List, [], ◌∷◌, length, get_or, sym, ap, ◌∙◌, subst, not-suc-le-zero, arith}
use Rattle.std.specs.Int.{bit_at}
use Rattle.std.proofs.lemmas.Nat.Bits.{bit_at-suc}
use Rattle.rules.specs.declared.rule.Rule.{Rule}
use Rattle.rules.specs.Rules.{matches, rule_at}
use Rattle.judges.specs.Matches.{FirstMatch, first_match, Matching, matching_set, bit}
use Rattle.judges.specs.Meanings.{Meaning, Judged, decided}
use Rattle.judges.specs.Notes.{caps_on, strictest}
use Rattle.tables.proofs.Cuts.{blank}
use Rattle.judges.proofs.Firsts.{no_more_bits}
use Rattle.judges.proofs.Lowering.{lowered_less, lowered_refused, lowered_strictest}

bit_here : (b : Bool) (rest : ℕ) → bit (cond b 1 0 + 2 * rest) 0 ≡ b
bit_here true rest =
    let low : (1 + 2 * rest) / 1 % 2 ≡ 1 = omega arith in ap (λ n. eqb n 1) low
bit_here false rest =
    let low : (0 + 2 * rest) / 1 % 2 ≡ 0 = omega arith in ap (λ n. eqb n 1) low

bit_next : (b : Bool) (rest k : ℕ) → bit (cond b 1 0 + 2 * rest) (suc k) ≡ bit rest k
bit_next true rest k = ap (λ n. eqb n 1) (bit_at-suc (1 + 2 * rest) k ∙ ap (λ n. bit_at n k) (omega arith))
bit_next false rest k = ap (λ n. eqb n 1) (bit_at-suc (0 + 2 * rest) k ∙ ap (λ n. bit_at n k) (omega arith))

bits : (rules : List Rule) (values : List ℕ) (k : ℕ) → k < length rules → bit (matching_set rules values) k ≡ matches (get_or rules k blank) values
bits [] values k h = absurd (not-suc-le-zero h)
bits (rule ∷ rules) values zero h = bit_here (matches rule values) (matching_set rules values)
bits (rule ∷ rules) values (suc k) h = bit_next (matches rule values) (matching_set rules values) k ∙ bits rules values k (omega arith)

pub set_found : (rules : List Rule) (values : List ℕ) → Matching rules values (matching_set rules values)
set_found rules values = record {
  at_place = λ p low high. bits rules values (p - 1) (omega arith);
  no_more = no_more_bits rules values;
}

-- the computed answers on a table of which some rule matches
pub judged : (m : Meaning) (values : List ℕ) {decision place set : ℕ} → FirstMatch m.rules values (first_match m.rules values)
    → decision ≡ decided m values → place ≡ first_match m.rules values → set ≡ matching_set m.rules values → Judged m values decision place set
judged m values first decision_is place_is set_is = record {
  first = subst (FirstMatch m.rules values) (sym place_is) first;
  matching = subst (Matching m.rules values) (sym set_is) (set_found m.rules values);
  decision_is = decision_is;
  place_is = place_is;
  set_is = set_is;
  refused = λ bears. decision_is ∙ lowered_refused m.notes values (rule_at m.rules (first_match m.rules values)).decision bears;
  capped = λ none.
      decision_is ∙ lowered_strictest m.notes values (rule_at m.rules (first_match m.rules values)).decision none
      ∙ ap (λ p. strictest (rule_at m.rules p).decision (caps_on m.notes values)) (sym place_is);
  no_laxer =
      let less = lowered_less m.notes values (rule_at m.rules (first_match m.rules values)).decision in
      let same = ap (λ p. (rule_at m.rules p).decision) place_is in
      omega arith;
}
