-- What layers keep, read by the words of std for lists. Assumes nothing.
use Rattle.std.proofs.Common.{◌≡◌, ℕ, min, true, false, ◌||◌, eqb, List, [], ◌∷◌, map, filter, fold, Some, Option, ◌++◌, suc, is_some, position, remove, All, AllPairs, ◌≢◌, ◌+◌, ⊎_elim, get_or, ne_eqb, eq-eqb, refl, sym, ap, ◌∙◌, arith}
use Rattle.std.specs.List.{list_any, position_or_len}
use Rattle.std.proofs.lemmas.List.Edits.{length-remove, get_or-remove_below, get_or-remove_above}
use Rattle.std.proofs.lemmas.Bool.{cases_lt, eqb-true}
use Rattle.std.proofs.lemmas.Grind.{common_steps}
use Rattle.std.proofs.lemmas.List.Folds.{list_any_at, list_any_none}
use Rattle.std.proofs.lemmas.List.Quantifiers.{all_pairs_push, position-Some}
use Rattle.std.proofs.lemmas.List.Recursion.{same_from_clauses}
use Rattle.rules.specs.Intervals.{inside}
use Rattle.judges.specs.declared.window.Window.{Window}
use Rattle.rules.specs.declared.decline.Decline.{Decline}
use Rattle.rules.specs.Kinds.{of_field}
use Rattle.layers.specs.Keeping.{Bars, Frees}
use Rattle.judges.specs.Notes.{withdrawals, holds_value, cap_inside, without}

pub holds_any : (values : List ℕ) (value : ℕ) → holds_value values value ≡ list_any (λ x. eqb x value) values
holds_any values value = same_from_clauses (λ l. holds_value l value) (list_any (λ x. eqb x value)) (λ x b. eqb x value || b) refl (λ _ _. refl) (λ _ _. refl) values

pub holds_position : (values : List ℕ) (value : ℕ) → holds_value values value ≡ is_some (position (λ x. eqb x value) values)
holds_position [] value = refl
holds_position (x ∷ xs) value = grind (arith, common_steps, holds_position xs value)

-- values none of which stands twice stay so with one more that is not held
pub apart_push : (values : List ℕ) (value : ℕ) → AllPairs (λ x y. x ≢ y) values → holds_value values value ≡ false → AllPairs (λ x y. x ≢ y) (values ++ (value ∷ []))
apart_push values value apart absent = all_pairs_push (λ x y. x ≢ y) values value apart
    (λ k d here same. grind (arith, absent, holds_any values value, list_any_at (λ x. eqb x value) values k d here (eq-eqb (get_or values k d) value same)))

-- taking a value out is removing it at its first index
pub without_index : (values : List ℕ) (value : ℕ) → without values value ≡ remove values (position_or_len (λ x. eqb x value) values)
without_index [] value = refl
without_index (x ∷ xs) value =
    let next : 1 + position_or_len (λ y. eqb y value) xs ≡ suc (position_or_len (λ y. eqb y value) xs) = omega arith in
    grind (arith, next, without_index xs value)

-- of values none of which stands twice, one that is removed is held no more
removed_gone : (values : List ℕ) (value index : ℕ) → AllPairs (λ x y. x ≢ y) values → position (λ x. eqb x value) values ≡ Some index → holds_value (remove values index) value ≡ false
removed_gone values value index apart at = holds_any (remove values index) value ∙ list_any_none (λ x. eqb x value) (remove values index) other
  where
    other : All (λ x. eqb x value ≡ false) (remove values index)
    other k d here =
        let first = position-Some (λ x. eqb x value) values index d at in
        let last = length-remove values index first.0 in
        ⊎_elim
        (λ before. ap (λ x. eqb x value) (get_or-remove_below values index d k before first.0) ∙ first.2 k before)
        (λ behind. ap (λ x. eqb x value) (get_or-remove_above values index d k behind first.0)
        ∙ ne_eqb (get_or values (k + 1) d) value (λ same. apart index (k + 1) d (omega arith) (omega arith) (eqb-true (get_or values index d) value first.1 ∙ sym same)))
        (cases_lt k index)

-- what withdrawing a value makes of a note on its field
pub withdraw_bars : (on field value : ℕ) (values after : List ℕ) → eqb on field ≡ true → after ≡ values ++ (value ∷ [])
    → (answer : Option (Option Decline)) → Bars field value answer (withdrawals on after)
withdraw_bars on field value values after own done answer taken below borne bears =
    let at : of_field borne on ≡ Some value = ap (of_field borne) (eqb-true on field own) ∙ bears in
    rw (at, done) (grind (arith, common_steps, holds_any))

-- what giving one back makes of it
pub give_back_frees : (on field value index : ℕ) (values after : List ℕ) → eqb on field ≡ true → AllPairs (λ x y. x ≢ y) values
    → position (λ x. eqb x value) values ≡ Some index → after ≡ remove values index → (answer : Option (Option Decline)) → Frees field value answer (withdrawals on after)
give_back_frees on field value index values after own apart at done answer taken below = rw (own, done) (removed_gone values value index apart at)

-- lowering first and capping then is capping first
cap_after : (list : List Window) (value decision cap : ℕ) → cap_inside list value (min decision cap) ≡ min cap (cap_inside list value decision)
cap_after [] value decision cap = omega arith
cap_after (w ∷ ws) value decision cap = grind (arith, cap_after ws value decision cap)

-- the caps of the windows that hold a value, taken one after the other, come to what the note makes of the decision
pub caps_in_turn : (list : List Window) (value decision : ℕ) → cap_inside list value decision ≡ fold min decision (map (λ w. w.cap) (filter (λ w. inside w.interval value) list))
caps_in_turn [] value decision = refl
caps_in_turn (w ∷ ws) value decision = grind (arith, caps_in_turn ws value decision, caps_in_turn ws value (min decision w.cap), cap_after ws value decision w.cap)
