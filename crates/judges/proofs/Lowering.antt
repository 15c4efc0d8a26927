-- What notes do to a decision, over any pile of them. Assumes nothing.
use Rattle.std.proofs.Common.{◌≡◌, ℕ, ◌≤◌, min, Bool, true, false, cond, List, [], ◌∷◌, ◌++◌, Some, None, Option, sym, refl, ap, ◌∙◌, ⊎_elim, le_trans, arith}
use Rattle.std.proofs.lemmas.Bool.{or_cases, or_parts, cond_both}
use Rattle.rules.specs.Intervals.{inside}
use Rattle.rules.specs.Kinds.{of_field}
use Rattle.judges.specs.declared.window.Window.{Window}
use Rattle.judges.specs.Notes.{Note, withdrawals, windows, note_field, holds_value, cap_inside, noted_value, lowered, bears_kept, bears_withdrawn, caps_at, caps_of, caps_on, strictest}

cap_less : (list : List Window) (value decision : ℕ) → cap_inside list value decision ≤ decision
cap_less [] value decision = omega arith
cap_less (w ∷ ws) value decision =
    let less = cap_less ws value decision in
    cond_both (inside w.interval value) (min w.cap (cap_inside ws value decision)) (cap_inside ws value decision) (λ n. n ≤ decision) (λ e. omega arith) (λ e. less)

-- no note makes a decision laxer
pub noted_less : (note : Note) (value : Option ℕ) (decision : ℕ) → noted_value note value decision ≤ decision
noted_less (withdrawals field kept) None decision = omega arith
noted_less (windows field list) None decision = omega arith
noted_less (withdrawals field kept) (Some value) decision = cond_both (holds_value kept value) 0 decision (λ n. n ≤ decision) (λ e. omega arith) (λ e. omega arith)
noted_less (windows field list) (Some value) decision = cap_less list value decision

pub lowered_less : (notes : List Note) (values : List ℕ) (decision : ℕ) → lowered notes values decision ≤ decision
lowered_less [] values decision = omega arith
lowered_less (note ∷ notes) values decision =
    le_trans (noted_less note (of_field values (note_field note)) (lowered notes values decision)) (lowered_less notes values decision)

-- a note refuses what bears one of its values
kept_refused : (note : Note) (value : Option ℕ) (decision : ℕ) → bears_kept note value ≡ true → noted_value note value decision ≡ 0
kept_refused (withdrawals field kept) None decision h = cc
kept_refused (windows field list) None decision h = cc
kept_refused (withdrawals field kept) (Some value) decision h = ap (λ b. cond b 0 decision) h
kept_refused (windows field list) (Some value) decision h = cc

-- and refused it stays
pub lowered_refused : (notes : List Note) (values : List ℕ) (decision : ℕ) → bears_withdrawn notes values ≡ true → lowered notes values decision ≡ 0
lowered_refused [] values decision h = cc
lowered_refused (note ∷ notes) values decision h =
    let value = of_field values (note_field note) in
    ⊎_elim
    (λ here. kept_refused note value (lowered notes values decision) here)
    (λ below. let zero_below = lowered_refused notes values decision below in let less = noted_less note value (lowered notes values decision) in omega arith)
    (or_cases (bears_kept note value) (bears_withdrawn notes values) h)

-- the smallest cap of a list of windows, in one go
cap_strictest : (list : List Window) (value decision : ℕ) → cap_inside list value decision ≡ strictest decision (caps_at list value)
cap_strictest [] value decision = refl
cap_strictest (w ∷ ws) value decision = cases (inside w.interval value) (cap_strictest ws value decision)
  where
    cases : (b : Bool) → cap_inside ws value decision ≡ strictest decision (caps_at ws value)
        → cond b (min w.cap (cap_inside ws value decision)) (cap_inside ws value decision) ≡ strictest decision (cond b (w.cap ∷ caps_at ws value) (caps_at ws value))
    cases true h = ap (min w.cap) h
    cases false h = h

strictest_both : (decision : ℕ) (outer inner : List ℕ) → strictest decision (outer ++ inner) ≡ strictest (strictest decision inner) outer
strictest_both decision [] inner = refl
strictest_both decision (cap ∷ outer) inner = ap (min cap) (strictest_both decision outer inner)

-- a note that refuses nothing of the request sets its caps
noted_strictest : (note : Note) (value : Option ℕ) (decision : ℕ) → bears_kept note value ≡ false → noted_value note value decision ≡ strictest decision (caps_of note value)
noted_strictest (withdrawals field kept) None decision h = refl
noted_strictest (windows field list) None decision h = refl
noted_strictest (withdrawals field kept) (Some value) decision h = ap (λ b. cond b 0 decision) h
noted_strictest (windows field list) (Some value) decision h = cap_strictest list value decision

-- and so does a pile, in whatever order
pub lowered_strictest : (notes : List Note) (values : List ℕ) (decision : ℕ) → bears_withdrawn notes values ≡ false → lowered notes values decision ≡ strictest decision (caps_on notes values)
lowered_strictest [] values decision h = refl
lowered_strictest (note ∷ notes) values decision h =
    let value = of_field values (note_field note) in
    let neither = or_parts (bears_kept note value) (bears_withdrawn notes values) h in
    ap (noted_value note value) (lowered_strictest notes values decision neither.1)
    ∙ noted_strictest note value (strictest decision (caps_on notes values)) neither.0
    ∙ sym (strictest_both decision (caps_of note value) (caps_on notes values))
