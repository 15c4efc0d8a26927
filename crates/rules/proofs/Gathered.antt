-- What a kind has for its fields, field by field. Assumes nothing.
use Rattle.std.proofs.Common.{◌≡◌, ℕ, zero, suc, ◌+◌, ◌-◌, ◌<◌, ◌≤◌, true, List, [], ◌∷◌, length, get_or, take, drop, replicate, Some, None, Option, refl, ap, ◌∙◌, sym, subst, ⊎_elim, add-one, arith}
use Rattle.std.specs.List.{slice_get}
use Rattle.std.specs.Slice.{IsItemAt}
use Rattle.std.specs.Option.{option_copied, unwrap_or}
use Rattle.std.proofs.lemmas.List.{ext_get_or, length-take, get_or-take, length-drop, get_or-drop, length-replicate, get_or-replicate, get_or_past}
use Rattle.std.proofs.lemmas.Option.{unwrap_or-slice_get, slice_get_past, slice_get_read}
use Rattle.std.proofs.lemmas.Bool.{and_parts, cases_eq}
use denote.Ref.{Bor}
use denote.Param.Members.{Mut}
use Rattle.std.specs.Fn.{Called}
use Rattle.std.specs.Array.{IsFromFnResult, IsFromFnResultFrom}
use Rattle.rules.specs.declared.interval.Interval.{Interval}
use Rattle.rules.specs.Intervals.{inside, within}
use Rattle.rules.specs.Kinds.{of_field}

pub within_length : (is : List Interval) (vs : List ℕ) → within is vs ≡ true → length is ≡ length vs
within_length [] [] h = refl
within_length [] (v ∷ vs) h = absurd (cc)
within_length (i ∷ is) [] h = absurd (cc)
within_length (i ∷ is) (v ∷ vs) h = ap suc (within_length is vs (and_parts (inside i v) (within is vs) h).1)

-- field k + 1 is the element at index k, and there is no field 0
pub of_field_next : {A : Type 0} (xs : List A) (k : ℕ) → of_field xs (suc k) ≡ slice_get xs k
of_field_next [] k = refl
of_field_next (x ∷ xs) zero = refl
of_field_next (x ∷ xs) (suc k) = of_field_next xs k

pub of_field_none : {A : Type 0} (xs : List A) (field : ℕ) → field ≡ 0 → None ≡ of_field xs field
of_field_none [] field h = refl
of_field_none (x ∷ xs) zero h = refl
of_field_none (x ∷ xs) (suc field) h = absurd (omega arith)

-- what a look-up by a field's index gives is what there is for the field
pub of_field_got : {A : Type 0} (xs : List A) (field k : ℕ) (r : Option (Bor A)) → field ≡ suc k → IsItemAt xs k r → option_copied r ≡ of_field xs field
of_field_got xs field k None is got = sym (ap (of_field xs) is ∙ of_field_next xs k ∙ slice_get_past xs k got.3)
of_field_got xs field k (Some x) is got = sym (ap (of_field xs) is ∙ of_field_next xs k ∙ slice_get_read xs (length xs) k x.now refl got.3.0 got.1)

-- field k + 1, or d where there is none, is the element at index k
field_or : {A : Type 0} (d : A) (xs : List A) (k : ℕ) → unwrap_or (of_field xs (k + 1)) d ≡ get_or xs k d
field_or d xs k = rw add-one (ap (λ o. unwrap_or o d) (of_field_next xs k) ∙ unwrap_or-slice_get xs k d)

-- each call tells field i + 1 of xs, or d where there is none, and leaves the callee as it was
abbrev pub Tells : {F A : Type 0} → A → Mut F (ℕ × Unit {0}) A → F → List A → Type 0
Tells {F} {A} d g f xs = (i : ℕ) (y : A) (q : F) → Called g f (i, tt) y q → (y ≡ unwrap_or (of_field xs (i + 1)) d) × (q ≡ f)

module _ {F A : Type 0} {g : Mut F (ℕ × Unit {0}) A} {f : F} (d : A) (xs : List A) where
  told : Tells d g f xs → (n i : ℕ) (ys : List A) → IsFromFnResultFrom g f ys i n → (k : ℕ) → i ≤ k → k < i + n → get_or ys k d ≡ get_or xs k d
  told tells zero i ys result k low high = absurd (omega arith)
  told tells (suc n) i ys result k low high =
      let this = tells i result.1 result.0 result.3 in
      ⊎_elim
      (λ e. ap (λ j. get_or ys j d) e ∙ result.2.1 d ∙ this.0 ∙ field_or d xs i ∙ ap (λ j. get_or xs j d) (sym e))
      (λ ne. told tells n (i + 1) ys (subst (λ q. IsFromFnResultFrom g q ys (i + 1) n) this.1 result.4) k (omega arith) (omega arith))
      (cases_eq k i)

  -- an array filled by asking for each field in turn begins with what there is for the fields
  pub gathered : {n : ℕ} {ys : List A} (m : ℕ) → m ≡ length xs → m ≤ n → IsFromFnResult g f ys n → Tells d g f xs → take m ys ≡ xs
  gathered {n = n} {ys = ys} m long room result tells =
      let all = result.long in
      let few : length (take m ys) ≡ length xs = omega (arith, length-take m ys) in
      ext_get_or d (take m ys) xs few (λ k here. get_or-take m ys k d (omega arith) ∙ told tells n 0 ys result.each k (omega arith) (omega arith))

  -- and past them it has d
  pub blank_past : {n : ℕ} {ys : List A} (m : ℕ) → m ≡ length xs → m ≤ n → IsFromFnResult g f ys n → Tells d g f xs → drop m ys ≡ replicate (n - m) d
  blank_past {n = n} {ys = ys} m long room result tells =
      let all = result.long in
      let left = length-drop m ys in
      let blanks = length-replicate (n - m) d in
      let few : length (drop m ys) ≡ length (replicate (n - m) d) = omega arith in
      ext_get_or d (drop m ys) (replicate (n - m) d) few
      (λ k here. get_or-drop m ys k d ∙ told tells n 0 ys result.each (m + k) (omega arith) (omega arith) ∙ get_or_past xs (m + k) d (omega arith) ∙ sym (get_or-replicate (n - m) k d d (omega arith)))
