-- Copies of operands, one operand after another.
use Rattle.std.proofs.Common.{◌≡◌, ℕ, zero, suc, ◌+◌, ◌<◌, ◌≤◌, true, false, List, [], ◌∷◌, ◌++◌, All, length, drop, filter, get_or, min, ◌⊎◌, refl, ap, sym, ◌∙◌, subst, inl, inr, arith}
use Rattle.std.proofs.lemmas.List.{append-nil, append_assoc}
use Rattle.std.proofs.lemmas.List.Elements.{All-head, All-tail}
use Rattle.std.proofs.lemmas.Bool.{cases_Bool, cases_lt}
use Rattle.cu_copy.specs.Copies.{is_misaligned}
use Rattle.cu_copy.specs.declared.copies.Rechunk.{Rechunk}
use Rattle.cu_lower_reduce.specs.Copies.{aligned_places, aligned_steps, operand_place, operand_steps, IsStaged}
use Rattle.cu_lower_reduce.specs.Steps.{all_made}
use Rattle.cu_lower_reduce.proofs.Operands.{length-made}
use Rattle.cu_lower_reduce.specs.declared.copy.CopySetting.{CopySetting}
use Rattle.cu_lower_reduce.specs.declared.step.Step.{Step}

-- where copies stand from this array on
abbrev pub from_array : CopySetting → ℕ → CopySetting
from_array s next = record { first = next; reserved = s.reserved; most = s.most }

-- each that has other chunks can be copied
pub staged_at : (s : CopySetting) (rs : List Rechunk) (j : ℕ) (r d : Rechunk) → All (IsStaged s) (filter is_misaligned rs) → j < length rs → get_or rs j d ≡ r → is_misaligned r ≡ true → IsStaged s r
staged_at s [] j r d all below at other = absurd (omega (arith, below))
staged_at s (x ∷ rs) zero r d all below at other =
    let here : is_misaligned x ≡ true = ap is_misaligned at ∙ other in
    subst (IsStaged s) at (All-head (IsStaged s) x (filter is_misaligned rs) (subst (λ (l : List Rechunk). All (IsStaged s) l) (keep here) all))
  where
    keep : is_misaligned x ≡ true → filter is_misaligned (x ∷ rs) ≡ x ∷ filter is_misaligned rs
    keep here = rw here refl
staged_at s (x ∷ rs) (suc j) r d all below at other =
    elim (cases_Bool (is_misaligned x)) [
      | inl here ↦ staged_at s rs j r d (All-tail (IsStaged s) x (filter is_misaligned rs) (subst (λ (l : List Rechunk). All (IsStaged s) l) (keep here) all)) (omega (arith, below)) at other
      | inr not ↦ staged_at s rs j r d (subst (λ (l : List Rechunk). All (IsStaged s) l) (drops not) all) (omega (arith, below)) at other
    ]
  where
    keep : is_misaligned x ≡ true → filter is_misaligned (x ∷ rs) ≡ x ∷ filter is_misaligned rs
    keep here = rw here refl

    drops : is_misaligned x ≡ false → filter is_misaligned (x ∷ rs) ≡ filter is_misaligned rs
    drops not = rw not refl

-- past the end of one of both lists nothing is left
none_left : {A : Type 0} (xs : List A) (k : ℕ) → length xs ≤ k → drop k xs ≡ []
none_left [] zero h = refl
none_left [] (suc k) h = refl
none_left (x ∷ xs) zero h = absurd (omega (arith, h))
none_left (x ∷ xs) (suc k) h = none_left xs k (omega (arith, h))

no_steps : (s : CopySetting) (ins : List ℕ) (rs : List Rechunk) → (ins ≡ []) ⊎ (rs ≡ []) → aligned_steps s ins rs ≡ []
no_steps s [] rs h = refl
no_steps s (a ∷ ins) [] h = refl
no_steps s (a ∷ ins) (r ∷ rs) (inl h) = cc
no_steps s (a ∷ ins) (r ∷ rs) (inr h) = cc

no_places : (s : CopySetting) (ins : List ℕ) (rs : List Rechunk) → (ins ≡ []) ⊎ (rs ≡ []) → aligned_places s ins rs ≡ []
no_places s [] rs h = refl
no_places s (a ∷ ins) [] h = refl
no_places s (a ∷ ins) (r ∷ rs) (inl h) = cc
no_places s (a ∷ ins) (r ∷ rs) (inr h) = cc

gone : (sources : List ℕ) (wanted : List Rechunk) (j : ℕ) → min (length sources) (length wanted) ≤ j → (drop j sources ≡ []) ⊎ (drop j wanted ≡ [])
gone sources wanted j past =
    elim (cases_lt j (length sources)) [
      | inl more ↦ inr (none_left wanted j (omega (arith, past, more)))
      | inr done ↦ inl (none_left sources j done)
    ]

pub last_steps : (s : CopySetting) (sources : List ℕ) (wanted : List Rechunk) (j : ℕ) (steps whole : List Step) → min (length sources) (length wanted) ≤ j
    → steps ++ aligned_steps s (drop j sources) (drop j wanted) ≡ whole → steps ≡ whole
last_steps s sources wanted j steps whole past known =
    sym (append-nil steps) ∙ ap (λ xs. steps ++ xs) (sym (no_steps s (drop j sources) (drop j wanted) (gone sources wanted j past))) ∙ known

pub last_places : (s : CopySetting) (sources : List ℕ) (wanted : List Rechunk) (j : ℕ) (places whole : List ℕ) → min (length sources) (length wanted) ≤ j
    → places ++ aligned_places s (drop j sources) (drop j wanted) ≡ whole → places ≡ whole
last_places s sources wanted j places whole past known =
    sym (append-nil places) ∙ ap (λ xs. places ++ xs) (sym (no_places s (drop j sources) (drop j wanted) (gone sources wanted j past))) ∙ known

-- One operand more: its copies, from the next array on, and the array that is read in its place. What is behind it begins after its copies.
abbrev after_operand : CopySetting → ℕ → ℕ → Rechunk → ℕ
after_operand s next a r = next + length (all_made (operand_steps (from_array s next) a r))

pub more_steps : (s : CopySetting) (sources : List ℕ) (wanted : List Rechunk) (j next after a : ℕ) (r : Rechunk) (steps more whole : List Step)
    → drop j sources ≡ a ∷ drop (j + 1) sources → drop j wanted ≡ r ∷ drop (j + 1) wanted
    → more ≡ steps ++ operand_steps (from_array s next) a r → after ≡ after_operand s next a r
    → steps ++ aligned_steps (from_array s next) (drop j sources) (drop j wanted) ≡ whole
    → more ++ aligned_steps (from_array s after) (drop (j + 1) sources) (drop (j + 1) wanted) ≡ whole
more_steps s sources wanted j next after a r steps more whole source want added moved known =
    ap (λ (xs : List Step). xs ++ aligned_steps (from_array s after) (drop (j + 1) sources) (drop (j + 1) wanted)) added
    ∙ ap (λ n. (steps ++ operand_steps (from_array s next) a r) ++ aligned_steps (from_array s n) (drop (j + 1) sources) (drop (j + 1) wanted)) moved
    ∙ append_assoc steps (operand_steps (from_array s next) a r) (aligned_steps (from_array s (after_operand s next a r)) (drop (j + 1) sources) (drop (j + 1) wanted))
    ∙ ap (λ rs. steps ++ aligned_steps (from_array s next) (a ∷ drop (j + 1) sources) rs) (sym want)
    ∙ ap (λ ins. steps ++ aligned_steps (from_array s next) ins (drop j wanted)) (sym source)
    ∙ known

pub more_places : (s : CopySetting) (sources : List ℕ) (wanted : List Rechunk) (j next after a : ℕ) (r : Rechunk) (places more whole : List ℕ)
    → drop j sources ≡ a ∷ drop (j + 1) sources → drop j wanted ≡ r ∷ drop (j + 1) wanted
    → more ≡ places ++ operand_place (from_array s next) a r ∷ [] → after ≡ after_operand s next a r
    → places ++ aligned_places (from_array s next) (drop j sources) (drop j wanted) ≡ whole
    → more ++ aligned_places (from_array s after) (drop (j + 1) sources) (drop (j + 1) wanted) ≡ whole
more_places s sources wanted j next after a r places more whole source want added moved known =
    ap (λ (xs : List ℕ). xs ++ aligned_places (from_array s after) (drop (j + 1) sources) (drop (j + 1) wanted)) added
    ∙ ap (λ n. (places ++ operand_place (from_array s next) a r ∷ []) ++ aligned_places (from_array s n) (drop (j + 1) sources) (drop (j + 1) wanted)) moved
    ∙ append_assoc places (operand_place (from_array s next) a r ∷ []) (aligned_places (from_array s (after_operand s next a r)) (drop (j + 1) sources) (drop (j + 1) wanted))
    ∙ ap (λ rs. places ++ aligned_places (from_array s next) (a ∷ drop (j + 1) sources) rs) (sym want)
    ∙ ap (λ ins. places ++ aligned_places (from_array s next) ins (drop j wanted)) (sym source)
    ∙ known

-- the arrays that are made stay those of the steps
pub more_made : (s : CopySetting) (first next after a : ℕ) (r : Rechunk) (steps more : List Step) → more ≡ steps ++ operand_steps (from_array s next) a r → after ≡ after_operand s next a r
    → next ≡ first + length (all_made steps) → after ≡ first + length (all_made more)
more_made s first next after a r steps more added moved known =
    let made : length (all_made more) ≡ length (all_made steps) + length (all_made (operand_steps (from_array s next) a r)) =
    ap (λ (xs : List Step). length (all_made xs)) added ∙ length-made steps (operand_steps (from_array s next) a r) in
    omega (arith, made, moved, known)
