-- What the steps of an outline come to.
use Rattle.std.proofs.Common.{◌≡◌, ◌⊎◌, ℕ, ◌<◌, ◌≤◌, ◌+◌, false, List, [], ◌∷◌, ◌++◌, All, length, sum_by, refl, ap, ◌∙◌, subst, inl, inr, arith}
use Rattle.std.proofs.lemmas.Bool.{cases_lt}
use Rattle.std.proofs.lemmas.List.Elements.{All-cons, All-nil, All-weaker}
use Rattle.std.proofs.lemmas.List.Sums.{sum_by-cons}
use Rattle.cu_node.specs.declared.info.NodeInfo.{NodeInfo}
use Rattle.cu_op.specs.declared.operation.Op.{Op}
use Rattle.cu_op.specs.declared.operation.Op.TheVariants.{Copy}
use Rattle.cu_tree.specs.Outlines.{outline_arrays, outline_bytes, outline_tasks, outlined_tasks, with_values}
use Rattle.cu_tree.specs.Partials.{chunks_of}
use Rattle.cu_tree.specs.declared.outline.Outlined.{Outlined}
use Rattle.cu_lower_reduce.specs.Steps.{all_made, is_copy, step_tasks, tasks_over, AreOutlined}
use Rattle.cu_lower_reduce.specs.declared.step.Step.{Step}

-- one of the steps isn't a copy and needs so many bytes
abbrev pub Attain : ℕ → List Step → Type 0
Attain need [] = ⊥
Attain need (s ∷ ss) = ((is_copy s.op ≡ false) × (s.need ≡ need)) ⊎ Attain need ss

plain_tasks : (op : Op) (made : NodeInfo) → is_copy op ≡ false → tasks_over op made ≡ chunks_of made
plain_tasks (Copy region source out) made h = cc
plain_tasks op made h = refl

some_bytes : (os : List Outlined) → 0 < outline_bytes os → 0 < length os
some_bytes [] h = absurd (omega (arith, h))
some_bytes (o ∷ os) h = omega arith

module _ (reserved : ℕ) where
  pub outlined_few : (os : List Outlined) (ss : List Step) → AreOutlined reserved os ss → length ss ≡ length os
  outlined_few [] [] h = refl
  outlined_few [] (s ∷ ss) h = absurd h
  outlined_few (o ∷ os) [] h = absurd h
  outlined_few (o ∷ os) (s ∷ ss) h = let e = outlined_few os ss h.1 in omega (arith, e)

  pub outlined_others : (os : List Outlined) (ss : List Step) → AreOutlined reserved os ss → All (λ s. is_copy s.op ≡ false) ss
  outlined_others [] [] h = All-nil (λ s. is_copy s.op ≡ false)
  outlined_others [] (s ∷ ss) h = absurd h
  outlined_others (o ∷ os) [] h = absurd h
  outlined_others (o ∷ os) (s ∷ ss) h = All-cons (λ s. is_copy s.op ≡ false) s ss h.0.1 (outlined_others os ss h.1)

  pub outlined_made : (os : List Outlined) (ss : List Step) → AreOutlined reserved os ss → all_made ss ≡ outline_arrays os
  outlined_made [] [] h = refl
  outlined_made [] (s ∷ ss) h = absurd h
  outlined_made (o ∷ os) [] h = absurd h
  outlined_made (o ∷ os) (s ∷ ss) h = λ j. with_values (h.0.0 j).values (h.0.0 j).made ++ outlined_made os ss h.1 j

  pub outlined_sum : (os : List Outlined) (ss : List Step) → AreOutlined reserved os ss → sum_by step_tasks ss ≡ outline_tasks os
  outlined_sum [] [] h = refl
  outlined_sum [] (s ∷ ss) h = absurd h
  outlined_sum (o ∷ os) [] h = absurd h
  outlined_sum (o ∷ os) (s ∷ ss) h =
      let own : step_tasks s ≡ outlined_tasks o = plain_tasks s.op s.made h.0.1 ∙ ap (λ (t : Step). chunks_of t.made) h.0.0 in
      let a = sum_by-cons step_tasks s ss in
      let b = sum_by-cons outlined_tasks o os in
      let rest = outlined_sum os ss h.1 in
      omega (arith, own, a, b, rest)

  pub outlined_needs : (os : List Outlined) (ss : List Step) → AreOutlined reserved os ss → All (λ s. s.need ≤ reserved + outline_bytes os) ss
  outlined_needs [] [] h = All-nil (λ s. s.need ≤ reserved + outline_bytes [])
  outlined_needs [] (s ∷ ss) h = absurd h
  outlined_needs (o ∷ os) [] h = absurd h
  outlined_needs (o ∷ os) (s ∷ ss) h =
      let own = ap (λ (t : Step). t.need) h.0.0 in
      All-cons (λ s. s.need ≤ reserved + outline_bytes (o ∷ os)) s ss (omega (arith, own))
      (All-weaker (λ s. s.need ≤ reserved + outline_bytes os) (λ s. s.need ≤ reserved + outline_bytes (o ∷ os)) (λ s w. omega (arith, w)) ss (outlined_needs os ss h.1))

  -- one needs as much as the outline
  pub outlined_attain : (os : List Outlined) (ss : List Step) → 0 < length os → AreOutlined reserved os ss → Attain (reserved + outline_bytes os) ss
  outlined_attain [] ss some h = absurd (omega (arith, some))
  outlined_attain (o ∷ os) [] some h = absurd h
  outlined_attain (o ∷ os) (s ∷ ss) some h =
      let own = ap (λ (t : Step). t.need) h.0.0 in
      elim (cases_lt o.bytes (outline_bytes os)) [
        | inl less ↦
            let is : reserved + outline_bytes os ≡ reserved + outline_bytes (o ∷ os) = omega (arith, less) in
            inr (subst (λ (n : ℕ). Attain n ss) is (outlined_attain os ss (some_bytes os (omega (arith, less))) h.1))
        | inr most ↦ inl (h.0.1, omega (arith, own, most))
      ]
