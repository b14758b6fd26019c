-- What stands in a plan that begins with what some steps made: their arrays, their operations, and sums over both.
use Rattle.std.proofs.Common.{◌≡◌, ◌⊎◌, ℕ, zero, suc, ◌<◌, ◌≤◌, ◌+◌, ◌-◌, ◌==◌, ◌&&◌, Bool, true, false, List, [], ◌∷◌, ◌++◌, All, Contains, Option, Some, None, length, sum_by, refl, ap, sym, ◌∙◌, subst, inl, inr, arith, if◌then◌else◌}
use Rattle.std.specs.List.{range_with_len}
use Rattle.std.proofs.lemmas.Bool.{cases_lt}
use Rattle.std.proofs.lemmas.List.{length-append}
use Rattle.std.proofs.lemmas.List.Elements.{All-nil, All-cons, All-head, All-tail}
use Rattle.std.proofs.lemmas.List.Sums.{sum_by-append, sum_by-cons}
use Rattle.cu_name.specs.Keys.{made_prefix_of}
use Rattle.cu_op.specs.Arrays.{array_at}
use Rattle.cu_op.specs.Cells.{regions_of}
use Rattle.cu_op.specs.Operation.{writes_of}
use Rattle.cu_op.specs.PlanView.{operation_at, no_operation}
use Rattle.cu_op.specs.Sound.{made_chunks}
use Rattle.cu_op.specs.Elements.{Elements}
use Rattle.cu_op.specs.Value.{rule}
use Rattle.cu_op.specs.declared.layout.ArrayInfo.{ArrayInfo}
use Rattle.cu_op.specs.declared.layout.Layout.{Layout}
use Rattle.cu_op.specs.declared.operation.Planned.{Planned}
use Rattle.cu_form.specs.Expression.{Expression}
use Rattle.cu_node.specs.declared.info.NodeInfo.{NodeInfo}
use Rattle.cu_need.specs.Chunks.{chunk_count}
use Rattle.cu_lower_reduce.specs.Steps.{with_values, made_infos, all_made, HasInfo, HaveInfos, SolveSteps}
use Rattle.cu_lower_reduce.specs.declared.step.Step.{Step}
use Rattle.cu_lower.specs.Inputs.{input_names}
use Rattle.cu_lower.specs.Parts.{Grown, made_layout, pair_arrays, is_none, with_step, with_steps}
use Rattle.cu_lower.proofs.Growing.{HasGrid, Front, front_then, front_steps, added, added_at, step_long}
use Rattle.cu_lower.proofs.Standing.{seam, within_front, front_array}

-- ---- layouts

-- the arrays from number `first` on have these layouts, in order
abbrev pub HaveLayouts : List ArrayInfo → ℕ → List NodeInfo → Type 0
HaveLayouts arrays first [] = Unit {0}
HaveLayouts arrays first (i ∷ is) = ((array_at arrays first).layout ≡ made_layout i) × HaveLayouts arrays (first + 1) is

pub layouts_known : (arrays : List ArrayInfo) (first : ℕ) (is : List NodeInfo) → first + length is ≤ length arrays → HaveLayouts arrays first is → HaveInfos arrays first is
layouts_known arrays first [] within h = tt
layouts_known arrays first (i ∷ is) within h = (
  record { within = omega (arith, within); dtype = ap (λ (l : Layout). l.dtype) h.0; grid = ap (λ (l : Layout). l.grid) h.0 },
  layouts_known arrays (first + 1) is (omega (arith, within)) h.1,
)

have_both : (arrays : List ArrayInfo) (first : ℕ) (xs ys : List NodeInfo) → HaveLayouts arrays first xs → HaveLayouts arrays (first + length xs) ys → HaveLayouts arrays first (xs ++ ys)
have_both arrays first [] ys a b = subst (λ (n : ℕ). HaveLayouts arrays n ys) (let z : first + 0 ≡ first = omega arith in z) b
have_both arrays first (x ∷ xs) ys a b = (a.0, have_both arrays (first + 1) xs ys a.1 (subst (λ (n : ℕ). HaveLayouts arrays n ys) (let z : first + suc (length xs) ≡ first + 1 + length xs = omega arith in z) b))

-- that of the last of them
pub last_layout : (arrays : List ArrayInfo) (first : ℕ) (xs : List NodeInfo) (i : NodeInfo) → HaveLayouts arrays first (xs ++ i ∷ []) → (array_at arrays (first + length xs)).layout ≡ made_layout i
last_layout arrays first [] i h = ap (λ a. (array_at arrays a).layout) (let z : first + 0 ≡ first = omega arith in z) ∙ h.0
last_layout arrays first (x ∷ xs) i h = ap (λ a. (array_at arrays a).layout) (let z : first + suc (length xs) ≡ first + 1 + length xs = omega arith in z) ∙ last_layout arrays (first + 1) xs i h.1

-- what is known of the last of them
pub last_known : (arrays : List ArrayInfo) (first : ℕ) (xs : List NodeInfo) (i : NodeInfo) → HaveInfos arrays first (xs ++ i ∷ []) → HasInfo arrays (first + length xs) i
last_known arrays first [] i h = subst (λ (a : ℕ). HasInfo arrays a i) (let z : first ≡ first + 0 = omega arith in z) h.0
last_known arrays first (x ∷ xs) i h = subst (λ (a : ℕ). HasInfo arrays a i) (let z : first + 1 + length xs ≡ first + suc (length xs) = omega arith in z) (last_known arrays (first + 1) xs i h.1)

-- one of the one or two arrays of a step
pub record IsPairArray (e : Expression) (stored : Bool) (others maker : ℕ) (values : Option NodeInfo) (i : NodeInfo) (j : ℕ) (a : ArrayInfo) : Type 0 where
  pub info : NodeInfo
  pub kept : All HasGrid (with_values values i) → HasGrid info
  pub layout : a.layout ≡ made_layout info
  pub made : a.maker ≡ Some maker
  pub stays : a.inlined ≡ false
  pub named : ((stored ≡ true) × (suc j ≡ length (with_values values i)) × (a.prefix ≡ e.store_as)) ⊎ (a.prefix ≡ made_prefix_of e.store_as (others + j))

last_named : (e : Expression) (stored : Bool) (others : ℕ) → ((stored ≡ true) × ((if stored then e.store_as else made_prefix_of e.store_as others) ≡ e.store_as)) ⊎ ((if stored then e.store_as else made_prefix_of e.store_as others) ≡ made_prefix_of e.store_as others)
last_named e true others = inl (refl, refl)
last_named e false others = inr refl

pub pair_array : (e : Expression) (stored : Bool) (others maker : ℕ) (values : Option NodeInfo) (i : NodeInfo) (j : ℕ) → j < length (with_values values i)
    → IsPairArray e stored others maker values i j (array_at (pair_arrays e stored others maker values i) j)
pair_array e stored others maker None i zero below = record {
  info = i;
  kept = λ all. All-head HasGrid i [] all;
  layout = refl;
  made = refl;
  stays = refl;
  named = elim (last_named e stored others) [
    | inl own ↦ inl (own.0, refl, own.1)
    | inr number ↦ inr (number ∙ ap (made_prefix_of e.store_as) (let z : others ≡ others + 0 = omega arith in z))
  ];
}
pair_array e stored others maker None i (suc j) below = absurd (omega arith)
pair_array e stored others maker (Some b) i zero below = record {
  info = b;
  kept = λ all. All-head HasGrid b (i ∷ []) all;
  layout = refl;
  made = refl;
  stays = refl;
  named = inr (ap (made_prefix_of e.store_as) (let z : others ≡ others + 0 = omega arith in z));
}
pair_array e stored others maker (Some b) i (suc zero) below = record {
  info = i;
  kept = λ all. All-head HasGrid i [] (All-tail HasGrid b (i ∷ []) all);
  layout = refl;
  made = refl;
  stays = refl;
  named = elim (last_named e stored (others + 1)) [
    | inl own ↦ inl (own.0, refl, own.1)
    | inr number ↦ inr number
  ];
}
pair_array e stored others maker (Some b) i (suc (suc j)) below = absurd (omega arith)

pair_layouts : (e : Expression) (arrays : List ArrayInfo) (first : ℕ) (stored : Bool) (others maker : ℕ) (values : Option NodeInfo) (i : NodeInfo)
    → ((j : ℕ) → j < length (with_values values i) → array_at arrays (first + j) ≡ array_at (pair_arrays e stored others maker values i) j) → HaveLayouts arrays first (with_values values i)
pair_layouts e arrays first stored others maker None i h =
    (ap (λ a. (array_at arrays a).layout) (let z : first ≡ first + 0 = omega arith in z) ∙ ap (λ (x : ArrayInfo). x.layout) (h 0 (omega arith)), tt)
pair_layouts e arrays first stored others maker (Some b) i h = (
  ap (λ a. (array_at arrays a).layout) (let z : first ≡ first + 0 = omega arith in z) ∙ ap (λ (x : ArrayInfo). x.layout) (h 0 (omega arith)),
  (ap (λ (x : ArrayInfo). x.layout) (h 1 (omega arith)), tt),
)

pair_cells : (e : Expression) (stored : Bool) (others maker : ℕ) (values : Option NodeInfo) (i : NodeInfo) → sum_by made_chunks (pair_arrays e stored others maker values i) ≡ sum_by chunk_count (with_values values i)
pair_cells e stored others maker None i = refl
pair_cells e stored others maker (Some b) i = refl

-- elements that solve a step and those behind it
solve_more : (arrays : List ArrayInfo) (at : Elements) (s : Step) (ss : List Step) → ((a : ℕ) (idx : List ℕ) → Contains (writes_of s.op) a → at a idx ≡ rule s.op arrays at a idx)
    → SolveSteps arrays at ss → SolveSteps arrays at (s ∷ ss)
solve_more arrays at s ss one rest t a idx (zero, below, is) among =
    let same : s ≡ t = is in
    one a idx (subst (λ (x : Step). Contains (writes_of x.op) a) (sym same) among) ∙ ap (λ (x : Step). rule x.op arrays at a idx) same
solve_more arrays at s ss one rest t a idx (suc i, below, is) among = rest t a idx (i, omega (arith, below), is) among

module _ (e : Expression) where
  -- ---- one step

  pub step_array : (last : Bool) (g f : Grown) (s : Step) (j : ℕ) → Front (with_step e last g s) f → j < length (made_infos s) → array_at f.arrays (length g.arrays + j) ≡ array_at (added e last g s) j
  step_array last g f s j front below =
      let l = step_long e last g s in
      front_array (with_step e last g s) f (length g.arrays + j) front (omega (arith, l, below))
      ∙ added_at e last g s (length g.arrays + j) (omega arith)
      ∙ ap (array_at (added e last g s)) (let z : length g.arrays + j - length g.arrays ≡ j = omega arith in z)

  pub step_operation : (last : Bool) (g f : Grown) (s : Step) → Front (with_step e last g s) f → operation_at f.ops (length g.ops) ≡ record { op = s.op; node = length g.places; projected = s.need }
  step_operation last g f s front = seam g.ops front.ops.0 f.ops (record { op = s.op; node = length g.places; projected = s.need }) no_operation (length g.ops) front.ops.1 refl

  pub step_within : (last : Bool) (g f : Grown) (s : Step) → Front (with_step e last g s) f → length g.ops < length f.ops
  step_within last g f s front =
      let o = length-append g.ops (record { op = s.op; node = length g.places; projected = s.need } ∷ []) in
      let w = within_front (with_step e last g s).ops front.ops.0 f.ops front.ops.1 in
      omega (arith, o, w)

  pub first_front : (g f : Grown) (s : Step) (ss : List Step) → Front (with_steps e g (s ∷ ss)) f → Front (with_step e (is_none ss) g s) f
  first_front g f s ss front = front_then (with_step e (is_none ss) g s) (with_steps e g (s ∷ ss)) f (front_steps e (with_step e (is_none ss) g s) ss) front

  -- ---- all steps

  pub have_layouts : (g f : Grown) (ss : List Step) → Front (with_steps e g ss) f → HaveLayouts f.arrays (length g.arrays) (all_made ss)
  have_layouts g f [] front = tt
  have_layouts g f (s ∷ ss) front =
      let h = with_step e (is_none ss) g s in
      let own = first_front g f s ss front in
      let l = step_long e (is_none ss) g s in
      have_both f.arrays (length g.arrays) (made_infos s) (all_made ss)
      (pair_layouts e f.arrays (length g.arrays) (is_none ss && (length g.places == e.out)) (length g.arrays - length (input_names e)) (length g.ops) s.values s.made (λ j below. step_array (is_none ss) g f s j own below))
      (subst (λ (n : ℕ). HaveLayouts f.arrays n (all_made ss)) l (have_layouts h f ss front))

  -- the last array of the stored node's steps has the name of the output
  last_of_step : (g f : Grown) (s : Step) → Front (with_step e true g s) f → (length g.places == e.out) ≡ true → (array_at f.arrays (length (with_step e true g s).arrays - 1)).prefix ≡ e.store_as
  last_of_step g f s front out = last_of s.values refl
    where
      last_of : (values : Option NodeInfo) → s.values ≡ values → (array_at f.arrays (length (with_step e true g s).arrays - 1)).prefix ≡ e.store_as
      last_of None is =
          let l = step_long e true g s in
          let n = ap (λ b. length (with_values b s.made)) is in
          ap (λ a. (array_at f.arrays a).prefix) (let z : length (with_step e true g s).arrays - 1 ≡ length g.arrays + 0 = omega (arith, l, n) in z)
          ∙ ap (λ (x : ArrayInfo). x.prefix) (step_array true g f s 0 front (omega (arith, n)))
          ∙ ap (λ b. (array_at (pair_arrays e (true && (length g.places == e.out)) (length g.arrays - length (input_names e)) (length g.ops) b s.made) 0).prefix) is
          ∙ ap (λ (b : Bool). if b then e.store_as else made_prefix_of e.store_as (length g.arrays - length (input_names e))) out
      last_of (Some b) is =
          let l = step_long e true g s in
          let n = ap (λ b. length (with_values b s.made)) is in
          ap (λ a. (array_at f.arrays a).prefix) (let z : length (with_step e true g s).arrays - 1 ≡ length g.arrays + 1 = omega (arith, l, n) in z)
          ∙ ap (λ (x : ArrayInfo). x.prefix) (step_array true g f s 1 front (omega (arith, n)))
          ∙ ap (λ b. (array_at (pair_arrays e (true && (length g.places == e.out)) (length g.arrays - length (input_names e)) (length g.ops) b s.made) 1).prefix) is
          ∙ ap (λ (b : Bool). if b then e.store_as else made_prefix_of e.store_as (length g.arrays - length (input_names e) + 1)) out

  pub last_name : (g f : Grown) (ss : List Step) → 0 < length ss → Front (with_steps e g ss) f → (length g.places == e.out) ≡ true → (array_at f.arrays (length (with_steps e g ss).arrays - 1)).prefix ≡ e.store_as
  last_name g f [] some front out = absurd (omega arith)
  last_name g f (s ∷ []) some front out = last_of_step g f s front out
  last_name g f (s ∷ t ∷ ss) some front out = last_name (with_step e false g s) f (t ∷ ss) (omega arith) front out

  -- elements that solve the plan solve the steps
  pub solve_steps : (g f : Grown) (ss : List Step) (at : Elements)
      → ((k a : ℕ) (idx : List ℕ) → k < length f.ops → Contains (writes_of (operation_at f.ops k).op) a → at a idx ≡ rule (operation_at f.ops k).op f.arrays at a idx)
      → Front (with_steps e g ss) f → SolveSteps f.arrays at ss
  solve_steps g f [] at solves front = λ s a idx (i, below, is) among. absurd (omega (arith, below))
  solve_steps g f (s ∷ ss) at solves front =
      let own = first_front g f s ss front in
      let is : operation_at f.ops (length g.ops) ≡ record { op = s.op; node = length g.places; projected = s.need } = step_operation (is_none ss) g f s own in
      solve_more f.arrays at s ss
      (λ a idx among.
      let there : Contains (writes_of (operation_at f.ops (length g.ops)).op) a = subst (λ (o : Planned). Contains (writes_of o.op) a) (sym is) among in
      solves (length g.ops) a idx (step_within (is_none ss) g f s own) there ∙ ap (λ (o : Planned). rule o.op f.arrays at a idx) is)
      (solve_steps (with_step e (is_none ss) g s) f ss at solves front)

  -- ---- sums

  pub steps_tasks : (arrays : List ArrayInfo) (g : Grown) (ss : List Step) → sum_by (λ (o : Planned). regions_of arrays o.op) (with_steps e g ss).ops ≡ sum_by (λ (o : Planned). regions_of arrays o.op) g.ops + sum_by (λ (s : Step). regions_of arrays s.op) ss
  steps_tasks arrays g [] = omega arith
  steps_tasks arrays g (s ∷ ss) =
      let o : Planned = record { op = s.op; node = length g.places; projected = s.need } in
      let one = sum_by-append (λ (o : Planned). regions_of arrays o.op) g.ops (o ∷ []) in
      let first = sum_by-cons (λ (o : Planned). regions_of arrays o.op) (record { op = s.op; node = length g.places; projected = s.need }) [] in
      let rest = steps_tasks arrays (with_step e (is_none ss) g s) ss in
      let own = sum_by-cons (λ (s : Step). regions_of arrays s.op) s ss in
      omega (arith, one, first, rest, own)

  pub steps_cells : (g : Grown) (ss : List Step) → sum_by made_chunks (with_steps e g ss).arrays ≡ sum_by made_chunks g.arrays + sum_by chunk_count (all_made ss)
  steps_cells g [] = omega arith
  steps_cells g (s ∷ ss) =
      let one = sum_by-append made_chunks g.arrays (added e (is_none ss) g s) in
      let pair = pair_cells e (is_none ss && (length g.places == e.out)) (length g.arrays - length (input_names e)) (length g.ops) s.values s.made in
      let rest = steps_cells (with_step e (is_none ss) g s) ss in
      let own = sum_by-append chunk_count (made_infos s) (all_made ss) in
      omega (arith, one, pair, rest, own)

-- ---- ranges

pub in_range : (a n b : ℕ) → a ≤ b → b < a + n → Contains (range_with_len a n) b
in_range a zero b low high = absurd (omega arith)
in_range a (suc n) b low high =
    elim (cases_lt a b) [
      | inl past ↦ let r = in_range (a + 1) n b (omega (arith, past)) (omega (arith, high)) in (suc r.0, omega (arith, let w = r.1 in w), r.2)
      | inr here ↦ (0, omega arith, (let same : a ≡ b = omega (arith, low, here) in same))
    ]

pub all_in_range : (P : ℕ → Type 0) (a n : ℕ) → ((b : ℕ) → a ≤ b → b < a + n → P b) → All P (range_with_len a n)
all_in_range P a zero h = All-nil P
all_in_range P a (suc n) h = All-cons P a (range_with_len (a + 1) n) (h a (omega arith) (omega arith)) (all_in_range P (a + 1) n (λ b low high. h b (omega (arith, low)) (omega (arith, high))))
