-- The counts of a plan are those of the expression.
use Rattle.std.proofs.Common.{◌≡◌, ℕ, ◌≤◌, ◌+◌, ◌==◌, if◌then◌else◌, Bool, true, false, List, [], ◌∷◌, Some, None, length, map, sum_by, refl, ap, sym, ◌∙◌, subst, inl, inr, arith}
use Rattle.std.specs.Prelude.{nat_lt, slice_get}
use Rattle.std.proofs.lemmas.Bool.{cases_Bool, ltb-false}
use Rattle.std.proofs.lemmas.List.Sums.{sum_by-cons}
use Rattle.cu_op.specs.Cells.{regions_of}
use Rattle.cu_op.specs.Sound.{made_chunks}
use Rattle.cu_op.specs.declared.layout.ArrayInfo.{ArrayInfo}
use Rattle.cu_op.specs.declared.operation.Planned.{Planned}
use Rattle.cu_form.specs.Expression.{Expression}
use Rattle.cu_form.specs.declared.expr.Node.{Node}
use Rattle.cu_form.specs.declared.form.Form.{Form}
use Rattle.cu_node.specs.declared.info.NodeInfo.{NodeInfo}
use Rattle.cu_expr.specs.declared.inputs.InputInfo.{InputInfo}
use Rattle.cu_need.specs.Counts.{node_tasks, node_cells, over_limit, plan_counts}
use Rattle.cu_need.specs.Live.{is_live, live_behind, IsClosed}
use Rattle.cu_need.specs.declared.counts.PlanCounts.{PlanCounts}
use Rattle.cu_lower_reduce.specs.Steps.{made_infos, step_tasks, AreSteps}
use Rattle.cu_copy.specs.Copies.{in_chunks, max_mem, rechunk_cells, rechunk_tasks}
use Rattle.cu_lower_reduce.specs.declared.step.Step.{Step}
use Rattle.cu_node.specs.Info.{info_at}
use Rattle.cu_lower.specs.Inputs.{input_array, input_names, input_place}
use Rattle.cu_lower.specs.Parts.{Grown, IsGrown, is_given, source_places, with_steps, with_last, with_place}
use Rattle.cu_lower.specs.Plan.{first_grown, grown_after}
use Rattle.cu_lower.specs.Premises.{IsLowerable}
use Rattle.cu_lower.specs.declared.options.Options.{Options}
use Rattle.cu_lower.proofs.GivenInputs.{IsGivenInput, given_kind, node_made, node_given}
use Rattle.cu_lower.proofs.Growing as growing
use Rattle.cu_lower.proofs.Growing.{Front, front_then, front_here}
use Rattle.cu_lower.proofs.NodeSteps.{all_steps, node_own}
use Rattle.cu_lower.proofs.Operations as operations
use Rattle.cu_lower.proofs.Placed as placed
use Rattle.cu_lower.proofs.Standing as standing
use Rattle.cu_lower.proofs.StepLaws.{HaveLaws}
use Rattle.cu_lower.proofs.Stepped.{steps_tasks, steps_cells}

-- the live nodes behind a node
live_first : (e : Expression) (k : ℕ) (n : Node) (ns : List Node) → is_live e k ≡ true → live_behind e k (n ∷ ns) ≡ (k, n) ∷ live_behind e (k + 1) ns
live_first e k n ns h = rw h refl

dead_first : (e : Expression) (k : ℕ) (n : Node) (ns : List Node) → is_live e k ≡ false → live_behind e k (n ∷ ns) ≡ live_behind e (k + 1) ns
dead_first e k n ns h = rw h refl

-- the regions of steps are the tasks that are counted of each
steps_sum : (arrays : List ArrayInfo) (reserved : ℕ) (ins : List ℕ) (first next : ℕ) (ss : List Step) → AreSteps arrays reserved ins first next ss
    → sum_by (λ (s : Step). regions_of arrays s.op) ss ≡ sum_by step_tasks ss
steps_sum arrays reserved ins first next [] are = refl
steps_sum arrays reserved ins first next (s ∷ ss) are =
    let a = sum_by-cons (λ (s : Step). regions_of arrays s.op) s ss in
    let b = sum_by-cons step_tasks s ss in
    let own = are.0.tasks in
    let rest = steps_sum arrays reserved ins first (next + length (made_infos s)) ss are.1 in
    omega (arith, a, b, own, rest)

-- an input that isn't stored has none
given_tasks : (most split_every : ℕ) (infos : List NodeInfo) (out k : ℕ) (name : List ℕ) → (k == out) ≡ false → node_tasks most split_every infos out k (Form.Input name) ≡ 0
given_tasks most split_every infos out k name other = ap (λ (b : Bool). sum_by (rechunk_tasks most) (if b then in_chunks (info_at infos k) (info_at infos k).chunk ∷ [] else []) + 0) other

given_cells : (most split_every : ℕ) (infos : List NodeInfo) (out k : ℕ) (name : List ℕ) → (k == out) ≡ false → node_cells most split_every infos out k (Form.Input name) ≡ 0
given_cells most split_every infos out k name other = ap (λ (b : Bool). sum_by (rechunk_cells most) (if b then in_chunks (info_at infos k) (info_at infos k).chunk ∷ [] else []) + 0) other

module _ (e : Expression) (infos : List NodeInfo) (inputs : List InputInfo) (options : Options) (ok : IsLowerable e infos inputs options) (laws : HaveLaws) (closed : IsClosed e (is_live e)) where
  abbrev grown : Grown
  grown = placed.grown e infos inputs options ok laws

  abbrev next : Grown → Form → Grown
  next g form = growing.next e infos options g form

  -- a live node at which what is grown has come
  record IsNext (g : Grown) (n : Node) : Type 0 where
    pub live : is_live e (length g.places) ≡ true
    pub at : slice_get e.nodes (length g.places) ≡ Some n
    pub known : IsGrown e g
    pub front : Front (next g n.form) grown

  -- a sum over what is grown, to which each live node adds its own
  grows_by : (total : Grown → ℕ) (f : ℕ × Node → ℕ) → ((g : Grown) (n : Node) → IsNext g n → total (next g n.form) ≡ total g + f (length g.places, n))
      → ((g : Grown) (n : Node) → is_live e (length g.places) ≡ false → total (next g n.form) ≡ total g)
      → (g : Grown) (ns : List Node) (k : ℕ) → length g.places ≡ k → growing.AreFrom e infos options (length g.places) ns → IsGrown e g → Front (grown_after e infos options g ns) grown
      → total (grown_after e infos options g ns) ≡ total g + sum_by f (live_behind e k ns)
  grows_by total f more same g [] k number from known front = omega arith
  grows_by total f more same g (n ∷ ns) k number from known front =
      let l = growing.longer e infos options g n.form in
      let at = growing.from_here e infos options g n ns from in
      let rest = grows_by total f more same (next g n.form) ns (k + 1) (omega (arith, l, number)) (growing.from_next e infos options g n ns from)
      (growing.next_grown e infos options (all_steps e infos inputs options ok laws) g n at known) front in
      elim (cases_Bool (is_live e k)) [
        | inl live ↦
            let here = more g n (record {
              live = subst (λ (i : ℕ). is_live e i ≡ true) (sym number) live;
              at = at;
              known = known;
              front = front_then (next g n.form) (grown_after e infos options g (n ∷ ns)) grown (growing.front_after e infos options (next g n.form) ns) front;
            }) in
            let own = ap (λ i. f (i, n)) number in
            let sum = ap (sum_by f) (live_first e k n ns live) ∙ sum_by-cons f (k, n) (live_behind e (k + 1) ns) in
            omega (arith, rest, here, own, sum)
        | inr dead ↦
            let here = same g n (subst (λ (i : ℕ). is_live e i ≡ false) (sym number) dead) in
            let sum = ap (sum_by f) (dead_first e k n ns dead) in
            omega (arith, rest, here, sum)
      ]

  abbrev most : ℕ
  most = max_mem options.allowed options.reserved

  -- what a node that isn't given adds
  next_made : (g : Grown) (n : Node) → IsNext g n → is_given e (length g.places) n.form ≡ false → next g n.form ≡ with_last (with_steps e g (growing.own_steps e infos options g n.form))
  next_made g n h other = growing.live_next e infos options g n.form h.live ∙ node_made e infos options g n.form other

  next_given : (g : Grown) (n : Node) → IsNext g n → (i : IsGivenInput e (length g.places) n.form) → next g n.form ≡ with_place g (input_place e i.name)
  next_given g n h i = growing.live_next e infos options g n.form h.live ∙ node_given e infos options g n.form (length g.places) refl i

  abbrev task_total : Grown → ℕ
  task_total g = sum_by (λ (o : Planned). regions_of grown.arrays o.op) g.ops

  made_tasks : (g : Grown) (n : Node) → IsNext g n → is_given e (length g.places) n.form ≡ false
      → sum_by (λ (s : Step). regions_of grown.arrays s.op) (growing.own_steps e infos options g n.form) ≡ node_tasks most options.split_every infos e.out (length g.places) n.form
  made_tasks g n h other =
      let k = length g.places in
      let steps = all_steps e infos inputs options ok laws in
      let front = subst (λ (x : Grown). Front x grown) (next_made g n h other) h.front in
      let s = standing.stands e infos inputs options ok.form (all_steps e infos inputs options ok laws) g (length g.places) n n.form h.at refl other h.live refl h.known front in
      let small = growing.few_arrays e infos options steps g n h.at h.known in
      let own = growing.own_steps e infos options g n.form in
      let before : Front g grown = front_then g (with_steps e g own) grown (growing.front_steps e g own) (standing.steps_front e infos inputs options ok.form steps g own front) in
      let same = standing.own_same e infos inputs options ok.form steps g k n n.form h.at refl refl before in
      let sum = steps_sum grown.arrays options.reserved (source_places e grown.places n.form) (length g.arrays) (length g.arrays) (placed.steps_at e infos inputs options ok laws (length g.places) n.form (length g.arrays))
      (operations.node_steps e infos inputs options ok laws closed (length g.places) n.form s) in
      ap (sum_by (λ (s : Step). regions_of grown.arrays s.op)) same ∙ sum
      ∙ (node_own e infos inputs options ok laws k n n.form h.at refl h.live other grown.places (length g.arrays) small).tasks

  more_tasks : (g : Grown) (n : Node) → IsNext g n → task_total (next g n.form) ≡ task_total g + node_tasks most options.split_every infos e.out (length g.places) n.form
  more_tasks g n h =
      elim (given_kind e (length g.places) n.form) [
        | inl i ↦
            let new = ap task_total (next_given g n h i) in
            let none = ap (node_tasks most options.split_every infos e.out (length g.places)) i.is ∙ given_tasks most options.split_every infos e.out (length g.places) i.name i.other in
            omega (arith, new, none)
        | inr other ↦
            let new = ap task_total (next_made g n h other) in
            let sum = steps_tasks e grown.arrays g (growing.own_steps e infos options g n.form) in
            let own = made_tasks g n h other in
            omega (arith, new, sum, own)
      ]

  more_cells : (g : Grown) (n : Node) → IsNext g n → sum_by made_chunks (next g n.form).arrays ≡ sum_by made_chunks g.arrays + node_cells most options.split_every infos e.out (length g.places) n.form
  more_cells g n h =
      elim (given_kind e (length g.places) n.form) [
        | inl i ↦
            let new = ap (λ (x : Grown). sum_by made_chunks x.arrays) (next_given g n h i) in
            let none = ap (node_cells most options.split_every infos e.out (length g.places)) i.is ∙ given_cells most options.split_every infos e.out (length g.places) i.name i.other in
            omega (arith, new, none)
        | inr other ↦
            let new = ap (λ (x : Grown). sum_by made_chunks x.arrays) (next_made g n h other) in
            let sum = steps_cells e g (growing.own_steps e infos options g n.form) in
            let own = (node_own e infos inputs options ok laws (length g.places) n n.form h.at refl h.live other g.places (length g.arrays) (growing.few_arrays e infos options (all_steps e infos inputs options ok laws) g n h.at h.known)).cells in
            omega (arith, new, sum, own)
      ]

  pub regions_all : sum_by (λ (o : Planned). regions_of grown.arrays o.op) grown.ops ≡ (plan_counts (max_mem options.allowed options.reserved) options.split_every e infos).tasks
  regions_all =
      let steps = all_steps e infos inputs options ok laws in
      let sum = grows_by task_total (λ numbered. node_tasks most options.split_every infos e.out numbered.0 numbered.1.form) more_tasks
      (λ g n dead. ap task_total (growing.dead_next e infos options g n.form dead))
      (first_grown e inputs) e.nodes 0 refl (standing.from_first e infos inputs options ok.form (all_steps e infos inputs options ok laws)) (standing.at_first e infos inputs options ok.form (all_steps e infos inputs options ok laws)) (front_here grown) in
      omega (arith, sum)

  -- the input arrays have no cells
  no_cells : (names : List (List ℕ)) → sum_by made_chunks (map (input_array inputs) names) ≡ 0
  no_cells [] = refl
  no_cells (n ∷ names) = let a = sum_by-cons made_chunks (input_array inputs n) (map (input_array inputs) names) in let r = no_cells names in omega (arith, a, r)

  pub cells_all : sum_by made_chunks grown.arrays ≡ (plan_counts (max_mem options.allowed options.reserved) options.split_every e infos).cells
  cells_all =
      let none = no_cells (input_names e) in
      let sum = grows_by (λ g. sum_by made_chunks g.arrays) (λ numbered. node_cells most options.split_every infos e.out numbered.0 numbered.1.form) more_cells
      (λ g n dead. ap (λ (x : Grown). sum_by made_chunks x.arrays) (growing.dead_next e infos options g n.form dead))
      (first_grown e inputs) e.nodes 0 refl (standing.from_first e infos inputs options ok.form (all_steps e infos inputs options ok laws)) (standing.at_first e infos inputs options ok.form (all_steps e infos inputs options ok laws)) (front_here grown) in
      omega (arith, sum, none)

-- where no limit is exceeded both are kept
pub kept_limits : (c : PlanCounts) → over_limit c ≡ None → (c.tasks ≤ 65536) × (c.cells ≤ 262144)
kept_limits c h =
    elim (cases_Bool (nat_lt 65536 c.tasks)) [
      | inl over ↦ let some : over_limit c ≡ Some (record { which = 1; count = c.tasks }) = rw over refl in cc
      | inr tasks ↦ elim (cases_Bool (nat_lt 262144 c.cells)) [
        | inl over ↦ let some : over_limit c ≡ Some (record { which = 2; count = c.cells }) = rw (tasks, over) refl in cc
        | inr cells ↦ (ltb-false 65536 c.tasks tasks, ltb-false 262144 c.cells cells)
      ]
    ]
