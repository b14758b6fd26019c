-- A plan that grows step by step and node by node: where each step and each node's part stand in the end.
use Rattle.std.proofs.Common.{◌≡◌, ℕ, zero, suc, ◌<◌, ◌≤◌, ◌+◌, ◌-◌, ◌^◌, ◌==◌, ◌&&◌, Bool, true, false, List, [], ◌∷◌, ◌++◌, All, Contains, Option, Some, None, length, refl, ap, sym, ◌∙◌, subst, inl, inr, arith, if◌then◌else◌}
use Rattle.std.specs.Prelude.{slice_get, IfSome}
use Rattle.std.proofs.lemmas.Bool.{cases_Bool, cases_lt, ne_eqb}
use Rattle.std.proofs.lemmas.Option.{slice_get_within}
use Rattle.std.proofs.lemmas.List.{append-nil, append_assoc, length-append, get_or_append_left, get_or_at}
use Rattle.std.proofs.Math.Seq.{get_or-append_right}
use Rattle.std.proofs.lemmas.List.Elements.{All-nil, All-cons, All-head, All-tail}
use Rattle.cu_op.specs.Arrays.{array_at, maker_at, no_array}
use Rattle.cu_op.specs.Operation.{IsBefore}
use Rattle.cu_op.specs.declared.layout.ArrayInfo.{ArrayInfo}
use Rattle.cu_op.specs.declared.operation.Planned.{Planned}
use Rattle.cu_form.specs.Expression.{Expression}
use Rattle.cu_form.specs.declared.expr.Node.{Node}
use Rattle.cu_form.specs.declared.form.Form.{Form}
use Rattle.cu_grid.specs.Grid.{IsGrid}
use Rattle.cu_node.specs.Info.{info_at}
use Rattle.cu_node.specs.declared.info.NodeInfo.{NodeInfo}
use Rattle.cu_need.specs.Live.{is_live}
use Rattle.cu_lower_reduce.specs.Steps.{with_values, made_infos, all_made, grid_of, IsStep, AreSteps}
use Rattle.cu_lower_reduce.specs.declared.step.Step.{Step}
use Rattle.cu_lower.specs.Inputs.{input_names, input_place}
use Rattle.cu_lower.specs.Plan.{grown_after}
use Rattle.cu_lower.specs.declared.options.Options.{Options}
use Rattle.cu_lower.specs.Parts.{Grown, IsGrowing, IsGrown, HasSteps, Make, source_places, pair_arrays, is_none, steps_of, with_step, with_steps, with_place, with_last, with_next_node, with_live}
use Rattle.cu_lower.proofs.InputNames.{input_placed}
use Rattle.cu_lower.proofs.GivenInputs.{given_kind, node_made, node_given}

abbrev pub HasGrid : NodeInfo → Type 0
HasGrid i = IsGrid (grid_of i)

-- what was grown first stands in front of what was grown later
pub record Front (g f : Grown) : Type 0 where
  pub arrays : (rest : List ArrayInfo) × (f.arrays ≡ g.arrays ++ rest)
  pub ops : (rest : List Planned) × (f.ops ≡ g.ops ++ rest)
  pub places : (rest : List ℕ) × (f.places ≡ g.places ++ rest)

in_front : {A : Type 0} (xs ys zs : List A) → (rest : List A) × (ys ≡ xs ++ rest) → (rest : List A) × (zs ≡ ys ++ rest) → (rest : List A) × (zs ≡ xs ++ rest)
in_front xs ys zs (r, p) (s, q) = (r ++ s, q ∙ ap (λ l. l ++ s) p ∙ append_assoc xs r s)

pub front_here : (g : Grown) → Front g g
front_here g = record { arrays = ([], sym (append-nil g.arrays)); ops = ([], sym (append-nil g.ops)); places = ([], sym (append-nil g.places)) }

pub front_then : (g h f : Grown) → Front g h → Front h f → Front g f
front_then g h f a b = record {
  arrays = in_front g.arrays h.arrays f.arrays a.arrays b.arrays;
  ops = in_front g.ops h.ops f.ops a.ops b.ops;
  places = in_front g.places h.places f.places a.places b.places;
}

pub front_place : (g : Grown) (place : ℕ) → Front g (with_place g place)
front_place g place = record { arrays = ([], sym (append-nil g.arrays)); ops = ([], sym (append-nil g.ops)); places = (place ∷ [], refl) }

-- ---- a step

later : (m : Option ℕ) (a b : ℕ) → a ≤ b → IsBefore m a → IsBefore m b
later None a b h before = tt
later (Some k) a b h before = let w : k < a = before in omega (arith, w, h)

pub pair_long : (e : Expression) (stored : Bool) (others maker : ℕ) (values : Option NodeInfo) (i : NodeInfo) → length (pair_arrays e stored others maker values i) ≡ length (with_values values i)
pair_long e stored others maker None i = refl
pair_long e stored others maker (Some b) i = refl

pair_some : (values : Option NodeInfo) (i : NodeInfo) → (0 < length (with_values values i)) × (length (with_values values i) ≤ 2)
pair_some None i = (omega arith, omega arith)
pair_some (Some b) i = (omega arith, omega arith)

pair_makers : (e : Expression) (stored : Bool) (others maker : ℕ) (values : Option NodeInfo) (i : NodeInfo) (j : ℕ) → j < length (with_values values i)
    → maker_at (pair_arrays e stored others maker values i) j ≡ Some maker
pair_makers e stored others maker None i zero below = refl
pair_makers e stored others maker None i (suc j) below = absurd (omega arith)
pair_makers e stored others maker (Some b) i zero below = refl
pair_makers e stored others maker (Some b) i (suc zero) below = refl
pair_makers e stored others maker (Some b) i (suc (suc j)) below = absurd (omega arith)

-- what is known of both arrays
pub pair_values : (values : Option NodeInfo) (i : NodeInfo) → All HasGrid (with_values values i) → IfSome values HasGrid
pair_values None i h = tt
pair_values (Some b) i h = All-head HasGrid b (i ∷ []) h

pub pair_last : (values : Option NodeInfo) (i : NodeInfo) → All HasGrid (with_values values i) → HasGrid i
pair_last None i h = All-head HasGrid i [] h
pair_last (Some b) i h = All-head HasGrid i [] (All-tail HasGrid b (i ∷ []) h)

pub all_front : (xs ys : List NodeInfo) → All HasGrid (xs ++ ys) → All HasGrid xs
all_front [] ys h = All-nil HasGrid
all_front (x ∷ xs) ys h = All-cons HasGrid x xs (All-head HasGrid x (xs ++ ys) h) (all_front xs ys (All-tail HasGrid x (xs ++ ys) h))

pub all_back : (xs ys : List NodeInfo) → All HasGrid (xs ++ ys) → All HasGrid ys
all_back [] ys h = h
all_back (x ∷ xs) ys h = all_back xs ys (All-tail HasGrid x (xs ++ ys) h)

-- the last of some steps is the one behind which none is left
pub none_left : (ss : List Step) → length ss ≡ 0 → ss ≡ []
none_left [] h = refl
none_left (s ∷ ss) h = absurd (omega arith)

pub left_last : (left : ℕ) (ss : List Step) → left ≡ length ss → (left == 0) ≡ is_none ss
left_last zero [] h = refl
left_last zero (s ∷ ss) h = absurd (omega arith)
left_last (suc left) [] h = absurd (omega arith)
left_last (suc left) (s ∷ ss) h = ne_eqb (suc left) 0 (λ e. cc)

module _ (e : Expression) where
  -- the arrays of a step that is added to what was grown
  abbrev pub added : Bool → Grown → Step → List ArrayInfo
  added last g s = pair_arrays e (last && (length g.places == e.out)) (length g.arrays - length (input_names e)) (length g.ops) s.values s.made

  added_long : (last : Bool) (g : Grown) (s : Step) → length (added last g s) ≡ length (made_infos s)
  added_long last g s = pair_long e (last && (length g.places == e.out)) (length g.arrays - length (input_names e)) (length g.ops) s.values s.made

  pub step_long : (last : Bool) (g : Grown) (s : Step) → length (with_step e last g s).arrays ≡ length g.arrays + length (made_infos s)
  step_long last g s = length-append g.arrays (added last g s) ∙ ap (λ n. length g.arrays + n) (added_long last g s)

  pub step_ops : (last : Bool) (g : Grown) (s : Step) → length (with_step e last g s).ops ≡ length g.ops + 1
  step_ops last g s = length-append g.ops (record { op = s.op; node = length g.places; projected = s.need } ∷ [])

  pub front_step : (last : Bool) (g : Grown) (s : Step) → Front g (with_step e last g s)
  front_step last g s = record {
    arrays = (added last g s, refl);
    ops = (record { op = s.op; node = length g.places; projected = s.need } ∷ [], refl);
    places = ([], sym (append-nil g.places));
  }

  -- the array behind what was grown, by its place among those of the step
  pub added_at : (last : Bool) (g : Grown) (s : Step) (a : ℕ) → length g.arrays ≤ a → array_at (with_step e last g s).arrays a ≡ array_at (added last g s) (a - length g.arrays)
  added_at last g s a least = get_or-append_right g.arrays (added last g s) a no_array least

  pub step_growing : (last : Bool) (g : Grown) (s : Step) → IsGrowing e g → IsGrowing e (with_step e last g s)
  step_growing last g s known =
      let new = step_long last g s in
      let ops = step_ops last g s in
      let pair = pair_some s.values s.made in
      let few = known.few in
      let inputs = known.inputs in
      record {
        inputs = omega (arith, new, inputs);
        few = omega (arith, new, ops, few, pair);
        makers = λ a below. elim (cases_lt a (length g.arrays)) [
          | inl l ↦
              subst (λ (m : Option ℕ). IsBefore m (length (with_step e last g s).ops)) (sym (ap (λ (x : ArrayInfo). x.maker) (get_or_append_left g.arrays (added last g s) no_array a l)))
              (later (maker_at g.arrays a) (length g.ops) (length (with_step e last g s).ops) (omega (arith, ops)) (known.makers a l))
          | inr l ↦
              let maker = ap (λ (x : ArrayInfo). x.maker) (added_at last g s a l)
              ∙ pair_makers e (last && (length g.places == e.out)) (length g.arrays - length (input_names e)) (length g.ops) s.values s.made (a - length g.arrays) (omega (arith, below, new, l)) in
              subst (λ (m : Option ℕ). IsBefore m (length (with_step e last g s).ops)) (sym maker) (let w : length g.ops < length (with_step e last g s).ops = omega (arith, ops) in w)
        ];
        placed = λ n below live. let w = known.placed n below live in omega (arith, new, w);
      }

  -- ---- steps

  pub front_steps : (g : Grown) (ss : List Step) → Front g (with_steps e g ss)
  front_steps g [] = front_here g
  front_steps g (s ∷ ss) = front_then g (with_step e (is_none ss) g s) (with_steps e g (s ∷ ss)) (front_step (is_none ss) g s) (front_steps (with_step e (is_none ss) g s) ss)

  pub steps_long : (g : Grown) (ss : List Step) → length (with_steps e g ss).arrays ≡ length g.arrays + length (all_made ss)
  steps_long g [] = omega arith
  steps_long g (s ∷ ss) =
      let one = step_long (is_none ss) g s in
      let rest = steps_long (with_step e (is_none ss) g s) ss in
      let all = length-append (made_infos s) (all_made ss) in
      omega (arith, one, rest, all)

  pub steps_ops : (g : Grown) (ss : List Step) → length (with_steps e g ss).ops ≡ length g.ops + length ss
  steps_ops g [] = omega arith
  steps_ops g (s ∷ ss) = let one = step_ops (is_none ss) g s in let rest = steps_ops (with_step e (is_none ss) g s) ss in omega (arith, one, rest)

  pub steps_places : (g : Grown) (ss : List Step) → (with_steps e g ss).places ≡ g.places
  steps_places g [] = refl
  steps_places g (s ∷ ss) = steps_places (with_step e (is_none ss) g s) ss

  pub steps_growing : (g : Grown) (ss : List Step) → IsGrowing e g → IsGrowing e (with_steps e g ss)
  steps_growing g [] known = known
  steps_growing g (s ∷ ss) known = steps_growing (with_step e (is_none ss) g s) ss (step_growing (is_none ss) g s known)

  -- one step of some, of what is grown in the end: `before` was grown before it
  pub record Located (size : Grown → ℕ) (g : Grown) (ss : List Step) (f : Grown) (j : ℕ) : Type 0 where
    pub before : Grown
    pub step : Step
    pub last : Bool
    pub growing : IsGrowing e before
    pub past : length g.arrays ≤ length before.arrays
    pub node : before.places ≡ g.places
    pub front : Front (with_step e last before step) f
    pub least : size before ≤ j
    pub below : j < size (with_step e last before step)
    pub within : j < size (with_steps e g ss)
    pub ends : last ≡ true → with_step e last before step ≡ with_steps e g ss
    pub fits : (arrays : List ArrayInfo) (reserved : ℕ) (given : List ℕ) (first : ℕ) → AreSteps arrays reserved given first (length g.arrays) ss → IsStep arrays reserved given first (length before.arrays) step
    pub among : Contains ss step
    pub grids : All HasGrid (all_made ss) → All HasGrid (made_infos step)

  none_last : (ss : List Step) → is_none ss ≡ true → ss ≡ []
  none_last [] h = refl
  none_last (s ∷ ss) h = cc

  pub located : (size : Grown → ℕ) (g : Grown) (ss : List Step) (f : Grown) (j : ℕ) → Front (with_steps e g ss) f → IsGrowing e g → size g ≤ j → j < size (with_steps e g ss) → Located size g ss f j
  located size g [] f j front known least below = absurd (omega arith)
  located size g (s ∷ ss) f j front known least below =
      let h = with_step e (is_none ss) g s in
      elim (cases_lt j (size h)) [
        | inl here ↦ record {
          before = g;
          step = s;
          last = is_none ss;
          growing = known;
          past = omega arith;
          node = refl;
          front = front_then h (with_steps e g (s ∷ ss)) f (front_steps h ss) front;
          least = least;
          below = here;
          within = below;
          ends = λ is. sym (ap (with_steps e h) (none_last ss is));
          fits = λ arrays reserved given first are. are.0;
          among = (0, omega arith, refl);
          grids = λ all. all_front (made_infos s) (all_made ss) all;
        }
        | inr past ↦
            let w = located size h ss f j front (step_growing (is_none ss) g s known) past below in
            let long = step_long (is_none ss) g s in
            record {
              before = w.before;
              step = w.step;
              last = w.last;
              growing = w.growing;
              past = (let more = w.past in omega (arith, long, more));
              node = w.node;
              front = w.front;
              least = w.least;
              below = w.below;
              within = w.within;
              ends = w.ends;
              fits = λ arrays reserved given first are. w.fits arrays reserved given first (subst (λ (next : ℕ). AreSteps arrays reserved given first next ss) (sym long) are.1);
              among = (let i = w.among in (suc i.0, (let l = i.1 in omega (arith, l)), i.2));
              grids = λ all. w.grids (all_back (made_infos s) (all_made ss) all);
            }
      ]

  -- ---- places

  pub place_growing : (g : Grown) (place : ℕ) → (is_live e (length g.places) ≡ true → place < length g.arrays) → IsGrowing e g → IsGrowing e (with_place g place)
  place_growing g place own known =
      let s = length-append g.places (place ∷ []) in
      record {
        inputs = known.inputs;
        few = known.few;
        makers = known.makers;
        placed = λ n below live. elim (cases_lt n (length g.places)) [
          | inl l ↦ let at = get_or_append_left g.places (place ∷ []) 0 n l in
              let w = known.placed n l live in
              omega (arith, at, w)
          | inr l ↦ let last : n ≡ length g.places = omega (arith, s, below, l) in
              let at = get_or_at g.places place [] 0 n (sym last) in
              let w = own (subst (λ (i : ℕ). is_live e i ≡ true) last live) in
              omega (arith, at, w)
        ];
      }

  pub place_grown : (g : Grown) (place : ℕ) → (is_live e (length g.places) ≡ true → place < length g.arrays) → IsGrown e g → IsGrown e (with_place g place)
  place_grown g place own known =
      let s = length-append g.places (place ∷ []) in
      let few = known.few in
      record { growing = place_growing g place own known.growing; few = omega (arith, s, few) }

-- ---- a node

-- steps that make an array make some
pub make_some : (i : NodeInfo) (ss : List Step) → Make i ss → 0 < length (all_made ss)
make_some i ss make = let l = ap length make.ends.1 ∙ length-append make.ends.0 (i ∷ []) in omega (arith, l)

pub made_grown : (e : Expression) (g : Grown) (i : NodeInfo) (ss : List Step) → Make i ss → IsGrown e g → IsGrown e (with_last (with_steps e g ss))
made_grown e g i ss make known =
    let h = with_steps e g ss in
    let grown = steps_growing e g ss known.growing in
    let long = steps_long e g ss in
    let ops = steps_ops e g ss in
    let some = make_some i ss make in
    let places = ap length (steps_places e g ss) in
    let longer = length-append h.places ((length h.arrays - 1) ∷ []) in
    let few = known.few in
    let more = make.few in
    record {
      growing = place_growing e h (length h.arrays - 1) (λ live. omega (arith, long, some)) grown;
      few = omega (arith, ops, places, longer, few, more);
    }

module _ (e : Expression) (infos : List NodeInfo) (options : Options) where
  -- the steps of the next node
  abbrev pub own_steps : Grown → Form → List Step
  own_steps g form = steps_of infos options (length g.places) form (source_places e g.places form) (length g.arrays)

  abbrev pub next : Grown → Form → Grown
  next g form = with_live e infos options g form

  pub live_next : (g : Grown) (form : Form) → is_live e (length g.places) ≡ true → next g form ≡ with_next_node e infos options g form
  live_next g form h = ap (λ (b : Bool). if b then with_next_node e infos options g form else with_place g 0) h

  pub dead_next : (g : Grown) (form : Form) → is_live e (length g.places) ≡ false → next g form ≡ with_place g 0
  dead_next g form h = ap (λ (b : Bool). if b then with_next_node e infos options g form else with_place g 0) h

  -- what a node adds is a place, or steps and a place
  front_node : (g : Grown) (form : Form) → Front g (with_next_node e infos options g form)
  front_node g form =
      elim (given_kind e (length g.places) form) [
        | inl input ↦ subst (Front g) (sym (node_given e infos options g form (length g.places) refl input)) (front_place g (input_place e input.name))
        | inr other ↦
            let h = with_steps e g (own_steps g form) in
            subst (Front g) (sym (node_made e infos options g form other)) (front_then g h (with_last h) (front_steps e g (own_steps g form)) (front_place h (length h.arrays - 1)))
      ]

  front_next : (g : Grown) (form : Form) → Front g (next g form)
  front_next g form =
      elim (cases_Bool (is_live e (length g.places))) [
        | inl live ↦ subst (Front g) (sym (live_next g form live)) (front_node g form)
        | inr dead ↦ subst (Front g) (sym (dead_next g form dead)) (front_place g 0)
      ]

  pub front_after : (g : Grown) (ns : List Node) → Front g (grown_after e infos options g ns)
  front_after g [] = front_here g
  front_after g (n ∷ ns) = front_then g (next g n.form) (grown_after e infos options g (n ∷ ns)) (front_next g n.form) (front_after (next g n.form) ns)

  -- each live node has steps that make its array, and there are few nodes and few inputs
  pub record AllHaveSteps : Type 0 where
    pub nodes : length e.nodes ≤ 256
    pub inputs : length (input_names e) ≤ 256
    pub steps : (k : ℕ) (n : Node) → slice_get e.nodes k ≡ Some n → is_live e k ≡ true → HasSteps e infos options k n.form

  -- so the numbers of arrays are small
  pub few_arrays : AllHaveSteps → (g : Grown) (n : Node) → slice_get e.nodes (length g.places) ≡ Some n → IsGrown e g → length g.arrays < 2 ^ 30
  few_arrays all g n at known =
      let below = slice_get_within e.nodes (length g.places) n at in
      let nodes = all.nodes in
      let inputs = all.inputs in
      let arrays = known.growing.few in
      let ops = known.few in
      omega (arith, below, nodes, inputs, arrays, ops)

  node_grown : (g : Grown) (form : Form) → length g.arrays < 2 ^ 30 → HasSteps e infos options (length g.places) form
      → ((name : List ℕ) → form ≡ Form.Input name → input_place e name < length (input_names e)) → IsGrown e g → IsGrown e (with_next_node e infos options g form)
  node_grown g form small steps placed known =
      elim (given_kind e (length g.places) form) [
        | inl input ↦
            let w = placed input.name input.is in
            let i = known.growing.inputs in
            subst (IsGrown e) (sym (node_given e infos options g form (length g.places) refl input)) (place_grown e g (input_place e input.name) (λ live. omega (arith, w, i)) known)
        | inr other ↦
            subst (IsGrown e) (sym (node_made e infos options g form other))
            (made_grown e g (info_at infos (length g.places)) (own_steps g form) (steps other g.places (length g.arrays) small) known)
      ]

  pub next_grown : AllHaveSteps → (g : Grown) (n : Node) → slice_get e.nodes (length g.places) ≡ Some n → IsGrown e g → IsGrown e (next g n.form)
  next_grown steps g n at known =
      elim (cases_Bool (is_live e (length g.places))) [
        | inl live ↦ subst (IsGrown e) (sym (live_next g n.form live))
            (node_grown g n.form (few_arrays steps g n at known) (steps.steps (length g.places) n at live) (λ name form. (input_placed e (length g.places) n name at live form).0) known)
        | inr dead ↦ subst (IsGrown e) (sym (dead_next g n.form dead)) (place_grown e g 0 (λ live. let no : true ≡ false = sym live ∙ dead in cc) known)
      ]

  -- ---- what was grown before a node, of what is grown in the end

  pub record Reached (f : Grown) (k : ℕ) (n : Node) (g : Grown) : Type 0 where
    pub number : length g.places ≡ k
    pub node : slice_get e.nodes k ≡ Some n
    pub known : IsGrown e g
    pub front : Front (next g n.form) f

  -- these nodes are those of the expression from a number on
  abbrev pub AreFrom : ℕ → List Node → Type 0
  AreFrom k ns = (i : ℕ) → slice_get ns i ≡ slice_get e.nodes (k + i)

  node_longer : (g : Grown) (form : Form) → length (with_next_node e infos options g form).places ≡ length g.places + 1
  node_longer g form =
      elim (given_kind e (length g.places) form) [
        | inl input ↦ ap (λ (x : Grown). length x.places) (node_given e infos options g form (length g.places) refl input) ∙ length-append g.places (input_place e input.name ∷ [])
        | inr other ↦
            let h = with_steps e g (own_steps g form) in
            let same = ap length (steps_places e g (own_steps g form)) in
            let made = ap (λ (x : Grown). length x.places) (node_made e infos options g form other) in
            let more = length-append h.places ((length h.arrays - 1) ∷ []) in
            omega (arith, same, made, more)
      ]

  pub longer : (g : Grown) (form : Form) → length (next g form).places ≡ length g.places + 1
  longer g form =
      elim (cases_Bool (is_live e (length g.places))) [
        | inl live ↦ ap (λ (x : Grown). length x.places) (live_next g form live) ∙ node_longer g form
        | inr dead ↦ ap (λ (x : Grown). length x.places) (dead_next g form dead) ∙ length-append g.places (0 ∷ [])
      ]

  pub from_next : (g : Grown) (n : Node) (ns : List Node) → AreFrom (length g.places) (n ∷ ns) → AreFrom (length (next g n.form).places) ns
  from_next g n ns from i =
      let l = longer g n.form in
      from (suc i) ∙ ap (slice_get e.nodes) (let s : length g.places + suc i ≡ length (next g n.form).places + i = omega (arith, l) in s)

  pub from_here : (g : Grown) (n : Node) (ns : List Node) → AreFrom (length g.places) (n ∷ ns) → slice_get e.nodes (length g.places) ≡ Some n
  from_here g n ns from = ap (slice_get e.nodes) (let z : length g.places ≡ length g.places + 0 = omega arith in z) ∙ sym (from 0)

  pub end_grown : AllHaveSteps → (g : Grown) (ns : List Node) → AreFrom (length g.places) ns → IsGrown e g → IsGrown e (grown_after e infos options g ns)
  end_grown steps g [] from known = known
  end_grown steps g (n ∷ ns) from known = end_grown steps (next g n.form) ns (from_next g n ns from) (next_grown steps g n (from_here g n ns from) known)

  pub end_long : (g : Grown) (ns : List Node) → length (grown_after e infos options g ns).places ≡ length g.places + length ns
  end_long g [] = omega arith
  end_long g (n ∷ ns) = let l = longer g n.form in let r = end_long (next g n.form) ns in omega (arith, l, r)

  -- each node is reached
  pub reached : AllHaveSteps → (g : Grown) (ns : List Node) → AreFrom (length g.places) ns → IsGrown e g
      → (k j : ℕ) (n : Node) → k ≡ length g.places + j → slice_get ns j ≡ Some n → (h : Grown) × Reached (grown_after e infos options g ns) k n h
  reached steps g [] from known k j n number at = cc
  reached steps g (first ∷ ns) from known k zero n number at =
      let same : first ≡ n = cc in
      let here : length g.places ≡ k = omega arith in
      let there = from_here g first ns from in (
        g,
        record {
          number = here;
          node = subst (λ (i : ℕ). slice_get e.nodes i ≡ Some n) here (there ∙ ap Some same);
          known = known;
          front = subst (λ (x : Node). Front (next g x.form) (grown_after e infos options g (first ∷ ns))) same (front_after (next g first.form) ns);
        },
      )
  reached steps g (first ∷ ns) from known k (suc j) n number at =
      let l = longer g first.form in
      reached steps (next g first.form) ns (from_next g first ns from) (next_grown steps g first (from_here g first ns from) known) k j n (omega (arith, l, number)) at

  -- the node that an operation or an array belongs to, whichever is counted
  pub record Origin (size : Grown → ℕ) (f : Grown) (j : ℕ) : Type 0 where
    pub k : ℕ
    pub node : Node
    pub before : Grown
    pub reached : Reached f k node before
    pub least : size before ≤ j
    pub below : j < size (next before node.form)

  pub origin : (size : Grown → ℕ) → AllHaveSteps → (g : Grown) (ns : List Node) → AreFrom (length g.places) ns → IsGrown e g
      → (j : ℕ) → size g ≤ j → j < size (grown_after e infos options g ns) → Origin size (grown_after e infos options g ns) j
  origin size steps g [] from known j least below = absurd (omega arith)
  origin size steps g (n ∷ ns) from known j least below =
      elim (cases_lt j (size (next g n.form))) [
        | inl l ↦ record {
          k = length g.places;
          node = n;
          before = g;
          reached = record { number = refl; node = from_here g n ns from; known = known; front = front_after (next g n.form) ns };
          least = least;
          below = l;
        }
        | inr l ↦ origin size steps (next g n.form) ns (from_next g n ns from) (next_grown steps g n (from_here g n ns from) known) j l below
      ]
