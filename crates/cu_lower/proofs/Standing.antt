-- Where the steps of the live nodes stand in the plan of an expression.
use Rattle.std.proofs.Common.{◌≡◌, ℕ, ◌<◌, ◌≤◌, ◌+◌, ◌-◌, ◌^◌, true, false, List, [], ◌∷◌, ◌++◌, Option, Some, length, get_or, slice_index, refl, ap, sym, ◌∙◌, subst, inl, inr, ◌⊎◌, arith}
use Rattle.std.specs.Prelude.{slice_get, nat_lt}
use Rattle.std.specs.List.{list_all}
use Rattle.std.proofs.lemmas.Bool.{cases_Bool, cases_lt, and_parts, ltb-true}
use Rattle.std.proofs.lemmas.List.{length-append, length-map, get_or_append_left, get_or_at, get_or-map}
use Rattle.cu_op.specs.Arrays.{array_at, no_array}
use Rattle.cu_op.specs.Operation.{IsBefore}
use Rattle.cu_op.specs.declared.layout.ArrayInfo.{ArrayInfo}
use Rattle.cu_form.specs.Expression.{Expression, IsExpression}
use Rattle.cu_form.specs.Form.{args_of, is_earlier}
use Rattle.cu_form.specs.declared.args.Arg.{Arg}
use Rattle.cu_form.specs.declared.expr.Node.{Node}
use Rattle.cu_form.specs.declared.form.Form.{Form}
use Rattle.cu_node.specs.Info.{info_at}
use Rattle.cu_node.specs.declared.info.NodeInfo.{NodeInfo}
use Rattle.cu_expr.specs.declared.inputs.InputInfo.{InputInfo}
use Rattle.cu_need.specs.Live.{is_live}
use Rattle.cu_lower_reduce.specs.declared.step.Step.{Step}
use Rattle.cu_lower.specs.Inputs.{input_array, input_names, input_arrays, input_place}
use Rattle.cu_lower.specs.Plan.{first_grown, lowered, array_of_node}
use Rattle.cu_lower.specs.declared.options.Options.{Options}
use Rattle.cu_lower.specs.Parts.{Grown, IsGrown, HasSteps, Make, array_places, is_given, is_none, source_places, steps_of, with_step, with_steps, with_place, with_last, with_next_node}
use Rattle.cu_lower.proofs.Growing as growing
use Rattle.cu_lower.proofs.Growing.{Front, Located}
use Rattle.cu_lower.proofs.InputNames.{input_placed}
use Rattle.cu_lower.proofs.GivenInputs.{IsGivenInput, given_kind, node_made, node_given}

-- the element behind a front
pub seam : {A : Type 0} (xs rest fs : List A) (y d : A) (k : ℕ) → fs ≡ (xs ++ y ∷ []) ++ rest → k ≡ length xs → get_or fs k d ≡ y
seam xs rest fs y d k e n =
    let l = length-append xs (y ∷ []) in
    ap (λ l. get_or l k d) e ∙ get_or_append_left (xs ++ y ∷ []) rest d k (omega (arith, l, n)) ∙ get_or_at xs y [] d k (sym n)

pub within_front : {A : Type 0} (xs rest fs : List A) → fs ≡ xs ++ rest → length xs ≤ length fs
within_front xs rest fs e = let l = ap length e ∙ length-append xs rest in omega (arith, l)

-- the arrays of a front are those of the whole
pub front_array : (g f : Grown) (a : ℕ) → Front g f → a < length g.arrays → array_at f.arrays a ≡ array_at g.arrays a
front_array g f a front below = ap (λ l. get_or l a no_array) front.arrays.1 ∙ get_or_append_left g.arrays front.arrays.0 no_array a below

front_steps : (e : Expression) (g f : Grown) (s : Step) (ss : List Step) → Front (with_steps e g (s ∷ ss)) f → Front (with_step e (is_none ss) g s) f
front_steps e g f s ss front = growing.front_then (with_step e (is_none ss) g s) (with_steps e g (s ∷ ss)) f (growing.front_steps e (with_step e (is_none ss) g s) ss) front

module _ (e : Expression) (infos : List NodeInfo) (inputs : List InputInfo) (options : Options) (form : IsExpression e) (steps : growing.AllHaveSteps e infos options) where
  -- how many arrays are inputs
  abbrev pub given : ℕ
  given = length (input_names e)

  abbrev pub whole : Grown
  whole = lowered e infos inputs options

  -- ---- the front

  first_inputs : length (input_arrays e inputs) ≡ given
  first_inputs = length-map (input_names e) (input_array inputs)

  pub at_first : IsGrown e (first_grown e inputs)
  at_first =
      let l = first_inputs in
      record {
        growing = record {
          inputs = omega (arith, l);
          few = omega (arith, l);
          makers = λ a below.
              let none = ap (λ (x : ArrayInfo). x.maker) (get_or-map (input_array inputs) (input_names e) a [] no_array (omega (arith, l, below))) in
              subst (λ (m : Option ℕ). IsBefore m 0) (sym none) tt;
          placed = λ n below live. absurd (omega arith);
        };
        few = omega arith;
      }

  pub from_first : growing.AreFrom e infos options 0 e.nodes
  from_first i = ap (slice_get e.nodes) (let z : i ≡ 0 + i = omega arith in z)

  pub known : IsGrown e whole
  known = growing.end_grown e infos options steps (first_grown e inputs) e.nodes from_first at_first

  pub all_placed : length whole.places ≡ length e.nodes
  all_placed = let l = growing.end_long e infos options (first_grown e inputs) e.nodes in omega (arith, l)

  pub input_at : (a : ℕ) → a < given → array_at whole.arrays a ≡ input_array inputs (get_or (input_names e) a [])
  input_at a below =
      let l = first_inputs in
      front_array (first_grown e inputs) whole a (growing.front_after e infos options (first_grown e inputs) e.nodes) (omega (arith, l, below))
      ∙ get_or-map (input_array inputs) (input_names e) a [] no_array below

  -- ---- a node that has steps

  -- the steps of node k
  abbrev pub own_steps : ℕ → Form → ℕ → List Step
  own_steps k f first = steps_of infos options k f (source_places e whole.places f) first

  -- a live node's form, and what was grown before its steps
  pub record Standing (k : ℕ) (f : Form) : Type 0 where
    pub node : Node
    pub at : slice_get e.nodes k ≡ Some node
    pub is : node.form ≡ f
    pub other : is_given e k f ≡ false
    pub live : is_live e k ≡ true
    pub before : Grown
    pub known : IsGrown e before
    pub number : length before.places ≡ k
    pub front : Front (with_steps e before (own_steps k f (length before.arrays))) whole
    pub make : Make (info_at infos k) (own_steps k f (length before.arrays))
    pub small : length before.arrays < 2 ^ 30
    pub place : array_of_node whole k ≡ length (with_steps e before (own_steps k f (length before.arrays))).arrays - 1
    pub earlier : (n : ℕ) → n < k → is_live e n ≡ true → array_of_node whole n < length before.arrays

  -- the places of earlier nodes stay
  same_places : (h : Grown) (args : List Arg) → Front h whole → list_all (is_earlier (length h.places)) args ≡ true → array_places h.places args ≡ array_places whole.places args
  same_places h [] f earlier = refl
  same_places h (Arg.Node n ∷ args) f earlier =
      let both = and_parts (nat_lt n (length h.places)) (list_all (is_earlier (length h.places)) args) earlier in
      let here : slice_index h.places n ≡ slice_index whole.places n = sym (ap (λ l. get_or l n 0) f.places.1 ∙ get_or_append_left h.places f.places.0 0 n (ltb-true n (length h.places) both.0)) in
      let rest = same_places h args f both.1 in
      ap (λ x. x ∷ array_places h.places args) here ∙ ap (λ xs. slice_index whole.places n ∷ xs) rest
  same_places h (Arg.Int x ∷ args) f earlier = same_places h args f earlier
  same_places h (Arg.Truth b ∷ args) f earlier = same_places h args f earlier

  same_sources : (h : Grown) (f : Form) → Front h whole → list_all (is_earlier (length h.places)) (args_of f) ≡ true → source_places e h.places f ≡ source_places e whole.places f
  same_sources h (Form.Input name) front earlier = refl
  same_sources h f front earlier = same_places h (args_of f) front earlier

  -- so its steps before it was added are those of the whole
  pub own_same : (h : Grown) (k : ℕ) (n : Node) (f : Form) → slice_get e.nodes k ≡ Some n → n.form ≡ f → length h.places ≡ k → Front h whole
      → growing.own_steps e infos options h f ≡ own_steps k f (length h.arrays)
  own_same h k n f at is number before =
      let named : list_all (is_earlier (length h.places)) (args_of f) ≡ true = subst (λ (i : ℕ). list_all (is_earlier i) (args_of f) ≡ true) (sym number) (subst (λ (x : Form). list_all (is_earlier k) (args_of x) ≡ true) is (form.nodes k n at).form.earlier) in
      ap (λ i. steps_of infos options i f (source_places e h.places f) (length h.arrays)) number
      ∙ ap (λ xs. steps_of infos options k f xs (length h.arrays)) (same_sources h f before named)

  pub steps_front : (h : Grown) (ss : List Step) → Front (with_last (with_steps e h ss)) whole → Front (with_steps e h ss) whole
  steps_front h ss front = growing.front_then (with_steps e h ss) (with_last (with_steps e h ss)) whole (growing.front_place (with_steps e h ss) (length (with_steps e h ss).arrays - 1)) front

  abbrev pub stands : (h : Grown) (k : ℕ) (n : Node) (f : Form) → slice_get e.nodes k ≡ Some n → n.form ≡ f → is_given e k f ≡ false → is_live e k ≡ true
      → length h.places ≡ k → IsGrown e h → Front (with_last (with_steps e h (growing.own_steps e infos options h f))) whole → Standing k f
  stands h k n f at is other live number grown front =
      let ss = growing.own_steps e infos options h f in
      let m = with_steps e h ss in
      let own = steps_front h ss front in
      let before : Front h whole = growing.front_then h m whole (growing.front_steps e h ss) own in
      let same = own_same h k n f at is number before in
      let places = ap length (growing.steps_places e h ss) in
      record {
        node = n;
        at = at;
        is = is;
        other = other;
        live = live;
        before = h;
        known = grown;
        number = number;
        front = subst (λ (xs : List Step). Front (with_steps e h xs) whole) same own;
        small = growing.few_arrays e infos options steps h n (subst (λ (i : ℕ). slice_get e.nodes i ≡ Some n) (sym number) at) grown;
        make = subst (HasSteps e infos options k) is (steps.steps k n at live) other whole.places (length h.arrays) (growing.few_arrays e infos options steps h n (subst (λ (i : ℕ). slice_get e.nodes i ≡ Some n) (sym number) at) grown);
        place = seam m.places front.places.0 whole.places (length m.arrays - 1) 0 k front.places.1 (omega (arith, places, number)) ∙ ap (λ (xs : List Step). length (with_steps e h xs).arrays - 1) same;
        earlier = λ i below live_i.
            let w = grown.growing.placed i (omega (arith, number, below)) live_i in
            let stays = ap (λ l. get_or l i 0) before.places.1 ∙ get_or_append_left h.places before.places.0 0 i (omega (arith, number, below)) in
            omega (arith, w, stays);
      }

  pub from_node : (k : ℕ) (n : Node) (f : Form) → slice_get e.nodes k ≡ Some n → n.form ≡ f → is_given e k f ≡ false → is_live e k ≡ true → Standing k f
  from_node k n f at is other live =
      let r = growing.reached e infos options steps (first_grown e inputs) e.nodes from_first at_first k k n (omega arith) at in
      let h = r.0 in
      let s = r.1 in
      let alive : is_live e (length h.places) ≡ true = subst (λ (i : ℕ). is_live e i ≡ true) (sym s.number) live in
      let front = subst (λ (x : Grown). Front x whole) (growing.live_next e infos options h n.form alive) s.front in
      let own = subst (λ (x : Form). Front (with_next_node e infos options h x) whole) is front in
      stands h k n f at is other live s.number s.known (subst (λ (x : Grown). Front x whole) (node_made e infos options h f (subst (λ (i : ℕ). is_given e i f ≡ false) (sym s.number) other)) own)

  -- the array of an input that isn't stored
  pub from_input : (k : ℕ) (n : Node) (i : IsGivenInput e k n.form) → slice_get e.nodes k ≡ Some n → is_live e k ≡ true
      → (array_of_node whole k ≡ input_place e i.name) × (array_of_node whole k < given)
  from_input k n i at live =
      let r = growing.reached e infos options steps (first_grown e inputs) e.nodes from_first at_first k k n (omega arith) at in
      let h = r.0 in
      let s = r.1 in
      let alive : is_live e (length h.places) ≡ true = subst (λ (i : ℕ). is_live e i ≡ true) (sym s.number) live in
      let f = subst (λ (g : Grown). Front g whole) (growing.live_next e infos options h n.form alive) s.front in
      let there = subst (λ (g : Grown). Front g whole) (node_given e infos options h n.form k s.number i) f in
      let place : array_of_node whole k ≡ input_place e i.name = seam h.places there.places.0 whole.places (input_place e i.name) 0 k there.places.1 (sym s.number) in
      (place, subst (λ (a : ℕ). a < given) (sym place) (input_placed e k n i.name at live i.is).0)

  -- the array with the name of a live input
  pub named_at : (k : ℕ) (n : Node) (name : List ℕ) → slice_get e.nodes k ≡ Some n → n.form ≡ Form.Input name → is_live e k ≡ true
      → (input_place e name < given) × (array_at whole.arrays (input_place e name) ≡ input_array inputs name)
  named_at k n name at is live =
      let named = input_placed e k n name at live is in
      (named.0, input_at (input_place e name) named.0 ∙ ap (input_array inputs) named.1)

  -- ---- by operations and by arrays

  -- the node and the step of an operation or an array, whichever is counted
  pub record Stood (size : Grown → ℕ) (j : ℕ) : Type 0 where
    pub k : ℕ
    pub operator : Form
    pub node : Standing k operator
    pub step : Located e size node.before (own_steps k operator (length node.before.arrays)) whole j

  from_steps : (size : Grown → ℕ) → ((g : Grown) (place : ℕ) → size (with_place g place) ≡ size g) → (h : Grown) (k j : ℕ) (n : Node) (f : Form) → slice_get e.nodes k ≡ Some n → n.form ≡ f
      → is_given e k f ≡ false → is_live e k ≡ true → length h.places ≡ k → IsGrown e h → Front (with_last (with_steps e h (growing.own_steps e infos options h f))) whole
      → size h ≤ j → j < size (with_last (with_steps e h (growing.own_steps e infos options h f))) → Stood size j
  from_steps size same h k j n f at is other live number grown front least below =
      let s = stands h k n f at is other live number grown front in
      let ss = growing.own_steps e infos options h f in
      let m = with_steps e h ss in
      let before : Front h whole = growing.front_then h m whole (growing.front_steps e h ss) (steps_front h ss front) in
      let steps_same = own_same h k n f at is number before in
      let plain = same m (length m.arrays - 1) in
      record {
        k = k;
        operator = f;
        node = s;
        step = growing.located e size h (own_steps k f (length h.arrays)) whole j s.front grown.growing least
            (subst (λ (xs : List Step). j < size (with_steps e h xs)) steps_same (let w : j < size m = omega (arith, below, plain) in w));
      }

  from_form : (size : Grown → ℕ) → ((g : Grown) (place : ℕ) → size (with_place g place) ≡ size g) → (h : Grown) (k j : ℕ) (n : Node) (f : Form) → slice_get e.nodes k ≡ Some n → n.form ≡ f
      → is_live e k ≡ true → length h.places ≡ k → IsGrown e h → Front (with_next_node e infos options h f) whole → size h ≤ j → j < size (with_next_node e infos options h f) → Stood size j
  from_form size same h k j n f at is live number grown front least below =
      elim (given_kind e k f) [
        | inl input ↦
            let w = subst (λ (x : Grown). j < size x) (node_given e infos options h f k number input) below in
            let plain = same h (input_place e input.name) in
            absurd (omega (arith, w, plain, least))
        | inr other ↦
            let made = node_made e infos options h f (subst (λ (i : ℕ). is_given e i f ≡ false) (sym number) other) in
            from_steps size same h k j n f at is other live number grown (subst (λ (x : Grown). Front x whole) made front) least (subst (λ (x : Grown). j < size x) made below)
      ]

  pub from_size : (size : Grown → ℕ) → ((g : Grown) (place : ℕ) → size (with_place g place) ≡ size g) → (j : ℕ) → size (first_grown e inputs) ≤ j → j < size whole → Stood size j
  from_size size same j least below =
      let o = growing.origin e infos options size steps (first_grown e inputs) e.nodes from_first at_first j least below in
      let h = o.before in
      let r = o.reached in
      elim (cases_Bool (is_live e (length h.places))) [
        | inl alive ↦
            let live = subst (λ (i : ℕ). is_live e i ≡ true) r.number alive in
            let next = growing.live_next e infos options h o.node.form alive in
            from_form size same h o.k j o.node o.node.form r.node refl live r.number r.known (subst (λ (g : Grown). Front g whole) next r.front) o.least (subst (λ (g : Grown). j < size g) next o.below)
        | inr dead ↦
            let b = subst (λ (g : Grown). j < size g) (growing.dead_next e infos options h o.node.form dead) o.below in
            let plain = same h 0 in
            let w = o.least in
            absurd (omega (arith, b, plain, w))
      ]

  abbrev pub ops_of : Grown → ℕ
  ops_of g = length g.ops

  abbrev pub arrays_of : Grown → ℕ
  arrays_of g = length g.arrays

  pub from_operation : (j : ℕ) → j < length whole.ops → Stood ops_of j
  from_operation j below = from_size ops_of (λ g place. refl) j (omega arith) below

  -- an array is an input's, or one that a step makes
  pub by_array : (a : ℕ) → a < length whole.arrays → (a < given) ⊎ Stood arrays_of a
  by_array a below =
      let l = first_inputs in
      elim (cases_lt a given) [
        | inl input ↦ inl input
        | inr made ↦ inr (from_size arrays_of (λ g place. refl) a (omega (arith, l, made)) below)
      ]
