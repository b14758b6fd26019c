-- What is proved of prefix sums.
use Rattle.std.proofs.Common.{◌≡◌, ◌==◌, ℕ, zero, suc, ◌<◌, ◌≤◌, Bool, true, false, if◌then◌else◌, ℤ, ◌+ℤ◌, List, [], ◌∷◌, Option, Some, None, Ok, length, refl, ap, sym, ◌∙◌, subst, inl, inr, arith}
use Rattle.std.specs.Prelude.{option_map, option_and_then, slice_index, slice_set, unwrap_or}
use Rattle.cu_num.specs.Wrap.{wrapped}
use Rattle.cu_shape.specs.Index.{IsInside}
use Rattle.cu_shape.proofs.Places.{inside-length}
use Rattle.cu_form.specs.Form.{takes_args}
use Rattle.cu_form.specs.declared.args.Arg.{Arg}
use Rattle.cu_form.specs.declared.form.Form.{Form}
use Rattle.cu_node.specs.Info.{IsInfo, info_at}
use Rattle.cu_node.specs.declared.info.NodeInfo.{NodeInfo}
use Rattle.cu_semantics.specs.Along.{line_axis}
use Rattle.cu_semantics.specs.Argument.{NodeElements, shape_of_node}
use Rattle.cu_semantics.specs.Rule.{rule_of}
use Rattle.cu_reduce.specs.Prefix.{Line, cumulative, line_through, running_sum, sum_below}
use Rattle.cu_reduce.proofs.Given.{none_before}
use Rattle.cu_typing.specs.Along.{summed_axis, typed_cumulative}
use Rattle.cu_expr.proofs.ToldArguments.{info_kept}
use Rattle.cu_expr.specs.declared.inputs.InputInfo.{InputInfo}
use Rattle.cu_need.specs.Along.{sum_axis}
use Rattle.cu_need.proofs.AlongTypes as wanted
use Rattle.cu_lower_reduce.specs.Cumulative.{IsCumulative}
use Rattle.cu_lower_reduce.specs.Steps.{last_made}
use Rattle.cu_lower_reduce.specs.declared.cumulative.Cumulative.{Cumulative}
use Rattle.cu_lower.specs.Parts.{cumulative_of, setting}
use Rattle.cu_lower.proofs.AlongTypes.{cumulative_typed}
use Rattle.cu_lower.proofs.Applied.{Told}
use Rattle.cu_lower.proofs.Node.{no_copies, setting_at, sources_at, steps_at, IsAccepted, Laws, Site}
use Rattle.cu_lower.proofs.OperandSteps.{computed_own}
use Rattle.cu_lower.proofs.ReducedValues.{made_told}
use Rattle.cu_lower.proofs.ReductionTypes.{one_array}

-- ---- indices along an axis

-- the index of a place on the axis
place_inside : (ns idx : List ℕ) (axis k : ℕ) → k < slice_index ns axis → IsInside ns idx → IsInside ns (slice_set idx axis k)
place_inside [] idx axis k below inside = absurd (omega (arith, below))
place_inside (n ∷ ns) [] axis k below inside = absurd inside
place_inside (n ∷ ns) (i ∷ is) zero k below inside = (below, inside.1)
place_inside (n ∷ ns) (i ∷ is) (suc axis) k below inside = (inside.0, place_inside ns is axis k below inside.1)

on_axis : (ns idx : List ℕ) (axis : ℕ) → axis < length ns → IsInside ns idx → slice_index idx axis < slice_index ns axis
on_axis [] idx axis below inside = absurd (omega (arith, below))
on_axis (n ∷ ns) [] axis below inside = absurd inside
on_axis (n ∷ ns) (i ∷ is) zero below inside = inside.0
on_axis (n ∷ ns) (i ∷ is) (suc axis) below inside = on_axis ns is axis (omega (arith, below)) inside.1

-- ---- its elements are those that its operator gives

-- a sum of two numbers
sum_told : (must : Bool) (o p : Option ℤ) (x y : ℤ) → Told must o x → Told must p y → Told must (option_and_then (λ u. option_map (λ v. u +ℤ v) p) o) (x +ℤ y)
sum_told must o p x y (inl a) (inl b) =
    inl (ap (option_and_then (λ u. option_map (λ v. u +ℤ v) p)) a ∙ ap (option_map (λ v. x +ℤ v)) b)
sum_told must o p x y (inl a) (inr none) =
    inr (none.0, ap (option_and_then (λ u. option_map (λ v. u +ℤ v) p)) a ∙ ap (option_map (λ v. x +ℤ v)) none.1)
sum_told must o p x y (inr none) b = inr (none.0, ap (option_and_then (λ u. option_map (λ v. u +ℤ v) p)) none.1)

-- the sum up to a place of a line whose elements up to it are told
running_told : (must : Bool) (f : Line) (g : ℕ → ℤ) (j : ℕ) → ((k : ℕ) → k ≤ j → Told must (f k) (g k)) → Told must (running_sum f j) (sum_below g (suc j))
running_told must f g zero told = subst (λ (x : ℤ). Told must (f 0) x) (none_before (g 0)) (told 0 (omega arith))
running_told must f g (suc j) told =
    sum_told must (running_sum f j) (f (suc j)) (sum_below g (suc j)) (g (suc j)) (running_told must f g j (λ k low. told k (omega (arith, low)))) (told (suc j) (omega arith))

-- the first axis where there is only one
abbrev only_first : Bool → ℕ
only_first one = unwrap_or (if one then Some 0 else None) 0

first_or : (one : Bool) → only_first one ≡ 0
first_or true = refl
first_or false = refl

-- the axis of the operator
line_is : (rank : ℕ) (axis : Option ℤ) → unwrap_or (summed_axis rank axis) 0 ≡ line_axis rank axis
line_is rank (Some d) = refl
line_is rank None = first_or (rank == 1)

prefix_told : (must : Bool) (infos : List NodeInfo) (elements meaning : NodeElements) (k n : ℕ) (axis : Option ℤ) (source : List ℕ → Option ℤ) (o : Option ℤ) (idx : List ℕ)
    → IsInfo (info_at infos n) → IsInfo (info_at infos k) → typed_cumulative axis (info_at infos n) ≡ Ok (info_at infos k) → IsInside (info_at infos k).dims idx
    → o ≡ cumulative (info_at infos k).dtype (line_through source (sum_axis (info_at infos n) axis) idx) (slice_index idx (sum_axis (info_at infos n) axis))
    → ((i : List ℕ) → IsInside (shape_of_node infos n) i → Told must (source i) (meaning n i))
    → Told must o (rule_of infos elements meaning k (Form.CumulativeSum (Arg.Node n ∷ []) axis) idx)
prefix_told must infos elements meaning k n axis source o idx hn hk typed inside value told =
    let summed = wanted.sums_within axis (info_at infos n) (info_at infos k) hn hk typed in
    let a = sum_axis (info_at infos n) axis in
    let acc = (info_at infos k).dtype in
    let into = subst (λ (ds : List ℕ). IsInside ds idx) summed.dims inside in
    let below = on_axis (info_at infos n).dims idx a summed.along into in
    let g : ℕ → ℤ = λ j. meaning n (slice_set idx (sum_axis (info_at infos n) axis) j) in
    let running = running_told must (line_through source a idx) g (slice_index idx a)
    (λ j low. told (slice_set idx a j) (place_inside (info_at infos n).dims idx a j (omega (arith, low, below)) into)) in
    let all = made_told must (wrapped acc) (running_sum (line_through source a idx) (slice_index idx a)) (sum_below g (suc (slice_index idx a))) running in
    let rank : length idx ≡ length (info_at infos n).dims = inside-length (info_at infos n).dims idx into in
    let same : sum_axis (info_at infos n) axis ≡ line_axis (length idx) axis = line_is (length (info_at infos n).dims) axis ∙ ap (λ (r : ℕ). line_axis r axis) (sym rank) in
    let rule : wrapped acc (sum_below g (suc (slice_index idx a))) ≡ rule_of infos elements meaning k (Form.CumulativeSum (Arg.Node n ∷ []) axis) idx =
    ap (λ (d : ℕ). wrapped acc (sum_below (λ j. meaning n (slice_set idx d j)) (suc (slice_index idx d)))) same in
    subst (λ (v : Option ℤ). Told must v (rule_of infos elements meaning k (Form.CumulativeSum (Arg.Node n ∷ []) axis) idx)) (sym value)
    (subst (λ (x : ℤ). Told must (option_map (wrapped acc) (running_sum (line_through source a idx) (slice_index idx a))) x) rule all)

-- ---- its laws

module _ (m : ℕ) (axis : Option ℤ) where
  abbrev form : Form
  form = Form.CumulativeSum (Arg.Node m ∷ []) axis

  sums_are : (inputs : List InputInfo) (infos : List NodeInfo) (k : ℕ)
      → IsAccepted inputs infos k form → (ins : List ℕ) → IsCumulative (cumulative_of infos k (Arg.Node m ∷ []) axis ins)
  sums_are inputs infos k n ins =
      cumulative_typed axis (info_at infos m) (info_at infos k)
      (slice_index ins 0) (info_kept infos m n.kept) (info_kept infos k n.kept) n.typed

  -- what its steps go by
  abbrev sums : Site → ℕ → Cumulative
  sums p k = cumulative_of p.infos k (Arg.Node m ∷ []) axis (sources_at p form)

  of_one : Laws form
  of_one = record {
    typed = λ inputs infos k typed. typed;
    fitting = λ e inputs infos options k n copies made. sums_are inputs infos k n;
    copies = λ infos options k fits. no_copies infos options k form refl;
    own = λ laws p inputs k n made fits room.
        computed_own p.infos p.options p.e.out k form (steps_at p k form) refl
        (laws.sums.sizes (setting p.options p.first) (sums p k) (setting_at p room) (fits (sources_at p form)));
    steps = λ laws p inputs k n s.
        laws.sums.steps p.arrays (setting p.options p.first) (sums p k) (setting_at p s.room) (s.fitting (sources_at p form)) s.before.0 s.known.0 s.made;
    told = λ laws p c inputs k n s solves idx inside.
        let value = laws.sums.value p.arrays c.at (setting p.options p.first) (sums p k) (setting_at p s.room) (s.fitting (sources_at p form))
        s.known.0 s.made solves.made idx inside in
        prefix_told c.must p.infos c.elements c.meaning k m axis
        (c.at (slice_index p.places m)) (c.at (last_made p.first (steps_at p k form)) idx) idx
        (info_kept p.infos m n.kept) (info_kept p.infos k n.kept) n.typed inside value solves.arguments.0.carries;
  }

pub prefix_laws : (args : List Arg) (axis : Option ℤ)
    → takes_args (Form.CumulativeSum args axis) ≡ true → Laws (Form.CumulativeSum args axis)
prefix_laws args axis takes =
    let (m, one) = one_array args takes in
    subst (λ (xs : List Arg). Laws (Form.CumulativeSum xs axis)) (sym one) (of_one m axis)
