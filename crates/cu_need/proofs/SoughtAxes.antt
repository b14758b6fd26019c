-- The axes along which a place is sought are those that typing marks.
use Rattle.std.proofs.Common.{◌≡◌, inl, inr, ℕ, zero, suc, ◌-◌, ◌<◌, ◌≤◌, ◌==◌, nat_lt, not, Bool, true, false, ℤ, pos, negsuc, List, [], ◌∷◌, get_or, set, Option, None, Some, refl, sym, ◌∙◌, subst, arith, if◌then◌else◌}
use Rattle.std.specs.Prelude.{replicate, option_map}
use Rattle.std.proofs.lemmas.Bool.{ltb-true}
use Rattle.std.proofs.lemmas.Bool.Decides.{eqb_tells}
use Rattle.std.proofs.lemmas.List.{get_or-set_same, get_or-set_other}
use Rattle.cu_result.proofs.OptionSteps.{step_some, when_some}
use Rattle.cu_origin.specs.Pull.{has_axis}
use Rattle.cu_node.specs.Axes.{axis_of}
use Rattle.cu_typing.specs.Reduction.{marks_of}
use Rattle.cu_tree.specs.Marks.{sought_axes}
use Rattle.cu_tree.proofs.Bits.{along, sought}
use Rattle.cu_need.specs.Reduction.{sought_axis}

pub some_when : (b : Bool) (d k : ℕ) → (if b then Some d else None) ≡ Some k → (b ≡ true) × (d ≡ k)
some_when true d k h = (refl, cc)
some_when false d k h = cc

pub axis_below : (d : ℤ) (rank axis : ℕ) → axis_of d rank ≡ Some axis → axis < rank
axis_below (pos d) rank axis h = let s = some_when (nat_lt d rank) d axis h in let l = ltb-true d rank s.0 in let e = s.1 in omega arith
axis_below (negsuc d) rank axis h = let s = some_when (nat_lt d rank) (rank - 1 - d) axis h in let l = ltb-true d rank s.0 in let e = s.1 in omega arith

all_of_six : (i : ℕ) → i < 6 → get_or (replicate 6 true) i false ≡ true
all_of_six zero h = refl
all_of_six (suc zero) h = refl
all_of_six (suc (suc zero)) h = refl
all_of_six (suc (suc (suc zero))) h = refl
all_of_six (suc (suc (suc (suc zero)))) h = refl
all_of_six (suc (suc (suc (suc (suc zero))))) h = refl
all_of_six (suc (suc (suc (suc (suc (suc i)))))) h = absurd (omega arith)

none_of_six : (i : ℕ) → get_or (replicate 6 false) i false ≡ false
none_of_six zero = refl
none_of_six (suc zero) = refl
none_of_six (suc (suc zero)) = refl
none_of_six (suc (suc (suc zero))) = refl
none_of_six (suc (suc (suc (suc zero)))) = refl
none_of_six (suc (suc (suc (suc (suc zero))))) = refl
none_of_six (suc (suc (suc (suc (suc (suc i)))))) = refl

-- one mark alone
marked_alone : (axis i : ℕ) → axis < 6 → get_or (set (replicate 6 false) axis true) i false ≡ (i == axis)
marked_alone axis i h = elim (eqb_tells i axis) [
  | inl p ↦ let t = p.0 in let e = p.1 in rw (t, e) (get_or-set_same (replicate 6 false) axis true false h)
  | inr p ↦ let t = p.0 in rw t (get_or-set_other (replicate 6 false) axis i true false p.1 ∙ none_of_six i)
]

pub sought_marked : (rank : ℕ) (axis : Option ℤ) (marks : List Bool) (i : ℕ) → rank ≤ 6 → i < rank → marks_of rank (option_map (λ d. d ∷ []) axis) ≡ Some marks
    → has_axis (sought_axes (sought_axis rank axis)) i ≡ get_or marks i false
sought_marked rank None marks i few h e =
    let same : replicate 6 true ≡ marks = cc in
    sought None i (omega arith) ∙ subst (λ (ms : List Bool). true ≡ get_or ms i false) same (sym (all_of_six i (omega arith)))
sought_marked rank (Some d) marks i few h e =
    let first = step_some (axis_of d rank) _ marks e in
    let axis = first.0 in
    let once = when_some (not (get_or (replicate 6 false) axis false)) _ marks first.2 in
    let last = once.1 in
    let same : set (replicate 6 false) axis true ≡ marks = cc in
    let below = axis_below d rank axis first.1 in
    let is : sought_axis rank (Some d) ≡ Some axis = first.1 in
    subst (λ (o : Option ℕ). has_axis (sought_axes o) i ≡ get_or marks i false) (sym is)
    (along axis i ∙ subst (λ (ms : List Bool). (i == axis) ≡ get_or ms i false) same (sym (marked_alone axis i (omega arith))))
