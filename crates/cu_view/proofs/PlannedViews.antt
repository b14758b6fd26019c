-- A view that is an operation of a sound plan.
use Rattle.std.proofs.Common.{◌≡◌, ℕ, ◌<◌, ◌≤◌, List, length, Contains, get_or, refl, ◌∙◌, arith}
use Rattle.std.proofs.lemmas.List.{length-map}
use Rattle.std.proofs.lemmas.List.Elements.{All-map}
use Rattle.cu_shape.specs.Index.{IsInside}
use Rattle.cu_origin.specs.Pull.{IsInSources}
use Rattle.cu_origin.proofs.OriginsInside.{inside_sources}
use Rattle.cu_op.specs.declared.layout.ArrayInfo.{ArrayInfo}
use Rattle.cu_op.specs.declared.operation.Op.{Op}
use Rattle.cu_op.specs.declared.operation.Op.TheVariants.{Pull}
use Rattle.cu_op.specs.Arrays.{grid_at}
use Rattle.cu_op.specs.Operation.{reads_of, writes_of, target_of}
use Rattle.cu_op.specs.Kind.Pull.{shapes_at, pulled}
use Rattle.cu_op.specs.PlanView.{PlanView}
use Rattle.cu_op.specs.Schedule.{op_of}
use Rattle.cu_op.specs.Sound.{Sound}
use Rattle.cu_op.specs.Elements.{Elements}
use Rattle.cu_op.specs.Value.{rule, plan_value}
use Rattle.cu_op.proofs.Operations.{Fit}
use Rattle.cu_op.proofs.Plans.{grid_ok}
use Rattle.cu_op.proofs.Values.{value_solves}
use Rattle.cu_view.specs.Planned.{IsViewOperation, pull_origin, shape_at}
use Rattle.cu_view.specs.View.{IsView, HasFewElements}

-- a pull is a view over the shapes of its arrays
abbrev pub IsViewOver : List ArrayInfo → Op → Type 0
IsViewOver arrays (Pull pull ins out) = IsView pull (shapes_at arrays ins.items) (shape_at arrays out)
IsViewOver arrays op = Unit {0}

pub fit_of : (p : PlanView) (k : ℕ) → Sound p → k < length p.ops → Fit p.arrays k (op_of p k)
fit_of p k s h = let o = s.operations k h in (o.reads, o.writes, o.fits)

pub view_over : (p : PlanView) (k : ℕ) (op : Op) → Sound p → Fit p.arrays k op → length (reads_of op) ≤ 8 → IsViewOver p.arrays op
view_over p k (Pull pull ins out) s fit few = record {
  fits = fit.2.shapes;
  few = (let n = length-map ins.items (λ a. (grid_at p.arrays a).shape) in omega arith);
  source_sizes = All-map HasFewElements (λ a. (grid_at p.arrays a).shape) ins.items (λ i d b. (grid_ok p (get_or ins.items i d) s (fit.0 i d b).0).elements);
  result_size = (grid_ok p out s (fit.1 0 0 (omega arith)).0).elements;
}
view_over p k op s fit few = tt

-- what comes from a source comes from an index inside it
pub pull_inside : (p : PlanView) (k : ℕ) (op : Op) (idx : List ℕ) → Fit p.arrays k op → IsViewOperation op → IsInside (shape_at p.arrays (target_of op)) idx
    → IsInSources (shapes_at p.arrays (reads_of op)) (pull_origin p.arrays op idx)
pull_inside p k (Pull pull ins out) idx fit is h = inside_sources pull (shapes_at p.arrays ins.items) (shape_at p.arrays out) idx fit.2.shapes h
pull_inside p k op idx fit is h = absurd is

-- its rule is the element at its origin
record IsByOrigin (op : Op) (arrays : List ArrayInfo) : Type 0 where
  pub writes : Contains (writes_of op) (target_of op)
  pub rule_is : (at : Elements) (idx : List ℕ) → rule op arrays at (target_of op) idx ≡ pulled (reads_of op) at (pull_origin arrays op idx)

by_origin : (op : Op) (arrays : List ArrayInfo) → IsViewOperation op → IsByOrigin op arrays
by_origin (Pull pull ins out) arrays is = record { writes = (0, omega arith, refl); rule_is = λ at idx. refl }
by_origin op arrays is = absurd is

-- so is its result's value
pub value_at_origin : (p : PlanView) (k : ℕ) (env : Elements) (idx : List ℕ) → Sound p → k < length p.ops → IsViewOperation (op_of p k)
    → plan_value p env (target_of (op_of p k)) idx ≡ pulled (reads_of (op_of p k)) (plan_value p env) (pull_origin p.arrays (op_of p k) idx)
value_at_origin p k env idx s h is =
    let o = by_origin (op_of p k) p.arrays is in
    (value_solves p env s).made k (target_of (op_of p k)) idx h o.writes ∙ o.rule_is (plan_value p env) idx
