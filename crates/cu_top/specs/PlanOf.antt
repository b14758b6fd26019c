-- What may be relied on of the plan of a job, whatever chose it. This project's own rule.
use Rattle.std.specs.Prelude.{◌≡◌, ℕ, ℤ, ◌<◌, ◌≤◌, List, length, Some, None}
use Rattle.cu_shape.specs.Index.{IsInside}
use Rattle.cu_op.specs.Arrays.{array_at, maker_at}
use Rattle.cu_op.specs.Elements.{Elements}
use Rattle.cu_op.specs.PlanView.{PlanView, operation_at}
use Rattle.cu_op.specs.Sound.{Sound}
use Rattle.cu_op.specs.Value.{plan_value, HasTypes}
use Rattle.cu_semantics.specs.Argument.{NodeElements, shape_of_node}
use Rattle.cu_semantics.specs.Meaning.{meaning_of}
use Rattle.cu_lower.specs.Inputs.{input_array}
use Rattle.cu_lower.specs.Premises.{AreOfInputs, AreThere, IsLiveInput, IsOutput}
use Rattle.cu_lower.specs.declared.options.Options.{Options}
use Rattle.cu_command.specs.declared.job.Job.{Job}

-- The plan is sound, and each of its operations needs at most what is allowed. Its result is the
-- output's array, and each other array that no operation makes is a live input's. The value of its
-- result is what the expression means, and it has one wherever the live inputs have elements.
pub record IsPlanOf (options : Options) (job : Job) (p : PlanView) : Type 0 where
  pub sound : Sound p
  pub allowed : p.allowed ≡ options.allowed
  pub needs : (j : ℕ) → j < length p.ops → (operation_at p.ops j).projected ≤ options.allowed
  pub output : IsOutput job.expr job.types (array_at p.arrays p.out)
  pub only : (a : ℕ) → a < length p.arrays → maker_at p.arrays a ≡ None
      → (k : ℕ) × (name : List ℕ) × IsLiveInput job.expr k name
      × (array_at p.arrays a ≡ input_array job.inputs.items name)
  pub equal : (env : Elements) (elements : NodeElements) (idx : List ℕ) (x : ℤ)
      → HasTypes p.arrays env → AreOfInputs job.expr job.types env elements
      → IsInside (shape_of_node job.types job.expr.out) idx → plan_value p env p.out idx ≡ Some x
      → x ≡ meaning_of job.expr job.types elements job.expr.out idx
  pub defined : (env : Elements) (elements : NodeElements) (idx : List ℕ)
      → HasTypes p.arrays env → AreOfInputs job.expr job.types env elements
      → AreThere job.expr job.types env → IsInside (shape_of_node job.types job.expr.out) idx
      → plan_value p env p.out idx ≡ Some (meaning_of job.expr job.types elements job.expr.out idx)
