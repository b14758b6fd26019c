-- What is proved of a node of any form, by its form alone.
pub mod Function
pub mod Groups
pub mod Input
pub mod PrefixSum
pub mod Product
pub mod Rechunk
pub mod Reduction
pub mod Search
pub mod View
use Rattle.std.proofs.Common.{◌≡◌, ℕ, ◌<◌, Bool, true, false, ℤ, List, [], All, Some, Ok, length, slice_index, ap, sym, subst, arith}
use Rattle.std.proofs.lemmas.List.Elements.{All-nil}
use Rattle.cu_num.specs.Dtype.{InRange}
use Rattle.cu_shape.specs.Index.{IsInside}
use Rattle.cu_copy.specs.Copies.{IsRechunk}
use Rattle.cu_op.specs.Elements.{Elements}
use Rattle.cu_op.specs.declared.layout.ArrayInfo.{ArrayInfo}
use Rattle.cu_form.specs.Expression.{Expression}
use Rattle.cu_form.specs.Form.{args_of, in_ranges, takes_args}
use Rattle.cu_form.specs.declared.form.Form.{Form}
use Rattle.cu_node.specs.Info.{IsInfo, info_at}
use Rattle.cu_node.specs.declared.info.NodeInfo.{NodeInfo}
use Rattle.cu_semantics.specs.Argument.{NodeElements, shape_of_node}
use Rattle.cu_semantics.specs.Rule.{rule_of}
use Rattle.cu_expr.specs.Typing.{typed_node}
use Rattle.cu_expr.specs.declared.inputs.InputInfo.{InputInfo}
use Rattle.cu_need.specs.Need.{IsTyped}
use Rattle.cu_need.specs.Operands.{copies_of, operands_of}
use Rattle.cu_lower_reduce.specs.Copies.{AreOperands, IsStaged}
use Rattle.cu_lower_reduce.specs.Partials.{IsSetting}
use Rattle.cu_lower_reduce.specs.Steps.{all_made, last_made, HasInfo, HaveInfos, AreSteps, SolveSteps}
use Rattle.cu_lower_reduce.specs.declared.step.Step.{Step}
use Rattle.cu_lower.specs.Inputs.{input_place}
use Rattle.cu_lower.specs.Parts.{copying, is_given, setting, source_places, steps_of, CanMakeCopies, IsFitting}
use Rattle.cu_lower.specs.declared.options.Options.{Options}
use Rattle.cu_lower.proofs.Applied.{Told}
use Rattle.cu_lower.proofs.Arguments.{Each}
use Rattle.cu_lower.proofs.OperandSteps.{own_setting, AreOwn, HasRoom}
use Rattle.cu_lower.proofs.StepLaws.{HaveLaws}

-- node k has this form in an accepted expression
pub record IsAccepted (inputs : List InputInfo) (infos : List NodeInfo) (k : ℕ) (f : Form) : Type 0 where
  pub args : takes_args f ≡ true
  pub ranges : in_ranges f ≡ true
  pub kept : All IsInfo infos
  pub typed : typed_node inputs infos f ≡ Ok (info_at infos k)

-- its copies can be made, where node `out` is stored
pub record CanStage (infos : List NodeInfo) (options : Options) (out k : ℕ) (f : Form) : Type 0 where
  pub operands : All IsRechunk (operands_of infos k f)
  pub staged : (first : ℕ) → All (IsStaged (copying options first)) (copies_of infos out k f)

-- where the steps of a node stand: the arrays of the plan, the number of each node's array, and that of the first array that they make
pub record Site : Type 0 where
  pub e : Expression
  pub infos : List NodeInfo
  pub options : Options
  pub arrays : List ArrayInfo
  pub places : List ℕ
  pub first : ℕ

-- the arrays that a node reads there, and its steps
abbrev pub sources_at : Site → Form → List ℕ
sources_at p f = source_places p.e p.places f

abbrev pub steps_at : Site → ℕ → Form → List Step
steps_at p k f = steps_of p.infos p.options k f (sources_at p f) p.first

-- the array of a node has the node's type and grid
abbrev pub IsKnown : Site → ℕ → Type 0
IsKnown p n = HasInfo p.arrays (slice_index p.places n) (info_at p.infos n)

-- what the steps of node k take for granted there: the arrays that they read stand before those that they make, and all of these are known
pub record StandsAt (p : Site) (k : ℕ) (f : Form) : Type 0 where
  pub fitting : IsFitting p.infos p.options k f
  pub room : HasRoom p.options p.first
  pub known : Each (IsKnown p) (args_of f)
  pub before : Each (λ n. slice_index p.places n < p.first) (args_of f)
  pub named : (name : List ℕ) → f ≡ Form.Input name → HasInfo p.arrays (input_place p.e name) (info_at p.infos k)
  pub made : HaveInfos p.arrays p.first (all_made (steps_at p k f))

-- what the nodes mean and what the arrays of the plan contain; `must` says that this is defined everywhere
pub record Contents : Type 0 where
  pub must : Bool
  pub elements : NodeElements
  pub meaning : NodeElements
  pub at : Elements

-- the array of node n has the node's elements, which are numbers of its type
pub record IsCarried (p : Site) (c : Contents) (n : ℕ) : Type 0 where
  pub known : IsKnown p n
  pub carries : (idx : List ℕ) → IsInside (shape_of_node p.infos n) idx → Told c.must (c.at (slice_index p.places n) idx) (c.meaning n idx)
  pub ranged : (idx : List ℕ) (x : ℤ) → IsInside (shape_of_node p.infos n) idx → c.at (slice_index p.places n) idx ≡ Some x
      → InRange (info_at p.infos n).dtype x

-- so have those that node k reads, and its steps make what they tell
pub record Solves (p : Site) (c : Contents) (k : ℕ) (f : Form) : Type 0 where
  pub arguments : Each (IsCarried p c) (args_of f)
  pub named : (name : List ℕ) → f ≡ Form.Input name
      → (idx : List ℕ) → IsInside (shape_of_node p.infos k) idx → Told c.must (c.at (input_place p.e name) idx) (c.elements k idx)
  pub made : SolveSteps p.arrays c.at (steps_at p k f)

-- its first step may stand there
pub setting_at : (p : Site) → HasRoom p.options p.first → IsSetting (setting p.options p.first)
setting_at p room = own_setting p.options p.first p.first room (omega arith)

pub record Laws (f : Form) : Type 0 where
  -- the node is typed over what is known of its arguments
  pub typed : (inputs : List InputInfo) (infos : List NodeInfo) (k : ℕ) → typed_node inputs infos f ≡ Ok (info_at infos k)
      → IsTyped infos k f
  -- it has what its steps take for granted
  pub fitting : (e : Expression) (inputs : List InputInfo) (infos : List NodeInfo) (options : Options) (k : ℕ)
      → IsAccepted inputs infos k f → CanStage infos options e.out k f → is_given e k f ≡ false
      → IsFitting infos options k f
  -- and what the copies of its operands do
  pub copies : (infos : List NodeInfo) (options : Options) (k : ℕ) → IsFitting infos options k f
      → (first : ℕ) → CanMakeCopies infos options k f first
  -- what its steps come to
  pub own : HaveLaws → (p : Site) (inputs : List InputInfo) (k : ℕ) → IsAccepted inputs p.infos k f → is_given p.e k f ≡ false
      → IsFitting p.infos p.options k f → HasRoom p.options p.first
      → AreOwn p.infos p.options p.e.out k f (steps_at p k f)
  -- they are steps over the arrays of the plan
  pub steps : HaveLaws → (p : Site) (inputs : List InputInfo) (k : ℕ) → IsAccepted inputs p.infos k f → StandsAt p k f
      → AreSteps p.arrays p.options.reserved (sources_at p f) p.first p.first (steps_at p k f)
  -- the last array that they make has the elements that the form means
  pub told : HaveLaws → (p : Site) (c : Contents) (inputs : List InputInfo) (k : ℕ) → IsAccepted inputs p.infos k f → StandsAt p k f → Solves p c k f
      → (idx : List ℕ) → IsInside (shape_of_node p.infos k) idx
      → Told c.must (c.at (last_made p.first (steps_at p k f)) idx) (rule_of p.infos c.elements c.meaning k f idx)

-- a form without operands copies none
pub no_copies : (infos : List NodeInfo) (options : Options) (k : ℕ) (f : Form) → operands_of infos k f ≡ []
    → (first : ℕ) → CanMakeCopies infos options k f first
no_copies infos options k f none first = record {
  rechunks = subst (All IsRechunk) (sym none) (All-nil IsRechunk);
  operands = subst (AreOperands (copying options first)) (sym none) (record { staged = All-nil (IsStaged (copying options first)) });
  few = (let n = ap length none in omega (arith, n));
}
