-- What a plan says in which an array is made where it is read: how many numbers of [12, 4, 4], in
-- chunks of [4, 4, 2], are above 20 along the first axis when they are doubled. The array of the
-- comparison is made inside the tasks of the fold, which so waits for the doubled numbers.
use Rattle.cu_num.specs.declared.folds.FoldKind.TheVariants.{Sum}
use Rattle.cu_num.specs.declared.functions.Fn2.TheVariants.{Add, Greater}
use Rattle.cu_num.specs.declared.layout.Encoding.TheVariants.{Plain}
use Rattle.cu_num.specs.declared.layout.Endian.TheVariants.{Little}
use Rattle.cu_num.specs.declared.layout.Sep.TheVariants.{Slash}
use Rattle.cu_num.specs.declared.types.Dtype.{Dtype}
use Rattle.cu_num.specs.declared.types.Dtype.TheVariants.{Int16, Int32, Int64}
use Rattle.cu_op.specs.PlanView.{PlanView}
use Rattle.cu_op.specs.declared.kernel.Instr.TheVariants.{Const, Load, Select, Two}
use Rattle.cu_op.specs.declared.layout.ArrayInfo.{ArrayInfo}
use Rattle.cu_op.specs.declared.operation.Op.{Op}
use Rattle.cu_op.specs.declared.operation.Op.TheVariants.{Fold, Map, Merge}
use Rattle.cu_plan.specs.Listed.{listed, awaited_ops}
use Rattle.cu_plan.specs.Text.{begun_text, operation_fields, plan_line, plan_text}
use Rattle.std.proofs.Common.{◌≡◌, ◌++◌, ℕ, Bool, true, false, List, [], ◌∷◌, Option, None, Some, codes, map, pos, refl}
use Rattle.std.specs.Fmt.{digits}

unfoldable array : Dtype → List ℕ → List ℕ → Option ℕ → Bool → ArrayInfo
array t shape chunk maker inlined = record {
  prefix = codes "a";
  layout = record { dtype = t; grid = record { shape = shape; chunk = chunk }; encoding = Plain Slash; endian = Little; fill = pos 0 };
  maker = maker;
  inlined = inlined;
}

unfoldable double : Op
double = Map (record { code = record { items = Load 0 ∷ Two Add Int16 0 0 ∷ [] } }) (record { items = 0 ∷ [] }) 1

unfoldable above : Op
above = Map (record { code = record { items = Load 0 ∷ Const (pos 20) ∷ Two Greater Int16 0 1 ∷ Select 2 2 2 ∷ [] } }) (record { items = 1 ∷ [] }) 2

unfoldable count : Op
count = Fold Sum (record { 0 = 1 }) 2 3

unfoldable total : Op
total = Merge Sum 0 4 3 4

unfoldable plan : PlanView
plan = record {
  arrays = array Int16 (12 ∷ 4 ∷ 4 ∷ []) (4 ∷ 4 ∷ 2 ∷ []) None false
      ∷ array Int16 (12 ∷ 4 ∷ 4 ∷ []) (4 ∷ 4 ∷ 2 ∷ []) (Some 0) false
      ∷ array Int32 (12 ∷ 4 ∷ 4 ∷ []) (4 ∷ 4 ∷ 2 ∷ []) (Some 1) true
      ∷ array Int64 (3 ∷ 4 ∷ 4 ∷ []) (1 ∷ 4 ∷ 2 ∷ []) (Some 2) false
      ∷ array Int64 (4 ∷ 4 ∷ []) (4 ∷ 2 ∷ []) (Some 3) false ∷ [];
  ops = record { op = double; node = 1; projected = 1216 } ∷ record { op = above; node = 2; projected = 2368 }
      ∷ record { op = count; node = 3; projected = 2432 } ∷ record { op = total; node = 3; projected = 384 } ∷ [];
  out = 4;
  allowed = 2432;
  reserved = 0;
}

numbers : listed plan ≡ 0 ∷ 2 ∷ 3 ∷ []
unfolding plan double above count total array
numbers = refl

sources : map (awaited_ops plan) (0 ∷ 2 ∷ 3 ∷ []) ≡ [] ∷ (0 ∷ []) ∷ (2 ∷ []) ∷ []
unfolding plan double above count total array
sources = refl

text : plan_text plan ≡ codes "op 0 map node=1 tasks=6 cells=6 projected=1216" ++ 10 ∷ codes "op 1 fold node=3 tasks=6 cells=6 projected=2432" ++ 10
    ∷ codes "op 2 merge node=3 tasks=2 cells=2 projected=384" ++ 10 ∷ codes "plan ops=3 tasks=14 cells=14 peak=2432" ++ 10 ∷ []
unfolding digits operation_fields plan_line plan double above count total array
text = refl

begun : begun_text plan ≡ codes "op 0 map node=1 tasks=6 cells=6 projected=1216 reads=" ++ 10 ∷ codes "op 1 fold node=3 tasks=6 cells=6 projected=2432 reads=0" ++ 10
    ∷ codes "op 2 merge node=3 tasks=2 cells=2 projected=384 reads=1" ++ 10 ∷ codes "plan ops=3 tasks=14 cells=14 peak=2432" ++ 10 ∷ []
unfolding digits operation_fields plan_line plan double above count total array
begun = refl
