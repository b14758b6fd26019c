-- A worked example of inlined arrays: how many of the int16 numbers of [12, 4, 4], in chunks of
-- [4, 4, 2], are above 20 along the first axis. The comparison is made inside the fold; the partial
-- counts stay stored, since a merge reads several chunks of them in each task.
use Rattle.cu_fuse.specs.Inlining.{inlined_by, read_count, trial}
use Rattle.cu_name.specs.Keys.{made_prefix_of}
use Rattle.cu_num.specs.declared.folds.FoldKind.TheVariants.{Sum}
use Rattle.cu_num.specs.declared.functions.Fn2.TheVariants.{Greater}
use Rattle.cu_num.specs.declared.layout.Encoding.TheVariants.{Plain}
use Rattle.cu_num.specs.declared.layout.Endian.TheVariants.{Little}
use Rattle.cu_num.specs.declared.layout.Sep.TheVariants.{Slash}
use Rattle.cu_num.specs.declared.types.Dtype.{Dtype}
use Rattle.cu_num.specs.declared.types.Dtype.TheVariants.{Int16, Int32, Int64}
use Rattle.cu_op.specs.PlanView.{PlanView}
use Rattle.cu_op.specs.Projection.{instruction_count, projection}
use Rattle.cu_op.specs.Within.{ops_within, stored_reads}
use Rattle.cu_op.specs.declared.kernel.Instr.TheVariants.{Const, Load, Select, Two}
use Rattle.cu_op.specs.declared.layout.ArrayInfo.{ArrayInfo}
use Rattle.cu_op.specs.declared.operation.Op.TheVariants.{Fold, Map, Merge}
use Rattle.std.proofs.Common.{◌≡◌, ℕ, ◌==◌, Bool, true, false, List, [], ◌∷◌, Option, None, Some, codes, map, pos, refl}
use Rattle.std.specs.Prelude.{sum_by}

unfoldable array : List ℕ → Dtype → List ℕ → List ℕ → Option ℕ → Bool → ArrayInfo
array name t shape chunk maker inlined = record {
  prefix = name;
  layout = record { dtype = t; grid = record { shape = shape; chunk = chunk }; encoding = Plain Slash; endian = Little; fill = pos 0 };
  maker = maker;
  inlined = inlined;
}

-- the plan, with the name of the partial counts, whether the comparison is inlined, and what the fold needs
unfoldable plan : ℕ → Bool → ℕ → PlanView
plan name inlined needs = record {
  arrays = array (codes "x") Int16 (12 ∷ 4 ∷ 4 ∷ []) (4 ∷ 4 ∷ 2 ∷ []) None false
      ∷ array (made_prefix_of (codes "y") 0) Int32 (12 ∷ 4 ∷ 4 ∷ []) (4 ∷ 4 ∷ 2 ∷ []) (Some 0) inlined
      ∷ array (made_prefix_of (codes "y") name) Int64 (3 ∷ 4 ∷ 4 ∷ []) (1 ∷ 4 ∷ 2 ∷ []) (Some 1) false
      ∷ array (codes "y") Int64 (4 ∷ 4 ∷ []) (4 ∷ 2 ∷ []) (Some 2) false ∷ [];
  ops = record { op = Map (record { code = record { items = Load 0 ∷ Const (pos 20) ∷ Two Greater Int16 0 1 ∷ Select 2 2 2 ∷ [] } }) (record { items = 0 ∷ [] }) 1; node = 2; projected = 2368 }
      ∷ record { op = Fold Sum (record { 0 = 1 }) 1 2; node = 3; projected = needs }
      ∷ record { op = Merge Sum 0 4 2 3; node = 3; projected = 384 } ∷ [];
  out = 3;
  allowed = 2432;
  reserved = 0;
}

-- the fold needs 2,432 bytes with the comparison inside, and the name of the partial counts closes up
example : inlined_by (plan 1 false 320) (λ a. a == 1) ≡ plan 0 true 2432
unfolding plan array
example = refl

-- what the limits are asked of, where the fold reads the comparison
needs : projection (trial (plan 1 false 320) (λ a. false) 1 0 1) 1 ≡ 2432
unfolding plan array
needs = refl

steps : sum_by instruction_count (ops_within (trial (plan 1 false 320) (λ a. false) 1 0 1) 1) ≡ 4
unfolding plan array
steps = refl

reads : sum_by (stored_reads (trial (plan 1 false 320) (λ a. false) 1 0 1).arrays) (ops_within (trial (plan 1 false 320) (λ a. false) 1 0 1) 1) ≡ 1
unfolding plan array
reads = refl

-- one input reads each of the arrays but the output
counts : map (read_count (plan 1 false 320).ops) (0 ∷ 1 ∷ 2 ∷ 3 ∷ []) ≡ 1 ∷ 1 ∷ 1 ∷ 0 ∷ []
unfolding plan array
counts = refl
