-- Numbers that a reduction gives have its type.
use Rattle.cu_num.proofs.Wrapped.{InRange-wrapped}
use Rattle.cu_num.specs.Dtype.{InRange}
use Rattle.cu_num.specs.Wrap.{wrapped}
use Rattle.cu_num.specs.declared.folds.FoldKind.{FoldKind}
use Rattle.cu_num.specs.declared.types.Dtype.{Dtype}
use Rattle.cu_op.proofs.PairRanges.{some_map}
use Rattle.cu_op.proofs.Results.{only_written}
use Rattle.cu_op.specs.Arrays.{type_at}
use Rattle.cu_op.specs.declared.layout.ArrayInfo.{ArrayInfo}
use Rattle.cu_reduce.specs.Folds.{all_some, fold_of, reduced_to}
use Rattle.std.proofs.Common.{◌≡◌, ℕ, ℤ, List, [], ◌∷◌, Contains, Option, Some, subst}

reduced_range : (kind : FoldKind) (t : Dtype) (xs : List (Option ℤ)) (x : ℤ) → reduced_to kind t xs ≡ Some x → InRange t x
reduced_range kind t xs x e = let m = some_map (λ ys. wrapped t (fold_of kind ys)) (all_some xs) x e in subst (InRange t) m.2 (InRange-wrapped t (fold_of kind m.0))

pub fold_range : (kind : FoldKind) (arrays : List ArrayInfo) (out a : ℕ) (xs : List (Option ℤ)) (x : ℤ) → Contains (out ∷ []) a → reduced_to kind (type_at arrays out) xs ≡ Some x → InRange (type_at arrays a) x
fold_range kind arrays out a xs x among v = subst (λ (b : ℕ). InRange (type_at arrays b) x) (only_written out a among) (reduced_range kind (type_at arrays out) xs x v)
