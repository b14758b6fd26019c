-- What is proved of the operations of a plan, each by its kind.
use Rattle.cu_op.proofs.Kind.{Laws}
use Rattle.cu_op.proofs.Kind.Carry.{carry_laws}
use Rattle.cu_op.proofs.Kind.Copy.{copy_laws}
use Rattle.cu_op.proofs.Kind.Fold.{fold_laws}
use Rattle.cu_op.proofs.Kind.GroupFold.{group_fold_laws}
use Rattle.cu_op.proofs.Kind.Map.{map_laws}
use Rattle.cu_op.proofs.Kind.Merge.{merge_laws}
use Rattle.cu_op.proofs.Kind.Mul.{mul_laws}
use Rattle.cu_op.proofs.Kind.PairFold.{pair_fold_laws}
use Rattle.cu_op.proofs.Kind.PairMerge.{pair_merge_laws}
use Rattle.cu_op.proofs.Kind.Pull.{pull_laws}
use Rattle.cu_op.proofs.Kind.Scan.{scan_laws}
use Rattle.cu_op.specs.Kind.Map.{map_of}
use Rattle.cu_op.specs.Kinds.{kind_of}
use Rattle.cu_op.specs.Operation.{kernel_of, reads_of, target_of}
use Rattle.cu_op.specs.declared.kernel.Instr.{Instr}
use Rattle.cu_op.specs.declared.operation.Op.{Op}
use Rattle.cu_op.specs.declared.operation.Op.TheVariants.{Carry, Copy, Fold, GroupFold, Map, Merge, Mul, PairFold, PairMerge, Pull, Scan}
use Rattle.std.proofs.Common.{◌≡◌, List, [], Option, Some, unwrap_or, ap, refl, subst}

pub laws_of : (op : Op) → Laws (kind_of op)
laws_of (Map kernel ins out) = map_laws kernel.code.items ins.items out
laws_of (Pull pull ins out) = pull_laws pull ins.items out
laws_of (Copy region source out) = copy_laws region source out
laws_of (Fold kind axes source out) = fold_laws kind axes source out
laws_of (Merge kind axis group source out) = merge_laws kind axis group source out
laws_of (PairFold least axis source values out) = pair_fold_laws least axis source values out
laws_of (PairMerge least axis group value_source place_source values out) = pair_merge_laws least axis group value_source place_source values out
laws_of (Mul left right out) = mul_laws left right out
laws_of (Carry axis group sums above out) = carry_laws axis group sums above out
laws_of (Scan axis source carry out) = scan_laws axis source carry out
laws_of (GroupFold kind axis groups source labels out) = group_fold_laws kind axis groups source labels out

-- an operation that has a kernel is the map of it over what the operation reads
pub map_by_kernel : (op : Op) (code : List Instr) → kernel_of op ≡ Some code → op ≡ map_of code (reads_of op) (target_of op)
map_by_kernel (Map kernel ins out) code is =
    subst (λ (c : List Instr). Map kernel ins out ≡ map_of c ins.items out) (ap (λ (o : Option (List Instr)). unwrap_or o []) is) refl
map_by_kernel op code is = cc
