-- The tests of a joint copy say what its rule says.
use Rattle.std.proofs.Common.{◌≡◌, inl, inr, ℕ, ◌+◌, ◌*◌, ◌≤◌, ◌^◌, ◌==◌, ◌&&◌, not, nat_le, true, List, ap, arith}
use Rattle.std.proofs.lemmas.Bool.{and_parts, leb-true}
use Rattle.std.proofs.lemmas.Bool.Decides.{eqb_tells, nat_tests}
use Rattle.cu_num.specs.Dtype.{size_of}
use Rattle.cu_shape.specs.Counts.{at_least_one}
use Rattle.cu_shape.specs.Index.{product}
use Rattle.cu_op.specs.Arrays.{grid_at, type_at}
use Rattle.cu_op.specs.Cells.{regions_of}
use Rattle.cu_op.specs.Operation.{target_of}
use Rattle.cu_op.specs.declared.operation.Planned.{Planned}
use Rattle.cu_fuse.specs.Copies.{are_copies, copied_array, has_few_tasks, is_one_pass, joint_copy, least_between, may_join, most_bytes}
use Rattle.cu_fuse.specs.CopyRule.{MayJoin}
use Rattle.cu_fuse.specs.Fused.{SettingView, has_one_reader, is_between}
use Rattle.cu_fuse.proofs.JointCopy.{told}
use Rattle.cu_fuse.proofs.Rules.{alone_read, read_alone}

pub joins_of : (s : SettingView) (maker reader : Planned) (behind : List Planned) (a : ℕ) → may_join s maker reader behind a ≡ true → MayJoin s maker reader behind a
joins_of s maker reader behind a may =
    let t = told s maker reader behind a may in
    let p1 = and_parts (are_copies maker reader) _ may in
    let p2 = and_parts (is_between s a) _ p1.1 in
    let p3 = and_parts (has_one_reader reader behind a) (is_one_pass s maker reader) p2.1 in
    let alone = read_alone reader behind a p3.0 in
    let source : ℕ = copied_array maker.op in
    let out : ℕ = target_of reader.op in
    let fits = and_parts (nat_le (product (at_least_one (grid_at s.arrays out).shape)) (2 ^ 40))
    (nat_le (product (least_between s.arrays source out) * size_of (type_at s.arrays out)) (most_bytes s)) t.region in
    record {
      makes = t.makes;
      takes = t.takes;
      between = λ e. elim (eqb_tells a s.out) [ inl p ↦ let u : not true ≡ true = rw p.0 at t.between in cc | inr p ↦ p.1 e ];
      read = alone.0;
      alone = alone.1;
      elements = leb-true _ (2 ^ 40) fits.0;
      fits = leb-true _ (most_bytes s) fits.1;
      tasks = leb-true _ (regions_of s.arrays maker.op + regions_of s.arrays reader.op) t.tasks;
      allowed = leb-true _ s.allowed t.allowed;
    }

pub joins_met : (s : SettingView) (maker reader : Planned) (behind : List Planned) (a : ℕ) → MayJoin s maker reader behind a → may_join s maker reader behind a ≡ true
joins_met s maker reader behind a m =
    let alone = alone_read reader behind a m.read m.alone in
    let other : not (a == s.out) ≡ true = elim (eqb_tells a s.out) [ inl p ↦ absurd (m.between p.1) | inr p ↦ ap not p.0 ] in
    let elements : nat_le (product (at_least_one (grid_at s.arrays (target_of reader.op)).shape)) (2 ^ 40) ≡ true = le_true _ (2 ^ 40) m.elements in
    let fits : nat_le (product (least_between s.arrays (copied_array maker.op) (target_of reader.op)) * size_of (type_at s.arrays (target_of reader.op))) (most_bytes s) ≡ true = le_true _ (most_bytes s) m.fits in
    let tasks : has_few_tasks s maker reader ≡ true = le_true _ (regions_of s.arrays maker.op + regions_of s.arrays reader.op) m.tasks in
    let allowed : nat_le (joint_copy s maker reader).projected s.allowed ≡ true = le_true _ s.allowed m.allowed in
    λ i. (m.makes i && m.takes i) && (other i && (alone i && ((elements i && fits i) && (tasks i && allowed i))))
  where
    le_true : (n m : ℕ) → n ≤ m → nat_le n m ≡ true
    le_true n m h = grind (arith, nat_tests)
