use Rattle.std.proofs.Common.{◌≡◌, ◌*◌, ◌^◌, ◌≤◌, arith}
use Rattle.cu_num.specs.Dtype.{size_of}
use Rattle.cu_shape.specs.Index.{product}
use Rattle.cu_rechunk.specs.declared.staging.Staging.{Staging}
use Rattle.cu_copy.specs.Copies.{staging}
use Rattle.cu_copy.specs.declared.copies.Rechunk.{Rechunk}
use Rattle.cu_lower_reduce.specs.Copies.{IsCopySetting, IsStaged}
use Rattle.cu_lower_reduce.specs.declared.copy.CopySetting.{CopySetting}
use Rattle.cu_lower_reduce.proofs.Copying.{tiles}
use Rattle.cu_lower_reduce.proofs.copy.copy_step.Goals as goal

-- what is read, stands between and is written has at most 2^40 bytes
record AreSmall (r : Rechunk) (st : Staging) : Type 0 where
  read : product st.read * size_of r.source.dtype ≤ 2 ^ 40
  middle : product st.middle * size_of r.source.dtype ≤ 2 ^ 40
  write : product st.write * size_of r.source.dtype ≤ 2 ^ 40

small : (s : CopySetting) (r : Rechunk) (st : Staging) → st ≡ staging s.most r → IsCopySetting s → IsStaged s r → AreSmall r st
small s r st e k h =
    let t = tiles s r h in
    let m = k.most in
    let a = t.reads.bytes in
    let b = t.between.bytes in
    let c = t.writes.bytes in
    rw e (record { read = omega (arith, a, m); middle = omega (arith, b, m); write = omega (arith, c, m) })

pub copied-requires-clause-region : goal.copied-requires-clause-region
copied-requires-clause-region c = (small c.args.s.now c.args.rechunk.now c.staging_of-staging.result c.staging_of-staging.ensures c.requires.setting c.requires.rechunk).write

pub copied-requires-then-at-eq0-clause-made : goal.copied-requires-then-at-eq0-clause-made
copied-requires-then-at-eq0-clause-made c =
    rw c.array_between-between.ensures (small c.args.s.now c.args.rechunk.now c.staging_of-staging.result c.staging_of-staging.ensures c.requires.setting c.requires.rechunk).middle

pub copied-requires-then-at-eq0-clause-region : goal.copied-requires-then-at-eq0-clause-region
copied-requires-then-at-eq0-clause-region c = (small c.args.s.now c.args.rechunk.now c.staging_of-staging.result c.staging_of-staging.ensures c.requires.setting c.requires.rechunk).read

pub copied-requires-else-at-eq0-clause-from : goal.copied-requires-else-at-eq0-clause-from
copied-requires-else-at-eq0-clause-from c =
    rw c.array_between-between.ensures (small c.args.s.now c.args.rechunk.now c.staging_of-staging.result c.staging_of-staging.ensures c.requires.setting c.requires.rechunk).middle

pub copied-requires-else-at-eq0-clause-region : goal.copied-requires-else-at-eq0-clause-region
copied-requires-else-at-eq0-clause-region c =
    rw c.array_between-between.ensures (small c.args.s.now c.args.rechunk.now c.staging_of-staging.result c.staging_of-staging.ensures c.requires.setting c.requires.rechunk).write
