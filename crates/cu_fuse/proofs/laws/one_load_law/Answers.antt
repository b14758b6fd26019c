use Rattle.std.proofs.Common.{[]}
use Rattle.cu_fuse.proofs.LoadedOnce.{distinct_once, fewer_of, load_once, other_stays, same_reads}
use Rattle.cu_fuse.proofs.Same.{one_load_does}
use Rattle.cu_fuse.proofs.laws.one_load_law.Goals as goal

pub returns : goal.returns
returns c = record {
  value = λ arrays op at array idx fits. (one_load_does arrays op).value fits at array idx;
  fits = λ arrays op fits. (one_load_does arrays op).fits fits;
  writes = λ op. (one_load_does [] op).writes;
  reads = same_reads;
  inputs = distinct_once;
  loads = load_once;
  fewer = fewer_of;
  needs = λ arrays reserved op. (one_load_does arrays op).needs reserved;
  other = other_stays;
}
