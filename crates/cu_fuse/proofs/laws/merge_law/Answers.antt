use Rattle.cu_fuse.proofs.Running.{joint_of, merge_runs, merge_made}
use Rattle.cu_fuse.proofs.laws.merge_law.Goals as goal

pub returns : goal.returns
returns c = record {
  runs = λ arrays reserved front r both array j joins is ran. merge_runs arrays reserved front r.between r.behind r.maker r.reader both array j joins (joint_of arrays reserved r.maker r.reader both j is) ran;
  made = λ arrays reserved front r both array j at joins is ran made. merge_made arrays reserved front r.between r.behind r.maker r.reader both array j joins (joint_of arrays reserved r.maker r.reader both j is) ran at made;
}
