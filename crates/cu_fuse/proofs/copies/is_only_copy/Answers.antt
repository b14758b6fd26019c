use Rattle.std.proofs.Common.{sym, ◌∙◌}
use Rattle.cu_fuse.proofs.CopyLists.{one_copy}
use Rattle.cu_fuse.proofs.Scanning.{all_pass}
use Rattle.cu_fuse.proofs.copies.is_only_copy.Goals as goal

pub returns-then-source-a : goal.returns-then-source-a
returns-then-source-a c =
    let behind = c.args.behind.now in
    let a = c.args.a in
    all_pass behind a c.reader_of.result c.reader_of.ensures.number c.reader_of.ensures.within
    ∙ sym (one_copy c.args.reader.now behind a c.in-Copy.region c.in-Copy.source c.in-Copy.out c.in-Copy.is c.if-source-a.true)
