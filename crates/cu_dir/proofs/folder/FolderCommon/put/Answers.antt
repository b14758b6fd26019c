use Rattle.std.proofs.Common.{string_bytes}
use Rattle.cu_dir.specs.Common.{LearnsAt}
use Rattle.cu_dir.specs.Folder.{common_lent, entries_by, known_by}
use Rattle.cu_dir.specs.Tree.{values_under}
use Rattle.cu_dir.proofs.FolderLemmas.{knows_on, learns_then, put_learns}
use Rattle.cu_dir.proofs.ValuesLemmas.{put_lands}
use Rattle.cu_dir.proofs.folder.FolderCommon.put.Goals as goal

pub returns-clause-learned : goal.returns-clause-learned
returns-clause-learned g c =
    let own = c.requires.own in
    let put = c.put_value-answer.ensures in
    let folder = string_bytes c.args.hand.now.folder.value in
    let found : LearnsAt (common_lent c.args.self.now) c.args.key.now (known_by g.T.Tree.files c.args.hand.now) (values_under folder (g.T.Tree.files c.in_ok-tree.tree)) =
    rw own.folder c.in_ok-tree.ensures.found in
    let lands = put_lands c.as_str.result.now c.args.key.now c.args.bytes.now (g.T.Tree.files c.in_ok-tree.tree) (g.T.Tree.files c.put_value-answer.new.tree) c.put_value-answer.result
    put.inside put.stored put.alone put.kept put.others in
    learns_then (common_lent c.args.self.now) c.args.key.now (known_by g.T.Tree.files c.args.hand.now) (values_under folder (g.T.Tree.files c.in_ok-tree.tree)) _ found
    (put_learns (common_lent c.args.self.now) (entries_by g.T.Tree.files c.args.self.now) (values_under folder (g.T.Tree.files c.in_ok-tree.tree)) _ c.args.key.now c.args.bytes.now
    (knows_on (common_lent c.args.self.now) c.args.key.now (entries_by g.T.Tree.files c.args.self.now) (known_by g.T.Tree.files c.args.hand.now) _ own.knows found)
    c.requires.may.made c.requires.may.promised
    (rw (c.of.ensures, own.folder, ← c.as_str.ensures.value) lands))

pub returns-clause-own : goal.returns-clause-own
returns-clause-own g c =
    let own = c.requires.own in
    record {
      folder = own.folder;
      knows = knows_on (common_lent c.args.self.now) c.args.key.now (entries_by g.T.Tree.files c.args.self.now) (known_by g.T.Tree.files c.args.hand.now) _ own.knows
          (returns-clause-learned g c);
    }
