use Rattle.cu_dir.specs.Folder.{common_lent, entries_by, known_by}
use Rattle.cu_dir.proofs.FolderLemmas.{knows_on}
use Rattle.cu_dir.proofs.folder.FolderCommon.read.Goals as goal

pub returns-clause-own : goal.returns-clause-own
returns-clause-own g c =
    let own = c.requires.own in
    record {
      folder = own.folder;
      knows = knows_on (common_lent c.args.self.now) c.args.key.now (entries_by g.T.Tree.files c.args.self.now) (known_by g.T.Tree.files c.args.hand.now) _ own.knows
          (rw (own.folder, c.of.ensures, c.get_value-answer.ensures.kept) c.in_ok-tree.ensures.found);
    }
