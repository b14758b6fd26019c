-- The yard of a folder may be shared among threads where its runtime may, and its passes may go to another thread.
use denote.Builtin.{u64}
use denote.RattleType.{RattleType}
use denote.Param.Send.{IsSend, IsSync, sendable, recorded_send, recorded_sync, struct_send, struct_sync}
use denote.Struct.Declared.{shape}
use Rattle.std.proofs.Crossing.{crosses}
use Rattle.cu_dir.proofs.Crossing.{tree_sync, folder_sync, hand_send, known_send}
use Rattle.cu_dir.proofs.keys.Keys.TheSendSync as keys
use Rattle.cu_dir.specs.contracts.folder.Folder as Folder
use Rattle.cu_dir.specs.contracts.folder.FolderHand as FolderHand
use Rattle.cu_dir.specs.contracts.host.HostTree as HostTree
use Rattle.cu_dir.specs.contracts.yard.TreePass as TreePass
use Rattle.cu_dir.specs.contracts.yard.TreeYard as TreeYard

-- a folder of a tree, in common
abbrev pub common : RattleType → RattleType
common T = Folder.the_row T

-- what a worker has of it
abbrev pub hand : RattleType → RattleType
hand T = FolderHand.the_row T

tree_yard_sync : (C : RattleType) → IsSync C → IsSync (TreeYard.the_row C)
tree_yard_sync C common = recorded_sync (TreeYard.the_field C).row _ _ (TreeYard.the_type C).to_one
    (struct_sync (shape (TreeYard.the_type C)) (common, (keys.the_sync, (search (crosses, sendable) depth 20, tt))))

pub yard_sync : (H File Dir : RattleType) → IsSync H → IsSync (TreeYard.the_row (common (HostTree.the_row H File Dir)))
yard_sync H File Dir host = tree_yard_sync (common (HostTree.the_row H File Dir)) (folder_sync (HostTree.the_row H File Dir) (tree_sync H File Dir host))

count_send : IsSend u64
count_send = search sendable depth 20

tree_pass_send : (C H : RattleType) → IsSend H → IsSend (TreePass.the_row C H)
tree_pass_send C H hand = recorded_send (TreePass.the_field C H).row _ _ (TreePass.the_type C H).to_one
    (struct_send (shape (TreePass.the_type C H)) (hand, (count_send, (count_send, (count_send, (known_send C, tt))))))

pub pass_send : (T : RattleType) → IsSend (TreePass.the_row (common T) (hand T))
pass_send T = tree_pass_send (common T) (hand T) (hand_send T)
