-- A folder in common may be shared among threads where its tree may, and its hands may go to another thread.
use denote.Builtin.{bool}
use denote.RattleType.{RattleType}
use denote.Param.Send.{IsSend, IsSync, sendable, recorded_send, recorded_sync, struct_send, struct_sync}
use denote.Struct.Declared.{shape}
use Rattle.std.proofs.Crossing.{crosses}
use Rattle.std.proofs.alloc.Global.TheSendSync as heap
use Rattle.std.specs.contracts.alloc.Global as Heap
use Rattle.std.specs.contracts.impls.GlobalAllocator.TheImpl.{ghosts}
use Rattle.std.specs.contracts.snapshot.Snapshot as Snapshot
use Rattle.std.specs.contracts.string.String as String
use Rattle.cu_store.specs.contracts.promise.Promise as Promise
use Rattle.cu_dir.specs.contracts.keys.Keys as Keys
use Rattle.cu_dir.specs.contracts.folder.Folder as Folder
use Rattle.cu_dir.specs.contracts.folder.FolderHand as FolderHand
use Rattle.cu_dir.specs.contracts.folder.Loan as Loan
use Rattle.cu_dir.specs.contracts.host.HostTree as HostTree

text_sync : IsSync (String.the_field Heap.the_row ghosts).row
text_sync = search (sendable, crosses) depth 20

keys_sync : IsSync (Snapshot.the_row Keys.the_row)
keys_sync = search crosses

promise_sync : IsSync (Snapshot.the_row Promise.the_row)
promise_sync = search crosses

flag_sync : IsSync bool
flag_sync = search sendable depth 20

loan_sync : IsSync Loan.the_field.row
loan_sync = struct_sync (shape Loan.the_type) (heap.the_field_sync, (text_sync, (keys_sync, (promise_sync, tt))))

pub tree_sync : (H File Dir : RattleType) → IsSync H → IsSync (HostTree.the_row H File Dir)
tree_sync H File Dir host = recorded_sync (HostTree.the_field H File Dir).row _ _ (HostTree.the_type H File Dir).to_one
    (struct_sync (shape (HostTree.the_type H File Dir)) (host, (flag_sync, tt)))

pub folder_sync : (T : RattleType) → IsSync T → IsSync (Folder.the_row T)
folder_sync T tree = recorded_sync (Folder.the_field T).row _ _ (Folder.the_type T).to_one
    (struct_sync (shape (Folder.the_type T)) (tree, (loan_sync, tt)))

pub known_send : (T : RattleType) → IsSend (Snapshot.the_row T)
known_send T = search crosses

pub hand_send : (T : RattleType) → IsSend (FolderHand.the_row T)
hand_send T = recorded_send (FolderHand.the_field T).row _ _ (FolderHand.the_type T).to_one
    (struct_send (shape (FolderHand.the_type T)) (known_send T, (known_send (String.the_row Heap.the_row ghosts), tt)))
