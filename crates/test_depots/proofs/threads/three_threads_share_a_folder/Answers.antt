use denote.Exit.{no}
use denote.Param.Send.{arg_send, param_send}
use Rattle.std.proofs.rt.LibcRuntime.TheSendSync as host
use Rattle.std.specs.contracts.fs.File as File
use Rattle.std.specs.contracts.fs.dir.Names as Names
use Rattle.std.specs.contracts.rt.LibcRuntime as Host
use Rattle.cu_dir.specs.contracts.host.HostTree as HostTree
use Rattle.test_depots.proofs.FolderCrossing.{pass_send, yard_sync}
use Rattle.test_depots.proofs.threads.three_threads_share_a_folder.Goals as goal

pub exchange-requires-send-D-Yard-Pass : goal.exchange-requires-send-D-Yard-Pass
exchange-requires-send-D-Yard-Pass c κs κs' = param_send _ _ (arg_send _ no _ (pass_send (HostTree.the_row Host.the_row File.the_row Names.the_row)))

pub exchange-requires-sync-D-Yard : goal.exchange-requires-sync-D-Yard
exchange-requires-sync-D-Yard c κs κs' =
    record { shared = (yard_sync Host.the_row File.the_row Names.the_row host.the_sync).shared }
