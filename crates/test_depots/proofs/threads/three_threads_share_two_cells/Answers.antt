use denote.Exit.{no}
use denote.Param.Send.{arg_send, param_send}
use Rattle.test_depots.proofs.WatchedCrossing.{watched_cells_sync, watched_pass_send}
use Rattle.test_depots.proofs.threads.three_threads_share_two_cells.Goals as goal

pub exchange-requires-send-D-Yard-Pass : goal.exchange-requires-send-D-Yard-Pass
exchange-requires-send-D-Yard-Pass c κs κs' = param_send _ _ (arg_send _ no _ watched_pass_send)

pub exchange-requires-sync-D-Yard : goal.exchange-requires-sync-D-Yard
exchange-requires-sync-D-Yard c κs κs' = record { shared = watched_cells_sync.shared }
