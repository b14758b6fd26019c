-- The yard of a watched depot in memory may be shared among threads, and its passes may go to another.
use Rattle.std.proofs.Common.{rules, ap, sym, ◌∙◌, map, string_bytes}
use denote.Exit.{no}
use denote.Param.Send.{arg_send, param_send}
use Rattle.test_depots.proofs.WatchedCrossing.{watched_cells_sync, watched_pass_send}
use Rattle.test_cases.proofs.Calm.{goes_nowhere}
use Rattle.test_cases.specs.Late.{is_going_on}
use Rattle.test_cases.proofs.case.Case.run.Goals as goal

pub answer-requires-send-D-Yard-Pass : goal.answer-requires-send-D-Yard-Pass
answer-requires-send-D-Yard-Pass g c κs within = param_send _ _ (arg_send _ no _ watched_pass_send)

pub answer-requires-sync-D-Yard : goal.answer-requires-sync-D-Yard
answer-requires-sync-D-Yard g c κs within = record { shared = watched_cells_sync.shared }

pub answer-requires-after_bounds : goal.answer-requires-after_bounds
answer-requires-after_bounds g c κs within = (
  search rules,
  goes_nowhere (map string_bytes c.args.self.now.words.items) (ap (λ ws. is_going_on (map string_bytes ws)) (sym c.deref.ensures.value) ∙ sym c.is_going_on.ensures ∙ c.if-is_going_on.false),
)
