use Rattle.std.proofs.Common.{◌+◌}
use Rattle.cu_command.specs.Seen.{seen}
use Rattle.cu_check.proofs.TextEnds.{misfit_ends}
use Rattle.cu_check.proofs.metadata.read_compared.Goals as goal

pub returns-in-Err-check_output-clause-cause : goal.returns-in-Err-check_output-clause-cause
returns-in-Err-check_output-clause-cause g c = λ out next.
    misfit_ends (c.args.retries + 1) c.args.text.now (seen out (g.D.PutStore.shown c.args.depot.now)) (seen next (g.D.PutStore.shown c.read_typed.new.depot)) c.in-Ok.compared.job c.in-Ok.compared.output
    c.in-Err-check_output.status c.in-Ok.ensures.job c.in-Ok.ensures.output c.in-Err-check_output.ensures.refused
