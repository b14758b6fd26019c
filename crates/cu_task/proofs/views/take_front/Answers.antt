use Rattle.std.proofs.Common.{arith, ◌∙◌}
use Rattle.std.proofs.lemmas.List.{length-take-le}
use Rattle.std.proofs.lemmas.Result.{err_from_is_err_and}
use Rattle.cu_task.specs.ViewJobs.{view_task_of}
use Rattle.cu_task.proofs.JobViews.{fitting}
use Rattle.cu_task.proofs.Fronts.{in_front}
use Rattle.cu_task.proofs.ViewElements.{takes_chunk}
use Rattle.cu_task.proofs.views.take_front.Goals as goal

pub fetch_front-requires-clause-bytes : goal.fetch_front-requires-clause-bytes
fetch_front-requires-clause-bytes g c =
    let cut = length-take-le c.front_bytes.result c.args.scratch.now (omega arith) in
    cut ∙ c.front_bytes.ensures.bytes

pub returns-clause-takes : goal.returns-clause-takes
returns-clause-takes g c told known =
    takes_chunk (view_task_of c.args.chunk.now.job.now) (fitting c.args.chunk.now.job.now c.requires.chunk.job) c.args.chunk.now.source c.args.chunk.now.coord c.fetch_front.new.bytes c.args.output.now c.move_front.new.output told 1 1
    (g.C.Chunks.shown c.args.access.now) (g.C.Chunks.shown c.fetch_front.new.access) c.requires.chunk.source known c.fetch_front.ensures.step
    c.in_ok-fetch_front.ensures.read
    (λ idx i w o part. in_front c.args.chunk.now c.requires.chunk c.args.front.now c.requires.front c.fetch_front.new.bytes (let cut = length-take-le c.front_bytes.result c.args.scratch.now (omega arith) in omega arith) idx i w o part)
    c.move_front.ensures

pub returns-in_err-fetch_front-clause-takes : goal.returns-in_err-fetch_front-clause-takes
returns-in_err-fetch_front-clause-takes g c told known = let p = err_from_is_err_and c.from_residual.result c.from_residual.ensures.1 in rw p.1 tt

pub returns-in_err-fetch_front-clause-cause : goal.returns-in_err-fetch_front-clause-cause
returns-in_err-fetch_front-clause-cause g c = let p = err_from_is_err_and c.from_residual.result c.from_residual.ensures.1 in rw (p.1, p.2) c.in_err-fetch_front.ensures.cause
