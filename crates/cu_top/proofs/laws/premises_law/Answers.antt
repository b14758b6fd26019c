use Rattle.std.proofs.Common.{◌∷◌, [], codes}
use Rattle.cu_check.specs.Arrays.{IsReadChunk}
use Rattle.cu_print.specs.Print.{IsArrayMetadata, IsChunkAt}
use Rattle.cu_top.specs.Sample.{sample_input, sample_layout}
use Rattle.cu_top.proofs.SampleArrays.{array_calm, demo_at_rest, demo_calm}
use Rattle.cu_top.proofs.SampleFused.{fused_given, fused_inlined, fused_servable}
use Rattle.cu_top.proofs.SamplePart.{part_given, part_ready}
use Rattle.cu_top.proofs.SampleResume.{resumable, resume_given, resumed_whole}
use Rattle.cu_top.proofs.SampleLemmas.{begin_given, beginnable, run_given, plan_given, servable, plannable, steady}
use Rattle.cu_top.proofs.laws.premises_law.Goals as goal

pub returns : goal.returns
returns c = record {
  run_words = run_given;
  run = servable;
  fused_words = fused_given;
  fused = fused_servable;
  fused_inlined = fused_inlined;
  begin_words = begin_given;
  begin = beginnable;
  plan_words = plan_given;
  plan = plannable;
  resume_words = resume_given;
  resume = resumable (λ e infos inputs options is. c.merged_plan_law.ensures.sound e infos inputs options is) (λ e infos inputs options recorded metadata is differ. c.merged_plan_law.ensures.names e infos inputs options recorded metadata is differ) c.left_law.ensures;
  resume_whole = resumed_whole;
  part_words = part_given;
  part_ready = part_ready (λ e infos inputs options is. c.merged_plan_law.ensures.sound e infos inputs options is);
  load = array_calm;
  demo = demo_at_rest;
  demo_quiet = demo_calm;
  print_metadata = steady (IsArrayMetadata (codes "x"));
  print_chunks = λ place. steady (IsChunkAt (codes "x") sample_layout place);
  check = steady (IsReadChunk (sample_input ∷ []));
}
