use Rattle.cu_run_law.proofs.PlanNames.{keys_apart, inputs_apart, metadata_of_inputs, other_names}
use Rattle.cu_run_law.proofs.laws.names_law.Goals as goal

pub returns : goal.returns
returns c = record {
  apart = λ r name recorded metadata sound names. keys_apart r name recorded metadata sound names;
  inputs = λ r name recorded metadata sound names. inputs_apart r name recorded metadata sound names;
  metadata = λ r name recorded metadata q a sound names. metadata_of_inputs r name recorded metadata sound names q a;
  others = λ r name recorded metadata q other rest sound names. other_names r name recorded metadata sound names q other rest;
}
