use Rattle.cu_work.proofs.CommandLaws.{commands_kept, commands_all, run_command, part_command, drop_command, piece_listed}
use Rattle.cu_work.proofs.commands.commands_law.Goals as goal

pub returns : goal.returns
returns c = record {
  kept = λ r env l m old new left step. commands_kept r env old left l m new step;
  all = commands_all;
  runs = run_command;
  parts = λ p t q l m old new sound part step. part_command p t q l m old new sound part step;
  drops = λ p t l m old new sound step. drop_command p sound t l m old new step;
  keys = λ p t q sound piece. piece_listed p sound t q piece;
}
