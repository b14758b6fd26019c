-- So far `clap` was told of the first options.
use Rattle.std.proofs.Common.{◌≡◌}
use Rattle.clap.specs.Words.{app_of}
use Rattle.cu_words.specs.Reader.{told_options}
use Rattle.cu_words.proofs.Tellings.{names_of_first}
use Rattle.cu_words.proofs.line.told_command.Given as goal

abbrev pub invariant-loop-option : goal.invariant-loop-option
invariant-loop-option l = app_of l.told ≡ told_options (names_of_first l.option-index l.options)
