-- The options that are left are all given exactly where all of them are.
use Rattle.std.proofs.Common.{◌≡◌, drop}
use Rattle.std.specs.List.{list_all}
use Rattle.cu_words.specs.Reader.{options_found}
use Rattle.cu_words.specs.Words.{has_required, has_setting}
use Rattle.cu_words.proofs.line.has_required.Given as goal

abbrev pub invariant-loop-option : goal.invariant-loop-option
invariant-loop-option l = list_all (λ o. has_setting (options_found l.matches o)) (drop l.option-index l.required) ≡ has_required l.fn.command (options_found l.matches)
