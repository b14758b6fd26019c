-- The words that are left have a stray word exactly where all of them do.
use Rattle.std.proofs.Common.{◌≡◌, map, string_bytes, drop}
use Rattle.cu_words.specs.Line.{has_stray}
use Rattle.cu_words.proofs.line.has_stray.Given as goal

abbrev pub invariant-loop-word : goal.invariant-loop-word
invariant-loop-word l = has_stray (map string_bytes (drop l.word-index l.words)) ≡ has_stray (map string_bytes l.words)
