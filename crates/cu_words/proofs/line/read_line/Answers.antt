use Rattle.std.proofs.Common.{◌∙◌, ap, sym, subst, None, Err}
use Rattle.cu_words.specs.Line.{line_parts}
use Rattle.cu_words.specs.Options.{command_named, option_names}
use Rattle.cu_words.specs.Words.{IsLineRead}
use Rattle.cu_words.proofs.Lines.{named, unnamed, never_one, no_words, read_fault, read_found, words_behind}
use Rattle.cu_words.proofs.line.read_line.Goals as goal

pub returns-in_default-clause-answer : goal.returns-in_default-clause-answer
returns-in_default-clause-answer c = no_words c.args.words.now c.in_default.len_below

pub returns-in_default-of-clause-answer : goal.returns-in_default-of-clause-answer
returns-in_default-of-clause-answer c = unnamed c.args.words.now c.word-item.result c.in-len1-up.len_at_least c.word-item.is (ap command_named (sym c.as_str.ensures.value) ∙ sym c.of.ensures ∙ c.in_default-of.is)

pub returns-in-Err-clause-answer : goal.returns-in-Err-clause-answer
returns-in-Err-clause-answer c =
    let line = named c.args.words.now c.word-item.result c.in-Some.command c.in-len1-up.len_at_least c.word-item.is (ap command_named (sym c.as_str.ensures.value) ∙ sym c.of.ensures ∙ c.in-Some.is) in
    subst (λ l. IsLineRead l (Err c.in-Err.fault)) (sym line) (read_fault c.in-Some.command (line_parts (option_names c.in-Some.command) None (words_behind c.args.words.now)) c.in-Err.fault c.in-Err.ensures)

pub returns-in-Err-clause-unknown : goal.returns-in-Err-clause-unknown
returns-in-Err-clause-unknown c =
    let line = named c.args.words.now c.word-item.result c.in-Some.command c.in-len1-up.len_at_least c.word-item.is (ap command_named (sym c.as_str.ensures.value) ∙ sym c.of.ensures ∙ c.in-Some.is) in
    λ one. absurd (never_one c.in-Some.command (line_parts (option_names c.in-Some.command) None (words_behind c.args.words.now)) (sym line ∙ one))

pub returns-in-Ok-clause-answer : goal.returns-in-Ok-clause-answer
returns-in-Ok-clause-answer c =
    let line = named c.args.words.now c.word-item.result c.in-Some.command c.in-len1-up.len_at_least c.word-item.is (ap command_named (sym c.as_str.ensures.value) ∙ sym c.of.ensures ∙ c.in-Some.is) in
    subst (λ l. IsLineRead l c.line_found.result) (sym line) (read_found c.in-Some.command (line_parts (option_names c.in-Some.command) None (words_behind c.args.words.now)) c.in-Ok.matches c.line_found.result c.in-Ok.ensures c.line_found.ensures.line)

pub returns-in-Ok-clause-unknown : goal.returns-in-Ok-clause-unknown
returns-in-Ok-clause-unknown c =
    let line = named c.args.words.now c.word-item.result c.in-Some.command c.in-len1-up.len_at_least c.word-item.is (ap command_named (sym c.as_str.ensures.value) ∙ sym c.of.ensures ∙ c.in-Some.is) in
    λ one. absurd (never_one c.in-Some.command (line_parts (option_names c.in-Some.command) None (words_behind c.args.words.now)) (sym line ∙ one))
