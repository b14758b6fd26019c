use Rattle.std.proofs.Common.{◌∙◌, refl, sym, subst, map, string_bytes}
use Rattle.clap.specs.Words.{app_of}
use Rattle.cu_words.specs.Options.{option_names}
use Rattle.cu_words.specs.Reader.{IsFaultOf}
use Rattle.cu_words.proofs.Findings.{err_parts, ok_parts}
use Rattle.cu_words.proofs.Walks.{stray_none}
use Rattle.cu_words.proofs.line.matches_of.Goals as goal

pub returns-then-has_stray : goal.returns-then-has_stray
returns-then-has_stray c = ((stray_none (option_names c.args.command) (map string_bytes c.args.words.now) (sym c.has_stray.ensures ∙ c.if-has_stray.true)).0, refl)

pub returns-in-Ok-try_get_matches_from : goal.returns-in-Ok-try_get_matches_from
returns-in-Ok-try_get_matches_from c =
    ok_parts c.args.command (map string_bytes c.args.words.now) (app_of c.in-Ok.told) c.in-Ok-try_get_matches_from.matches c.in-Ok.ensures (sym c.has_stray.ensures ∙ c.if-has_stray.false)
    c.in-Ok-try_get_matches_from.ensures.matches c.in-Ok-try_get_matches_from.ensures.kinds

pub returns-in-Err : goal.returns-in-Err
returns-in-Err c =
    err_parts c.args.command (map string_bytes c.args.words.now) (app_of c.in-Ok.told) c.in-Err.error c.fault_of.result c.in-Ok.ensures (sym c.has_stray.ensures ∙ c.if-has_stray.false)
    c.in-Err.ensures.kinds (subst (λ k. IsFaultOf k c.fault_of.result) c.kind.ensures c.fault_of.ensures)
