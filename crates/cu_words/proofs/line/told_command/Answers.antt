use Rattle.std.proofs.Common.{◌≡◌, ◌∙◌, ap, get_or, rules}
use Rattle.std.proofs.lemmas.Result.{IfOk-weaker}
use Rattle.clap.specs.Words.{rule_of}
use Rattle.cu_words.specs.Options.{OptionRow, option_row}
use Rattle.cu_words.specs.Reader.{told_positional, told_rule}
use Rattle.cu_words.specs.declared.options.OptionName.TheVariants.{AllowedMem}
use Rattle.cu_words.proofs.Tellings.{all_told, option_told, settings_told}
use Rattle.cu_words.proofs.line.told_command.Goals as goal

pub loop-option-init : goal.loop-option-init
loop-option-init c = settings_told _ _ _ _ c.new.ensures.app c.no_binary_name.ensures c.disable_help_flag.ensures c.disable_version_flag-told.ensures

pub loop-option-preserved : goal.loop-option-preserved
loop-option-preserved c =
    let options = c.options-options.result.now in
    let i = c.loop-option.option-index in
    let as_named : rule_of c.action.result ≡ told_rule c.row-row.result.name.now = search rules in
    let rule : rule_of c.action.result ≡ told_rule (option_row (get_or options i AllowedMem)).name = as_named ∙ ap (λ (r : OptionRow). told_rule r.name) c.row-row.ensures.row in
    option_told c.loop-option.told c.in_ok-told.told (rule_of c.action.result) options i AllowedMem c.loop-option-test.true c.loop-option.invariant (c.in_ok-told.ensures.shape (search rules)) rule

pub returns : goal.returns
returns c =
    let rule : rule_of c.action-2.result ≡ told_positional = search rules in
    IfOk-weaker c.arg-2.result _ _ (λ m h. all_told c.loop-option.told m (rule_of c.action-2.result) c.options-options.result.now c.loop-option.option-index c.args.command
    c.loop-option-test.false c.options-options.ensures c.loop-option.invariant (h.shape (search rules)) rule) c.arg-2.ensures
