use Rattle.std.proofs.Common.{◌+◌, List, ap, sym, ◌∙◌}
use Rattle.cu_tree.specs.Outlines.{outline_bytes}
use Rattle.cu_tree.specs.declared.outline.Outlined.{Outlined}
use Rattle.cu_need.proofs.Outlined.{table_most}
use Rattle.cu_need.proofs.need.own_need.Goals as goal

pub returns : goal.returns
returns c =
    ap (λ n. c.args.reserved + n) (c.outline_bytes.ensures ∙ ap (λ (os : List Outlined). outline_bytes os) (c.as_slice.ensures.value ∙ c.outline_of-outline.ensures.outline))
    ∙ sym (table_most c.args.reserved c.args.split_every c.args.number c.args.infos.now c.args.form.now)
