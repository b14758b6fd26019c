-- Typing sees to it that partial results, operands and copies keep the limits.
use Rattle.std.proofs.Common.{ℕ, ◌==◌, List}
use Rattle.std.specs.Prelude.{filter}
use Rattle.std.proofs.lemmas.List.Elements.{All-filter}
use Rattle.cu_form.specs.declared.form.Form.{Form}
use Rattle.cu_node.specs.Info.{IsInfo, info_at}
use Rattle.cu_node.specs.declared.info.NodeInfo.{NodeInfo}
use Rattle.cu_copy.specs.Copies.{IsRechunk, is_misaligned}
use Rattle.cu_need.specs.Cost.{cost_of}
use Rattle.cu_need.specs.Need.{IsTyped, IsNodeWithin}
use Rattle.cu_need.specs.Operands.{operands_of}
use Rattle.cu_need.proofs.CostLaws.{laws_of, IsTypedNode}

pub typed_within : (infos : List NodeInfo) → ((k : ℕ) → IsInfo (info_at infos k)) → (out k : ℕ) (form : Form) → IsTyped infos k form → IsNodeWithin infos out k form
typed_within infos kept out k form typed =
    let made = info_at infos k in
    let node : IsTypedNode (cost_of form) infos (info_at infos k) = record { arrays = kept; own = kept k; typed = typed } in
    let operands = (laws_of form).operands infos made node in
    record {
      partials = (laws_of form).partials infos made node;
      operands = operands;
      copies = (laws_of form).copies infos made (k == out) (filter is_misaligned (operands_of infos k form)) node
          (All-filter is_misaligned IsRechunk (operands_of infos k form) operands);
    }
