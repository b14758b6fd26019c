-- Where a node needs at most what is allowed, so does each of its copies.
use Rattle.std.proofs.Common.{◌≤◌, ℕ, List, [], ◌∷◌, map, All, arith}
use Rattle.std.proofs.lemmas.List.Elements.{All-nil, All-cons}
use Rattle.cu_form.specs.declared.form.Form.{Form}
use Rattle.cu_node.specs.declared.info.NodeInfo.{NodeInfo}
use Rattle.cu_copy.specs.Copies.{rechunk_need}
use Rattle.cu_copy.specs.declared.copies.Rechunk.{Rechunk}
use Rattle.cu_need.specs.Need.{need_of}
use Rattle.cu_need.specs.Operands.{copies_of}
use Rattle.cu_shape.specs.Counts.{largest}

each_within : (f : Rechunk → ℕ) (rs : List Rechunk) (allowed : ℕ) → largest (map f rs) ≤ allowed → All (λ r. f r ≤ allowed) rs
each_within f [] allowed h = All-nil (λ r. f r ≤ allowed)
each_within f (r ∷ rs) allowed h = All-cons (λ r. f r ≤ allowed) r rs (omega (arith, h)) (each_within f rs allowed (omega (arith, h)))

pub all_staged : (allowed reserved split_every out k : ℕ) (infos : List NodeInfo) (form : Form) → need_of reserved split_every infos out k form ≤ allowed
    → All (λ r. rechunk_need reserved r ≤ allowed) (copies_of infos out k form)
all_staged allowed reserved split_every out k infos form h =
    let copies : largest (map (rechunk_need reserved) (copies_of infos out k form)) ≤ allowed = omega (arith, h) in
    each_within (rechunk_need reserved) (copies_of infos out k form) allowed copies
