use Rattle.std.proofs.Common.{◌≡◌, ◌<◌, ◌-◌, ◌/◌, length, ap, sym, ◌∙◌, arith}
use Rattle.std.proofs.lemmas.List.{get_or_default}
use Rattle.cu_num.specs.Dtype.{size_of}
use Rattle.cu_rechunk.specs.Stages.{consolidated, write_sizes}
use Rattle.cu_grid.specs.Grid.{RegularGrid}
use Rattle.cu_op.specs.Arrays.{array_at, grid_at, no_array}
use Rattle.cu_op.specs.declared.layout.ArrayInfo.{ArrayInfo}
use Rattle.cu_fuse.specs.Copies.{joint_region}
use Rattle.cu_fuse.specs.Fused.{SettingView}
use Rattle.cu_fuse.specs.Least.{least_region}
use Rattle.cu_fuse.proofs.JointCopy.{region_is}
use Rattle.cu_fuse.proofs.copies.joint_region.Goals as goal

pub returns-in-Ok-clause-region : goal.returns-in-Ok-clause-region
returns-in-Ok-clause-region c =
    let v : SettingView = record {
      arrays = c.setting.inside.arrays.items;
      out = c.setting.inside.out;
      allowed = c.setting.inside.allowed;
      reserved = c.setting.inside.reserved;
      once = c.setting.inside.once;
    } in
    let source = c.args.source in
    let out = c.args.out in
    let is : v ≡ c.args.setting.now = c.setting.view_is in
    let count = ap (λ (s : SettingView). length s.arrays) is in
    let one = c.requires.source in
    let two = c.requires.out in
    let within_source : source < length v.arrays = omega (arith, count, one) in
    let within_out : out < length v.arrays = omega (arith, count, two) in
    let from : c.index.result.now ≡ array_at v.arrays source = c.index.ensures ∙ sym (get_or_default v.arrays source no_array c.index.result.now within_source) in
    let to : c.index-2.result.now ≡ array_at v.arrays out = c.index-2.ensures ∙ sym (get_or_default v.arrays out no_array c.index-2.result.now within_out) in
    let g : RegularGrid = c.index.result.now.layout.grid in
    let h : RegularGrid = c.index-2.result.now.layout.grid in
    let shapes : g.shape ≡ h.shape =
    ap (λ (a : ArrayInfo). a.layout.grid.shape) from ∙ ap (λ (s : SettingView). (grid_at s.arrays source).shape) is ∙ c.requires.shape
    ∙ sym (ap (λ (s : SettingView). (grid_at s.arrays out).shape) is) ∙ sym (ap (λ (a : ArrayInfo). a.layout.grid.shape) to) in
    let sizes : c.least_region-least.result ≡ least_region h.shape g.chunk h.chunk =
    c.least_region-least.ensures.sizes ∙ (λ i. least_region (c.shape-shape.ensures.value i) (c.chunk.ensures.value i) (c.chunk-2.ensures.value i)) in
    c.in-Ok.ensures.write
    ∙ (λ i. write_sizes (c.shape-shape.ensures.value i) c.least_region-least.result (c.saturating_sub-most.ensures i / 2 / c.size.ensures i))
    ∙ region_is g h c.chunk.ensures.kept c.shape-shape.ensures.kept shapes c.least_region-least.result ((v.allowed - v.reserved) / 2 / size_of c.index-2.result.now.layout.dtype) sizes
    ∙ (λ i. consolidated ((v.allowed - v.reserved) / 2 / size_of (to i).layout.dtype) 1 (to i).layout.grid.shape
    (least_region (to i).layout.grid.shape (from i).layout.grid.chunk (to i).layout.grid.chunk) (to i).layout.grid.shape)
    ∙ ap (λ (s : SettingView). joint_region s source out) is
