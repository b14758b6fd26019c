use Rattle.std.proofs.Common.{◌≡◌, refl, if◌then◌else◌, sym, ◌∙◌, arith}
use Rattle.cu_num.specs.Dtype.{InRange}
use Rattle.cu_num.specs.Element.{element_at}
use Rattle.cu_num.specs.declared.layout.Endian.TheVariants.{Little}
use Rattle.cu_num.proofs.ElementBytes.{InRange-element_at}
use Rattle.cu_reduce.specs.Places.{is_beyond}
use Rattle.cu_pairs.specs.Runs.{elements}
use Rattle.cu_pairs.proofs.Parts.{kept, size_most, element_written}
use Rattle.cu_pairs.proofs.Leading.{first_value, value_more, one_of}
use Rattle.cu_pairs.proofs.runs.best_value.Goals as goal

pub loop-at-init : goal.loop-at-init
loop-at-init c =
    let t = c.args.t in
    let read = kept c.load.result (record { sfits = c.load.type_inv }) in
    let most = size_most t in
    let is = element_written t _ _ _ c.load.result (omega arith) c.save.ensures read c.load.ensures.range in
    first_value c.args.least (elements t c.args.bytes.now) _ (sym (is ∙ c.load.ensures.value))

pub loop-at-preserved : goal.loop-at-preserved
loop-at-preserved c =
    let t = c.args.t in
    let b = element_at Little t c.loop-at.best 0 in
    let x = elements t c.args.bytes.now c.loop-at.at in
    let most = size_most t in
    let long = c.chosen.array_long in
    let read_x = kept c.load-x.result (record { sfits = c.load-x.type_inv }) ∙ c.load-x.ensures.value in
    let read_b = kept c.load-value.result (record { sfits = c.load-value.type_inv }) ∙ c.load-value.ensures.value in
    let choice : c.is_beyond-choice.result ≡ is_beyond c.args.least x b = c.is_beyond-choice.ensures ∙ (λ i. is_beyond c.args.least (read_x i) (read_b i)) in
    let new : c.chosen.result ≡ (if c.is_beyond-choice.result then x else b) = c.chosen.ensures ∙ (λ i. if c.is_beyond-choice.result then read_x i else read_b i) in
    let range = one_of (InRange t) c.is_beyond-choice.result x b (InRange-element_at Little t c.args.bytes.now c.loop-at.at) (InRange-element_at Little t c.loop-at.best 0) in
    let is = element_written t c.loop-at.best c.save-in-loop-at.new.bytes _ (if c.is_beyond-choice.result then x else b) (omega arith) c.save-in-loop-at.ensures
    (kept c.chosen.result (record { sfits = c.chosen.type_inv }) ∙ new) range in
    value_more c.args.least (elements t c.args.bytes.now) c.loop-at.at b x (element_at Little t c.save-in-loop-at.new.bytes 0) c.is_beyond-choice.result
    c.loop-at.invariant refl choice is
