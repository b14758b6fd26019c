use Rattle.std.proofs.Common.{◌≡◌, ◌≤◌, ◌+◌, ◌*◌, suc, ℤ, ap, ◌∙◌, subst, arith, length, drop, get_or}
use Rattle.std.proofs.Math.Nat.{mul-le-mul_right}
use Rattle.cu_num.specs.Dtype.{size_of}
use Rattle.cu_num.specs.Word.{word_of, IsWord}
use Rattle.cu_num.specs.declared.layout.Endian.TheVariants.{Little}
use Rattle.cu_num.proofs.ElementBytes.{InRange-element_at}
use Rattle.cu_lane.proofs.Words.{is_word, kept}
use Rattle.cu_kern.proofs.LaneWords.{word_filled}
use Rattle.cu_kern.proofs.Parts.{element_moved}
use Rattle.cu_kern.proofs.lays.load_piece.Goals as goal

pub returns-then-step-eq1 : goal.returns-then-step-eq1
returns-then-step-eq1 c k h =
    let t = c.args.lay.now.dtype in
    let size = c.size-size.ensures in
    let count = c.lane_load.auto.out in
    let one : c.args.step ≡ 1 = c.if-step-eq1.true in
    let same : c.args.first + c.args.step * k ≡ c.args.first + k = ap (λ s. c.args.first + s * k) one ∙ omega arith in
    let far : suc k * size_of t ≤ length c.args.out.now * size_of t = mul-le-mul_right (size_of t) (let b : suc k ≤ length c.args.out.now = omega arith in b) in
    let whole = ap (λ s. length c.args.out.now * s) size in
    let P : ℤ → Type 0 = IsWord t (get_or c.lane_load.new.out k 0) in
    subst P (element_moved t c.args.ins.now c.args.lay.now.at c.args.first _ _ k (c.args.first + c.args.step * k) (ap (λ s. c.args.lay.now.at + c.args.first * s) size) (omega arith) same) (c.lane_load.ensures k h)

pub returns-else-step-eq1 : goal.returns-else-step-eq1
returns-else-step-eq1 c k h =
    let t = c.args.lay.now.dtype in
    let size = c.size-size.ensures in
    let none : c.args.step ≡ 0 = omega arith in
    let same : c.args.first + c.args.step * k ≡ c.args.first + 0 = ap (λ s. c.args.first + s * k) none ∙ omega arith in
    let is = c.word.ensures ∙ ap word_of (kept c.load.result (record { sfits = c.load.type_inv }) ∙ c.load.ensures.value
    ∙ element_moved t c.args.ins.now c.args.lay.now.at c.args.first _ _ 0 (c.args.first + c.args.step * k) (ap (λ s. c.args.lay.now.at + c.args.first * s) size) (omega arith) same) in
    is_word t _ _ (word_filled c.fill.new.self (length c.args.out.now) c.word.result k (c.fill.ensures.after (λ y e. e)) (omega (arith, c.fill.ensures.len)) ∙ is) (InRange-element_at Little t (drop c.args.lay.now.at c.args.ins.now) (c.args.first + c.args.step * k))
