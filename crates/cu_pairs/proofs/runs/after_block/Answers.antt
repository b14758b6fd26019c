use Rattle.std.proofs.Common.{◌≡◌, ◌+◌, ◌-◌, ◌*◌, ◌≤◌, suc, true, false, length, ap, ◌∙◌, subst, arith}
use Rattle.std.proofs.Math.Nat.{mul-le-mul_right}
use Rattle.cu_num.specs.Dtype.{size_of}
use Rattle.cu_pairs.specs.Runs.{elements, TellsBeyond, IsFirstBest}
use Rattle.cu_pairs.proofs.Parts.{kept}
use Rattle.cu_pairs.proofs.Leading.{told_of_part, first_of_part, told_more, told_kept}
use Rattle.cu_pairs.proofs.runs.after_block.Goals as goal

pub load-requires : goal.load-requires
load-requires c =
    let t = c.args.t in
    let within = c.requires.before.within in
    let room = c.requires.within in
    let far : suc c.args.best * size_of t ≤ (c.args.from + c.args.more) * size_of t = mul-le-mul_right (size_of t) (let l : suc c.args.best ≤ c.args.from + c.args.more = omega arith in l) in
    omega arith

pub returns-then-has_beyond : goal.returns-then-has_beyond
returns-then-has_beyond c =
    let t = c.args.t in
    let least = c.args.least in
    let bytes = c.args.bytes.now in
    let f = elements t bytes in
    let from = c.args.from in
    let more = c.args.more in
    let at = c.args.best in
    let size = c.size-size.result in
    let own : size ≡ size_of t = c.size-size.ensures in
    let h = c.requires.before in
    let n = (from + more) * size - from * size in
    let starts : from * size ≡ from * size_of t = ap (λ s. from * s) own in
    let ends : (from + more) * size ≡ (from + more) * size_of t = ap (λ s. (from + more) * s) own in
    let long : n ≡ more * size_of t = omega arith in
    let room : from * size + n ≤ length bytes = let w = c.requires.within in omega arith in
    let same = kept c.load.result (record { sfits = c.load.type_inv }) ∙ c.load.ensures.value in
    let told : TellsBeyond true least (λ j. f (from + j)) more (f at) = subst (λ x. TellsBeyond true least (λ j. f (from + j)) more x) same
    (told_of_part true least t bytes from more (from * size) n _ starts long room c.if-has_beyond.ensures) in
    let part : IsFirstBest least (λ j. f (from + j)) more c.first_best_of_block.result = first_of_part least t bytes from more (from * size) n c.first_best_of_block.result starts long room c.first_best_of_block.ensures in
    told_more least f from more at c.first_best_of_block.result h told part

pub returns-else-has_beyond : goal.returns-else-has_beyond
returns-else-has_beyond c =
    let t = c.args.t in
    let least = c.args.least in
    let bytes = c.args.bytes.now in
    let f = elements t bytes in
    let from = c.args.from in
    let more = c.args.more in
    let at = c.args.best in
    let size = c.size-size.result in
    let own : size ≡ size_of t = c.size-size.ensures in
    let h = c.requires.before in
    let n = (from + more) * size - from * size in
    let starts : from * size ≡ from * size_of t = ap (λ s. from * s) own in
    let ends : (from + more) * size ≡ (from + more) * size_of t = ap (λ s. (from + more) * s) own in
    let long : n ≡ more * size_of t = omega arith in
    let room : from * size + n ≤ length bytes = let w = c.requires.within in omega arith in
    let same = kept c.load.result (record { sfits = c.load.type_inv }) ∙ c.load.ensures.value in
    let told : TellsBeyond false least (λ j. f (from + j)) more (f at) = subst (λ x. TellsBeyond false least (λ j. f (from + j)) more x) same
    (told_of_part false least t bytes from more (from * size) n _ starts long room c.if-has_beyond.ensures) in
    told_kept least f from more at h told
