use Rattle.std.proofs.Common.{◌≡◌, ◌+◌, ◌-◌, ◌*◌, ◌/◌, ◌%◌, [], ◌∷◌, drop, rules, ◌∙◌, subst, arith}
use Rattle.std.proofs.lemmas.Nat.{div-add-mod'}
use Rattle.cu_num.specs.Dtype.{size_of}
use Rattle.cu_fold.specs.Taken.{TakesPart}
use Rattle.cu_fold.proofs.Cut.{IsCut, head, head_fits, first_fits, rest_is, cut_taken}
use Rattle.cu_fold.proofs.walks.take_pair.Goals as goal

pub overflow_mul-whole : goal.overflow_mul-whole
overflow_mul-whole c =
    let whole = c.whole_indices-whole.result in
    let known = c.whole_indices-whole.ensures in
    let is : IsCut c.args.places.start c.args.places.count c.args.inner.size whole.first whole.count = record { begun = known.begun; next = known.next; reached = known.reached; all = known.all } in
    let far = first_fits c.args.places.start c.args.places.count c.args.inner.size whole.first whole.count c.args.level.size c.requires.inner c.requires.places is in
    let small = c.requires.size in
    omega (arith, far, small)

pub take_index-requires-clause-places : goal.take_index-requires-clause-places
take_index-requires-clause-places c =
    let whole = c.whole_indices-whole.result in
    let known = c.whole_indices-whole.ensures in
    let is : IsCut c.args.places.start c.args.places.count c.args.inner.size whole.first whole.count = record { begun = known.begun; next = known.next; reached = known.reached; all = known.all } in
    let own = head_fits c.args.places.start c.args.places.count c.args.inner.size whole.first whole.count c.requires.inner is in
    let same : c.min.result ≡ head c.args.places.start c.args.places.count c.args.inner.size whole.first = omega arith in
    omega (arith, own, same)

pub take_whole-requires-clause-indices : goal.take_whole-requires-clause-indices
take_whole-requires-clause-indices c =
    let whole = c.whole_indices-whole.result in
    let known = c.whole_indices-whole.ensures in
    let is : IsCut c.args.places.start c.args.places.count c.args.inner.size whole.first whole.count = record { begun = known.begun; next = known.next; reached = known.reached; all = known.all } in
    let same : c.min.result ≡ head c.args.places.start c.args.places.count c.args.inner.size whole.first = omega arith in
    let more = c.if-head-places.false in
    let rest = rest_is c.args.places.start c.args.places.count c.args.inner.size whole.first whole.count c.args.level.size c.requires.inner c.requires.places is (λ e. more (same ∙ e)) in
    rest.end

pub overflow_add-end : goal.overflow_add-end
overflow_add-end c =
    let whole = c.whole_indices-whole.result in
    let known = c.whole_indices-whole.ensures in
    let is : IsCut c.args.places.start c.args.places.count c.args.inner.size whole.first whole.count = record { begun = known.begun; next = known.next; reached = known.reached; all = known.all } in
    let same : c.min.result ≡ head c.args.places.start c.args.places.count c.args.inner.size whole.first = omega arith in
    let more = c.if-head-places.false in
    let rest = rest_is c.args.places.start c.args.places.count c.args.inner.size whole.first whole.count c.args.level.size c.requires.inner c.requires.places is (λ e. more (same ∙ e)) in
    let end = rest.end in
    search (rules, end)

pub returns : goal.returns
returns c =
    let fold = c.args.fold in
    let levels = c.args.level ∷ c.args.inner ∷ [] in
    let places = c.args.places in
    let n = c.args.inner.size in
    let whole = c.whole_indices-whole.result in
    let known = c.whole_indices-whole.ensures in
    let s = size_of fold.from in
    let is : IsCut places.start places.count n whole.first whole.count = record { begun = known.begun; next = known.next; reached = known.reached; all = known.all } in
    let same : c.min.result ≡ head places.start places.count n whole.first = omega arith in
    let more = c.if-head-places.false in
    let rest = rest_is places.start places.count n whole.first whole.count c.args.level.size c.requires.inner c.requires.places is (λ e. more (same ∙ e)) in
    let split : places.start / n * n + places.start % n ≡ places.start = div-add-mod' places.start n in
    let past = rest.past in
    let skipped : (whole.first + whole.count) * n - places.start ≡ head places.start places.count n whole.first + whole.count * n = omega (arith, past) in
    let tail : (whole.first + whole.count) * n + 0 ≡ (whole.first + whole.count) * n = omega arith in
    let after : c.later.result.now ≡ drop (head places.start places.count n whole.first * s) c.args.input.now = c.later.ensures ∙ (λ i. drop (same i * c.size-size.ensures i) c.args.input.now) in
    let late : c.later-2.result.now ≡ drop ((head places.start places.count n whole.first + whole.count * n) * s) c.args.input.now = c.later-2.ensures ∙ (λ i. drop (skipped i * c.size-size.ensures i) c.args.input.now) in
    cut_taken fold levels places n whole.first whole.count c.args.level.size c.args.input.now c.later.result.now c.later-2.result.now c.args.out.now c.take_index.new.out c.take_whole.new.out c.take_index-2.new.out rest after late
    (subst (λ p. TakesPart fold levels p c.args.input.now c.args.out.now c.take_index.new.out) (λ i. record { start = split i; count = same i }) c.take_index.ensures)
    c.take_whole.ensures
    (subst (λ p. TakesPart fold levels p c.later-2.result.now c.take_whole.new.out c.take_index-2.new.out) (λ i. record { start = tail i; count = places.count - skipped i }) c.take_index-2.ensures)
