use Rattle.std.proofs.Common.{◌≡◌, ◌≢◌, ◌≤◌, ◌+◌, ◌*◌, ◌/◌, ◌%◌, length, arith, ap, ◌∙◌, below_more}
use Rattle.cu_num.specs.Dtype.{size_of}
use Rattle.cu_num.specs.Element.{bytes_at, element_bytes}
use Rattle.cu_num.specs.declared.layout.Endian.TheVariants.{Little}
use Rattle.cu_num.proofs.ElementBytes.{bytes_at-written_at_same, bytes_at-written_at_other, length-written_at, length-element_bytes}
use Rattle.cu_product.proofs.Pairs.{panel_place}
use Rattle.cu_product.proofs.Parts.{kept, element_inside, element_small, place_within}
use Rattle.cu_product.proofs.paired.gather_column.Goals as goal

pub overflow_mul-q : goal.overflow_mul-q
overflow_mul-q c = let small = element_small c.args.t (c.loop-q.q * c.args.sizes.columns + c.args.from) (c.args.sizes.inner * c.args.sizes.columns) (length c.args.right.now) c.requires.right (place_within c.args.sizes.inner c.args.sizes.columns c.loop-q.q c.args.from c.loop-q-test.true c.requires.from) in omega arith

pub overflow_add-q : goal.overflow_add-q
overflow_add-q c = let small = element_small c.args.t (c.loop-q.q * c.args.sizes.columns + c.args.from) (c.args.sizes.inner * c.args.sizes.columns) (length c.args.right.now) c.requires.right (place_within c.args.sizes.inner c.args.sizes.columns c.loop-q.q c.args.from c.loop-q-test.true c.requires.from) in omega arith

pub load-requires : goal.load-requires
load-requires c = element_inside c.args.t (c.loop-q.q * c.args.sizes.columns + c.args.from) (c.args.sizes.inner * c.args.sizes.columns) (length c.args.right.now) c.requires.right (place_within c.args.sizes.inner c.args.sizes.columns c.loop-q.q c.args.from c.loop-q-test.true c.requires.from)

pub overflow_mul-q-in-loop-q : goal.overflow_mul-q-in-loop-q
overflow_mul-q-in-loop-q c =
    let total : length c.loop-q.panel ≡ c.args.sizes.inner / 2 * 18 * size_of c.args.t = c.loop-q.invariant.same_length ∙ c.requires.panel ∙ omega arith in
    let less = panel_place c.args.sizes.inner c.loop-q.q c.args.j c.loop-q-test.true c.requires.even c.requires.to in
    let small = element_small c.args.t (c.loop-q.q / 2 * 18 + 2 * c.args.j + c.loop-q.q % 2) (c.args.sizes.inner / 2 * 18) (length c.loop-q.panel) total less in
    omega arith

pub overflow_add-q-in-loop-q : goal.overflow_add-q-in-loop-q
overflow_add-q-in-loop-q c =
    let total : length c.loop-q.panel ≡ c.args.sizes.inner / 2 * 18 * size_of c.args.t = c.loop-q.invariant.same_length ∙ c.requires.panel ∙ omega arith in
    let less = panel_place c.args.sizes.inner c.loop-q.q c.args.j c.loop-q-test.true c.requires.even c.requires.to in
    let small = element_small c.args.t (c.loop-q.q / 2 * 18 + 2 * c.args.j + c.loop-q.q % 2) (c.args.sizes.inner / 2 * 18) (length c.loop-q.panel) total less in
    omega arith

pub overflow_add-q-in-loop-q-2 : goal.overflow_add-q-in-loop-q-2
overflow_add-q-in-loop-q-2 c =
    let total : length c.loop-q.panel ≡ c.args.sizes.inner / 2 * 18 * size_of c.args.t = c.loop-q.invariant.same_length ∙ c.requires.panel ∙ omega arith in
    let less = panel_place c.args.sizes.inner c.loop-q.q c.args.j c.loop-q-test.true c.requires.even c.requires.to in
    let small = element_small c.args.t (c.loop-q.q / 2 * 18 + 2 * c.args.j + c.loop-q.q % 2) (c.args.sizes.inner / 2 * 18) (length c.loop-q.panel) total less in
    omega arith

pub save-requires : goal.save-requires
save-requires c =
    let total : length c.loop-q.panel ≡ c.args.sizes.inner / 2 * 18 * size_of c.args.t = c.loop-q.invariant.same_length ∙ c.requires.panel ∙ omega arith in
    let less = panel_place c.args.sizes.inner c.loop-q.q c.args.j c.loop-q-test.true c.requires.even c.requires.to in
    element_inside c.args.t (c.loop-q.q / 2 * 18 + 2 * c.args.j + c.loop-q.q % 2) (c.args.sizes.inner / 2 * 18) (length c.loop-q.panel) total less

pub loop-q-preserved : goal.loop-q-preserved
loop-q-preserved c =
    let t = c.args.t in
    let q = c.loop-q.q in
    let j = c.args.j in
    let panel = c.loop-q.panel in
    let place = q / 2 * 18 + 2 * j + q % 2 in
    let same = c.loop-q.invariant.same_length in
    let total : length panel ≡ c.args.sizes.inner / 2 * 18 * size_of t = same ∙ c.requires.panel ∙ omega arith in
    let less = panel_place c.args.sizes.inner q j c.loop-q-test.true c.requires.even c.requires.to in
    let fits : place * size_of t + size_of t ≤ length panel = element_inside t place (c.args.sizes.inner / 2 * 18) (length panel) total less in
    record {
      same_length = ap length c.save.ensures ∙ (length-written_at Little t panel place _ fits ∙ same);
      done = below_more _ _
          (λ k b. let to = c.requires.to in let apart : k / 2 * 18 + 2 * j + k % 2 ≢ place = omega arith in
          ap (λ all. bytes_at t all (k / 2 * 18 + 2 * j + k % 2)) c.save.ensures ∙ bytes_at-written_at_other t panel _ place (k / 2 * 18 + 2 * j + k % 2) apart (length-element_bytes _ t _) fits ∙ c.loop-q.invariant.done k b)
          (ap (λ all. bytes_at t all place) c.save.ensures
          ∙ bytes_at-written_at_same t panel _ place (length-element_bytes _ t _) fits
          ∙ ap (element_bytes Little t) (kept c.load.result (record { sfits = c.load.type_inv }) ∙ c.load.ensures.value));
      rest = λ k m b d.
          let to = c.requires.to in
          let apart : k / 2 * 18 + 2 * m + k % 2 ≢ place = omega arith in
          ap (λ all. bytes_at t all (k / 2 * 18 + 2 * m + k % 2)) c.save.ensures ∙ bytes_at-written_at_other t panel _ place (k / 2 * 18 + 2 * m + k % 2) apart (length-element_bytes _ t _) fits ∙ c.loop-q.invariant.rest k m b d;
    }
