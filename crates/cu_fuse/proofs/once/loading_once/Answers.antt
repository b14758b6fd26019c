use Rattle.std.proofs.Common.{◌≡◌, ◌<◌, ◌++◌, [], ◌∷◌, List, ℕ, true, false, append-nil, cond, Bool, length, get_or, ap, sym, ◌∙◌, arith}
use Rattle.cu_op.specs.declared.kernel.Instr.{Instr}
use Rattle.cu_fuse.specs.Once.{at_places, first_like, first_load_of, place, places, stays, step_at}
use Rattle.cu_fuse.proofs.LoadingOnce.{few_so_far, length-places, place_before, place_here, places_more, so_far as left, so_far_more}
use Rattle.cu_fuse.proofs.once.loading_once.Goals as goal
use Rattle.cu_fuse.proofs.once.loading_once.Goals.{then-first-n, else-first-n, then-stays, else-stays}

pub push-requires : goal.push-requires
push-requires c =
    let long = ap length c.loop-n.invariant.so_far in
    let few = few_so_far c.args.code.now c.loop-n.n in
    let below = c.loop-n-test.true in
    (omega arith, omega (arith, long, few, below))

pub push-requires-in-loop-n : goal.push-requires-in-loop-n
push-requires-in-loop-n c =
    let long = ap length c.loop-n.invariant.at in
    let all = length-places c.args.code.now c.loop-n.n in
    let below = c.loop-n-test.true in
    (omega arith, omega (arith, long, all, below))

pub loop-n-preserved : goal.loop-n-preserved
loop-n-preserved c =
    let code = c.args.code.now in
    let n = c.loop-n.n in
    let first = c.first_like-first.result in
    let within : n < length code = (let below = c.loop-n-test.true in omega (arith, below)) in
    let is : first ≡ first_load_of code n =
    c.first_like-first.ensures ∙ ap (first_like code n) c.step_at-instr.ensures in
    let standing : c.as_slice-standing.result.now ≡ places code n =
    c.as_slice-standing.ensures.value ∙ c.loop-n.invariant.at in
    let here : c.if-first-n.place ≡ place code n =
    elim c.if-first-n.branch [
      | then-first-n w ↦
          w.place-is ∙ w.number_at-place.ensures ∙ ap (λ (l : List ℕ). get_or l first 0) standing
          ∙ sym (place_before code n first is w.if-first-n.true within)
      | else-first-n w ↦
          let long = ap length c.loop-n.invariant.so_far in
          let count = w.len.ensures in
          let same : w.len.result ≡ length (left code n) = omega (arith, long, count) in
          w.place-is ∙ same ∙ sym (place_here code n first is w.if-first-n.false within)
    ] in
    record {
      so_far = elim c.if-stays.branch [
        | then-stays w ↦
            let stay : stays code n ≡ true = sym c.stays.ensures ∙ w.if-stays.true in
            ap (λ v. v.items) w.once-is ∙ w.push.ensures.items
            ∙ ap (λ (l : List Instr). l ++ w.at_places.result ∷ []) c.loop-n.invariant.so_far
            ∙ ap (λ (i : Instr). left code n ++ i ∷ [])
            (w.at_places.ensures ∙ (λ t. at_places (standing t) (c.step_at-instr.ensures t)))
            ∙ ap (λ (b : Bool). left code n ++ cond b (at_places (places code n) (step_at code n) ∷ []) [])
            (sym stay)
            ∙ sym (so_far_more code n)
        | else-stays w ↦
            let gone : stays code n ≡ false = sym c.stays.ensures ∙ w.if-stays.false in
            ap (λ v. v.items) w.once-is ∙ c.loop-n.invariant.so_far
            ∙ sym (append-nil (left code n))
            ∙ ap (λ (b : Bool). left code n ++ cond b (at_places (places code n) (step_at code n) ∷ []) [])
            (sym gone)
            ∙ sym (so_far_more code n)
      ];
      at = c.push-in-loop-n.ensures.items
          ∙ (λ t. c.loop-n.invariant.at t ++ here t ∷ []) ∙ sym (places_more code n);
    }
