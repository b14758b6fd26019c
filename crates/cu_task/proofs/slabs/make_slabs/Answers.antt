use Rattle.std.proofs.Common.{◌≡◌, ◌-◌, ◌*◌, ℕ, List, inl, inr, refl, ap, sym, ◌∙◌, subst, arith}
use Rattle.std.proofs.lemmas.Bool.{cases_lt}
use Rattle.cu_task.proofs.SlabPlaces.{rows_most}
use Rattle.cu_task.specs.Slabs.{input_bytes_at, made_type, mapped_value, result_bytes_at, IsValue}
use Rattle.cu_task.proofs.slabs.make_slabs.Goals as goal

pub loop-end-init : goal.loop-end-init
loop-end-init c = record {
  within = omega arith;
  made = λ whole shown p low high. absurd (omega (arith, low, high));
  before = λ p below. refl;
}

pub loop-end-preserved : goal.loop-end-preserved
loop-end-preserved c =
    let task = c.args.task.now in
    let job = c.args.job.now in
    let end = c.loop-end.end in
    let row = c.args.job.now.sizes.row in
    let first = c.loop-end.end - c.min.result in
    let before = c.loop-end.invariant in
    let step = c.make_slab.ensures in
    record {
      within = (let w = c.loop-end.invariant.within in omega (arith, w));
      made = λ whole shown p low high. elim (cases_lt p (c.loop-end.end * c.args.job.now.sizes.row)) [
        | inl own ↦ subst (λ (b : List ℕ). IsValue (made_type c.args.task.now) (mapped_value c.args.task.now c.args.job.now.place whole p b) (result_bytes_at c.args.task.now c.args.job.now.sizes c.make_slab.new.memory p)) (before.before p own)
            (step.made whole shown p low own)
        | inr behind ↦ subst (IsValue (made_type c.args.task.now) (mapped_value c.args.task.now c.args.job.now.place whole p (input_bytes_at c.args.task.now c.args.job.now.sizes c.args.memory.now p))) (sym (step.behind p behind))
            (before.made whole shown p behind high)
      ];
      before = λ p below.
          let most = rows_most (c.loop-end.end - c.min.result) c.loop-end.end c.args.job.now.sizes.row (omega arith) in
          step.before p below ∙ before.before p (omega (arith, below, most));
    }

pub make_slab-requires-clause-end : goal.make_slab-requires-clause-end
make_slab-requires-clause-end c = c.loop-end.invariant.within

pub make_slab-requires-clause-few : goal.make_slab-requires-clause-few
make_slab-requires-clause-few c = let m = c.min.ensures in omega (arith, m)

pub make_slab-requires-clause-memory : goal.make_slab-requires-clause-memory
make_slab-requires-clause-memory c = let long = c.loop-end.auto.memory in let most = c.requires.memory in omega (arith, long, most)

pub returns : goal.returns
returns c whole shown p low high =
    let done : c.loop-end.end ≡ 0 = (let t = c.loop-end-test.false in omega (arith, t)) in
    c.loop-end.invariant.made whole shown p (let e = ap (λ (n : ℕ). n * c.args.job.now.sizes.row) done in omega (arith, e)) high
