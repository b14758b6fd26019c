use Rattle.std.proofs.Common.{◌≡◌, ℕ, ◌+◌, ◌<◌, ◌≤◌, Bool, true, false, List, length, get_or, take, ap, ◌∙◌, arith}
use Rattle.std.specs.Prelude.{if◌then◌else◌}
use Rattle.std.proofs.lemmas.List.{take_more}
use Rattle.cu_history.specs.declared.entry.Entry.{Entry}
use Rattle.cu_history.specs.History.{is_failed, count_kind}
use Rattle.cu_table.proofs.Counting.{one}
use Rattle.cu_work.proofs.AloneTurns.{count_push}
use Rattle.cu_work.proofs.counts.failures.Goals as goal

-- one entry more
more : (es : List Entry) (i count add : ℕ) (d : Entry) → i < length es → count ≡ count_kind is_failed (take i es) → add ≡ (if is_failed (get_or es i d).kind then 1 else 0)
    → count + add ≡ count_kind is_failed (take (i + 1) es)
more es i count add d below so_far is =
    let whole = ap (count_kind is_failed) (take_more es i d below) ∙ count_push is_failed (take i es) (get_or es i d) in
    omega (arith, so_far, is, whole)

at_most_one : (b : Bool) (add : ℕ) → add ≡ (if b then 1 else 0) → add ≤ 1
at_most_one true add is = omega (arith, is)
at_most_one false add is = omega (arith, is)

pub loop-entry-preserved : goal.loop-entry-preserved
loop-entry-preserved c = record {
  count = more c.args.history.now c.loop-entry.entry-index c.loop-entry.count c.one-count.result _ c.loop-entry-test.true c.loop-entry.invariant.count
      (c.one-count.ensures ∙ ap one c.is_failed.ensures);
  few = let one = at_most_one c.is_failed.result c.one-count.result c.one-count.ensures in let few = c.loop-entry.invariant.few in omega (arith, one, few);
}
