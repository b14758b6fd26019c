-- The steps that merge partial results, one by one.
use Rattle.std.proofs.Common.{◌≡◌, ℕ, zero, suc, ◌+◌, ◌*◌, ◌<◌, ◌≤◌, List, [], ◌∷◌, length, get_or, drop, None, Some, slice_get, refl, arith}
use Rattle.cu_num.specs.declared.folds.FoldKind.{FoldKind}
use Rattle.cu_op.specs.declared.operation.Op.TheVariants.{Merge, PairMerge}
use Rattle.cu_node.specs.declared.info.NodeInfo.{NodeInfo}
use Rattle.cu_tree.specs.Needs.{merge_need, pair_merge_need}
use Rattle.cu_tree.specs.Partials.{merged, written_before, AreMerges}
use Rattle.cu_tree.specs.declared.round.Round.{Round}
use Rattle.cu_lower_reduce.specs.Partials.{partial_after}
use Rattle.cu_lower_reduce.specs.Reductions.{merges}
use Rattle.cu_lower_reduce.specs.Searches.{stored, places_number, value_chunk_bytes, pair_merges}
use Rattle.cu_lower_reduce.specs.declared.search.Search.{Search}
use Rattle.cu_lower_reduce.specs.declared.step.Setting.{Setting}
use Rattle.cu_node.specs.Info.{chunk_bytes}

pub after_more : (partial : NodeInfo) (rounds : List Round) (k : ℕ) (d : Round) → k < length rounds → partial_after partial rounds (k + 1) ≡ merged (get_or rounds k d) (partial_after partial rounds k)
after_more partial [] k d h = absurd (omega arith)
after_more partial (r ∷ rs) zero d h = refl
after_more partial (r ∷ rs) (suc k) d h = let e : suc k + 1 ≡ suc (k + 1) = omega arith in rw e (after_more (merged r partial) rs k d (omega arith))

pub merges_after : (partial : NodeInfo) (rounds : List Round) (k : ℕ) → k ≤ length rounds → AreMerges partial rounds → AreMerges (partial_after partial rounds k) (drop k rounds)
merges_after partial rounds zero h m = m
merges_after partial [] (suc k) h m = absurd (omega arith)
merges_after partial (r ∷ rs) (suc k) h m =
    merges_after (merged r partial) rs k (omega arith) (record { axes = m.axes; split_every = m.split_every; groups = m.groups; rule = m.rule.1 })

pub length-merges : (s : Setting) (kind : FoldKind) (made : NodeInfo) (source : ℕ) (partial : NodeInfo) (rounds : List Round) → length (merges s kind made source partial rounds) ≡ length rounds
length-merges s kind made source partial [] = refl
length-merges s kind made source partial (r ∷ rs) = let e = length-merges s kind made (source + 1) (merged r partial) rs in omega arith

pub merge_at : (s : Setting) (kind : FoldKind) (made : NodeInfo) (source : ℕ) (partial : NodeInfo) (rounds : List Round) (at n : ℕ) (d : Round) → at < length rounds → n ≡ source + at
    → slice_get (merges s kind made source partial rounds) at
    ≡ Some (record {
      op = Merge kind (get_or rounds at d).axis s.split_every n (n + 1);
      values = None;
      made = written_before (drop (at + 1) rounds) (partial_after partial rounds (at + 1)) made;
      need = merge_need s.reserved s.split_every (chunk_bytes made);
    })
merge_at s kind made source partial [] at n d h e = absurd (omega arith)
merge_at s kind made source partial (r ∷ rs) zero n d h e = let z : n ≡ source = omega arith in rw z refl
merge_at s kind made source partial (r ∷ rs) (suc at) n d h e =
    let k : suc at + 1 ≡ suc (at + 1) = omega arith in
    rw k (merge_at s kind made (source + 1) (merged r partial) rs at n d (omega arith) (omega arith))

pub length-pair_merges : (s : Setting) (x : Search) (source : ℕ) (values places : NodeInfo) (rounds : List Round) → length (pair_merges s x source values places rounds) ≡ length rounds
length-pair_merges s x source values places [] = refl
length-pair_merges s x source values places (r ∷ rs) = let e = length-pair_merges s x (source + 2) (merged r values) (merged r places) rs in omega arith

pub pair_at : (s : Setting) (x : Search) (source : ℕ) (values places : NodeInfo) (rounds : List Round) (at n : ℕ) (d : Round) → at < length rounds → n ≡ source + 2 * at
    → slice_get (pair_merges s x source values places rounds) at
    ≡ Some (record {
      op = PairMerge x.least (get_or rounds at d).axis s.split_every n (n + 1) (stored (drop (at + 1) rounds) (n + 2)) (places_number (drop (at + 1) rounds) (n + 2));
      values = stored (drop (at + 1) rounds) (partial_after values rounds (at + 1));
      made = written_before (drop (at + 1) rounds) (partial_after places rounds (at + 1)) x.made;
      need = pair_merge_need s.reserved s.split_every (value_chunk_bytes x) (chunk_bytes x.made);
    })
pair_at s x source values places [] at n d h e = absurd (omega arith)
pair_at s x source values places (r ∷ rs) zero n d h e = let z : n ≡ source = omega arith in rw z refl
pair_at s x source values places (r ∷ rs) (suc at) n d h e =
    let k : suc at + 1 ≡ suc (at + 1) = omega arith in
    rw k (pair_at s x (source + 2) (merged r values) (merged r places) rs at n d (omega arith) (omega arith))
