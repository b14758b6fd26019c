-- The plan of two sums is sound.
use Rattle.std.proofs.Common.{◌≡◌, ◌≢◌, ℕ, zero, suc, ◌^◌, ◌<◌, ◌≤◌, true, false, List, [], ◌∷◌, length, All, Contains, codes, Option, Some, None, refl, subst, arith}
use Rattle.std.proofs.lemmas.List.Elements.{All-cons, All-nil}
use Rattle.cu_num.specs.Promotion.{promotion}
use Rattle.cu_num.specs.declared.types.Dtype.TheVariants.{Int32}
use Rattle.cu_grid.specs.Grid.{IsGrid}
use Rattle.cu_op.specs.Arrays.{array_at, grid_at, is_inlined, maker_at, array_chunk_count}
use Rattle.cu_op.specs.Layout.{IsArray}
use Rattle.cu_op.specs.Operation.{writes_of, IsReadable, IsMadeBy}
use Rattle.cu_op.specs.Aligned.{IsAligned}
use Rattle.cu_op.specs.PlanView.{operation_at, op_of}
use Rattle.cu_op.specs.Projection.{projection}
use Rattle.cu_op.specs.Sound.{Sound, IsInlined, IsOperation}
use Rattle.cu_op.proofs.KeyTexts.{keys_differ}
use Rattle.cu_op.proofs.Singles.{same_aligned, add_fits}
use Rattle.test_chain.specs.Chain.{six_in_fours, array_under, chain_arrays, chain_plan}

pub grid_ok : IsGrid six_in_fours
grid_ok = record {
  ranks = refl;
  short = omega arith;
  positive = All-cons (λ c. 0 < c) 4 [] (omega arith) (All-nil (λ c. 0 < c));
  elements = omega arith;
  chunk_elements = omega arith;
}

pub array_ok : (name : List ℕ) (maker : Option ℕ) → length name ≤ 45 → IsArray (array_under name maker)
array_ok name maker short = record { short = short; grid = grid_ok; fill = (omega arith, omega arith) }

arrays_ok : All IsArray chain_arrays
arrays_ok =
    let last = All-cons IsArray (array_under (codes "y") (Some 1)) [] (array_ok (codes "y") (Some 1) (omega arith)) (All-nil IsArray) in
    let made = All-cons IsArray (array_under (codes "_cubed/y/0") (Some 0)) (array_under (codes "y") (Some 1) ∷ []) (array_ok (codes "_cubed/y/0") (Some 0) (omega arith)) last in
    let right = All-cons IsArray (array_under (codes "b") None) (array_under (codes "_cubed/y/0") (Some 0) ∷ array_under (codes "y") (Some 1) ∷ []) (array_ok (codes "b") None (omega arith)) made in
    All-cons IsArray (array_under (codes "a") None) (array_under (codes "b") None ∷ array_under (codes "_cubed/y/0") (Some 0) ∷ array_under (codes "y") (Some 1) ∷ []) (array_ok (codes "a") None (omega arith)) right

first_ok : promotion Int32 Int32 ≡ Some Int32 → IsOperation chain_arrays 0 (op_of chain_plan 0)
first_ok stays = record {
  reads = All-cons (IsReadable chain_arrays 0) 0 (1 ∷ []) (omega arith, tt) (All-cons (IsReadable chain_arrays 0) 1 [] (omega arith, tt) (All-nil (IsReadable chain_arrays 0)));
  writes = All-cons (IsMadeBy chain_arrays 0) 2 [] (omega arith, refl) (All-nil (IsMadeBy chain_arrays 0));
  fits = record {
    inputs =
        let P : ℕ → Type 0 = λ a. IsAligned (grid_at chain_arrays a) six_in_fours in
        All-cons P 0 (1 ∷ []) (same_aligned six_in_fours grid_ok) (All-cons P 1 [] (same_aligned six_in_fours grid_ok) (All-nil P));
    kernel = add_fits Int32 tt stays;
  };
}

second_ok : promotion Int32 Int32 ≡ Some Int32 → IsOperation chain_arrays 1 (op_of chain_plan 1)
second_ok stays = record {
  reads = All-cons (IsReadable chain_arrays 1) 2 (1 ∷ []) (omega arith, omega arith) (All-cons (IsReadable chain_arrays 1) 1 [] (omega arith, tt) (All-nil (IsReadable chain_arrays 1)));
  writes = All-cons (IsMadeBy chain_arrays 1) 3 [] (omega arith, refl) (All-nil (IsMadeBy chain_arrays 1));
  fits = record {
    inputs =
        let P : ℕ → Type 0 = λ a. IsAligned (grid_at chain_arrays a) six_in_fours in
        All-cons P 2 (1 ∷ []) (same_aligned six_in_fours grid_ok) (All-cons P 1 [] (same_aligned six_in_fours grid_ok) (All-nil P));
    kernel = add_fits Int32 tt stays;
  };
}

each_ok : promotion Int32 Int32 ≡ Some Int32 → (k : ℕ) → k < 2 → IsOperation chain_arrays k (op_of chain_plan k)
each_ok stays zero h = first_ok stays
each_ok stays (suc zero) h = second_ok stays
each_ok stays (suc (suc k)) h = absurd (omega arith)

projected_ok : (k : ℕ) → k < 2 → (operation_at chain_plan.ops k).projected ≡ projection chain_plan k
projected_ok zero h = refl
projected_ok (suc zero) h = refl
projected_ok (suc (suc k)) h = absurd (omega arith)

room_ok : (k : ℕ) → k < 2 → projection chain_plan k < 2 ^ 64
room_ok zero h = subst (λ (n : ℕ). n < 2 ^ 64) (projected_ok 0 h) (omega arith)
room_ok (suc zero) h = subst (λ (n : ℕ). n < 2 ^ 64) (projected_ok 1 h) (omega arith)
room_ok (suc (suc k)) h = absurd (omega arith)

stored : (a : ℕ) → is_inlined chain_arrays a ≡ false
stored zero = refl
stored (suc zero) = refl
stored (suc (suc zero)) = refl
stored (suc (suc (suc zero))) = refl
stored (suc (suc (suc (suc a)))) = refl

inlined_ok : (a : ℕ) → a < 4 → is_inlined chain_arrays a ≡ true → IsInlined chain_plan a
inlined_ok a h inner = let own = stored a in cc

maker_ok : (a k : ℕ) → a < 4 → maker_at chain_arrays a ≡ Some k → (k < 2) × Contains (writes_of (operation_at chain_plan.ops k).op) a
maker_ok zero k h e = cc
maker_ok (suc zero) k h e = cc
maker_ok (suc (suc zero)) k h e = let same : 0 ≡ k = cc in subst (λ (j : ℕ). (j < 2) × Contains (writes_of (operation_at chain_plan.ops j).op) 2) same (omega arith, (0, omega arith, refl))
maker_ok (suc (suc (suc zero))) k h e = let same : 1 ≡ k = cc in subst (λ (j : ℕ). (j < 2) × Contains (writes_of (operation_at chain_plan.ops j).op) 3) same (omega arith, (0, omega arith, refl))
maker_ok (suc (suc (suc (suc a)))) k h e = absurd (omega arith)

own_prefix : (a b : ℕ) → a < 4 → b < 4 → maker_at chain_arrays a ≢ None → maker_at chain_arrays b ≢ None → (array_at chain_arrays a).prefix ≡ (array_at chain_arrays b).prefix → a ≡ b
own_prefix zero b ha hb sa sb e = absurd (sa refl)
own_prefix (suc zero) b ha hb sa sb e = absurd (sa refl)
own_prefix (suc (suc a)) zero ha hb sa sb e = absurd (sb refl)
own_prefix (suc (suc a)) (suc zero) ha hb sa sb e = absurd (sb refl)
own_prefix (suc (suc zero)) (suc (suc zero)) ha hb sa sb e = refl
own_prefix (suc (suc zero)) (suc (suc (suc zero))) ha hb sa sb e = cc
own_prefix (suc (suc (suc zero))) (suc (suc zero)) ha hb sa sb e = cc
own_prefix (suc (suc (suc zero))) (suc (suc (suc zero))) ha hb sa sb e = refl
own_prefix (suc (suc (suc (suc a)))) (suc (suc b)) ha hb sa sb e = absurd (omega arith)
own_prefix (suc (suc zero)) (suc (suc (suc (suc b)))) ha hb sa sb e = absurd (omega arith)
own_prefix (suc (suc (suc zero))) (suc (suc (suc (suc b)))) ha hb sa sb e = absurd (omega arith)

encoding_ok : (a : ℕ) → a < 4 → maker_at chain_arrays a ≢ None → (array_at chain_arrays a).layout.encoding ≡ (array_at chain_arrays 3).layout.encoding
encoding_ok zero h s = refl
encoding_ok (suc zero) h s = refl
encoding_ok (suc (suc zero)) h s = refl
encoding_ok (suc (suc (suc zero))) h s = refl
encoding_ok (suc (suc (suc (suc a)))) h s = absurd (omega arith)

few_chunks : (a : ℕ) → a < 4 → maker_at chain_arrays a ≡ None → array_chunk_count (array_at chain_arrays a) ≤ 65536
few_chunks zero h e = omega arith
few_chunks (suc zero) h e = omega arith
few_chunks (suc (suc zero)) h e = omega arith
few_chunks (suc (suc (suc zero))) h e = omega arith
few_chunks (suc (suc (suc (suc a)))) h e = absurd (omega arith)

pub chain_sound : promotion Int32 Int32 ≡ Some Int32 → Sound chain_plan
chain_sound stays = record {
  operations = each_ok stays;
  projections = projected_ok;
  rooms = room_ok;
  inlined = inlined_ok;
  makers = maker_ok;
  arrays = arrays_ok;
  keys = keys_differ chain_arrays arrays_ok (record {
    encodings = λ a c. encoding_ok a c.within c.made;
    prefixes = λ a b c d e. own_prefix a b c.within d.within c.made d.made e;
  });
  out = omega arith;
  array_count = omega arith;
  operation_count = omega arith;
  input_chunks = few_chunks;
  tasks = omega arith;
  cells = omega arith;
}
