-- The plan of one sum is sound, and its keys are apart.
use Rattle.std.proofs.Common.{◌≡◌, ◌≢◌, ◌⊎◌, inl, inr, ℕ, zero, suc, get_or, ◌<◌, ◌≤◌, ◌^◌, true, false, List, [], ◌∷◌, length, All, Contains, codes, Option, Some, None, refl, sym, ap, subst, arith}
use Rattle.std.proofs.lemmas.List.Elements.{All-cons, All-nil}
use Rattle.cu_num.specs.Promotion.{promotion}
use Rattle.cu_num.specs.declared.types.Dtype.TheVariants.{Int32}
use Rattle.cu_num.specs.declared.layout.Encoding.TheVariants.{Plain}
use Rattle.cu_num.specs.declared.layout.Sep.TheVariants.{Slash}
use Rattle.cu_name.specs.Keys.{record_key_of, made_prefix_of}
use Rattle.cu_name.specs.Name.{IsArrayName}
use Rattle.cu_zarr.specs.Key.{metadata_key_of}
use Rattle.cu_op.specs.Arrays.{array_at, grid_at, is_inlined, maker_at, array_chunk_count}
use Rattle.cu_op.specs.Layout.{IsArray}
use Rattle.cu_op.specs.Operation.{writes_of, IsReadable, IsMadeBy}
use Rattle.cu_op.specs.Aligned.{IsAligned}
use Rattle.cu_op.specs.PlanView.{PlanView, operation_at, op_of}
use Rattle.cu_op.specs.Projection.{projection}
use Rattle.cu_op.specs.Sound.{Sound, IsInlined, IsOperation}
use Rattle.cu_op.proofs.KeyTexts.{keys_differ}
use Rattle.cu_op.proofs.Singles.{same_aligned, add_fits}
use Rattle.cu_store.specs.Steps.{Shown}
use Rattle.cu_run_law.specs.Names.{HasPlanNames}
use Rattle.cu_run_law.specs.Pieces.{PlanRun, chunks_alone, KeysApart, InputsApart}
use Rattle.cu_run_law.proofs.PlanNames.{keys_apart, inputs_apart}
use Rattle.cu_work.specs.Shared.{IsOpen}
use Rattle.cu_work.proofs.Running.{apart_alone}
use Rattle.test_chain.specs.Chain.{six_in_fours, array_under, addition_arrays, addition_plan}
use Rattle.test_chain.proofs.Chains.{grid_ok, array_ok}
use Rattle.test_chain.proofs.Spoiled.{short_name, one_code, not_made}

arrays_ok : All IsArray addition_arrays
arrays_ok =
    let made = All-cons IsArray (array_under (codes "y") (Some 0)) [] (array_ok (codes "y") (Some 0) (omega arith)) (All-nil IsArray) in
    let right = All-cons IsArray (array_under (codes "b") None) (array_under (codes "y") (Some 0) ∷ []) (array_ok (codes "b") None (omega arith)) made in
    All-cons IsArray (array_under (codes "a") None) (array_under (codes "b") None ∷ array_under (codes "y") (Some 0) ∷ []) (array_ok (codes "a") None (omega arith)) right

sum_ok : promotion Int32 Int32 ≡ Some Int32 → IsOperation addition_arrays 0 (op_of addition_plan 0)
sum_ok stays = record {
  reads = All-cons (IsReadable addition_arrays 0) 0 (1 ∷ []) (omega arith, tt) (All-cons (IsReadable addition_arrays 0) 1 [] (omega arith, tt) (All-nil (IsReadable addition_arrays 0)));
  writes = All-cons (IsMadeBy addition_arrays 0) 2 [] (omega arith, refl) (All-nil (IsMadeBy addition_arrays 0));
  fits = record {
    inputs =
        let P : ℕ → Type 0 = λ a. IsAligned (grid_at addition_arrays a) six_in_fours in
        All-cons P 0 (1 ∷ []) (same_aligned six_in_fours grid_ok) (All-cons P 1 [] (same_aligned six_in_fours grid_ok) (All-nil P));
    kernel = add_fits Int32 tt stays;
  };
}

each_ok : promotion Int32 Int32 ≡ Some Int32 → (k : ℕ) → k < 1 → IsOperation addition_arrays k (op_of addition_plan k)
each_ok stays zero h = sum_ok stays
each_ok stays (suc k) h = absurd (omega arith)

projected_ok : (k : ℕ) → k < 1 → (operation_at addition_plan.ops k).projected ≡ projection addition_plan k
projected_ok zero h = refl
projected_ok (suc k) h = absurd (omega arith)

room_ok : (k : ℕ) → k < 1 → projection addition_plan k < 2 ^ 64
room_ok zero h = subst (λ (n : ℕ). n < 2 ^ 64) (projected_ok 0 h) (omega arith)
room_ok (suc k) h = absurd (omega arith)

stored : (a : ℕ) → is_inlined addition_arrays a ≡ false
stored zero = refl
stored (suc zero) = refl
stored (suc (suc zero)) = refl
stored (suc (suc (suc a))) = refl

inlined_ok : (a : ℕ) → a < 3 → is_inlined addition_arrays a ≡ true → IsInlined addition_plan a
inlined_ok a h inner = let own = stored a in cc

maker_ok : (a k : ℕ) → a < 3 → maker_at addition_arrays a ≡ Some k → (k < 1) × Contains (writes_of (operation_at addition_plan.ops k).op) a
maker_ok zero k h e = cc
maker_ok (suc zero) k h e = cc
maker_ok (suc (suc zero)) k h e = let same : 0 ≡ k = cc in subst (λ (j : ℕ). (j < 1) × Contains (writes_of (operation_at addition_plan.ops j).op) 2) same (omega arith, (0, omega arith, refl))
maker_ok (suc (suc (suc a))) k h e = absurd (omega arith)

own_prefix : (a b : ℕ) → a < 3 → b < 3 → maker_at addition_arrays a ≢ None → maker_at addition_arrays b ≢ None → (array_at addition_arrays a).prefix ≡ (array_at addition_arrays b).prefix → a ≡ b
own_prefix zero b ha hb sa sb e = absurd (sa refl)
own_prefix (suc zero) b ha hb sa sb e = absurd (sa refl)
own_prefix (suc (suc a)) zero ha hb sa sb e = absurd (sb refl)
own_prefix (suc (suc a)) (suc zero) ha hb sa sb e = absurd (sb refl)
own_prefix (suc (suc zero)) (suc (suc zero)) ha hb sa sb e = refl
own_prefix (suc (suc (suc a))) (suc (suc b)) ha hb sa sb e = absurd (omega arith)
own_prefix (suc (suc zero)) (suc (suc (suc b))) ha hb sa sb e = absurd (omega arith)

encoding_ok : (a : ℕ) → a < 3 → maker_at addition_arrays a ≢ None → (array_at addition_arrays a).layout.encoding ≡ (array_at addition_arrays 2).layout.encoding
encoding_ok zero h s = refl
encoding_ok (suc zero) h s = refl
encoding_ok (suc (suc zero)) h s = refl
encoding_ok (suc (suc (suc a))) h s = absurd (omega arith)

few_chunks : (a : ℕ) → a < 3 → maker_at addition_arrays a ≡ None → array_chunk_count (array_at addition_arrays a) ≤ 65536
few_chunks zero h e = omega arith
few_chunks (suc zero) h e = omega arith
few_chunks (suc (suc zero)) h e = omega arith
few_chunks (suc (suc (suc a))) h e = absurd (omega arith)

pub addition_sound : promotion Int32 Int32 ≡ Some Int32 → Sound addition_plan
addition_sound stays = record {
  operations = each_ok stays;
  projections = projected_ok;
  rooms = room_ok;
  inlined = inlined_ok;
  makers = maker_ok;
  arrays = arrays_ok;
  keys = keys_differ addition_arrays arrays_ok (record {
    encodings = λ a c. encoding_ok a c.within c.made;
    prefixes = λ a b c d e. own_prefix a b c.within d.within c.made d.made e;
  });
  out = omega arith;
  array_count = omega arith;
  operation_count = omega arith;
  input_chunks = few_chunks;
  tasks = omega arith;
  cells = omega arith;
}

-- ---- names

abbrev named_addition : PlanRun
named_addition = record { plan = addition_plan; texts = (record_key_of (codes "y"), []) ∷ (metadata_key_of (codes "y"), []) ∷ [] }

made_name : (a : ℕ) → a < 3 → maker_at addition_arrays a ≢ None
    → ((array_at addition_arrays a).prefix ≡ codes "y") ⊎ ((k : ℕ) × (k < 2 ^ 64) × ((array_at addition_arrays a).prefix ≡ made_prefix_of (codes "y") k))
made_name zero h s = absurd (s refl)
made_name (suc zero) h s = absurd (s refl)
made_name (suc (suc zero)) h s = inl refl
made_name (suc (suc (suc a))) h s = absurd (omega arith)

encoded : (a : ℕ) → a < 3 → maker_at addition_arrays a ≢ None → (array_at addition_arrays a).layout.encoding ≡ Plain Slash
encoded zero h s = refl
encoded (suc zero) h s = refl
encoded (suc (suc zero)) h s = refl
encoded (suc (suc (suc a))) h s = absurd (omega arith)

input_name : (a : ℕ) → a < 3 → maker_at addition_arrays a ≡ None → IsArrayName (array_at addition_arrays a).prefix × ((array_at addition_arrays a).prefix ≢ codes "y")
input_name zero h e = (short_name 97 (omega arith) (omega arith), λ f. let same = one_code 97 121 f in omega (arith, same))
input_name (suc zero) h e = (short_name 98 (omega arith) (omega arith), λ f. let same = one_code 98 121 f in omega (arith, same))
input_name (suc (suc zero)) h e = absurd (not_made 0 e)
input_name (suc (suc (suc a))) h e = absurd (omega arith)

input_once : (a b : ℕ) → a < 3 → b < 3 → maker_at addition_arrays a ≡ None → maker_at addition_arrays b ≡ None → (array_at addition_arrays a).prefix ≡ (array_at addition_arrays b).prefix → a ≡ b
input_once zero zero h k e f same = refl
input_once zero (suc zero) h k e f same = let one = one_code 97 98 same in absurd (omega (arith, one))
input_once (suc zero) zero h k e f same = let one = one_code 98 97 same in absurd (omega (arith, one))
input_once (suc zero) (suc zero) h k e f same = refl
input_once a (suc (suc zero)) h k e f same = absurd (not_made 0 f)
input_once a (suc (suc (suc b))) h k e f same = absurd (omega arith)
input_once (suc (suc zero)) b h k e f same = absurd (not_made 0 e)
input_once (suc (suc (suc a))) b h k e f same = absurd (omega arith)

names : HasPlanNames named_addition (codes "y") [] []
names = record { named = short_name 121 (omega arith) (omega arith); texts = refl; encodings = λ a c. encoded a c.within c.made; made = λ a c. made_name a c.within c.made; inputs = input_name; once = input_once }

-- ---- what a run wants of it

pub plan_keys_apart : (p : PlanView) → p ≡ addition_plan → Sound p → KeysApart (chunks_alone p)
plan_keys_apart p is sound =
    let apart = keys_apart named_addition (codes "y") [] [] (subst Sound is sound) names in
    subst (λ (q : PlanView). KeysApart (chunks_alone q)) (sym is) (apart_alone named_addition apart)

pub plan_inputs_apart : (p : PlanView) → p ≡ addition_plan → Sound p → InputsApart (chunks_alone p)
plan_inputs_apart p is sound =
    let apart = inputs_apart named_addition (codes "y") [] [] (subst Sound is sound) names in
    subst (λ (q : PlanView). InputsApart (chunks_alone q)) (sym is) apart

-- a store that tells nothing is open to any run
pub open_untold : (r : PlanRun) (shown : Shown) → shown.held ≡ None → IsOpen r shown
open_untold r shown none = rw none tt
