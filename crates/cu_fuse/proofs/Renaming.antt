-- The arrays of a plan that get names that close up, one after another.
use Rattle.cu_fuse.proofs.Filling.{filled_at, filled_next}
use Rattle.cu_fuse.proofs.InlinedNames.{count_few, count_more}
use Rattle.cu_fuse.specs.Inlining.{is_numbered, prefix_where}
use Rattle.cu_name.specs.Keys.{made_prefix_of}
use Rattle.cu_op.proofs.Members.{bool_cases}
use Rattle.cu_op.specs.Arrays.{array_at, is_inlined, no_array}
use Rattle.cu_op.specs.PlanView.{PlanView}
use Rattle.cu_op.specs.declared.layout.ArrayInfo.{ArrayInfo}
use Rattle.std.proofs.Common.{◌≡◌, inl, inr, ℕ, ◌+◌, ◌<◌, ◌≤◌, ◌==◌, ◌&&◌, not, List, ◌++◌, length, map, drop, refl, ap, sym, ◌∙◌, arith, Bool, if◌then◌else◌}
use Rattle.std.proofs.Math.ListN.{set}
use Rattle.std.specs.List.{count_by, range_with_len}
use Rattle.std.specs.Option.{is_some}

module _ (p : PlanView) where
  abbrev chosen : ℕ → Bool
  chosen = is_inlined p.arrays

  abbrev numbered : ℕ → Bool
  numbered = is_numbered p chosen

  abbrev pub renamed_array : ℕ → ArrayInfo
  renamed_array b = record (array_at p.arrays b) { prefix = prefix_where p chosen b }

  -- the plan with the first arrays renamed
  abbrev pub renamed_to : ℕ → PlanView
  renamed_to a = record p { arrays = map renamed_array (range_with_len 0 a) ++ drop a p.arrays }

  pub counted_few : (a : ℕ) → count_by numbered (range_with_len 0 a) ≤ a
  counted_few a = count_few p chosen a

  module _ (q : PlanView) (a : ℕ) (within : a < length p.arrays) (e : q ≡ renamed_to a) where
    arrays_are : q.arrays ≡ map renamed_array (range_with_len 0 a) ++ drop a p.arrays
    arrays_are = ap (λ (r : PlanView). r.arrays) e

    here : array_at q.arrays a ≡ array_at p.arrays a
    here = filled_at renamed_array p.arrays q.arrays a arrays_are no_array within

    numbered_now : is_numbered q (is_inlined q.arrays) a ≡ numbered a
    numbered_now = λ i. is_some (here i).maker && (not (a == (e i).out) && not (here i).inlined)

    pub renamed_step : (name : List ℕ) (others : ℕ) → name ≡ (array_at p.arrays p.out).prefix → others ≡ count_by numbered (range_with_len 0 a)
        → set q.arrays a (record (array_at q.arrays a) { prefix = if is_numbered q (is_inlined q.arrays) a then made_prefix_of name others else (array_at q.arrays a).prefix })
        ≡ map renamed_array (range_with_len 0 (a + 1)) ++ drop (a + 1) p.arrays
    renamed_step name others named count =
        let prefix : (if is_numbered q (is_inlined q.arrays) a then made_prefix_of name others else (array_at q.arrays a).prefix) ≡ prefix_where p chosen a =
        (λ i. if numbered_now i then made_prefix_of (named i) (count i) else (here i).prefix) in
        filled_next renamed_array p.arrays q.arrays a arrays_are no_array
        (record (array_at q.arrays a) { prefix = if is_numbered q (is_inlined q.arrays) a then made_prefix_of name others else (array_at q.arrays a).prefix }) within
        (λ i. record (here i) { prefix = prefix i })

    pub counted_step : (others next : ℕ) → others ≡ count_by numbered (range_with_len 0 a)
        → next ≡ (if is_numbered q (is_inlined q.arrays) a then (others + 1) else others) → next ≡ count_by numbered (range_with_len 0 (a + 1))
    counted_step others next count is =
        is ∙ (λ i. if numbered_now i then (count i + 1) else count i)
        ∙ (let n = count_by numbered (range_with_len 0 a) in
        elim (bool_cases (numbered a)) [
          | inl t ↦ rw t refl
          | inr f ↦ rw f (let z : n ≡ n + 0 = omega arith in z)
        ])
        ∙ sym (count_more p chosen a)
