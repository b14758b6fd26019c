-- The made arrays that are left have the names by which they are counted.
use Rattle.std.proofs.Common.{◌≡◌, ◌≢◌, ◌⊎◌, inl, inr, ℕ, zero, suc, ◌+◌, ◌<◌, ◌≤◌, ◌==◌, List, [], ◌∷◌, Contains, length, Option, Some, None, get_or, refl, ap, sym, ◌∙◌, subst, arith, if◌then◌else◌}
use Rattle.std.specs.List.{slice_get}
use Rattle.std.proofs.lemmas.Bool.Decides.{eqb_tells}
use Rattle.std.proofs.lemmas.Option.{get_or_from_slice_get, slice_get-get_or}
use Rattle.cu_name.specs.Keys.{made_prefix_of}
use Rattle.cu_name.specs.Name.{IsArrayName}
use Rattle.cu_op.specs.Arrays.{array_at, maker_at}
use Rattle.cu_op.specs.PlanView.{PlanView}
use Rattle.cu_op.specs.declared.layout.ArrayInfo.{ArrayInfo}
use Rattle.cu_op.specs.declared.operation.Planned.{Planned}
use Rattle.cu_fuse.specs.Close.{closed, count_behind, new_number, others_before, remaining_array, remaining_arrays, remaining_numbers, setting_of, HasMadeNames}
use Rattle.cu_fuse.proofs.ClosedNames.{made_was, prefix_of_other}
use Rattle.cu_fuse.proofs.ClosedPlans.{output_name}
use Rattle.cu_fuse.proofs.LeftArrays.{left_once, length-left, placed}

module _ (p : PlanView) (ops : List Planned) where
  -- how many others come before each of these arrays, where k come before the first
  abbrev count_at : ℕ → List ℕ → ℕ → ℕ
  count_at k [] n = k
  count_at k (a ∷ rest) zero = k
  count_at k (a ∷ rest) (suc n) = count_at (count_behind (setting_of p) k a (maker_at p.arrays a)) rest n

  count_more : (k n : ℕ) (numbers : List ℕ) → n < length numbers
      → count_at k numbers (suc n) ≡ count_behind (setting_of p) (count_at k numbers n) (get_or numbers n 0) (maker_at p.arrays (get_or numbers n 0))
  count_more k n [] h = absurd (omega arith)
  count_more k zero (a ∷ []) h = refl
  count_more k zero (a ∷ (b ∷ rest)) h = refl
  count_more k (suc n) (a ∷ rest) h = count_more (count_behind (setting_of p) k a (maker_at p.arrays a)) n rest (omega arith)

  stands : (k n : ℕ) (numbers : List ℕ) → n < length numbers
      → array_at (remaining_arrays (setting_of p) ops k numbers) n ≡ remaining_array (setting_of p) ops (count_at k numbers n) (get_or numbers n 0) (maker_at p.arrays (get_or numbers n 0))
  stands k n [] h = absurd (omega arith)
  stands k zero (a ∷ rest) h = refl
  stands k (suc n) (a ∷ rest) h = stands (count_behind (setting_of p) k a (maker_at p.arrays a)) n rest (omega arith)

  -- counted among the arrays that are left
  same_behind : (q : PlanView) (k a b : ℕ) (m n : Option ℕ) → ((m ≡ None) × (n ≡ None)) ⊎ ((m ≢ None) × (n ≢ None)) → (b == q.out) ≡ (a == p.out)
      → count_behind (setting_of q) k b n ≡ count_behind (setting_of p) k a m
  same_behind q k a b None None h e = refl
  same_behind q k a b None (Some n) (inl h) e = let x = h.1 in cc
  same_behind q k a b None (Some n) (inr h) e = absurd (h.0 refl)
  same_behind q k a b (Some m) None (inl h) e = let x = h.0 in cc
  same_behind q k a b (Some m) None (inr h) e = absurd (h.1 refl)
  same_behind q k a b (Some m) (Some n) h e = λ i. if e i then k else (k + 1)

  both_made : (c a : ℕ) (m : Option ℕ) → ((m ≡ None) × (maker_at p.arrays a ≡ m)) ⊎ (m ≢ None) → ((m ≡ None) × ((remaining_array (setting_of p) ops c a m).maker ≡ None)) ⊎ ((m ≢ None) × ((remaining_array (setting_of p) ops c a m).maker ≢ None))
  both_made c a None (inl h) = inl (refl, h.1)
  both_made c a None (inr h) = absurd (h refl)
  both_made c a (Some m) h = inr ((λ e. cc), (λ e. cc))

  decided : (m : Option ℕ) (a : ℕ) → maker_at p.arrays a ≡ m → ((m ≡ None) × (maker_at p.arrays a ≡ m)) ⊎ (m ≢ None)
  decided None a e = inl (refl, e)
  decided (Some m) a e = inr (λ h. cc)

  module _ (out_left : Contains (remaining_numbers p.arrays ops) p.out) where
    abbrev N : List ℕ
    N = remaining_numbers p.arrays ops

    abbrev q : PlanView
    q = closed (setting_of p) ops

    old : ℕ → ℕ
    old b = get_or (remaining_numbers p.arrays ops) b 0

    at_out : slice_get N (new_number (setting_of p) ops p.out) ≡ Some p.out
    at_out = placed p ops p.out out_left

    same_out : (b : ℕ) → b < length N → (b == new_number (setting_of p) ops p.out) ≡ (get_or N b 0 == p.out)
    same_out b h = elim (eqb_tells b (new_number (setting_of p) ops p.out)) [
      | inl t ↦ elim (eqb_tells (get_or N b 0) p.out) [
        | inl u ↦ t.0 ∙ sym u.0
        | inr u ↦ absurd (u.1 (ap (λ (n : ℕ). get_or N n 0) t.1 ∙ get_or_from_slice_get N (new_number (setting_of p) ops p.out) p.out 0 at_out))
      ]
      | inr t ↦ elim (eqb_tells (get_or N b 0) p.out) [
        | inl u ↦ absurd (t.1 (left_once ops 0 p.arrays b (new_number (setting_of p) ops p.out) p.out (slice_get-get_or N b 0 h ∙ ap Some u.1) at_out))
        | inr u ↦ t.0 ∙ sym u.0
      ]
    ]

    counts : (b : ℕ) → b ≤ length N → others_before q b ≡ count_at 0 N b
    counts zero h = start N
      where
        start : (numbers : List ℕ) → 0 ≡ count_at 0 numbers 0
        start [] = refl
        start (a ∷ rest) = refl
    counts (suc b) h =
        let within : b < length N = omega arith in
        let before = counts b (omega arith) in
        let a : ℕ = get_or N b 0 in
        let is = stands 0 b N within in
        ap (λ (k : ℕ). count_behind (setting_of q) k b (maker_at q.arrays b)) before
        ∙ ap (λ (x : ArrayInfo). count_behind (setting_of q) (count_at 0 N b) b x.maker) is
        ∙ same_behind q (count_at 0 N b) a b (maker_at p.arrays a) (remaining_array (setting_of p) ops (count_at 0 N b) a (maker_at p.arrays a)).maker
        (both_made (count_at 0 N b) a (maker_at p.arrays a) (decided (maker_at p.arrays a) a refl)) (same_out b within)
        ∙ sym (count_more 0 b N within)

    pub names_left : HasMadeNames p → HasMadeNames q
    names_left names = record {
      named = subst IsArrayName (sym (output_name p ops out_left)) names.named;
      others = λ b h made other.
          let l = length-left p ops 0 N in
          let within : b < length N = omega (arith, l, h) in
          let a : ℕ = get_or N b 0 in
          let is = stands 0 b N within in
          let was = made_was p ops (count_at 0 N b) a (λ none. made (ap (λ (x : ArrayInfo). x.maker) is ∙ none)) in
          let differs : a ≢ p.out = (λ e. other (left_once ops 0 p.arrays b (new_number (setting_of p) ops p.out) p.out (slice_get-get_or N b 0 within ∙ ap Some e) at_out)) in
          ap (λ (x : ArrayInfo). x.prefix) is ∙ prefix_of_other p ops (count_at 0 N b) a (was, differs)
          ∙ (λ i. made_prefix_of (sym (output_name p ops out_left) i) (sym (counts b (omega (arith, within))) i));
    }
