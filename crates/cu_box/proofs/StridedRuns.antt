-- A run of elements as a copy along strides.
use Rattle.std.proofs.Common.{◌≡◌, ◌≢◌, inl, inr, ℕ, ◌+◌, ◌-◌, ◌*◌, ◌<◌, ◌≤◌, List, [], ◌∷◌, ◌++◌, length, take, drop, refl, sym, ap, ◌∙◌, subst, arith}
use Rattle.std.proofs.Math.Nat.{mul-le-mul_right}
use Rattle.std.proofs.lemmas.Bool.{cases_lt}
use Rattle.std.proofs.lemmas.List.{length-take-le, length-drop}
use Rattle.cu_num.specs.Element.{in_order}
use Rattle.cu_num.specs.declared.layout.Endian.{Endian}
use Rattle.cu_shape.specs.Index.{IsInside}
use Rattle.cu_box.specs.Order.{part_at, IsReordered}
use Rattle.cu_box.specs.Strided.{up, down, read_place, written_place, counts, HavePlaces, IsStridedCopy}
use Rattle.cu_box.specs.StridedSteps.{IsDenseAxis}
use Rattle.cu_box.specs.declared.strides.Axis.{Axis}
use Rattle.cu_box.specs.declared.strides.Start.{Start}
use Rattle.cu_box.specs.declared.strides.Stride.TheVariants.{Up}
use Rattle.cu_box.proofs.PartRuns.{run_written, written_form, part_of_run, part_inside, part_below, part_above, length-run_written, reordered_part, reordered_length}
use Rattle.cu_box.proofs.StridedAxes.{copied_as, same_without, same_sym}

-- an index of a dense axis stands so many places behind the first one
dense_place : (first j u d : ℕ) → u ≡ 1 → d ≡ 0 → first + (j * u + 0) - (j * d + 0) ≡ first + j
dense_place first j u d e f =
    let x : j * u ≡ j * 1 = ap (λ n. j * n) e in
    let y : j * d ≡ j * 0 = ap (λ n. j * n) f in
    omega (arith, x, y)

pub dense_read : (a : Axis) (start : Start) (j : ℕ) → IsDenseAxis a → read_place (a ∷ []) start (j ∷ []) ≡ start.from + j
dense_read a start j d = dense_place start.from j (up a.from) (down a.from) (ap up d.read) (ap down d.read)

pub dense_written : (a : Axis) (start : Start) (j : ℕ) → IsDenseAxis a → written_place (a ∷ []) start (j ∷ []) ≡ start.to + j
dense_written a start j d = dense_place start.to j (up a.to) (down a.to) (ap up d.written) (ap down d.written)

end_of : (size first n place end : ℕ) → 0 < n → place ≡ first + (n - 1) → place * size + size ≤ end → first * size + n * size ≤ end
end_of size first n place end some e b =
    let whole : place * size + size ≡ first * size + n * size =
    ap (λ x. x * size + size) e ∙ (let p : n ≡ n - 1 + 1 = omega (arith, some) in let q : n * size ≡ (n - 1) * size + size = ap (λ x. x * size) p ∙ omega arith in omega (arith, q)) in
    omega (arith, whole, b)

-- a run lies in both buffers
pub dense_fits : (size : ℕ) (a : Axis) (start : Start) (source target : ℕ) → HavePlaces size (a ∷ []) start source target → IsDenseAxis a → 0 < a.count
    → (start.from * size + a.count * size ≤ source) × (start.to * size + a.count * size ≤ target)
dense_fits size a start source target p d some =
    let h : IsInside (counts (a ∷ [])) ((a.count - 1) ∷ []) = (omega (arith, some), tt) in (
      end_of size start.from a.count (read_place (a ∷ []) start ((a.count - 1) ∷ [])) source some (dense_read a start (a.count - 1) d) (p.reads ((a.count - 1) ∷ []) h),
      end_of size start.to a.count (written_place (a ∷ []) start ((a.count - 1) ∷ [])) target some (dense_written a start (a.count - 1) d) (p.writes ((a.count - 1) ∷ []) h),
    )

module _ (size : ℕ) (e : Endian) (a : Axis) (start : Start) (source before run : List ℕ) (dense : IsDenseAxis a)
    (source_fits : start.from * size + a.count * size ≤ length source) (target_fits : start.to * size + a.count * size ≤ length before)
    (order : IsReordered e size (take (a.count * size) (drop (start.from * size) source)) run) where
  abbrev after : List ℕ
  after = run_written size a.count before start.to run

  taken_long : length (take (a.count * size) (drop (start.from * size) source)) ≡ a.count * size
  taken_long = length-take-le (a.count * size) (drop (start.from * size) source) (rw (length-drop (start.from * size) source) (omega (arith, source_fits)))

  run_long : length run ≡ a.count * size
  run_long = reordered_length e size (take (a.count * size) (drop (start.from * size) source)) run order ∙ taken_long

  run_part : (j : ℕ) → j < a.count → part_at size run j ≡ in_order e (part_at size source (start.from + j))
  run_part j b =
      let far : (j + 1) * size ≤ a.count * size = mul-le-mul_right size (let l : j + 1 ≤ a.count = omega (arith, b) in l) in
      let one_more : (j + 1) * size ≡ j * size + size = omega arith in
      reordered_part e size j (take (a.count * size) (drop (start.from * size) source)) run order (rw taken_long (omega (arith, far, one_more)))
      ∙ ap (in_order e) (part_of_run size start.from a.count j source b)

  copied_at : (i : List ℕ) → IsInside (counts (a ∷ [])) i → part_at size after (written_place (a ∷ []) start i) ≡ in_order e (part_at size source (read_place (a ∷ []) start i))
  copied_at [] h = absurd h
  copied_at (j ∷ k ∷ ks) h = absurd h.1
  copied_at (j ∷ []) h =
      ap (part_at size after) (dense_written a start j dense)
      ∙ part_inside size a.count start.to j before run h.0 run_long target_fits ∙ run_part j h.0
      ∙ ap (λ p. in_order e (part_at size source p)) (sym (dense_read a start j dense))

  kept_at : (q : ℕ) → ((i : List ℕ) → IsInside (counts (a ∷ [])) i → written_place (a ∷ []) start i ≢ q) → part_at size after q ≡ part_at size before q
  kept_at q off =
      elim (cases_lt q start.to) [
        | inl less ↦ part_below size a.count start.to q before run less target_fits
        | inr more ↦ elim (cases_lt q (start.to + a.count)) [
          | inl within ↦ absurd (off ((q - start.to) ∷ []) (omega (arith, more, within), tt) (dense_written a start (q - start.to) dense ∙ omega (arith, more)))
          | inr past ↦ part_above size a.count start.to q before run past run_long target_fits
        ]
      ]

  pub run_copied : IsStridedCopy size e (a ∷ []) start source before (run_written size a.count before start.to run)
  run_copied = record {
    same_length = length-run_written size a.count start.to before run run_long target_fits;
    copied = copied_at;
    others = kept_at;
  }

-- one element is a run
abbrev one_element : Axis
one_element = record { count = 1; from = Up 1; to = Up 1 }

pub element_copied : (size : ℕ) (e : Endian) (start : Start) (source before run : List ℕ)
    → start.from * size + 1 * size ≤ length source → start.to * size + 1 * size ≤ length before
    → IsReordered e size (take (1 * size) (drop (start.from * size) source)) run
    → IsStridedCopy size e [] start source before (run_written size 1 before start.to run)
element_copied size e start source before run s t order =
    copied_as size e [] (one_element ∷ []) start source before (run_written size 1 before start.to run) (same_sym (one_element ∷ []) [] (same_without one_element [] refl))
    (run_copied size e one_element start source before run (record { read = refl; written = refl }) s t order)

-- the same for what `copy_run` says
module _ (size : ℕ) (e : Endian) (start : Start) (source before after : List ℕ) (bytes : ℕ) (run : List ℕ)
    (order : IsReordered e size (take bytes (drop (start.from * size) source)) run)
    (written : after ≡ take (start.to * size) before ++ (run ++ drop (start.to * size + bytes) before)) where
  as_run : (n : ℕ) → bytes ≡ n * size → after ≡ run_written size n before start.to run
  as_run n b = written ∙ ap (λ x. take (start.to * size) before ++ (run ++ drop (start.to * size + x) before)) b ∙ written_form size n start.to before run

  in_elements : (n : ℕ) → bytes ≡ n * size → IsReordered e size (take (n * size) (drop (start.from * size) source)) run
  in_elements n b = subst (λ (x : ℕ). IsReordered e size (take x (drop (start.from * size) source)) run) b order

  pub run_is_copied : (a : Axis) → IsDenseAxis a → bytes ≡ a.count * size → start.from * size + a.count * size ≤ length source → start.to * size + a.count * size ≤ length before
      → IsStridedCopy size e (a ∷ []) start source before after
  run_is_copied a dense b s t =
      subst (λ (x : List ℕ). IsStridedCopy size e (a ∷ []) start source before x) (sym (as_run a.count b)) (run_copied size e a start source before run dense s t (in_elements a.count b))

  pub element_is_copied : bytes ≡ size → start.from * size + size ≤ length source → start.to * size + size ≤ length before → IsStridedCopy size e [] start source before after
  element_is_copied b s t =
      let one : bytes ≡ 1 * size = omega (arith, b) in
      subst (λ (x : List ℕ). IsStridedCopy size e [] start source before x) (sym (as_run 1 one))
      (element_copied size e start source before run (omega (arith, s)) (omega (arith, t)) (in_elements 1 one))
