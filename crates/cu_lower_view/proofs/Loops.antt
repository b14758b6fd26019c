-- What one more turn of a loop adds.
use Rattle.std.proofs.Common.{◌≡◌, ◌∙◌, ℕ, zero, suc, ◌+◌, ◌-◌, ◌^◌, ◌<◌, ◌≤◌, min, Bool, true, false, List, [], ◌∷◌, ◌++◌, length, map, drop, take, refl, ap, sym, subst, get_or, Option, None, Some, arith}
use Rattle.std.specs.List.{range_with_len}
use Rattle.std.specs.Prelude.{IfNone}
use Rattle.std.proofs.Math.Nat.{pow-succ'}
use Rattle.std.proofs.lemmas.List.{length-append, length-drop, append_assoc, drop-drop, drop_more}
use Rattle.cu_shape.specs.declared.slice.Run.{Run}
use Rattle.cu_node.specs.declared.index_item.IndexItem.{IndexItem}
use Rattle.cu_node.specs.declared.index_item.IndexItem.TheVariants.{At, Slice, New, Ellipsis}
use Rattle.cu_typing_view.specs.Entries.{width_of}
use Rattle.cu_typing_view.proofs.IndexSizes.{drop_min}
use Rattle.cu_lower_view.specs.Axes.{byte_of}
use Rattle.cu_lower_view.specs.Runs.{whole_run, runs_left, index_runs, axis_taken, axes_taken}

pub range_from : (a rank : ℕ) → a < rank → range_with_len a (rank - a) ≡ a ∷ range_with_len (a + 1) (rank - (a + 1))
range_from a rank h = let e : rank - a ≡ suc (rank - (a + 1)) = omega arith in rw e refl

-- a value of one more axis
pub each_more : {X : Type 0} (f : ℕ → X) (all done new : List X) (x : X) (axis rank : ℕ) → axis < rank → all ≡ done ++ map f (range_with_len axis (rank - axis)) → x ≡ f axis → new ≡ done ++ x ∷ []
    → all ≡ new ++ map f (range_with_len (axis + 1) (rank - (axis + 1)))
each_more f all done new x axis rank l a e n =
    let rest = map f (range_with_len (axis + 1) (rank - (axis + 1))) in
    a ∙ (ap (λ r. done ++ map f r) (range_from axis rank l) ∙ (ap (λ y. done ++ y ∷ rest) (sym e) ∙ (sym (append_assoc done (x ∷ []) rest) ∙ ap (λ xs. xs ++ rest) (sym n))))

pub one_longer : {X : Type 0} (done new : List X) (x : X) (k : ℕ) → length done ≡ k → new ≡ done ++ x ∷ [] → length new ≡ k + 1
one_longer done new x k l n = let a = length-append done (x ∷ []) in let b = ap (λ xs. length xs) n in omega arith

-- ---- whole axes

-- the runs of axes from one on up to another
abbrev pub whole_between : ℕ → ℕ → List ℕ → List Run
whole_between axis end sizes = map whole_run (take (end - axis) (drop axis sizes))

pub whole_more : (axis end : ℕ) (sizes : List ℕ) → axis < end → end ≤ length sizes → whole_between axis end sizes ≡ whole_run (get_or sizes axis 0) ∷ whole_between (axis + 1) end sizes
whole_more axis end sizes l within =
    let e : end - axis ≡ suc (end - (axis + 1)) = omega arith in
    ap (λ n. map whole_run (take n (drop axis sizes))) e ∙ ap (λ ns. map whole_run (take (suc (end - (axis + 1))) ns)) (drop_more sizes axis 0 (omega arith))

-- the runs with that of one more axis
pub wholes_more : (all done new : List Run) (run : Run) (axis end : ℕ) (sizes : List ℕ) → axis < end → end ≤ length sizes → all ≡ done ++ whole_between axis end sizes → run ≡ whole_run (get_or sizes axis 0) → new ≡ done ++ run ∷ []
    → all ≡ new ++ whole_between (axis + 1) end sizes
wholes_more all done new run axis end sizes l within a e n =
    let rest = whole_between (axis + 1) end sizes in
    a ∙ (ap (λ r. done ++ r) (whole_more axis end sizes l within) ∙ (ap (λ y. done ++ y ∷ rest) (sym e) ∙ (sym (append_assoc done (run ∷ []) rest) ∙ ap (λ xs. xs ++ rest) (sym n))))

-- six runs and one more are more than six
pub wholes_full : (first done added : List Run) (axis end : ℕ) (sizes : List ℕ) → axis < end → end ≤ length sizes → first ++ added ≡ done ++ whole_between axis end sizes → length done ≡ 6 → 6 < length first + length added
wholes_full first done added axis end sizes l within e six =
    let a = length-append first added in
    let b = length-append done (whole_between axis end sizes) in
    let c = ap (λ xs. length xs) e in
    let d = ap (λ xs. length xs) (whole_more axis end sizes l within) in
    omega arith

pub told_none : {T : Type 0} (o : Option T) (P : Type 0) → P → IfNone o P
told_none (Some x) P p = tt
told_none None P p = p

-- ---- bits

pub byte_below : (n : ℕ) (bits : List Bool) → length bits ≤ n → byte_of bits < 2 ^ n
byte_below zero [] h = omega arith
byte_below zero (b ∷ bits) h = absurd (omega arith)
byte_below (suc n) [] h = let p = pow-succ' 2 n in let i = byte_below n [] (omega arith) in omega arith
byte_below (suc n) (true ∷ bits) h = let p = pow-succ' 2 n in let i = byte_below n bits (omega arith) in omega arith
byte_below (suc n) (false ∷ bits) h = let p = pow-succ' 2 n in let i = byte_below n bits (omega arith) in omega arith

-- ---- the axes that are taken out

-- the axes that are left behind an entry
pub left_behind : (axis width next : ℕ) (sizes : List ℕ) → next ≡ min (axis + width) (length sizes) → drop width (drop axis sizes) ≡ drop next sizes
left_behind axis width next sizes e = drop-drop width axis sizes ∙ (sym (drop_min (axis + width) sizes) ∙ ap (λ n. drop n sizes) (sym e))

taken_within : (more d : ℕ) (item : IndexItem) (ns : List ℕ) → length (axis_taken item d) ≤ length (runs_left more item ns)
taken_within more d (At i) ns = omega arith
taken_within more d (Slice start stop step) ns = omega arith
taken_within more d New ns = omega arith
taken_within more d Ellipsis ns = omega arith

-- what is known of the entries from place k on, where `done` are the axes taken by those before it
pub record Taking (more k axis : ℕ) (items : List IndexItem) (sizes done : List ℕ) : Type 0 where
  pub within : axis ≤ length sizes
  pub few : length done + length (index_runs more (drop k items) (drop axis sizes)) ≤ 6
  pub whole : axes_taken more (length sizes) items sizes ≡ done ++ axes_taken more (length sizes) (drop k items) (drop axis sizes)

pub taking_few : (more k axis : ℕ) (items : List IndexItem) (item : IndexItem) (sizes done : List ℕ) → drop k items ≡ item ∷ drop (k + 1) items → Taking more k axis items sizes done
    → length done + length (axis_taken item axis) ≤ 6
taking_few more k axis items item sizes done at t =
    let few : length done + length (index_runs more (item ∷ drop (k + 1) items) (drop axis sizes)) ≤ 6 = subst (λ (xs : List IndexItem). length done + length (index_runs more xs (drop axis sizes)) ≤ 6) at t.few in
    let a = length-append (runs_left more item (drop axis sizes)) (index_runs more (drop (k + 1) items) (drop (width_of more item) (drop axis sizes))) in
    let w = taken_within more axis item (drop axis sizes) in
    omega arith

pub taking_more : (more k axis next : ℕ) (items : List IndexItem) (item : IndexItem) (sizes done result : List ℕ) → drop k items ≡ item ∷ drop (k + 1) items → Taking more k axis items sizes done
    → next ≡ min (axis + width_of more item) (length sizes) → result ≡ done ++ axis_taken item axis → Taking more (k + 1) next items sizes result
taking_more more k axis next items item sizes done result at t n r =
    let rest = left_behind axis (width_of more item) next sizes n in
    let few : length done + length (index_runs more (item ∷ drop (k + 1) items) (drop axis sizes)) ≤ 6 = subst (λ (xs : List IndexItem). length done + length (index_runs more xs (drop axis sizes)) ≤ 6) at t.few in
    let a = length-append (runs_left more item (drop axis sizes)) (index_runs more (drop (k + 1) items) (drop (width_of more item) (drop axis sizes))) in
    let b = length-append done (axis_taken item axis) in
    let w = taken_within more axis item (drop axis sizes) in
    let l : length result ≡ length done + length (axis_taken item axis) = ap length r ∙ b in
    let f : length (index_runs more (drop (k + 1) items) (drop (width_of more item) (drop axis sizes))) ≡ length (index_runs more (drop (k + 1) items) (drop next sizes)) = ap (λ ns. length (index_runs more (drop (k + 1) items) ns)) rest in
    let d : length sizes - length (drop axis sizes) ≡ axis = let q = length-drop axis sizes in let i = t.within in omega arith in
    let whole : axes_taken more (length sizes) items sizes ≡ done ++ (axis_taken item (length sizes - length (drop axis sizes)) ++ axes_taken more (length sizes) (drop (k + 1) items) (drop (width_of more item) (drop axis sizes))) =
    t.whole ∙ ap (λ is. done ++ axes_taken more (length sizes) is (drop axis sizes)) at in
    record {
      within = omega arith;
      few = omega arith;
      whole =
          whole
          ∙ (ap (λ a. done ++ (axis_taken item a ++ axes_taken more (length sizes) (drop (k + 1) items) (drop (width_of more item) (drop axis sizes)))) d
          ∙ (ap (λ ns. done ++ (axis_taken item axis ++ axes_taken more (length sizes) (drop (k + 1) items) ns)) rest
          ∙ (sym (append_assoc done (axis_taken item axis) (axes_taken more (length sizes) (drop (k + 1) items) (drop next sizes)))
          ∙ ap (λ xs. xs ++ axes_taken more (length sizes) (drop (k + 1) items) (drop next sizes)) (sym r))));
    }
