-- What the steps of a node come to whatever arrays its arguments have, and those of a node with copies.
use Rattle.std.proofs.Common.{◌≡◌, ◌≢◌, ℕ, ◌<◌, ◌≤◌, ◌+◌, ◌*◌, ◌^◌, Bool, true, false, List, [], ◌∷◌, ◌++◌, All, filter, length, Option, None, Some, sum_by, refl, ap, sym, ◌∙◌, subst, inr, arith}
use Rattle.std.proofs.lemmas.List.{append_assoc, length-append}
use Rattle.std.proofs.lemmas.List.Elements.{All-append, All-cons, All-nil, All-weaker}
use Rattle.std.proofs.lemmas.List.Sums.{count_by-le-length, length-filter, sum_by-append, sum_by-cons}
use Rattle.cu_copy.specs.Chunks.{chunk_count}
use Rattle.cu_copy.specs.Copies.{is_misaligned, max_mem, rechunk_cells, rechunk_tasks, rechunked}
use Rattle.cu_copy.specs.declared.copies.Rechunk.{Rechunk}
use Rattle.cu_grid.specs.Grid.{IsGrid}
use Rattle.cu_op.specs.declared.operation.Op.{Op}
use Rattle.cu_form.specs.declared.form.Form.{Form}
use Rattle.cu_node.specs.Info.{IsInfo, info_at}
use Rattle.cu_node.specs.declared.info.NodeInfo.{NodeInfo}
use Rattle.cu_need.specs.Counts.{node_cells, form_cells, form_tasks, node_tasks}
use Rattle.cu_need.specs.Need.{own_need}
use Rattle.cu_need.specs.Operands.{copies_of, operands_of}
use Rattle.cu_need.specs.Outline.{outline_of}
use Rattle.cu_need.proofs.Outlined.{table_most}
use Rattle.cu_tree.specs.Outlines.{outline_arrays, outline_bytes, plain, IsOutline}
use Rattle.cu_tree.specs.Partials.{IsMiddle}
use Rattle.cu_tree.specs.declared.outline.Outlined.{Outlined}
use Rattle.cu_tree.proofs.Middles.{of_info}
use Rattle.cu_lower_reduce.specs.Copies.{aligned_places, aligned_steps, copy_steps, is_copy, AreCopies, AreOperands, IsCopyStep, IsStaged}
use Rattle.cu_lower_reduce.specs.Partials.{IsSetting}
use Rattle.cu_lower_reduce.specs.Steps.{all_made, grid_of, made_infos, step_tasks, with_values, ComeTo}
use Rattle.cu_lower_reduce.specs.declared.copy.CopySetting.{CopySetting}
use Rattle.cu_lower_reduce.specs.declared.step.Step.{Step}
use Rattle.cu_lower_reduce.proofs.Operands.{made_append}
use Rattle.cu_lower.specs.Parts.{behind_copies, copying, is_computed, only_step, setting, CanMakeCopies, Make}
use Rattle.cu_lower.specs.declared.options.Options.{Options}
use Rattle.cu_lower.proofs.OutlinedSteps.{outlined_attain, outlined_few, outlined_made, outlined_needs, outlined_others, outlined_sum, Attain}
use Rattle.cu_lower.proofs.StepLaws.{HaveLaws}

-- ---- the options

-- the options lie in their ranges, and the numbers of the arrays fit
pub record HasRoom (options : Options) (first : ℕ) : Type 0 where
  pub several : 2 ≤ options.split_every
  pub few : options.split_every ≤ 64
  pub reserved : options.reserved ≤ 2 ^ 40
  pub allowed : options.allowed ≤ 2 ^ 40
  pub room : first < 2 ^ 30

-- steps may stand behind a few arrays
pub own_setting : (options : Options) (first next : ℕ) → HasRoom options first → next ≤ first + 16 → IsSetting (setting options next)
own_setting options first next h behind = record { several = h.several; few = h.few; reserved = h.reserved; room = (let r = h.room in omega (arith, r, behind)) }

-- ---- what steps come to

attain_back : (need : ℕ) (xs ys : List Step) → Attain need ys → Attain need (xs ++ ys)
attain_back need [] ys h = h
attain_back need (x ∷ xs) ys h = inr (attain_back need xs ys h)

-- what holds of the steps of a node whatever arrays its arguments have
pub record AreOwn (infos : List NodeInfo) (options : Options) (out k : ℕ) (f : Form) (ss : List Step) : Type 0 where
  pub make : Make (info_at infos k) ss
  pub needs : All (λ s. is_copy s.op ≡ false → s.need ≤ own_need options.reserved options.split_every infos k f) ss
  pub copies : All (λ s. is_copy s.op ≡ true → s.need ≤ options.reserved + 2 * max_mem options.allowed options.reserved) ss
  pub copied : All (λ s. is_copy s.op ≡ true → copies_of infos out k f ≢ []) ss
  pub tasks : sum_by step_tasks ss ≡ node_tasks (max_mem options.allowed options.reserved) options.split_every infos out k f
  pub cells : sum_by chunk_count (all_made ss) ≡ node_cells (max_mem options.allowed options.reserved) options.split_every infos out k f
  pub attained : is_computed f ≡ true → Attain (own_need options.reserved options.split_every infos k f) ss

-- the one step of a node whose operation isn't a copy
pub only_computed : (infos : List NodeInfo) (reserved k bytes need : ℕ) (op : Op) → IsInfo (info_at infos k) → is_copy op ≡ false → need ≡ reserved + bytes
    → ComeTo reserved (plain (info_at infos k) bytes ∷ []) (info_at infos k) (only_step infos k op need)
only_computed infos reserved k bytes need op kept other is = record {
  outlined = ((λ j. record { op = op; values = None; made = info_at infos k; need = is j }, other), tt);
  is_outline = record {
    kept = All-cons IsMiddle (info_at infos k) [] (of_info (info_at infos k) kept) (All-nil IsMiddle);
    ends = ([], refl);
    few = omega arith;
  };
}

-- ---- steps behind copies

made_two : (values : Option NodeInfo) (made : NodeInfo) → length (with_values values made) ≤ 2
made_two None made = omega arith
made_two (Some values) made = omega arith

-- some of the arrays have other chunks than are wanted
pub misaligned_few : (rs : List Rechunk) → length (filter is_misaligned rs) ≤ length rs
misaligned_few rs = let n = length-filter is_misaligned rs in let l = count_by-le-length is_misaligned rs in omega (arith, n, l)

-- a step makes one or two arrays
pub made_few : (ss : List Step) → length (all_made ss) ≤ 2 * length ss
made_few [] = omega arith
made_few (s ∷ ss) = let a = length-append (made_infos s) (all_made ss) in let b = made_two s.values s.made in let c = made_few ss in omega (arith, a, b, c)

join_ends : (xs ys : List Step) (made : NodeInfo) → (rest : List NodeInfo) × (all_made ys ≡ rest ++ made ∷ []) → (rest : List NodeInfo) × (all_made (xs ++ ys) ≡ rest ++ made ∷ [])
join_ends xs ys made (rest, e) = (all_made xs ++ rest, made_append xs ys ∙ ap (λ (is : List NodeInfo). all_made xs ++ is) e ∙ sym (append_assoc (all_made xs) rest (made ∷ [])))

not_both : (b : Bool) (P : Type 0) → b ≡ true → b ≡ false → P
not_both true P h e = absurd (cc e)
not_both false P h e = absurd (cc h)

module _ (infos : List NodeInfo) (options : Options) (out k : ℕ) (f : Form) where
  abbrev most : ℕ
  most = max_mem options.allowed options.reserved

  -- the outline has an operation, since it makes an array
  some_of : (os : List Outlined) → IsOutline (info_at infos k) os → 0 < length os
  some_of [] h = let l = ap length h.ends.1 ∙ length-append h.ends.0 (info_at infos k ∷ []) in absurd (omega (arith, l))
  some_of (o ∷ os) h = omega arith

  pub behind_own : (first : ℕ) (copies own : List Step) → length (copies_of infos out k f) ≤ 3
      → AreCopies (copying options first) (length (copies_of infos out k f)) (sum_by (rechunk_tasks most) (copies_of infos out k f)) (sum_by (rechunk_cells most) (copies_of infos out k f)) copies
      → ComeTo options.reserved (outline_of options.split_every infos k f) (info_at infos k) own → AreOwn infos options out k f (copies ++ own)
  behind_own first copies own few c h =
      let os = outline_of options.split_every infos k f in
      let made = outlined_made options.reserved os own h.outlined in
      let others = outlined_others options.reserved os own h.outlined in
      let table = table_most options.reserved options.split_every k infos f in
      record {
        make = record {
          ends = join_ends copies own (info_at infos k) (h.is_outline.ends.0, made ∙ h.is_outline.ends.1);
          grids = subst (All (λ m. IsGrid (grid_of m))) (sym (made_append copies own))
              (All-append (λ m. IsGrid (grid_of m)) (all_made copies) (all_made own) c.grids
              (subst (All (λ m. IsGrid (grid_of m))) (sym made) (All-weaker IsMiddle (λ m. IsGrid (grid_of m)) (λ m w. w.grid) (outline_arrays os) h.is_outline.kept)));
          few = (let l = length-append copies own in let a = c.few in let b = outlined_few options.reserved os own h.outlined in let d = h.is_outline.few in omega (arith, l, a, b, d, few));
        };
        needs = All-append (λ s. is_copy s.op ≡ false → s.need ≤ own_need options.reserved options.split_every infos k f) copies own
            (All-weaker (IsCopyStep (copying options first)) (λ s. is_copy s.op ≡ false → s.need ≤ own_need options.reserved options.split_every infos k f) (λ s w e. not_both (is_copy s.op) _ w.copy e) copies c.each)
            (All-weaker (λ s. s.need ≤ options.reserved + outline_bytes os) (λ s. is_copy s.op ≡ false → s.need ≤ own_need options.reserved options.split_every infos k f) (λ s w e. omega (arith, w, table)) own
            (outlined_needs options.reserved os own h.outlined));
        copies = All-append (λ s. is_copy s.op ≡ true → s.need ≤ options.reserved + 2 * most) copies own
            (All-weaker (IsCopyStep (copying options first)) (λ s. is_copy s.op ≡ true → s.need ≤ options.reserved + 2 * most) (λ s w e. w.need) copies c.each)
            (All-weaker (λ s. is_copy s.op ≡ false) (λ s. is_copy s.op ≡ true → s.need ≤ options.reserved + 2 * most) (λ s w e. not_both (is_copy s.op) _ e w) own others);
        copied = All-append (λ s. is_copy s.op ≡ true → copies_of infos out k f ≢ []) copies own
            (λ i d below e none. let n = ap length none in let l = c.few in absurd (omega (arith, n, l, below)))
            (All-weaker (λ s. is_copy s.op ≡ false) (λ s. is_copy s.op ≡ true → copies_of infos out k f ≢ []) (λ s w e. not_both (is_copy s.op) _ e w) own others);
        tasks = sum_by-append step_tasks copies own ∙ (λ j. c.tasks_are j + outlined_sum options.reserved os own h.outlined j);
        cells = ap (sum_by chunk_count) (made_append copies own) ∙ sum_by-append chunk_count (all_made copies) (all_made own) ∙ (λ j. c.cells_are j + sum_by chunk_count (made j));
        attained = λ computed. attain_back (own_need options.reserved options.split_every infos k f) copies own
            (subst (λ (n : ℕ). Attain n own) (sym table) (outlined_attain options.reserved os own (some_of os h.is_outline) h.outlined));
      }

  -- of a node without copies
  pub computed_own : (ss : List Step) → copies_of infos out k f ≡ [] → ComeTo options.reserved (outline_of options.split_every infos k f) (info_at infos k) ss → AreOwn infos options out k f ss
  computed_own ss none h =
      behind_own 0 [] ss (let n = ap length none in omega (arith, n)) (record {
        each = All-nil (IsCopyStep (copying options 0));
        few = omega arith;
        grids = All-nil (λ m. IsGrid (grid_of m));
        tasks_are = sym (ap (sum_by (rechunk_tasks most)) none);
        cells_are = sym (ap (sum_by (rechunk_cells most)) none);
      }) h

  -- of a node that is a copy alone
  pub copies_own : (laws : HaveLaws) (first source : ℕ) (r : Rechunk) → IsStaged (copying options first) r → rechunked r ≡ info_at infos k → copies_of infos out k f ≡ r ∷ []
      → form_tasks options.split_every infos k f ≡ 0 → form_cells options.split_every infos k f ≡ 0 → is_computed f ≡ false → AreOwn infos options out k f (copy_steps (copying options first) source r)
  copies_own laws first source r staged made one tasks cells alone =
      let s = copying options first in
      let c = laws.rechunks.sizes (copying options first) source r staged in
      let e = laws.rechunks.ends (copying options first) source r in
      record {
        make = record {
          ends = subst (λ (i : NodeInfo). (rest : List NodeInfo) × (all_made (copy_steps (copying options first) source r) ≡ rest ++ i ∷ [])) made e;
          grids = c.grids;
          few = (let a = c.few in omega (arith, a));
        };
        needs = All-weaker (IsCopyStep (copying options first)) (λ x. is_copy x.op ≡ false → x.need ≤ own_need options.reserved options.split_every infos k f) (λ x w q. not_both (is_copy x.op) _ w.copy q)
            (copy_steps (copying options first) source r) c.each;
        copies = All-weaker (IsCopyStep (copying options first)) (λ x. is_copy x.op ≡ true → x.need ≤ options.reserved + 2 * most) (λ x w q. w.need) (copy_steps (copying options first) source r) c.each;
        copied = All-weaker (IsCopyStep (copying options first)) (λ x. is_copy x.op ≡ true → copies_of infos out k f ≢ []) (λ x w q none. let e : r ∷ [] ≡ [] = sym one ∙ none in cc e) (copy_steps (copying options first) source r) c.each;
        tasks = (let a = c.tasks_are in let b = ap (sum_by (rechunk_tasks most)) one in let d = sum_by-cons (rechunk_tasks most) r [] in omega (arith, a, b, d, tasks));
        cells = (let a = c.cells_are in let b = ap (sum_by (rechunk_cells most)) one in let d = sum_by-cons (rechunk_cells most) r [] in omega (arith, a, b, d, cells));
        attained = λ computed. not_both (is_computed f) _ computed alone;
      }

-- ---- steps that read operands in the chunks that are wanted of them

-- the copies make few arrays
pub copies_few : (laws : HaveLaws) (s : CopySetting) (ins : List ℕ) (rs : List Rechunk) → AreOperands s rs → length ins ≡ length rs → length rs ≤ 3 → s.first + length (all_made (aligned_steps s ins rs)) ≤ s.first + 16
copies_few laws s ins rs can long three =
    let c = laws.operands.sizes s ins rs can long in
    let few = c.few in
    let some = misaligned_few rs in
    let most = made_few (aligned_steps s ins rs) in
    omega (arith, few, some, most, three)

pub operands_own : (laws : HaveLaws) (infos : List NodeInfo) (options : Options) (out k : ℕ) (f : Form) (ins : List ℕ) (first : ℕ) (own : List ℕ → ℕ → List Step)
    → CanMakeCopies infos options k f first → length ins ≡ length (operands_of infos k f) → copies_of infos out k f ≡ filter is_misaligned (operands_of infos k f)
    → ComeTo options.reserved (outline_of options.split_every infos k f) (info_at infos k)
    (own (aligned_places (copying options first) ins (operands_of infos k f)) (first + length (all_made (aligned_steps (copying options first) ins (operands_of infos k f)))))
    → AreOwn infos options out k f (behind_copies (copying options first) ins (operands_of infos k f) own)
operands_own laws infos options out k f ins first own can long same h =
    let s = copying options first in
    let rs = operands_of infos k f in
    let some = misaligned_few rs in
    let few = can.few in
    let is = ap length same in
    behind_own infos options out k f first (aligned_steps s ins rs) (own (aligned_places s ins rs) (first + length (all_made (aligned_steps s ins rs)))) (omega (arith, some, few, is))
    (subst (λ (cs : List Rechunk). AreCopies (copying options first) (length cs) (sum_by (rechunk_tasks (max_mem options.allowed options.reserved)) cs) (sum_by (rechunk_cells (max_mem options.allowed options.reserved)) cs)
    (aligned_steps (copying options first) ins (operands_of infos k f))) (sym same) (laws.operands.sizes s ins rs can.operands long)) h
