-- A copy joined with the one that made its source: it fits, copies the same elements, and has no more
-- tasks than both.
use Rattle.std.proofs.Common.{◌≡◌, inl, inr, ℕ, zero, suc, ◌*◌, ◌<◌, ◌^◌, ◌==◌, not, nat_le, true, List, [], ◌∷◌, ◌++◌, All, Contains, length, refl, ap, sym, ◌∙◌, subst, arith, ⊎_elim}
use Rattle.std.specs.List.{list_any}
use Rattle.std.proofs.lemmas.Bool.{and_parts, cases_Bool, leb-true}
use Rattle.cu_num.specs.Dtype.{size_of}
use Rattle.cu_num.specs.declared.types.Dtype.{Dtype}
use Rattle.cu_num.specs.Element.{IsSize}
use Rattle.cu_num.proofs.Bytes.{IsSize-size_of}
use Rattle.cu_shape.specs.Counts.{at_least_one}
use Rattle.cu_shape.specs.Index.{product, IsInside}
use Rattle.cu_rechunk.specs.Stages.{consolidated, write_sizes}
use Rattle.cu_grid.specs.Grid.{RegularGrid, IsGrid}
use Rattle.cu_op.specs.Arrays.{array_at, grid_at, no_array, type_at}
use Rattle.cu_op.specs.Elements.{Elements}
use Rattle.cu_op.specs.Value.{rule}
use Rattle.cu_op.specs.Kind.Copy.{CopyFits}
use Rattle.cu_op.specs.Layout.{IsArray}
use Rattle.cu_op.specs.Operation.{reads_of, target_of, writes_of, Fits}
use Rattle.cu_op.specs.declared.operation.Op.{Op}
use Rattle.cu_op.specs.declared.operation.Op.TheVariants.{Copy}
use Rattle.cu_op.specs.declared.operation.Planned.{Planned}
use Rattle.cu_op.proofs.Members.{any_contains, contains_any}
use Rattle.cu_fuse.specs.Copies.{are_copies, copied_array, copy_sources, has_few_tasks, has_region, is_copy_op, is_one_pass, joined_copies, joint_copy, joint_copy_op, joint_region, least_between, may_join, most_bytes}
use Rattle.cu_fuse.specs.Fused.{SettingView, has_one_reader, is_between, is_reader, stands_once}
use Rattle.cu_op.specs.Numbers.{stands_in}
use Rattle.cu_fuse.specs.Runs.{AreMade, CanRun, HasReader, IsAtHand, IsMade, IsNew}
use Rattle.cu_fuse.specs.Together.{put_together, Joining}
use Rattle.cu_fuse.specs.Least.{least_region}
use Rattle.cu_fuse.proofs.LeastSizes.{IsJointRegion, cut_same, joint_kept, least_kept}
use Rattle.cu_fuse.proofs.PutTogether.{Taken, taken_keep, taken_step}
use Rattle.cu_fuse.proofs.Replacing.{IsInPlace, replaced_made, replaced_runs}
use Rattle.cu_fuse.proofs.Running.{run_parts}

some_size : (n : ℕ) → IsSize n → 0 < n
some_size n (inl e) = omega arith
some_size n (inr (inl e)) = omega arith
some_size n (inr (inr (inl e))) = omega arith
some_size n (inr (inr (inr e))) = omega arith

some_bytes : (t : Dtype) → 0 < size_of t
some_bytes t = some_size (size_of t) (IsSize-size_of t)

-- ---- it fits

module _ (s : SettingView) (first second : List ℕ) (source mid out : ℕ) (from : IsArray (array_at s.arrays source)) (to : IsArray (array_at s.arrays out))
    (one : CopyFits s.arrays first source mid) (two : CopyFits s.arrays second mid out) (has : has_region s source out ≡ true) where
  shapes : (grid_at s.arrays source).shape ≡ (grid_at s.arrays out).shape
  shapes = one.shape ∙ two.shape

  tests : (nat_le (product (at_least_one (grid_at s.arrays out).shape)) (2 ^ 40) ≡ true)
      × (nat_le (product (least_between s.arrays source out) * size_of (type_at s.arrays out)) (most_bytes s) ≡ true)
  tests = and_parts (nat_le (product (at_least_one (grid_at s.arrays out).shape)) (2 ^ 40))
      (nat_le (product (least_between s.arrays source out) * size_of (type_at s.arrays out)) (most_bytes s)) has

  region : IsJointRegion (grid_at s.arrays out).shape (grid_at s.arrays out).chunk (joint_region s source out)
  region =
      joint_kept (grid_at s.arrays out).shape (grid_at s.arrays source).chunk (grid_at s.arrays out).chunk (size_of (type_at s.arrays out)) (most_bytes s)
      (from.grid.ranks ∙ ap length shapes) to.grid.ranks from.grid.positive to.grid.positive (some_bytes (type_at s.arrays out))
      (leb-true (product (least_between s.arrays source out) * size_of (type_at s.arrays out)) (most_bytes s) tests.1)

  pub joint_fits : CopyFits s.arrays (joint_region s source out) source out
  joint_fits = record {
    shape = shapes;
    types = one.types ∙ two.types;
    regions = record {
      ranks = region.ranks;
      short = to.grid.short;
      positive = region.positive;
      elements = to.grid.elements;
      chunk_elements = (
          let few = leb-true (product (at_least_one (grid_at s.arrays out).shape)) (2 ^ 40) tests.0 in
          let less = region.elements in
          omega (arith, few, less)
          );
    };
    nested = record { shape = refl; axes = region.target };
  }

-- the region is the one in which a copy from chunks of the least size to such chunks is written
pub region_is : (from to : RegularGrid) → IsGrid from → IsGrid to → from.shape ≡ to.shape → (sizes : List ℕ) (most : ℕ) → sizes ≡ least_region to.shape from.chunk to.chunk
    → write_sizes to.shape sizes most ≡ consolidated most 1 to.shape (least_region to.shape from.chunk to.chunk) to.shape
region_is from to f t same sizes most e =
    let k = least_kept to.shape from.chunk to.chunk (f.ranks ∙ ap length same) t.ranks f.positive t.positive in
    ap (λ (l : List ℕ). write_sizes to.shape l most) e
    ∙ ap (λ (l : List ℕ). consolidated most 1 to.shape l to.shape) (cut_same to.shape (least_region to.shape from.chunk to.chunk) k.within)

-- ---- what the tests say

pub record IsTold (s : SettingView) (maker reader : Planned) (behind : List Planned) (a : ℕ) : Type 0 where
  pub makes : is_copy_op maker.op ≡ true
  pub takes : is_copy_op reader.op ≡ true
  pub between : not (a == s.out) ≡ true
  pub read : stands_in (reads_of reader.op) a ≡ true
  pub alone : not (list_any (is_reader a) behind) ≡ true
  pub region : has_region s (copied_array maker.op) (target_of reader.op) ≡ true
  pub tasks : has_few_tasks s maker reader ≡ true
  pub allowed : nat_le (joint_copy s maker reader).projected s.allowed ≡ true

pub told : (s : SettingView) (maker reader : Planned) (behind : List Planned) (a : ℕ) → may_join s maker reader behind a ≡ true → IsTold s maker reader behind a
told s maker reader behind a may =
    let p1 = and_parts (are_copies maker reader) _ may in
    let p2 = and_parts (is_between s a) _ p1.1 in
    let p3 = and_parts (has_one_reader reader behind a) (is_one_pass s maker reader) p2.1 in
    let kinds = and_parts (is_copy_op maker.op) (is_copy_op reader.op) p1.0 in
    let one = and_parts (stands_once (reads_of reader.op) a) (not (list_any (is_reader a) behind)) p3.0 in
    let once = and_parts (stands_in (reads_of reader.op) a) _ one.0 in
    let pass = and_parts (has_region s (copied_array maker.op) (target_of reader.op)) _ p3.1 in
    let rest = and_parts (has_few_tasks s maker reader) (nat_le (joint_copy s maker reader).projected s.allowed) pass.1 in
    record {
      makes = kinds.0;
      takes = kinds.1;
      between = p2.0;
      read = once.0;
      alone = one.1;
      region = pass.0;
      tasks = rest.0;
      allowed = rest.1;
    }

copy_is : (op : Op) → is_copy_op op ≡ true → (region : List ℕ) × (source : ℕ) × (out : ℕ) × (op ≡ Copy region source out)
copy_is (Copy region source out) h = (region, source, out, refl)
copy_is op h = cc

only_one : (x y : ℕ) → Contains (x ∷ []) y → y ≡ x
only_one x y (zero, l, e) = sym e
only_one x y (suc k, l, e) = absurd (omega arith)

itself : (x : ℕ) → Contains (x ∷ []) x
itself x = (0, omega arith, refl)

-- two copies, one of which copies what the other made
pub record AreCopies (maker reader : Planned) (a : ℕ) : Type 0 where
  pub first : List ℕ
  pub second : List ℕ
  pub source : ℕ
  pub out : ℕ
  pub makes : maker.op ≡ Copy first source a
  pub takes : reader.op ≡ Copy second a out

pub copies_are : (maker reader : Planned) (a : ℕ) → is_copy_op maker.op ≡ true → is_copy_op reader.op ≡ true → stands_in (writes_of maker.op) a ≡ true → stands_in (reads_of reader.op) a ≡ true → AreCopies maker reader a
copies_are maker reader a m t w r =
    let (first, source, mid, makes) = copy_is maker.op m in
    let (second, read, out, takes) = copy_is reader.op t in
    let one : a ≡ mid = only_one mid a (subst (λ (o : Op). Contains (writes_of o) a) makes (any_contains (writes_of maker.op) a w)) in
    let two : a ≡ read = only_one read a (subst (λ (o : Op). Contains (reads_of o) a) takes (any_contains (reads_of reader.op) a r)) in
    record {
      first = first;
      second = second;
      source = source;
      out = out;
      makes = makes ∙ ap (Copy first source) (sym one);
      takes = takes ∙ ap (λ b. Copy second b out) (sym two);
    }

-- ---- it does what both do

module _ (s : SettingView) (maker reader : Planned) (behind : List Planned) (a : ℕ) (t : IsTold s maker reader behind a) (c : AreCopies maker reader a) where
  pub joint_is : (joint_copy s maker reader).op ≡ Copy (joint_region s c.source c.out) c.source c.out
  joint_is = λ i. joint_copy_op s (c.makes i) (c.takes i)

  has : has_region s c.source c.out ≡ true
  has = (λ i. has_region s (copied_array (sym c.makes i)) (target_of (sym c.takes i))) ∙ t.region

  pub joint_writes : writes_of (joint_copy s maker reader).op ≡ writes_of reader.op
  joint_writes = ap writes_of joint_is ∙ sym (ap writes_of c.takes)

  pub in_place : s.allowed < 2 ^ 64 → IsArray (array_at s.arrays c.source) → IsArray (array_at s.arrays c.out) → IsInPlace s.arrays s.reserved a maker reader (joint_copy s maker reader)
  in_place few from to = record {
    makes = λ b w. only_one a b (subst (λ (o : Op). Contains (writes_of o) b) c.makes w);
    writes = joint_writes;
    reads = λ b h. inl (subst (λ (o : Op). Contains (reads_of o) b) (sym c.makes) (subst (λ (o : Op). Contains (reads_of o) b) joint_is h));
    fits = λ m r. subst (Fits s.arrays) (sym joint_is)
        (joint_fits s c.first c.second c.source a c.out from to (subst (Fits s.arrays) c.makes m) (subst (Fits s.arrays) c.takes r) has);
    value = λ m r at own reads. value r at own reads;
    projected = refl;
    room = (let l = leb-true (joint_copy s maker reader).projected s.allowed t.allowed in omega (arith, l, few));
  }
    where
      value : Fits s.arrays reader.op → (at : Elements) → IsMade s.arrays at maker → IsMade s.arrays at reader → IsMade s.arrays at (joint_copy s maker reader)
      value r at own reads b idx w inside =
          let two : CopyFits s.arrays c.second a c.out = subst (Fits s.arrays) c.takes r in
          let same : b ≡ c.out = only_one c.out b (subst (λ (o : Op). Contains (writes_of o) b) joint_is w) in
          let here : IsInside (grid_at s.arrays c.out).shape idx = subst (λ (d : ℕ). IsInside (grid_at s.arrays d).shape idx) same inside in
          let there : IsInside (grid_at s.arrays a).shape idx = subst (λ (sh : List ℕ). IsInside sh idx) (sym two.shape) here in
          let by_maker : at a idx ≡ at c.source idx =
          own a idx (subst (λ (o : Op). Contains (writes_of o) a) (sym c.makes) (itself a)) there ∙ ap (λ (o : Op). rule o s.arrays at a idx) c.makes in
          let by_reader : at c.out idx ≡ at a idx =
          reads c.out idx (subst (λ (o : Op). Contains (writes_of o) c.out) (sym c.takes) (itself c.out)) here ∙ ap (λ (o : Op). rule o s.arrays at c.out idx) c.takes in
          ap (λ (d : ℕ). at d idx) same ∙ by_reader ∙ by_maker ∙ sym (ap (λ (o : Op). rule o s.arrays at b idx) joint_is)

-- ---- what becomes of the list

pub no_reader : (os : List Planned) (a : ℕ) → not (list_any (is_reader a) os) ≡ true → HasReader os a → ⊥
no_reader [] a h r = r
no_reader (o ∷ os) a h (inl here) =
    let t = contains_any (reads_of o.op) a here in
    let u : not true ≡ true = rw t at h in cc
no_reader (o ∷ os) a h (inr there) = elim (cases_Bool (is_reader a o)) [
  | inl t ↦ let u : not true ≡ true = rw t at h in cc
  | inr f ↦ no_reader os a (rw f at h) there
]

abbrev pub joining : SettingView → Joining
joining s maker reader a = joint_copy s maker reader

abbrev pub TakenCopy : SettingView → ℕ → List Planned → List Planned → Type 0
TakenCopy s a old new = Taken (may_join s) (joining s) a old new

pub told_of : (s : SettingView) (a : ℕ) (old new : List Planned) (t : TakenCopy s a old new) → IsTold s t.maker t.reader t.behind a
told_of s a old new t = told s t.maker t.reader t.behind a t.told

pub copies_of : (s : SettingView) (a : ℕ) (old new : List Planned) (t : TakenCopy s a old new) → AreCopies t.maker t.reader a
copies_of s a old new t =
    let is = told_of s a old new t in
    copies_are t.maker t.reader a is.makes is.takes t.writes is.read

module _ (s : SettingView) (arrays : All IsArray s.arrays) (room : s.allowed < 2 ^ 64) (a : ℕ) (old new : List Planned) (t : TakenCopy s a old new) where
  array_is : (b : ℕ) → b < length s.arrays → IsArray (array_at s.arrays b)
  array_is b h = arrays b no_array h

  placed : CanRun s.arrays s.reserved [] old → IsInPlace s.arrays s.reserved a t.maker t.reader (joint_copy s t.maker t.reader)
  placed run =
      let c = copies_of s a old new t in
      let split = run_parts s.arrays s.reserved [] t.front (t.maker ∷ (t.between ++ (t.reader ∷ t.behind))) (subst (CanRun s.arrays s.reserved []) t.before run) in
      let parts = run_parts s.arrays s.reserved (t.front ++ t.maker ∷ []) t.between (t.reader ∷ t.behind) split.1.1 in
      let from : c.source < length s.arrays = (subst (λ (o : Op). All (IsAtHand s.arrays t.front) (reads_of o)) c.makes split.1.0.reads 0 0 (omega arith)).0 in
      let to : c.out < length s.arrays = (subst (λ (o : Op). All (IsNew s.arrays ((t.front ++ t.maker ∷ []) ++ t.between)) (writes_of o)) c.takes parts.1.0.writes 0 0 (omega arith)).0 in
      in_place s t.maker t.reader t.behind a (told_of s a old new t) c room (array_is c.source from) (array_is c.out to)

  pub copy_runs : CanRun s.arrays s.reserved [] old → CanRun s.arrays s.reserved [] new
  copy_runs run =
      let is = told_of s a old new t in
      subst (CanRun s.arrays s.reserved []) (sym t.after)
      (replaced_runs s.arrays s.reserved a t.front t.between t.behind t.maker t.reader (joint_copy s t.maker t.reader) t.apart (no_reader t.behind a is.alone) (placed run)
      (subst (CanRun s.arrays s.reserved []) t.before run))

  pub copy_made : CanRun s.arrays s.reserved [] old → (at : Elements) → AreMade s.arrays at old → AreMade s.arrays at new
  copy_made run at made =
      let is = told_of s a old new t in
      subst (AreMade s.arrays at) (sym t.after)
      (replaced_made s.arrays s.reserved a t.front t.between t.behind t.maker t.reader (joint_copy s t.maker t.reader) t.apart (no_reader t.behind a is.alone) (placed run)
      (subst (CanRun s.arrays s.reserved []) t.before run) at (subst (AreMade s.arrays at) t.before made))

-- one array after another
module _ (s : SettingView) (arrays : All IsArray s.arrays) (room : s.allowed < 2 ^ 64) where
  pub one_runs : (a : ℕ) (ops : List Planned) → CanRun s.arrays s.reserved [] ops → CanRun s.arrays s.reserved [] (put_together (may_join s) (joining s) a ops)
  one_runs a ops run =
      ⊎_elim (λ same. subst (CanRun s.arrays s.reserved []) (sym same) run)
      (λ t. copy_runs s arrays room a ops (put_together (may_join s) (joining s) a ops) t run)
      (taken_step (may_join s) (joining s) a ops)

  pub joined_runs : (ops : List Planned) (at : Elements) → CanRun s.arrays s.reserved [] ops → AreMade s.arrays at ops
      → CanRun s.arrays s.reserved [] (joined_copies s ops) × AreMade s.arrays at (joined_copies s ops)
  joined_runs ops at run made =
      taken_keep (may_join s) (joining s) (λ l. CanRun s.arrays s.reserved [] l × AreMade s.arrays at l)
      (λ a old new t (r, m). (copy_runs s arrays room a old new t r, copy_made s arrays room a old new t r at m))
      (copy_sources ops) ops (run, made)
