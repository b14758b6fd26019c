-- What is proved of a pull.
use Rattle.cu_num.proofs.Promoted.{first_in_range}
use Rattle.cu_num.specs.Dtype.{InRange}
use Rattle.cu_num.specs.declared.types.Dtype.{Dtype}
use Rattle.cu_op.proofs.Alike.{same_pulled}
use Rattle.cu_op.proofs.CellsOfTasks.{map_contains}
use Rattle.cu_op.proofs.Kind.{Laws, Stands, ReadsTypes}
use Rattle.cu_op.proofs.NewNumbers.{given_same, grid_same, type_same, shapes_same, all_renumbered, room_same, mapped_itself}
use Rattle.cu_op.proofs.PairRanges.{some_then}
use Rattle.cu_op.proofs.Results.{only_written, differ_only, nested_only, none_given, not_one}
use Rattle.cu_op.proofs.Rooms.{any_room_few}
use Rattle.cu_op.proofs.SameCells.{of_each, whole_same}
use Rattle.cu_op.proofs.WalksOf.{apart_each, own_arrays}
use Rattle.cu_op.proofs.Wholes.{whole_within, whole_over}
use Rattle.cu_op.specs.Arrays.{grid_at, type_at}
use Rattle.cu_op.specs.Chunks.{all_chunks, whole_walk}
use Rattle.cu_op.specs.Kind.Pull.{pull_kind, shapes_at, origin_at, Converts, PullFits, pulled}
use Rattle.cu_op.specs.Elements.{Elements}
use Rattle.cu_op.specs.Walks.{IsWalkOver}
use Rattle.cu_op.specs.declared.layout.ArrayInfo.{ArrayInfo}
use Rattle.cu_origin.proofs.OriginsInside.{inside_sources}
use Rattle.cu_origin.specs.Fits.{FitsPull}
use Rattle.cu_origin.specs.Pull.{origin_of, IsInSources}
use Rattle.cu_origin.specs.declared.provenance.Provenance.{Provenance}
use Rattle.cu_origin.specs.declared.provenance.Provenance.TheVariants.{From, Const as Number}
use Rattle.cu_origin.specs.declared.pull.Pull.{Pull as View}
use Rattle.cu_origin.specs.declared.pull.Pull.TheVariants.{Concat, Stack}
use Rattle.cu_shape.specs.Index.{IsInside}
use Rattle.std.proofs.Common.{◌≡◌, ℕ, List, [], All, Contains, Option, Some, get_or, refl, sym, ◌∙◌, subst, arith, ℤ, map, ap}
use Rattle.std.proofs.lemmas.List.{get_or-map}
use Rattle.std.proofs.lemmas.List.Elements.{All-contains, All-contains_itself, All-map}
use Rattle.std.proofs.lemmas.Option.{same_Some, slice_get_within, get_or_from_slice_get, slice_get-map}
use Rattle.std.specs.List.{slice_get}
use Rattle.std.specs.Option.{option_and_then}
use mathlib.Core.Path.{transport}

-- a view keeps a source's numbers
converted : (pull : View) (from to : Dtype) (x : ℤ) → Converts pull from to → InRange from x → InRange to x
converted (Concat axis) from to x h r = first_in_range from to to h x r
converted (Stack axis) from to x h r = first_in_range from to to h x r
converted pull from to x h r = subst (λ (d : Dtype). InRange d x) h r

-- what is known of each array of a list is known of the one at a place
at_place : (P : ℕ → Type 0) (numbers : List ℕ) (j a : ℕ) → All P numbers → slice_get numbers j ≡ Some a → P a
at_place P numbers j a h e = subst P (get_or_from_slice_get numbers j a a e) (h j a (slice_get_within numbers j a e))

pulled_range : (pull : View) (ins : List ℕ) (out : ℕ) (arrays : List ArrayInfo) (at : Elements) (idx : List ℕ) (x : ℤ) (o : Provenance) → PullFits arrays pull ins out
    → IsInside (grid_at arrays out).shape idx → ReadsTypes (pull_kind pull ins out) arrays idx at → origin_at arrays pull ins out idx ≡ o → pulled ins at o ≡ Some x → InRange (type_at arrays out) x
pulled_range pull ins out arrays at idx x (From source i) fits inside typed o v =
    let (a, given, value) = some_then (λ b. at b i) (slice_get ins source) x v in
    converted pull (type_at arrays a) (type_at arrays out) x (at_place (λ b. Converts pull (type_at arrays b) (type_at arrays out)) ins source a fits.types given)
    (typed a i x (source, given, o) value)
pulled_range pull ins out arrays at idx x (Number y) fits inside typed o v = subst (InRange (type_at arrays out)) (same_Some y x v) (fits.numbers idx y inside o)

pull_inside : (arrays : List ArrayInfo) (pull : View) (ins : List ℕ) (out a : ℕ) (idx i : List ℕ) → PullFits arrays pull ins out → IsInside (grid_at arrays out).shape idx → (pull_kind pull ins out).reads_at arrays idx a i → IsInside (grid_at arrays a).shape i
pull_inside arrays pull ins out a idx i fits inside (source, given, from) =
    let shape_of : ℕ → List ℕ = λ b. (grid_at arrays b).shape in
    let all : IsInSources (shapes_at arrays ins) (From source i) = subst (IsInSources (shapes_at arrays ins)) from (inside_sources pull (shapes_at arrays ins) (grid_at arrays out).shape idx fits.shapes inside) in
    let own : get_or (shapes_at arrays ins) source [] ≡ (grid_at arrays a).shape =
    get_or-map shape_of ins source a [] (slice_get_within ins source a given) ∙ ap shape_of (get_or_from_slice_get ins source a a given) in
    subst (λ (s : List ℕ). IsInside s i) own all.1

pull_over : (pull : View) (ins : List ℕ) (out : ℕ) (arrays : List ArrayInfo) → Stands arrays (pull_kind pull ins out) → All (IsWalkOver arrays) (map (whole_walk arrays) ins)
pull_over pull ins out arrays s = All-map (IsWalkOver arrays) (whole_walk arrays) ins (λ i d b. whole_over arrays (get_or ins i d) (s.reads i d b))

pull_listed : (pull : View) (ins : List ℕ) (out : ℕ) (arrays : List ArrayInfo) (idx : List ℕ) (a : ℕ) (i : List ℕ) → (pull_kind pull ins out).reads_at arrays idx a i → Contains ins a
pull_listed pull ins out arrays idx a i (source, given, from) = (source, slice_get_within ins source a given, get_or_from_slice_get ins source a a given)

taken : (f : ℕ → ℕ) (ins : List ℕ) (at others : Elements) → ((a : ℕ) → Contains ins a → others (f a) ≡ at a) → (o : Provenance) → pulled (map f ins) others o ≡ pulled ins at o
taken f ins at others h (From source j) =
    ap (option_and_then (λ a. others a j)) (slice_get-map f ins source)
    ∙ given_same f (slice_get ins source) (λ a. others a j) (λ a. at a j) (λ a e. ap (λ (g : List ℕ → Option ℤ). g j) (h a (source, slice_get_within ins source a e, get_or_from_slice_get ins source a a e)))
taken f ins at others h (Number x) = refl

pub pull_laws : (pull : View) (ins : List ℕ) (out : ℕ) → Laws (pull_kind pull ins out)
pull_laws pull ins out = record {
  alone = λ arrays at other array idx h. same_pulled ins at other (origin_at arrays pull ins out idx) (λ source a i given from. h a i (source, given, from));
  listed = pull_listed pull ins out;
  target = (0, omega arith, refl);
  one_written = λ one. refl;
  one_grid = λ arrays one. refl;
  one_room = λ arrays one. refl;
  one_read = λ arrays d w s here among by. absurd (not_one by);
  by_chunk_room = λ arrays a by. absurd (not_one by);
  grid = λ arrays s. s.grids out (s.writes 0 0 (omega arith));
  nested = λ arrays s. nested_only arrays out (s.grids out (s.writes 0 0 (omega arith)));
  differ = λ arrays lo hi s. differ_only out lo hi;
  walked = λ arrays lo hi. own_arrays (whole_walk arrays) ins (λ a. refl);
  over = λ arrays lo hi s f. pull_over pull ins out arrays s;
  apart = λ arrays lo hi s f p v w. apart_each arrays s.grids (whole_walk arrays) ins v w (λ a. refl);
  within = λ arrays lo hi a idx i s f inside w reads. record {
    one = whole_walk arrays a;
    listed = map_contains (whole_walk arrays) ins a (pull_listed pull ins out arrays idx a i reads);
    array = refl;
    within = whole_within (grid_at arrays a).shape i (pull_inside arrays pull ins out a idx i s.fits inside reads);
  };
  same = λ arrays d c s here.
      of_each arrays (whole_walk arrays) (all_chunks arrays) ins c (λ i e b.
      let a = get_or ins i e in
      whole_same arrays a c (s.grids a (s.reads i e b))
      (All-contains (IsWalkOver arrays) (map (whole_walk arrays) ins) (whole_walk arrays a) (pull_over pull ins out arrays s) (map_contains (whole_walk arrays) ins a (All-contains_itself ins i e b))));
  range = λ arrays at a idx x among fits inside typed reads v.
      subst (λ (b : ℕ). InRange (type_at arrays b) x) (only_written out a among)
      (pulled_range pull ins out arrays at idx x (origin_at arrays pull ins out idx) fits inside typed refl v);
  small = λ arrays fits. tt;
  inputs_few = λ arrays ok reads few small. omega arith;
  outputs_few = λ arrays ok. let o = any_room_few arrays out out ok in omega (arith, o);
  renumbered = λ f. record {
    reads = refl;
    writes = refl;
    kernel = refl;
    value = λ old new at others array idx s h own.
        (λ i. pulled (map f ins) others (origin_of pull (shapes_same f old new ins s.reads i) (grid_same f old new out (s.writes 0 0 (omega arith)) i).shape idx)) ∙ taken f ins at others h (origin_at old pull ins out idx);
    fits = λ old new s h.
        let O = sym (grid_same f old new out (s.writes 0 0 (omega arith))) in
        let T = sym (type_same f old new out (s.writes 0 0 (omega arith))) in
        let S = sym (shapes_same f old new ins s.reads) in
        record {
          shapes = transport (λ i. FitsPull pull (S i) (O i).shape) h.shapes;
          types = all_renumbered f old new (λ a. Converts pull (type_at old a) (type_at old out)) (λ a. Converts pull (type_at new a) (type_at new (f out))) ins s.reads
              (λ a k own. transport (λ i. Converts pull (sym (type_same f old new a k) i) (T i)) own) h.types;
          numbers = transport (λ i. (idx : List ℕ) (x : ℤ) → IsInside (O i).shape idx → origin_of pull (S i) (O i).shape idx ≡ Number x → InRange (T i) x) h.numbers;
        };
    tasks = λ old new s. grid_same f old new out (s.writes 0 0 (omega arith));
    input_room = λ old new s. refl;
    output_room = λ old new s. room_same f old new out (s.writes 0 0 (omega arith));
  };
  itself = λ arrays h. subst (λ (xs : List ℕ). (pull_kind pull xs out).fits arrays) (mapped_itself ins) h;
  compares = λ array is. absurd (none_given array is);
  stores = λ array is. absurd (none_given array is);
  stores_none = λ is. refl;
  stored_type = λ arrays array fits is. absurd (none_given array is);
}
