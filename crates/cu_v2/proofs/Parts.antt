-- The grid, the fill value and the separator: what is read of their members, and what these may be.
use Rattle.std.proofs.Common.{◌≡◌, ◌≤◌, ℕ, ◌&&◌, ◌||◌, ◌⊎◌, inl, inr, ⊎_elim, ℤ, pos, negsuc, ◌≤ℤ◌, int_lt, not, List, length, codes, Option, Some, None, is_some, is_none, if◌then◌else◌, refl, sym, ap, subst, ◌∙◌}
use Rattle.std.specs.Prelude.{Bool as Test, true, false}
use Rattle.std.specs.Option.{option_or}
use Rattle.std.specs.Int.Signed.{lt_z_no, le_z_yes}
use Rattle.std.proofs.lemmas.Bool.{le-ltb}
use Rattle.std.proofs.Math.Dec.{leb→le}
use Rattle.serde_json.specs.Data.{Num, Data, null, boolean, number, string, array, object, Items, no_items, Members}
use Rattle.serde_json.specs.Find.{as_null, as_integer}
use Rattle.cu_num.specs.Dtype.{size_of, least, greatest, InRange}
use Rattle.cu_num.specs.declared.types.Dtype.{Dtype}
use Rattle.cu_num.specs.declared.types.Dtype.TheVariants.{Bool}
use Rattle.cu_num.specs.declared.layout.Encoding.{Encoding}
use Rattle.cu_num.specs.declared.layout.Encoding.TheVariants.{Plain, V2}
use Rattle.cu_num.specs.declared.layout.Sep.{Sep}
use Rattle.cu_num.specs.declared.layout.Sep.TheVariants.{Slash, Dot}
use Rattle.cu_grid.specs.Grid.{RegularGrid}
use Rattle.cu_grid.specs.Limits.{first_fault}
use Rattle.cu_grid.specs.declared.fault.GridFault.{GridFault}
use Rattle.cu_json.specs.Form.{is_text, is_list_of, naturals_of}
use Rattle.cu_meta_members.specs.Members.{separator_of, truth, within, whole_of}
use Rattle.cu_v2.specs.Members.{plain_grid_of, fill_or_null}
use Rattle.cu_v2.specs.Form.{number_items, IsFillOf, IsSeparatorOf}
use Rattle.cu_v2.proofs.Values.{some_of, true_of, none_is_no_some, is_null, is_this_text, is_empty_list, IsSizes, are_sizes, sizes_back}

-- ---- the grid

no_fault : (o : Option GridFault) → is_none o ≡ true → o ≡ None
no_fault None h = refl
no_fault (Some f) h = cc

same_grid : (g k : RegularGrid) → Some g ≡ Some k → g ≡ k
same_grid g k h = cc

pub record IsGridOf (t : Dtype) (shape chunks : Data) (g : RegularGrid) : Type 0 where
  pub sizes : IsSizes shape g.shape
  pub sides : IsSizes chunks g.chunk
  pub fits : first_fault g.shape g.chunk (size_of t) ≡ None

pub is_grid : (t : Dtype) (shape chunks : Data) (g : RegularGrid) → plain_grid_of t shape chunks ≡ Some g → IsGridOf t shape chunks g
is_grid t shape chunks g h =
    some_of (naturals_of 6 shape) (λ none. none_is_no_some g (rw none at h)) (λ sizes e.
    let h1 = rw e at h in
    some_of (naturals_of 6 chunks) (λ none. none_is_no_some g (rw none at h1)) (λ chunk k.
    let h2 = rw k at h1 in
    let fits = true_of (is_none (first_fault sizes chunk (size_of t))) (λ fault. none_is_no_some g (rw fault at h2)) in
    let h3 = rw fits at h2 in
    let same : record { shape = sizes; chunk = chunk } ≡ g = same_grid _ _ h3 in
    subst (IsGridOf t shape chunks) same (record { sizes = are_sizes shape sizes e; sides = are_sizes chunks chunk k; fits = no_fault _ fits })))

pub grid_back : (t : Dtype) (shape chunk : List ℕ) → length shape ≤ 6 → length chunk ≤ 6 → first_fault shape chunk (size_of t) ≡ None
    → plain_grid_of t (array (number_items shape)) (array (number_items chunk)) ≡ Some (record { shape = shape; chunk = chunk })
grid_back t shape chunk few few_chunk fits = rw (sizes_back shape few, sizes_back chunk few_chunk, fits) refl

-- ---- compressor and filters

pub both : (a b : Test) → (a && b) ≡ true → (a ≡ true) × (b ≡ true)
both true b h = (refl, h)
both false b h = cc

either : (a b : Test) → (a || b) ≡ true → (a ≡ true) ⊎ (b ≡ true)
either true b h = inl refl
either false b h = inr h

pub no_filters : (filters : Data) → (is_some (as_null filters) || is_list_of 0 filters) ≡ true → (filters ≡ null) ⊎ (filters ≡ array no_items)
no_filters filters h = ⊎_elim (λ (e : is_some (as_null filters) ≡ true). inl (is_null filters e)) (λ (e : is_list_of 0 filters ≡ true). inr (is_empty_list filters e)) (either (is_some (as_null filters)) (is_list_of 0 filters) h)

-- ---- the fill value

-- a number of the type, by the two tests of its range
at_least : (a b : ℤ) → int_lt b a ≡ false → a ≤ℤ b
at_least a b h = lt_z_no (rw h tt)

not_below : (a b : ℤ) → a ≤ℤ b → int_lt b a ≡ false
not_below (pos a) (pos b) h = le-ltb b a (leb→le a b h.le)
not_below (pos a) (negsuc b) h = absurd h.le
not_below (negsuc a) (pos b) h = refl
not_below (negsuc a) (negsuc b) h = le-ltb a b (leb→le b a h.le)

neither : (a b : Test) → (not a && not b) ≡ true → (a ≡ false) × (b ≡ false)
neither true b h = cc
neither false true h = cc
neither false false h = (refl, refl)

in_range : (t : Dtype) (x : ℤ) → within t x ≡ true → InRange t x
in_range t x h =
    let parts = neither (int_lt x (least t)) (int_lt (greatest t) x) h in
    (at_least (least t) x parts.0, at_least x (greatest t) parts.1)

within_range : (t : Dtype) (x : ℤ) → InRange t x → within t x ≡ true
within_range t x h = rw (not_below (least t) x h.0, not_below x (greatest t) h.1) refl

number_told : (t : Dtype) (n : Num) (x : ℤ) → whole_of t (number n) ≡ Some x → (as_integer n ≡ Some x) × InRange t x
number_told t n x h =
    some_of (as_integer n) (λ none. none_is_no_some x (rw none at h)) (λ y e.
    let h1 = rw e at h in
    let fits = true_of (within t y) (λ out. none_is_no_some x (rw out at h1)) in
    let h2 = rw fits at h1 in
    let same : y ≡ x = cc in
    (e ∙ ap Some same, subst (InRange t) same (in_range t y fits)))

number_back : (t : Dtype) (n : Num) (x : ℤ) → as_integer n ≡ Some x → InRange t x → whole_of t (number n) ≡ Some x
number_back t n x e h = rw (e, within_range t x h) refl

or_same : (o : Option ℤ) → option_or o o ≡ o
or_same None = refl
or_same (Some x) = refl

number_fill : (t : Dtype) (n : Num) → fill_or_null t (number n) ≡ whole_of t (number n)
number_fill Bool n = refl
number_fill t n = or_same (whole_of t (number n))

no_string : (t : Dtype) (s : List ℕ) → fill_or_null t (string s) ≡ None
no_string Bool s = refl
no_string t s = refl

no_list : (t : Dtype) (items : Items) → fill_or_null t (array items) ≡ None
no_list Bool items = refl
no_list t items = refl

no_object_fill : (t : Dtype) (ms : Members) → fill_or_null t (object ms) ≡ None
no_object_fill Bool ms = refl
no_object_fill t ms = refl

pub is_fill : (t : Dtype) (d : Data) (x : ℤ) → fill_or_null t d ≡ Some x → IsFillOf t d x
is_fill t null x h = cc
is_fill Bool (boolean b) x h = let e : truth b ≡ x = cc in (refl, sym e)
is_fill t (boolean b) x h = cc
is_fill t (number n) x h = number_told t n x (sym (number_fill t n) ∙ h)
is_fill t (string s) x h = none_is_no_some x (sym (no_string t s) ∙ h)
is_fill t (array items) x h = none_is_no_some x (sym (no_list t items) ∙ h)
is_fill t (object ms) x h = none_is_no_some x (sym (no_object_fill t ms) ∙ h)

pub fill_back : (t : Dtype) (d : Data) (x : ℤ) → IsFillOf t d x → fill_or_null t d ≡ Some x
fill_back t null x h = ap Some (sym h)
fill_back t (boolean b) x (is, told) = rw (is, told) refl
fill_back t (number n) x (e, within) = number_fill t n ∙ number_back t n x e within
fill_back t (string s) x h = absurd h
fill_back t (array items) x h = absurd h
fill_back t (object ms) x h = absurd h

truth_range : (b : Test) → InRange Bool (truth b)
truth_range true = (le_z_yes tt, le_z_yes tt)
truth_range false = (le_z_yes tt, le_z_yes tt)

zero_range : (t : Dtype) → InRange t (pos 0)
zero_range Bool = (le_z_yes tt, le_z_yes tt)
zero_range t = (le_z_yes tt, le_z_yes tt)

pub fill_range : (t : Dtype) (d : Data) (x : ℤ) → IsFillOf t d x → InRange t x
fill_range t null x h = subst (InRange t) (sym h) (zero_range t)
fill_range t (boolean b) x (is, told) = rw (is, told) (truth_range b)
fill_range t (number n) x h = h.1
fill_range t (string s) x h = absurd h
fill_range t (array items) x h = absurd h
fill_range t (object ms) x h = absurd h

-- ---- the separator

absent : (value : Option Data) → is_none value ≡ true → value ≡ None
absent None h = refl
absent (Some d) h = cc

separator_told : (value : Option Data) (no slash dot : Test) (sep : Sep) → is_none value ≡ no → is_text (codes "/") value ≡ slash → is_text (codes ".") value ≡ dot
    → (if no then Some Dot else if slash then Some Slash else if dot then Some Dot else None) ≡ Some sep → IsSeparatorOf value (V2 sep)
separator_told value true slash dot Dot p q r h = inl (absent value p)
separator_told value true slash dot Slash p q r h = cc
separator_told value false true dot Slash p q r h = is_this_text (codes "/") value q
separator_told value false true dot Dot p q r h = cc
separator_told value false false true Dot p q r h = inr (is_this_text (codes ".") value r)
separator_told value false false true Slash p q r h = cc
separator_told value false false false sep p q r h = cc

pub is_separator : (value : Option Data) (sep : Sep) → separator_of Dot value ≡ Some sep → IsSeparatorOf value (V2 sep)
is_separator value sep h = separator_told value (is_none value) (is_text (codes "/") value) (is_text (codes ".") value) sep refl refl refl h

pub record SeparatorRead (value : Option Data) (encoding : Encoding) : Type 0 where
  pub sep : Sep
  pub is : V2 sep ≡ encoding
  pub reads : separator_of Dot value ≡ Some sep

pub separator_back : (value : Option Data) (encoding : Encoding) → IsSeparatorOf value encoding → SeparatorRead value encoding
separator_back value (Plain sep) h = absurd h
separator_back value (V2 Slash) h = record { sep = Slash; is = refl; reads = rw h refl }
separator_back value (V2 Dot) h = record { sep = Dot; is = refl; reads = ⊎_elim (λ (e : value ≡ None). rw e refl) (λ (e : value ≡ Some (string (codes "."))). rw e refl) h }
