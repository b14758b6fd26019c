-- Elementwise functions.
use Rattle.std.proofs.Common.{◌≡◌, Bool, true, false, Option, Some, None, List, ℕ, ℤ, codes, Ok, Err, IfOk, refl, subst, arith}
use Rattle.std.specs.Prelude.{bytes_eq, option_map, if◌then◌else◌}
use Rattle.std.specs.Option.{option_or}
use Rattle.std.proofs.lemmas.Slice.Eq.{bytes_eq-Decides}
use Rattle.serde_json.specs.Data.{Data}
use Rattle.serde_json.specs.Find.{get}
use Rattle.serde_json.specs.Written.{has_float}
use Rattle.cu_json.specs.Form.{is_object_of}
use Rattle.cu_num.specs.declared.functions.Fn1.{Fn1}
use Rattle.cu_num.specs.declared.functions.Fn2.{Fn2}
use Rattle.cu_num.specs.declared.types.Dtype.{Dtype}
use Rattle.cu_node.specs.declared.element_op.ElementOp.{ElementOp}
use Rattle.cu_form.specs.Form.{is_written, is_function}
use Rattle.cu_form.specs.declared.args.Arg.{Arg}
use Rattle.cu_form.specs.declared.form.Form.{Form}
use Rattle.cu_read.specs.Args.{args_in, HasArgs}
use Rattle.cu_read.specs.Creation.{creation_row}
use Rattle.cu_read.specs.Elementwise.{unary_named, binary_named, extreme_named, function_named, IsFunction, SaysElementwise, function_in, function_row, astype_in, clip_in, elementwise_row}
use Rattle.cu_read.specs.Members.{written_of, dtype_of}
use Rattle.cu_read.specs.Node.{row_of}
use Rattle.cu_read.specs.declared.faults.NodeCode.{NodeCode}
use Rattle.cu_read.proofs.Passing.{both, member_passes}
use Rattle.cu_read.proofs.PlainNodes.{HasTexts, bare_plain, one_plain, two_plain}
use Rattle.cu_read.proofs.PlainReaders.{written_plain, dtype_plain}
use Rattle.cu_read.proofs.Ranges.{written_passes, args_pass}
use Rattle.cu_read.proofs.Row.{Laws}
use Rattle.cu_read.proofs.RowsRead.{args_read, none_read, one_read, two_read, read_as}
use Rattle.cu_read.proofs.Steps.{args_are, no_member, one_member, two_members, by_name}

-- ---- what is read says it

function_says : (ids : List (List ℕ)) (op : List ℕ) (d : Data) (function : ElementOp) → (is_object_of 3 d ≡ true → IsFunction op d function)
    → IfOk (function_in function ids d) (SaysElementwise ids op d)
function_says ids op d function is = no_member _ _ (Form.Elementwise function) (SaysElementwise ids op d) (λ m xs r. (is m, args_are ids d xs r))

astype_says : (ids : List (List ℕ)) (op : List ℕ) (d : Data) → op ≡ codes "astype" → IfOk (astype_in ids d) (SaysElementwise ids op d)
astype_says ids op d is = one_member _ _ _ (λ dtype xs. Form.Elementwise (ElementOp.Astype dtype) xs) (SaysElementwise ids op d)
    (λ m dtype a xs r. ((is, m, a), args_are ids d xs r))

clip_says : (ids : List (List ℕ)) (op : List ℕ) (d : Data) → op ≡ codes "clip" → IfOk (clip_in ids d) (SaysElementwise ids op d)
clip_says ids op d is = two_members _ _ _ _ (λ x y xs. Form.Elementwise (ElementOp.Clip x y) xs) (SaysElementwise ids op d)
    (λ m x a y b xs r. ((is, m, a, b), args_are ids d xs r))

-- the table of functions has neither `astype` nor `clip`
abbrev table : Bool → Option Fn1 → Option Fn2 → Option Bool → Option ElementOp
table is f g e = if is then Some ElementOp.Where else option_or (option_map ElementOp.One f) (option_or (option_map ElementOp.Two g) (option_map ElementOp.Extreme e))

astype_in_no_table : (is : Bool) (f : Option Fn1) (g : Option Fn2) (e : Option Bool) (t : Dtype) → table is f g e ≡ Some (ElementOp.Astype t) → ⊥
astype_in_no_table true f g e t h = cc
astype_in_no_table false (Some f) g e t h = cc
astype_in_no_table false None (Some g) e t h = cc
astype_in_no_table false None None (Some e) t h = cc
astype_in_no_table false None None None t h = cc

clip_in_no_table : (is : Bool) (f : Option Fn1) (g : Option Fn2) (e : Option Bool) (min max : ℤ) → table is f g e ≡ Some (ElementOp.Clip min max) → ⊥
clip_in_no_table true f g e min max h = cc
clip_in_no_table false (Some f) g e min max h = cc
clip_in_no_table false None (Some g) e min max h = cc
clip_in_no_table false None None (Some e) min max h = cc
clip_in_no_table false None None None min max h = cc

no_astype : (op : List ℕ) (t : Dtype) → function_named op ≡ Some (ElementOp.Astype t) → ⊥
no_astype op t h = astype_in_no_table (bytes_eq op (codes "where")) (unary_named op) (binary_named op) (extreme_named op) t h

no_clip : (op : List ℕ) (min max : ℤ) → function_named op ≡ Some (ElementOp.Clip min max) → ⊥
no_clip op min max h = clip_in_no_table (bytes_eq op (codes "where")) (unary_named op) (binary_named op) (extreme_named op) min max h

in_table : (op : List ℕ) (d : Data) (function : ElementOp) → function_named op ≡ Some function → is_object_of 3 d ≡ true → IsFunction op d function
in_table op d (ElementOp.One f) h members = (h, members)
in_table op d (ElementOp.Two f) h members = (h, members)
in_table op d ElementOp.Where h members = (h, members)
in_table op d (ElementOp.Extreme least) h members = (h, members)
in_table op d (ElementOp.Astype t) h members = absurd (no_astype op t h)
in_table op d (ElementOp.Clip min max) h members = absurd (no_clip op min max h)

function_row_says : (ids : List (List ℕ)) (op : List ℕ) (d : Data) (found : Option ElementOp) → function_named op ≡ found
    → IfOk (function_row found ids d) (SaysElementwise ids op d)
function_row_says ids op d (Some function) h = function_says ids op d function (in_table op d function h)
function_row_says ids op d None h = tt

pub elementwise_says : (ids : List (List ℕ)) (op : List ℕ) (d : Data) → IfOk (elementwise_row op ids d) (SaysElementwise ids op d)
elementwise_says ids op d =
    by_name op (codes "astype") _ _ (λ r. IfOk r (SaysElementwise ids op d)) (astype_says ids op d)
    (by_name op (codes "clip") _ _ (λ r. IfOk r (SaysElementwise ids op d)) (clip_says ids op d) (function_row_says ids op d (function_named op) refl))

-- ---- what says it is read

other_by : (op name : List ℕ) (function : ElementOp) (b : Bool) → bytes_eq op name ≡ b → function_named op ≡ Some function → function_named name ≡ None → bytes_eq op name ≡ false
other_by op name function true e h none =
    let same : op ≡ name = (bytes_eq-Decides op name).0 e in
    let two : function_named name ≡ Some function = subst (λ (o : List ℕ). function_named o ≡ Some function) same h in
    cc
other_by op name function false e h none = e

-- a function isn't an operator of another name
other : (op name : List ℕ) (function : ElementOp) → function_named op ≡ Some function → function_named name ≡ None → bytes_eq op name ≡ false
other op name function h none = other_by op name function (bytes_eq op name) refl h none

no_creation : (op : List ℕ) (d : Data) (function : ElementOp) → function_named op ≡ Some function → creation_row op d ≡ Err NodeCode.Unknown
no_creation op d function h =
    rw (other op (codes "input") function h refl, other op (codes "full") function h refl, other op (codes "arange") function h refl, other op (codes "eye") function h refl) refl

is_function_row : (op : List ℕ) (ids : List (List ℕ)) (d : Data) (function : ElementOp) → function_named op ≡ Some function → elementwise_row op ids d ≡ function_in function ids d
is_function_row op ids d function h = rw (other op (codes "astype") function h refl, other op (codes "clip") function h refl, h) refl

function_read : (op : List ℕ) (ids : List (List ℕ)) (d : Data) (function : ElementOp) (xs : List Arg) → function_named op ≡ Some function → is_object_of 3 d ≡ true → HasArgs ids d xs
    → row_of op ids d ≡ Ok (Form.Elementwise function xs)
function_read op ids d function xs h members args =
    rw (no_creation op d function h, is_function_row op ids d function h, none_read (is_object_of 3 d) (args_in ids d) (Form.Elementwise function) xs members (args_read ids d xs args)) refl

elementwise_read : (ids : List (List ℕ)) (op : List ℕ) (d : Data) (function : ElementOp) (xs : List Arg) → IsFunction op d function → HasArgs ids d xs
    → row_of op ids d ≡ Ok (Form.Elementwise function xs)
elementwise_read ids op d (ElementOp.Astype t) xs h args =
    read_as op (codes "astype") ids d (astype_in ids d) _ _ h.0 refl
    (one_read _ _ _ (λ x ys. Form.Elementwise (ElementOp.Astype x) ys) t xs h.1 h.2 (args_read ids d xs args))
elementwise_read ids op d (ElementOp.Clip min max) xs h args =
    read_as op (codes "clip") ids d (clip_in ids d) _ _ h.0 refl
    (two_read _ _ _ _ (λ x y ys. Form.Elementwise (ElementOp.Clip x y) ys) min max xs h.1 h.2 h.3 (args_read ids d xs args))
elementwise_read ids op d (ElementOp.Extreme least) xs h args = function_read op ids d (ElementOp.Extreme least) xs h.0 h.1 args
elementwise_read ids op d (ElementOp.One f) xs h args = function_read op ids d (ElementOp.One f) xs h.0 h.1 args
elementwise_read ids op d (ElementOp.Two f) xs h args = function_read op ids d (ElementOp.Two f) xs h.0 h.1 args
elementwise_read ids op d ElementOp.Where xs h args = function_read op ids d ElementOp.Where xs h.0 h.1 args

-- ---- its numbers

unary_is : (op : List ℕ) (f : Fn1) → unary_named op ≡ Some f → is_function (ElementOp.One f) ≡ true
unary_is op f h = grind arith

function_by : (op : List ℕ) (is : Bool) (f : Option Fn1) (g : Option Fn2) (least : Option Bool) (function : ElementOp) → unary_named op ≡ f
    → (if is then Some ElementOp.Where else option_or (option_map ElementOp.One f) (option_or (option_map ElementOp.Two g) (option_map ElementOp.Extreme least))) ≡ Some function
    → is_function function ≡ true
function_by op true f g least function e h = let same : ElementOp.Where ≡ function = cc in subst (λ k. is_function k ≡ true) same refl
function_by op false (Some f) g least function e h = let same : ElementOp.One f ≡ function = cc in subst (λ k. is_function k ≡ true) same (unary_is op f e)
function_by op false None (Some g) least function e h = let same : ElementOp.Two g ≡ function = cc in subst (λ k. is_function k ≡ true) same refl
function_by op false None None (Some b) function e h = let same : ElementOp.Extreme b ≡ function = cc in subst (λ k. is_function k ≡ true) same refl
function_by op false None None None function e h = cc

function_named_is : (op : List ℕ) (function : ElementOp) → function_named op ≡ Some function → is_function function ≡ true
function_named_is op function h = function_by op (bytes_eq op (codes "where")) (unary_named op) (binary_named op) (extreme_named op) function refl h

function_is : (op : List ℕ) (d : Data) (function : ElementOp) → IsFunction op d function → is_function function ≡ true
function_is op d (ElementOp.One f) h = function_named_is op (ElementOp.One f) h.0
function_is op d (ElementOp.Two f) h = refl
function_is op d ElementOp.Where h = refl
function_is op d (ElementOp.Astype t) h = refl
function_is op d (ElementOp.Extreme least) h = refl
function_is op d (ElementOp.Clip min max) h =
    both (is_written min) (is_written max) (member_passes written_of is_written written_passes (get (codes "min") d) min h.2) (member_passes written_of is_written written_passes (get (codes "max") d) max h.3)

-- ---- no float

function_plain : (ids : List (List ℕ)) (op : List ℕ) (d : Data) (function : ElementOp) (args : List Arg) → HasTexts d → IsFunction op d function → HasArgs ids d args → has_float d ≡ false
function_plain ids op d (ElementOp.One f) args t is h = bare_plain ids d args t is.1 h
function_plain ids op d (ElementOp.Two f) args t is h = bare_plain ids d args t is.1 h
function_plain ids op d ElementOp.Where args t is h = bare_plain ids d args t is.1 h
function_plain ids op d (ElementOp.Astype dtype) args t is h = one_plain dtype_of (codes "dtype") ids d dtype args dtype_plain refl t is.1 is.2 h
function_plain ids op d (ElementOp.Extreme least) args t is h = bare_plain ids d args t is.1 h
function_plain ids op d (ElementOp.Clip min max) args t is h = two_plain written_of (codes "min") written_of (codes "max") ids d min max args written_plain written_plain refl t is.1 is.2 is.3 h

-- ---- all

pub elementwise_laws : (ids : List (List ℕ)) (op : List ℕ) (d : Data) (form : Form) → SaysElementwise ids op d form → Laws ids op d form
elementwise_laws ids op d (Form.Elementwise function args) h = record {
  read = elementwise_read ids op d function args h.0 h.1;
  ranges = both (is_function function) _ (function_is op d function h.0) (args_pass ids d args h.1);
  plain = λ t. function_plain ids op d function args t h.0 h.1;
}
elementwise_laws ids op d form h = absurd h
