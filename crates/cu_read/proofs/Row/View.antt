-- Operators that move elements.
use Rattle.std.proofs.Common.{◌≡◌, ◌+◌, [], ◌∷◌, Bool, true, false, None, List, ℕ, codes, Ok, IfOk, refl, Result}
use Rattle.std.specs.List.{list_all}
use Rattle.serde_json.specs.Data.{Data}
use Rattle.cu_node.specs.NewShape.{is_size}
use Rattle.cu_form.specs.declared.form.Form.{Form}
use Rattle.cu_read.specs.IndexItem.{index_item_of}
use Rattle.cu_read.specs.Lists.{entries_of}
use Rattle.cu_read.specs.Members.{integer_of, integers_of, sizes_of, chunk_sizes_of, or_null, present}
use Rattle.cu_read.specs.Node.{row_of}
use Rattle.cu_read.specs.View.{triangle_name, SaysView, triangle_in, index_in, concat_in, stack_in, permute_dims_in, flip_in, roll_in, broadcast_to_in, rechunk_in, view_row}
use Rattle.cu_read.specs.declared.faults.NodeCode.{NodeCode}
use Rattle.cu_read.proofs.Passing.{both}
use Rattle.cu_read.proofs.PlainMembers.{and_may}
use Rattle.cu_read.proofs.PlainNodes.{node_of, args_hold, one_plain, two_plain, one_more}
use Rattle.cu_read.proofs.PlainReaders.{integer_plain, integers_plain, or_null_plain, index_plain, sizes_plain, chunk_plain}
use Rattle.cu_read.proofs.Ranges.{sizes_pass, chunk_sizes_pass}
use Rattle.cu_read.proofs.Row.{Laws}
use Rattle.cu_read.proofs.RowsRead.{args_read, one_read, two_read, read_as}
use Rattle.cu_read.proofs.Steps.{args_are, one_member, two_members, by_name}

-- ---- what is read says it

triangle_says : (lower : Bool) (ids : List (List ℕ)) (op : List ℕ) (d : Data) → op ≡ triangle_name lower → IfOk (triangle_in lower ids d) (SaysView ids op d)
triangle_says lower ids op d is = one_member _ _ _ (λ x xs. Form.Triangle lower xs x) (SaysView ids op d) (λ m x a xs r. (is, m, a, args_are ids d xs r))

pub view_says : (ids : List (List ℕ)) (op : List ℕ) (d : Data) → IfOk (view_row op ids d) (SaysView ids op d)
view_says ids op d =
    let said : Result Form NodeCode → Type 0 = λ r. IfOk r (SaysView ids op d) in
    by_name op (codes "tril") _ _ said (triangle_says true ids op d)
    (by_name op (codes "triu") _ _ said (triangle_says false ids op d)
    (by_name op (codes "index") _ _ said (λ is. one_member _ _ _ (λ x xs. Form.Index xs x) (SaysView ids op d) (λ m x a xs r. (is, m, a, args_are ids d xs r)))
    (by_name op (codes "concat") _ _ said (λ is. one_member _ _ _ (λ x xs. Form.Concat xs x) (SaysView ids op d) (λ m x a xs r. (is, m, a, args_are ids d xs r)))
    (by_name op (codes "stack") _ _ said (λ is. one_member _ _ _ (λ x xs. Form.Stack xs x) (SaysView ids op d) (λ m x a xs r. (is, m, a, args_are ids d xs r)))
    (by_name op (codes "permute_dims") _ _ said (λ is. one_member _ _ _ (λ x xs. Form.PermuteDims xs x) (SaysView ids op d) (λ m x a xs r. (is, m, a, args_are ids d xs r)))
    (by_name op (codes "flip") _ _ said (λ is. one_member _ _ _ (λ x xs. Form.Flip xs x) (SaysView ids op d) (λ m x a xs r. (is, m, a, args_are ids d xs r)))
    (by_name op (codes "roll") _ _ said (λ is. two_members _ _ _ _ (λ x y xs. Form.Roll xs x y) (SaysView ids op d) (λ m x a y b xs r. (is, m, a, b, args_are ids d xs r)))
    (by_name op (codes "broadcast_to") _ _ said (λ is. two_members _ _ _ _ (λ x y xs. Form.BroadcastTo xs x y) (SaysView ids op d) (λ m x a y b xs r. (is, m, a, b, args_are ids d xs r)))
    (by_name op (codes "rechunk") _ _ said (λ is. one_member _ _ _ (λ x xs. Form.Rechunk xs x) (SaysView ids op d) (λ m x a xs r. (is, m, a, args_are ids d xs r))) tt)))))))))

-- ---- what says it is read, in its ranges and without a float

triangle_read : (lower : Bool) (ids : List (List ℕ)) (op : List ℕ) (d : Data) (form : Form) → op ≡ triangle_name lower
    → triangle_in lower ids d ≡ Ok form → row_of op ids d ≡ Ok form
triangle_read true ids op d form is h = read_as op (codes "tril") ids d _ _ form is refl h
triangle_read false ids op d form is h = read_as op (codes "triu") ids d _ _ form is refl h

pub view_laws : (ids : List (List ℕ)) (op : List ℕ) (d : Data) (form : Form) → SaysView ids op d form → Laws ids op d form
view_laws ids op d (Form.Triangle lower args k) h = record {
  read = triangle_read lower ids op d _ h.0 (one_read _ _ _ (λ x xs. Form.Triangle lower xs x) k args h.1 h.2 (args_read ids d args h.3));
  ranges = refl;
  plain = λ t. one_plain integer_of (codes "k") ids d k args integer_plain refl t h.1 h.2 h.3;
}
view_laws ids op d (Form.Index args items) h = record {
  read = read_as op (codes "index") ids d (index_in ids d) _ _ h.0 refl (one_read _ _ _ (λ x xs. Form.Index xs x) items args h.1 h.2 (args_read ids d args h.3));
  ranges = refl;
  plain = λ t. one_plain (entries_of index_item_of) (codes "index") ids d items args index_plain refl t h.1 h.2 h.3;
}
view_laws ids op d (Form.Concat args axis) h = record {
  read = read_as op (codes "concat") ids d (concat_in ids d) _ _ h.0 refl (one_read _ _ _ (λ x xs. Form.Concat xs x) axis args h.1 h.2 (args_read ids d args h.3));
  ranges = refl;
  plain = λ t. one_plain integer_of (codes "axis") ids d axis args integer_plain refl t h.1 h.2 h.3;
}
view_laws ids op d (Form.Stack args axis) h = record {
  read = read_as op (codes "stack") ids d (stack_in ids d) _ _ h.0 refl (one_read _ _ _ (λ x xs. Form.Stack xs x) axis args h.1 h.2 (args_read ids d args h.3));
  ranges = refl;
  plain = λ t. one_plain integer_of (codes "axis") ids d axis args integer_plain refl t h.1 h.2 h.3;
}
view_laws ids op d (Form.PermuteDims args axes) h = record {
  read = read_as op (codes "permute_dims") ids d (permute_dims_in ids d) _ _ h.0 refl (one_read _ _ _ (λ x xs. Form.PermuteDims xs x) axes args h.1 h.2 (args_read ids d args h.3));
  ranges = refl;
  plain = λ t. one_plain integers_of (codes "axes") ids d axes args integers_plain refl t h.1 h.2 h.3;
}
view_laws ids op d (Form.Flip args axes) h = record {
  read = read_as op (codes "flip") ids d (flip_in ids d) _ _ h.0 refl (one_read _ _ _ (λ x xs. Form.Flip xs x) axes args h.1 h.2 (args_read ids d args h.3));
  ranges = refl;
  plain = λ t.
      node_of (codes "axes" ∷ codes "args" ∷ []) (present (codes "axes") d + 1) (3 + present (codes "axes") d) d t refl h.1 (one_more (present (codes "axes") d))
      (and_may None (or_null integers_of) (codes "axes") (codes "args" ∷ []) 1 d axes (or_null_plain integers_of integers_plain) h.2 (args_hold ids d args h.3));
}
view_laws ids op d (Form.Roll args shifts axes) h = record {
  read = read_as op (codes "roll") ids d (roll_in ids d) _ _ h.0 refl (two_read _ _ _ _ (λ x y xs. Form.Roll xs x y) shifts axes args h.1 h.2 h.3 (args_read ids d args h.4));
  ranges = refl;
  plain = λ t. two_plain integers_of (codes "shifts") integers_of (codes "axes") ids d shifts axes args integers_plain integers_plain refl t h.1 h.2 h.3 h.4;
}
view_laws ids op d (Form.BroadcastTo args shape chunk) h = record {
  read = read_as op (codes "broadcast_to") ids d (broadcast_to_in ids d) _ _ h.0 refl (two_read _ _ _ _ (λ x y xs. Form.BroadcastTo xs x y) shape chunk args h.1 h.2 h.3 (args_read ids d args h.4));
  ranges = both (list_all is_size shape) _ (sizes_pass d (codes "shape") shape h.2) (chunk_sizes_pass d (codes "chunk") chunk h.3);
  plain = λ t. two_plain sizes_of (codes "shape") chunk_sizes_of (codes "chunk") ids d shape chunk args sizes_plain chunk_plain refl t h.1 h.2 h.3 h.4;
}
view_laws ids op d (Form.Rechunk args chunk) h = record {
  read = read_as op (codes "rechunk") ids d (rechunk_in ids d) _ _ h.0 refl (one_read _ _ _ (λ x xs. Form.Rechunk xs x) chunk args h.1 h.2 (args_read ids d args h.3));
  ranges = chunk_sizes_pass d (codes "chunk") chunk h.2;
  plain = λ t. one_plain chunk_sizes_of (codes "chunk") ids d chunk args chunk_plain refl t h.1 h.2 h.3;
}
view_laws ids op d form h = absurd h
