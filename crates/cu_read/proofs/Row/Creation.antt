-- Inputs and arrays that are made from nothing.
use Rattle.std.proofs.Common.{◌&&◌, [], ◌∷◌, List, ℕ, codes, IfOk, refl, Result}
use Rattle.std.specs.List.{list_all}
use Rattle.serde_json.specs.Data.{Data}
use Rattle.serde_json.specs.Find.{get, as_str}
use Rattle.cu_json.specs.Form.{is_object_of}
use Rattle.cu_name.specs.Name.{is_name}
use Rattle.cu_node.specs.NewShape.{is_size}
use Rattle.cu_form.specs.Form.{is_written_value}
use Rattle.cu_form.specs.declared.form.Form.{Form}
use Rattle.cu_read.specs.Creation.{SaysCreation, input_in, full_in, arange_in, eye_in, creation_row}
use Rattle.cu_read.specs.Members.{integer_of, literal_of, natural_of, dtype_of, name_of, sizes_of, member_of}
use Rattle.cu_read.specs.declared.faults.NodeCode.{NodeCode}
use Rattle.cu_read.proofs.Passing.{both, passes, member_passes}
use Rattle.cu_read.proofs.PlainMembers.{hold_none, and_has}
use Rattle.cu_read.proofs.PlainNodes.{node_of, chunk_holds}
use Rattle.cu_read.proofs.PlainReaders.{integer_plain, natural_plain, literal_plain, dtype_plain, name_plain, sizes_plain}
use Rattle.cu_read.proofs.Ranges.{literal_passes, sizes_pass, chunk_sizes_pass, size_passes}
use Rattle.cu_read.proofs.Row.{Laws}
use Rattle.cu_read.proofs.RowsRead.{four_read, five_read, read_as}
use Rattle.cu_read.proofs.Steps.{member_alone, alone_read, four_members, five_members, by_name}

-- ---- what is read says it

pub creation_says : (op : List ℕ) (d : Data) → IfOk (creation_row op d) (SaysCreation op d)
creation_says op d =
    let said : Result Form NodeCode → Type 0 = λ r. IfOk r (SaysCreation op d) in
    by_name op (codes "input") _ _ said (λ is. member_alone _ _ (λ (name : List ℕ). Form.Input name) (SaysCreation op d) (λ m name h. (is, m, h)))
    (by_name op (codes "full") _ _ said (λ is. four_members _ _ _ _ _ Form.Full (SaysCreation op d) (λ m shape a dtype b value c chunk e. (is, m, a, b, c, e)))
    (by_name op (codes "arange") _ _ said (λ is. five_members _ _ _ _ _ _ Form.Arange (SaysCreation op d) (λ m start a stop b step c dtype e chunk f. (is, m, a, b, c, e, f)))
    (by_name op (codes "eye") _ _ said (λ is. five_members _ _ _ _ _ _ Form.Eye (SaysCreation op d) (λ m rows a cols b k c dtype e chunk f. (is, m, a, b, c, e, f))) tt)))

-- ---- what says it is read, in its ranges and without a float

pub creation_laws : (ids : List (List ℕ)) (op : List ℕ) (d : Data) (form : Form) → SaysCreation op d form → Laws ids op d form
creation_laws ids op d (Form.Input name) h = record {
  read = read_as op (codes "input") ids d (input_in d) _ _ h.0 refl (alone_read (is_object_of 3 d) (member_of name_of (codes "name") d) (λ (n : List ℕ). Form.Input n) name h.1 h.2);
  ranges = member_passes name_of is_name (λ v x e. passes is_name (as_str v) x e) (get (codes "name") d) name h.2;
  plain = λ t. node_of (codes "name" ∷ []) 1 3 d t refl h.1 refl (and_has name_of (codes "name") [] 0 d name name_plain h.2 (hold_none d));
}
creation_laws ids op d (Form.Full shape dtype value chunk) h = record {
  read = read_as op (codes "full") ids d (full_in d) _ _ h.0 refl (four_read _ _ _ _ _ Form.Full shape dtype value chunk h.1 h.2 h.3 h.4 h.5);
  ranges =
      both (list_all is_size shape && is_written_value value) _
      (both (list_all is_size shape) _ (sizes_pass d (codes "shape") shape h.2) (member_passes literal_of is_written_value literal_passes (get (codes "value") d) value h.4))
      (chunk_sizes_pass d (codes "chunk") chunk h.5);
  plain = λ t.
      node_of (codes "shape" ∷ codes "dtype" ∷ codes "value" ∷ codes "chunk" ∷ []) 4 6 d t refl h.1 refl
      (and_has sizes_of (codes "shape") (codes "dtype" ∷ codes "value" ∷ codes "chunk" ∷ []) 3 d shape sizes_plain h.2
      (and_has dtype_of (codes "dtype") (codes "value" ∷ codes "chunk" ∷ []) 2 d dtype dtype_plain h.3
      (and_has literal_of (codes "value") (codes "chunk" ∷ []) 1 d value literal_plain h.4 (chunk_holds d chunk h.5))));
}
creation_laws ids op d (Form.Arange start stop step dtype chunk) h = record {
  read = read_as op (codes "arange") ids d (arange_in d) _ _ h.0 refl (five_read _ _ _ _ _ _ Form.Arange start stop step dtype chunk h.1 h.2 h.3 h.4 h.5 h.6);
  ranges = chunk_sizes_pass d (codes "chunk") chunk h.6;
  plain = λ t.
      node_of (codes "start" ∷ codes "stop" ∷ codes "step" ∷ codes "dtype" ∷ codes "chunk" ∷ []) 5 7 d t refl h.1 refl
      (and_has integer_of (codes "start") (codes "stop" ∷ codes "step" ∷ codes "dtype" ∷ codes "chunk" ∷ []) 4 d start integer_plain h.2
      (and_has integer_of (codes "stop") (codes "step" ∷ codes "dtype" ∷ codes "chunk" ∷ []) 3 d stop integer_plain h.3
      (and_has integer_of (codes "step") (codes "dtype" ∷ codes "chunk" ∷ []) 2 d step integer_plain h.4
      (and_has dtype_of (codes "dtype") (codes "chunk" ∷ []) 1 d dtype dtype_plain h.5 (chunk_holds d chunk h.6)))));
}
creation_laws ids op d (Form.Eye rows cols k dtype chunk) h = record {
  read = read_as op (codes "eye") ids d (eye_in d) _ _ h.0 refl (five_read _ _ _ _ _ _ Form.Eye rows cols k dtype chunk h.1 h.2 h.3 h.4 h.5 h.6);
  ranges =
      both (is_size rows && is_size cols) _ (both (is_size rows) _ (size_passes d (codes "rows") rows h.2) (size_passes d (codes "cols") cols h.3))
      (chunk_sizes_pass d (codes "chunk") chunk h.6);
  plain = λ t.
      node_of (codes "rows" ∷ codes "cols" ∷ codes "k" ∷ codes "dtype" ∷ codes "chunk" ∷ []) 5 7 d t refl h.1 refl
      (and_has (natural_of is_size) (codes "rows") (codes "cols" ∷ codes "k" ∷ codes "dtype" ∷ codes "chunk" ∷ []) 4 d rows (natural_plain is_size) h.2
      (and_has (natural_of is_size) (codes "cols") (codes "k" ∷ codes "dtype" ∷ codes "chunk" ∷ []) 3 d cols (natural_plain is_size) h.3
      (and_has integer_of (codes "k") (codes "dtype" ∷ codes "chunk" ∷ []) 2 d k integer_plain h.4
      (and_has dtype_of (codes "dtype") (codes "chunk" ∷ []) 1 d dtype dtype_plain h.5 (chunk_holds d chunk h.6)))));
}
creation_laws ids op d form h = absurd h
