-- The instructions of arguments, one more.
use Rattle.std.proofs.Common.{◌≡◌, ℕ, zero, suc, ◌<◌, ◌≤◌, ◌+◌, List, [], ◌∷◌, ◌++◌, length, map, drop, get_or, refl, ap, sym, ◌∙◌, arith, if◌then◌else◌}
use Rattle.std.proofs.lemmas.List.{drop_more, append_assoc, append-nil}
use Rattle.cu_op.specs.declared.kernel.Instr.{Instr}
use Rattle.cu_op.specs.declared.kernel.Instr.TheVariants.{Load, Const}
use Rattle.cu_form.specs.Form.{is_array}
use Rattle.cu_form.specs.declared.args.Arg.{Arg}
use Rattle.cu_node.specs.declared.literal.Literal.TheVariants as literal
use Rattle.cu_node.specs.declared.info.NodeInfo.{NodeInfo}
use Rattle.cu_node.specs.Literal.{literal_number}
use Rattle.cu_expr.specs.Kernel.{loads_from}
use Rattle.cu_expr.specs.Typing.{argument_of}

module _ (infos : List NodeInfo) (args : List Arg) (k : ℕ) (code whole : List Instr) (arrays : ℕ) (below : k < length args)
    (known : code ++ loads_from arrays (map (argument_of infos) (drop k args)) ≡ whole) where
  at_place : (a : Arg) → get_or args k (Arg.Node 0) ≡ a → drop k args ≡ a ∷ drop (k + 1) args
  at_place a is = drop_more args k (Arg.Node 0) below ∙ ap (λ x. x ∷ drop (k + 1) args) is

  -- one instruction more, of which each table of what is known says the same
  pub code_more : (a : Arg) (i : Instr) → get_or args k (Arg.Node 0) ≡ a → loads_from arrays (argument_of infos a ∷ []) ≡ i ∷ []
      → (code ++ i ∷ []) ++ loads_from (if is_array a then arrays + 1 else arrays) (map (argument_of infos) (drop (k + 1) args)) ≡ whole
  code_more (Arg.Node n) i is one =
      let same : i ≡ Load arrays = cc in
      append_assoc code (i ∷ []) (loads_from (arrays + 1) (map (argument_of infos) (drop (k + 1) args)))
      ∙ ap (λ x. code ++ x ∷ loads_from (arrays + 1) (map (argument_of infos) (drop (k + 1) args))) same
      ∙ ap (λ xs. code ++ loads_from arrays (map (argument_of infos) xs)) (sym (at_place (Arg.Node n) is)) ∙ known
  code_more (Arg.Int x) i is one =
      let same : i ≡ Const x = cc in
      append_assoc code (i ∷ []) (loads_from arrays (map (argument_of infos) (drop (k + 1) args)))
      ∙ ap (λ y. code ++ y ∷ loads_from arrays (map (argument_of infos) (drop (k + 1) args))) same
      ∙ ap (λ xs. code ++ loads_from arrays (map (argument_of infos) xs)) (sym (at_place (Arg.Int x) is)) ∙ known
  code_more (Arg.Truth b) i is one =
      let same : i ≡ Const (literal_number (literal.Truth b)) = cc in
      append_assoc code (i ∷ []) (loads_from arrays (map (argument_of infos) (drop (k + 1) args)))
      ∙ ap (λ y. code ++ y ∷ loads_from arrays (map (argument_of infos) (drop (k + 1) args))) same
      ∙ ap (λ xs. code ++ loads_from arrays (map (argument_of infos) xs)) (sym (at_place (Arg.Truth b) is)) ∙ known

none_left : {A : Type 0} (xs : List A) (k : ℕ) → length xs ≤ k → drop k xs ≡ []
none_left [] zero h = refl
none_left [] (suc k) h = refl
none_left (x ∷ xs) zero h = absurd (omega arith)
none_left (x ∷ xs) (suc k) h = none_left xs k (omega arith)

pub code_end : (infos : List NodeInfo) (args : List Arg) (k : ℕ) (code whole : List Instr) (arrays : ℕ) → length args ≤ k
    → code ++ loads_from arrays (map (argument_of infos) (drop k args)) ≡ whole → code ≡ whole
code_end infos args k code whole arrays past known =
    sym (append-nil code) ∙ ap (λ xs. code ++ loads_from arrays (map (argument_of infos) xs)) (sym (none_left args k past)) ∙ known
