-- The line of an operation, piece by piece.
use Rattle.std.proofs.Common.{◌≡◌, ℕ, List, ◌++◌, codes, Result, Ok, Err, ap, ◌∙◌}
use Rattle.std.specs.Prelude.{OnOk}
use Rattle.std.proofs.lemmas.List.{append_assoc}
use Rattle.std.specs.Fmt.{decimal}
use Rattle.cu_op.specs.Cells.{tasks_of}
use Rattle.cu_op.specs.KindText.{kind_text}
use Rattle.cu_op.specs.declared.layout.ArrayInfo.{ArrayInfo}
use Rattle.cu_op.specs.declared.operation.Planned.{Planned}
use Rattle.cu_plan.specs.Text.{cells_of, operation_fields}

-- what follows of a fact follows where the fact does
pub on_ok : {T E : Type 0} (P Q : Type 0) (r : Result T E) → (P → Q) → OnOk r P → OnOk r Q
on_ok P Q (Ok x) more fact = more fact
on_ok P Q (Err e) more fact = tt

-- one more piece at the end
more : (a b t c : List ℕ) → t ≡ a ++ b → t ++ c ≡ a ++ (b ++ c)
more a b t c e = ap (λ (s : List ℕ). s ++ c) e ∙ append_assoc a b c

whole : (a b0 c0 b1 c1 b2 c2 b3 c3 b4 c4 b5 c5 : List ℕ) → a ++ b0 ++ c0 ++ b1 ++ c1 ++ b2 ++ c2 ++ b3 ++ c3 ++ b4 ++ c4 ++ b5 ++ c5 ≡ a ++ (b0 ++ c0 ++ b1 ++ c1 ++ b2 ++ c2 ++ b3 ++ c3 ++ b4 ++ c4 ++ b5 ++ c5)
whole a b0 c0 b1 c1 b2 c2 b3 c3 b4 c4 b5 c5 =
    let h1 : a ++ b0 ++ c0 ≡ a ++ (b0 ++ c0) = append_assoc a b0 c0 in
    let h2 : a ++ b0 ++ c0 ++ b1 ≡ a ++ (b0 ++ c0 ++ b1) = more a (b0 ++ c0) (a ++ b0 ++ c0) b1 h1 in
    let h3 : a ++ b0 ++ c0 ++ b1 ++ c1 ≡ a ++ (b0 ++ c0 ++ b1 ++ c1) = more a (b0 ++ c0 ++ b1) (a ++ b0 ++ c0 ++ b1) c1 h2 in
    let h4 : a ++ b0 ++ c0 ++ b1 ++ c1 ++ b2 ≡ a ++ (b0 ++ c0 ++ b1 ++ c1 ++ b2) = more a (b0 ++ c0 ++ b1 ++ c1) (a ++ b0 ++ c0 ++ b1 ++ c1) b2 h3 in
    let h5 : a ++ b0 ++ c0 ++ b1 ++ c1 ++ b2 ++ c2 ≡ a ++ (b0 ++ c0 ++ b1 ++ c1 ++ b2 ++ c2) = more a (b0 ++ c0 ++ b1 ++ c1 ++ b2) (a ++ b0 ++ c0 ++ b1 ++ c1 ++ b2) c2 h4 in
    let h6 : a ++ b0 ++ c0 ++ b1 ++ c1 ++ b2 ++ c2 ++ b3 ≡ a ++ (b0 ++ c0 ++ b1 ++ c1 ++ b2 ++ c2 ++ b3) = more a (b0 ++ c0 ++ b1 ++ c1 ++ b2 ++ c2) (a ++ b0 ++ c0 ++ b1 ++ c1 ++ b2 ++ c2) b3 h5 in
    let h7 : a ++ b0 ++ c0 ++ b1 ++ c1 ++ b2 ++ c2 ++ b3 ++ c3 ≡ a ++ (b0 ++ c0 ++ b1 ++ c1 ++ b2 ++ c2 ++ b3 ++ c3) = more a (b0 ++ c0 ++ b1 ++ c1 ++ b2 ++ c2 ++ b3) (a ++ b0 ++ c0 ++ b1 ++ c1 ++ b2 ++ c2 ++ b3) c3 h6 in
    let h8 : a ++ b0 ++ c0 ++ b1 ++ c1 ++ b2 ++ c2 ++ b3 ++ c3 ++ b4 ≡ a ++ (b0 ++ c0 ++ b1 ++ c1 ++ b2 ++ c2 ++ b3 ++ c3 ++ b4) = more a (b0 ++ c0 ++ b1 ++ c1 ++ b2 ++ c2 ++ b3 ++ c3) (a ++ b0 ++ c0 ++ b1 ++ c1 ++ b2 ++ c2 ++ b3 ++ c3) b4 h7 in
    let h9 : a ++ b0 ++ c0 ++ b1 ++ c1 ++ b2 ++ c2 ++ b3 ++ c3 ++ b4 ++ c4 ≡ a ++ (b0 ++ c0 ++ b1 ++ c1 ++ b2 ++ c2 ++ b3 ++ c3 ++ b4 ++ c4) = more a (b0 ++ c0 ++ b1 ++ c1 ++ b2 ++ c2 ++ b3 ++ c3 ++ b4) (a ++ b0 ++ c0 ++ b1 ++ c1 ++ b2 ++ c2 ++ b3 ++ c3 ++ b4) c4 h8 in
    let h10 : a ++ b0 ++ c0 ++ b1 ++ c1 ++ b2 ++ c2 ++ b3 ++ c3 ++ b4 ++ c4 ++ b5 ≡ a ++ (b0 ++ c0 ++ b1 ++ c1 ++ b2 ++ c2 ++ b3 ++ c3 ++ b4 ++ c4 ++ b5) = more a (b0 ++ c0 ++ b1 ++ c1 ++ b2 ++ c2 ++ b3 ++ c3 ++ b4 ++ c4) (a ++ b0 ++ c0 ++ b1 ++ c1 ++ b2 ++ c2 ++ b3 ++ c3 ++ b4 ++ c4) b5 h9 in
    let h11 : a ++ b0 ++ c0 ++ b1 ++ c1 ++ b2 ++ c2 ++ b3 ++ c3 ++ b4 ++ c4 ++ b5 ++ c5 ≡ a ++ (b0 ++ c0 ++ b1 ++ c1 ++ b2 ++ c2 ++ b3 ++ c3 ++ b4 ++ c4 ++ b5 ++ c5) = more a (b0 ++ c0 ++ b1 ++ c1 ++ b2 ++ c2 ++ b3 ++ c3 ++ b4 ++ c4 ++ b5) (a ++ b0 ++ c0 ++ b1 ++ c1 ++ b2 ++ c2 ++ b3 ++ c3 ++ b4 ++ c4 ++ b5) c5 h10 in
    h11

module _ (arrays among : List ArrayInfo) (op : ℕ) (o x : Planned) (old a b c d e f : List ℕ) (number node tasks cells : ℕ) where
  pub pieces : among ≡ arrays → x ≡ o → a ≡ old ++ codes "op " ++ decimal number → number ≡ op → b ≡ a ++ codes " " ++ kind_text x.op
      → c ≡ b ++ codes " node=" ++ decimal node → node ≡ x.node → d ≡ c ++ codes " tasks=" ++ decimal tasks → tasks ≡ tasks_of arrays o.op
      → e ≡ d ++ codes " cells=" ++ decimal cells → cells ≡ cells_of among x.op → f ≡ e ++ codes " projected=" ++ decimal x.projected
      → f ≡ old ++ operation_fields arrays op o
  unfolding operation_fields
  pieces same is p0 n0 p1 p2 n2 p3 n3 p4 n4 p5 = rw (p5, p4, n4, p3, n3, p2, n2, p1, p0, n0, same, is)
      (whole old (codes "op ") (decimal op) (codes " ") (kind_text o.op) (codes " node=") (decimal o.node) (codes " tasks=") (decimal (tasks_of arrays o.op))
      (codes " cells=") (decimal (cells_of arrays o.op)) (codes " projected=") (decimal o.projected))
