-- The tests of the rule of inlining say what it says.
use Rattle.std.proofs.Common.{◌≡◌, ◌≢◌, inl, inr, ℕ, ◌==◌, ◌&&◌, not, Bool, true, Option, Some, None, refl}
use Rattle.std.proofs.lemmas.Bool.{and_parts}
use Rattle.std.proofs.lemmas.Bool.Decides.{eqb_tells}
use Rattle.cu_op.specs.Arrays.{maker_at}
use Rattle.cu_op.specs.Operation.{reads_by_chunk, writes_one_chunk}
use Rattle.cu_op.specs.PlanView.{PlanView, op_of}
use Rattle.cu_fuse.specs.Inlining.{read_count, MayBeInlined}
use Rattle.cu_plan.specs.Inlined.{is_made_by_chunk, may_be_inlined}

and_both : (a b : Bool) → a ≡ true → b ≡ true → (a && b) ≡ true
and_both a b x y = rw (x, y) refl

equal_true : (a b : ℕ) → (a == b) ≡ true → a ≡ b
equal_true a b h = elim (eqb_tells a b) [ inl p ↦ p.1 | inr n ↦ (let f = n.0 in cc) ]

true_equal : (a b : ℕ) → a ≡ b → (a == b) ≡ true
true_equal a b h = elim (eqb_tells a b) [ inl p ↦ p.0 | inr n ↦ absurd (n.1 h) ]

not_true : (a b : ℕ) → not (a == b) ≡ true → a ≢ b
not_true a b h same = let t = true_equal a b same in let f : not true ≡ true = rw t at h in cc

true_not : (a b : ℕ) → a ≢ b → not (a == b) ≡ true
true_not a b h = elim (eqb_tells a b) [ inl p ↦ absurd (h p.1) | inr n ↦ rw n.0 refl ]

-- ---- the whole rule

maker_told : (p : PlanView) (m : Option ℕ) → is_made_by_chunk p m ≡ true → (k : ℕ) × (m ≡ Some k) × (writes_one_chunk (op_of p k) ≡ true)
maker_told p None h = cc
maker_told p (Some k) h = (k, refl, h)

told_maker : (p : PlanView) (m : Option ℕ) (k : ℕ) → m ≡ Some k → writes_one_chunk (op_of p k) ≡ true → is_made_by_chunk p m ≡ true
told_maker p m k e h = rw e h

module _ (p : PlanView) (k a : ℕ) where
  abbrev made : Bool
  made = is_made_by_chunk p (maker_at p.arrays a)

  abbrev inner : Bool
  inner = not (a == p.out)

  abbrev once : Bool
  once = read_count p.ops a == 1

  abbrev chunk : Bool
  chunk = reads_by_chunk p.arrays (op_of p k) a

  pub may_told : may_be_inlined p k a ≡ true → MayBeInlined p k a
  may_told h =
      let x = and_parts made (inner && (once && chunk)) h in
      let y = and_parts inner (once && chunk) x.1 in
      let z = and_parts once chunk y.1 in
      record {
        maker = maker_told p (maker_at p.arrays a) x.0;
        inner = not_true a p.out y.0;
        once = equal_true (read_count p.ops a) 1 z.0;
        chunk = z.1;
      }

  pub told_may : MayBeInlined p k a → may_be_inlined p k a ≡ true
  told_may m =
      and_both made (inner && (once && chunk)) (told_maker p (maker_at p.arrays a) m.maker.0 m.maker.1 m.maker.2)
      (and_both inner (once && chunk) (true_not a p.out m.inner)
      (and_both once chunk (true_equal (read_count p.ops a) 1 m.once) m.chunk))
