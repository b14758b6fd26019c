use Rattle.std.proofs.Common.{◌≡◌, false, List, ℕ, length, refl, sym, ap, ◌∙◌}
use Rattle.std.specs.Prelude.{not}
use Rattle.std.proofs.lemmas.Bool.{eq-eqb}
use Rattle.cu_form.specs.Expression.{Expression}
use Rattle.cu_form.specs.declared.form.Form.{Form}
use Rattle.cu_lower.specs.Parts.{Grown, is_given}
use Rattle.cu_lower.proofs.plan.Growing.add_live.Goals as goal
use Rattle.cu_lower.proofs.plan.Growing.add_live.Goals.{in_default-via-in-Input+else-len-out, in_default-via-in_default}

-- an input that is stored isn't given, nor is what isn't an input
stored_input : (e : Expression) (k : ℕ) (f : Form) (name : List ℕ) → f ≡ Form.Input name → k ≡ e.out → is_given e k f ≡ false
stored_input e k f name is out = ap (is_given e k) is ∙ ap not (eq-eqb k e.out out)

not_input : (e : Expression) (k : ℕ) (f : Form) → ((name : List ℕ) → f ≡ Form.Input name → ⊥) → is_given e k f ≡ false
not_input e k (Form.Input name) other = absurd (other name refl)
not_input e k f other = refl

pub add_made-requires-clause-steps : goal.add_made-requires-clause-steps
add_made-requires-clause-steps c =
    elim c.in_default.branch [
      | in_default-via-in-Input+else-len-out w ↦
          let node = w.len.ensures ∙ w.self.inside.places.ok.0 ∙ ap (λ (g : Grown). length g.places) w.self.view_is in
          c.requires.steps (stored_input c.args.expr.now (length c.args.self.now.places) c.args.form.now w.in-Input.name w.in-Input.is (sym node ∙ w.if-len-out.false ∙ w.out.ensures.out))
      | in_default-via-in_default w ↦ c.requires.steps (not_input c.args.expr.now (length c.args.self.now.places) c.args.form.now w.in_default.not-Input)
    ]
