-- Inputs that are given, which have their arrays from the beginning, and nodes whose steps make their arrays.
use Rattle.std.proofs.Common.{◌≡◌, ◌⊎◌, ℕ, ◌==◌, Bool, true, false, List, length, refl, ap, ◌∙◌, inl, inr, if◌then◌else◌}
use Rattle.std.specs.Prelude.{not}
use Rattle.std.proofs.lemmas.Bool.{cases_Bool}
use Rattle.cu_form.specs.Expression.{Expression}
use Rattle.cu_form.specs.declared.form.Form.{Form}
use Rattle.cu_lower.specs.declared.options.Options.{Options}
use Rattle.cu_node.specs.declared.info.NodeInfo.{NodeInfo}
use Rattle.cu_lower.specs.Inputs.{input_place}
use Rattle.cu_lower.specs.Parts.{Grown, is_given, with_made, with_next_node, with_place}

-- an input that isn't itself stored
pub record IsGivenInput (e : Expression) (k : ℕ) (f : Form) : Type 0 where
  pub name : List ℕ
  pub is : f ≡ Form.Input name
  pub other : (k == e.out) ≡ false

pub given_kind : (e : Expression) (k : ℕ) (f : Form) → IsGivenInput e k f ⊎ (is_given e k f ≡ false)
given_kind e k (Form.Input name) =
    elim (cases_Bool (k == e.out)) [
      | inl out ↦ inr (ap not out)
      | inr other ↦ inl (record { name = name; is = refl; other = other })
    ]
given_kind e k f = inr refl

stored : (b : Bool) → not b ≡ false → b ≡ true
stored true h = refl
stored false h = cc

-- an input that isn't given is stored
pub input_stored : (e : Expression) (k : ℕ) (name : List ℕ) → is_given e k (Form.Input name) ≡ false → (k == e.out) ≡ true
input_stored e k name h = stored (k == e.out) h

pub node_made : (e : Expression) (infos : List NodeInfo) (options : Options) (g : Grown) (f : Form) → is_given e (length g.places) f ≡ false → with_next_node e infos options g f ≡ with_made e infos options g f
node_made e infos options g (Form.Input name) made =
    ap (λ (b : Bool). if b then with_made e infos options g (Form.Input name) else with_place g (input_place e name)) (input_stored e (length g.places) name made)
node_made e infos options g f made = refl

pub node_given : (e : Expression) (infos : List NodeInfo) (options : Options) (g : Grown) (f : Form) (k : ℕ) → length g.places ≡ k → (i : IsGivenInput e k f) → with_next_node e infos options g f ≡ with_place g (input_place e i.name)
node_given e infos options g f k number i =
    ap (with_next_node e infos options g) i.is
    ∙ ap (λ (b : Bool). if b then with_made e infos options g (Form.Input i.name) else with_place g (input_place e i.name)) (ap (λ n. n == e.out) number ∙ i.other)
