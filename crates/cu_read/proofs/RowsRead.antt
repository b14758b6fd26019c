-- A row whose members are there is read.
use Rattle.std.proofs.Common.{◌≡◌, Bool, true, Option, Some, None, List, [], ℕ, codes, option_and_then, Result, Ok, refl, sym, ap, ◌∙◌, subst}
use Rattle.serde_json.specs.Data.{Data, Items}
use Rattle.serde_json.specs.Find.{get, as_array}
use Rattle.cu_form.specs.declared.args.Arg.{Arg}
use Rattle.cu_form.specs.declared.form.Form.{Form}
use Rattle.cu_result.specs.Results.{◌>>=◌, check, need}
use Rattle.cu_read.specs.Args.{arg_of, args_in, HasArgs}
use Rattle.cu_read.specs.Lists.{entries_after, entries_of}
use Rattle.cu_read.specs.Node.{or_row, row_of}
use Rattle.cu_read.specs.declared.faults.NodeCode.{NodeCode}

-- ---- the arguments

list_read : (entries : Items → Option (List Arg)) (list : Option Items) (xs : List Arg) → option_and_then entries list ≡ Some xs
    → (need list NodeCode.Form >>= λ items. need (entries items) NodeCode.Args) ≡ Ok xs
list_read entries (Some items) xs h = ap (λ (o : Option (List Arg)). need o NodeCode.Args) h
list_read entries None xs h = cc

member_read : (ids : List (List ℕ)) (member : Option Data) (xs : List Arg) → option_and_then (entries_of (arg_of ids)) member ≡ Some xs
    → (need (option_and_then as_array member) NodeCode.Form >>= λ items. need (entries_after (arg_of ids) [] items) NodeCode.Args) ≡ Ok xs
member_read ids (Some d) xs h = list_read (entries_after (arg_of ids) []) (as_array d) xs h
member_read ids None xs h = cc

pub args_read : (ids : List (List ℕ)) (d : Data) (xs : List Arg) → HasArgs ids d xs → args_in ids d ≡ Ok xs
args_read ids d xs h = member_read ids (get (codes "args") d) xs h

-- ---- the rows, by how many members they have besides the arguments

pub none_read : (b : Bool) (args : Result (List Arg) NodeCode) (make : List Arg → Form) (xs : List Arg) → b ≡ true → args ≡ Ok xs
    → (check b NodeCode.Form >>= λ _. args >>= λ ys. Ok (make ys)) ≡ Ok (make xs)
none_read b args make xs h r = rw (h, r) refl

pub one_read : {A : Type 0} (b : Bool) (o : Option A) (args : Result (List Arg) NodeCode) (make : A → List Arg → Form) (x : A) (xs : List Arg) → b ≡ true → o ≡ Some x → args ≡ Ok xs
    → (check b NodeCode.Form >>= λ _. need o NodeCode.Form >>= λ y. args >>= λ ys. Ok (make y ys)) ≡ Ok (make x xs)
one_read b o args make x xs h k r = rw (h, k, r) refl

pub two_read : {A B : Type 0} (b : Bool) (o : Option A) (p : Option B) (args : Result (List Arg) NodeCode) (make : A → B → List Arg → Form) (x : A) (y : B) (xs : List Arg)
    → b ≡ true → o ≡ Some x → p ≡ Some y → args ≡ Ok xs
    → (check b NodeCode.Form >>= λ _. need o NodeCode.Form >>= λ z. need p NodeCode.Form >>= λ w. args >>= λ ys. Ok (make z w ys)) ≡ Ok (make x y xs)
two_read b o p args make x y xs h k l r = rw (h, k, l, r) refl

pub four_read : {A B C D : Type 0} (b : Bool) (o : Option A) (p : Option B) (q : Option C) (r : Option D) (make : A → B → C → D → Form) (x : A) (y : B) (z : C) (w : D)
    → b ≡ true → o ≡ Some x → p ≡ Some y → q ≡ Some z → r ≡ Some w
    → (check b NodeCode.Form >>= λ _. need o NodeCode.Form >>= λ x'. need p NodeCode.Form >>= λ y'. need q NodeCode.Form >>= λ z'. need r NodeCode.Form >>= λ w'. Ok (make x' y' z' w')) ≡ Ok (make x y z w)
four_read b o p q r make x y z w h k l m n = rw (h, k, l, m, n) refl

pub five_read : {A B C D E : Type 0} (b : Bool) (o : Option A) (p : Option B) (q : Option C) (r : Option D) (s : Option E) (make : A → B → C → D → E → Form) (x : A) (y : B) (z : C) (w : D) (v : E)
    → b ≡ true → o ≡ Some x → p ≡ Some y → q ≡ Some z → r ≡ Some w → s ≡ Some v
    → (check b NodeCode.Form >>= λ _. need o NodeCode.Form >>= λ x'. need p NodeCode.Form >>= λ y'. need q NodeCode.Form >>= λ z'. need r NodeCode.Form >>= λ w'. need s NodeCode.Form >>= λ v'. Ok (make x' y' z' w' v')) ≡ Ok (make x y z w v)
five_read b o p q r s make x y z w v h k l m n i = rw (h, k, l, m, n, i) refl

-- ---- the families, of which each is asked where none before it has the operator

-- where the operator has this name, for which the row of its family is the first, that row is the node's
pub read_as : (op name : List ℕ) (ids : List (List ℕ)) (d : Data) (row next : Result Form NodeCode) (form : Form) → op ≡ name
    → row_of name ids d ≡ or_row row next → row ≡ Ok form → row_of op ids d ≡ Ok form
read_as op name ids d row next form is first h =
    subst (λ (o : List ℕ). row_of o ids d ≡ Ok form) (sym is) (first ∙ ap (λ (r : Result Form NodeCode). or_row r next) h)
