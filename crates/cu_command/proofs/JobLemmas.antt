-- A job, and why a text gives none.
use Rattle.std.proofs.Common.{◌≡◌, ℕ, ◌+◌, ◌*◌, List, [], ◌∷◌, ◌++◌, length, All, Option, Some, None, Ok, Err, Result, refl, sym, ap, ◌∙◌, subst, inl, inr, arith}
use Rattle.std.proofs.lemmas.List.Elements.{All-head, All-tail, All-weaker}
use Rattle.cu_expr.specs.Typing.{typed}
use Rattle.cu_expr.specs.declared.inputs.InputInfo.{InputInfo}
use Rattle.cu_expr.specs.declared.types.TypeFault.{TypeFault}
use Rattle.cu_form.specs.Expression.{Expression}
use Rattle.cu_meta.specs.Metadata.{read_metadata}
use Rattle.cu_node.specs.declared.info.NodeInfo.{NodeInfo}
use Rattle.cu_op.specs.Layout.{layout_view}
use Rattle.cu_op.specs.declared.layout.Layout.{Layout}
use Rattle.cu_read.specs.Read.{expression_of}
use Rattle.cu_read.specs.declared.faults.ReadFault.{ReadFault}
use Rattle.cu_store.specs.Faults.{Rose}
use Rattle.cu_store.specs.Held.{Contents}
use Rattle.cu_store.specs.Steps.{Shown, NoChange, Steps, OnceEach}
use Rattle.cu_v2.specs.Zarray.{zarray_layout}
use Rattle.cu_zarr.specs.Key.{metadata_key_of, zarray_key_of}
use Rattle.cu_zarr.specs.Layout.{ArrayLayout}
use Rattle.cu_command.specs.Inputs.{names_in, names_of, AreCalmAt, IsReadAt, IsTurn, IsInputFault}
use Rattle.cu_command.specs.Job.{names_or_none, names_said, IsUnread, IsUntyped, IsIllTyped, IsJobFault, StoodStill, IsTypable}
use Rattle.cu_command.specs.Stored.{IsArrayLayout, IsMetadata, IsZarrayOf, IsRefusedText, IsRefusedZarray, HoldsSuch, StoresLayout, StoresRefused, HasNoMetadata}
use Rattle.cu_command.specs.declared.job.JobFault.{JobFault}
use Rattle.cu_command.specs.declared.job.JobFault.TheVariants.{Expression as Unread, DepotFailed, NoArray, BadMeta, Typing as Untyped, NoMemory}

pub said_names : (text : List ℕ) (e : Expression) → expression_of text ≡ Ok e → names_said text ≡ names_in e
said_names text e said = ap names_or_none said

-- ---- the faults of a job

pub input_fault : (tries : ℕ) (text : List ℕ) (e : Expression) (entry now : Shown) (fault : JobFault) → expression_of text ≡ Ok e
    → IsInputFault tries (names_in e) entry now fault → IsJobFault tries text entry now fault
input_fault tries text e entry now (DepotFailed key) said h = subst (λ (names : List (List ℕ)). IsInputFault tries names entry now (DepotFailed key)) (sym (said_names text e said)) h
input_fault tries text e entry now (NoArray name) said h = subst (λ (names : List (List ℕ)). IsInputFault tries names entry now (NoArray name)) (sym (said_names text e said)) h
input_fault tries text e entry now (BadMeta name code) said h = subst (λ (names : List (List ℕ)). IsInputFault tries names entry now (BadMeta name code)) (sym (said_names text e said)) h
input_fault tries text e entry now NoMemory said h = tt
input_fault tries text e entry now (Unread code node) said h = absurd h
input_fault tries text e entry now (Untyped code node) said h = absurd h

pub unread_fault : (tries : ℕ) (text : List ℕ) (entry now : Shown) (fault : JobFault) → IsUnread text fault → IsJobFault tries text entry now fault
unread_fault tries text entry now (Unread code node) h = h
unread_fault tries text entry now NoMemory h = tt
unread_fault tries text entry now other h = absurd h

pub untyped_fault : (tries : ℕ) (text : List ℕ) (e : Expression) (inputs : List InputInfo) (entry now : Shown) (fault : JobFault) → expression_of text ≡ Ok e
    → names_of inputs ≡ names_in e → All (IsReadAt entry) inputs → IsUntyped inputs e fault → IsJobFault tries text entry now fault
untyped_fault tries text e inputs entry now (Untyped code node) said names read h =
    record { expr = e; said = said; inputs = inputs; names = names; read = read; place = h.0; fault = h.1 }
untyped_fault tries text e inputs entry now NoMemory said names read h = tt
untyped_fault tries text e inputs entry now other said names read h = absurd h

-- the calls for the names of the expression are those for the names that the text uses
pub said_step : (tries : ℕ) (text : List ℕ) (e : Expression) (entry now : Shown) → expression_of text ≡ Ok e → Steps NoChange 0 (tries * length (names_in e)) entry now
    → Steps NoChange 0 (tries * length (names_said text)) entry now
said_step tries text e entry now said step = subst (λ (names : List (List ℕ)). Steps NoChange 0 (tries * length names) entry now) (sym (said_names text e said)) step

pub said_once : (text : List ℕ) (e : Expression) (entry now : Shown) → expression_of text ≡ Ok e → OnceEach (2 * length (names_in e)) entry now
    → OnceEach (2 * length (names_said text)) entry now
said_once text e entry now said once = subst (λ (names : List (List ℕ)). OnceEach (2 * length names) entry now) (sym (said_names text e said)) once

pub layouts_of : (entry : Shown) (inputs listed : List InputInfo) → listed ≡ inputs → All (IsReadAt entry) inputs → All (λ i. IsArrayLayout i.layout) listed
layouts_of entry inputs listed same read =
    subst (λ (is : List InputInfo). All (λ (i : InputInfo). IsArrayLayout i.layout) is) (sym same)
    (All-weaker (IsReadAt entry) (λ (i : InputInfo). IsArrayLayout i.layout) (λ i was. was.layout) inputs read)

-- ---- what is held for a name is one layout

abbrev layout_again : ArrayLayout → Layout
layout_again v = record { dtype = v.dtype; grid = record { shape = v.shape; chunk = v.chunk }; encoding = v.encoding; endian = v.endian; fill = v.fill }

-- a reader's answer is one
module _ {E : Type 0} where
  ok_same : (r : Result ArrayLayout E) (l m : Layout) → r ≡ Ok (layout_view l) → r ≡ Ok (layout_view m) → l ≡ m
  ok_same r l m one other = ap layout_again (views (sym one ∙ other))
    where
      views : ◌≡◌ {A = Result ArrayLayout E} (Ok (layout_view l)) (Ok (layout_view m)) → layout_view l ≡ layout_view m
      views e = cc

  ok_or_err : (r : Result ArrayLayout E) (v : ArrayLayout) (f : E) → r ≡ Ok v → r ≡ Err f → ⊥
  ok_or_err r v f ok err = cc

some_same : (a b : List ℕ) → Some a ≡ Some b → a ≡ b
some_same a b e = cc

-- a key holds one text
module _ (contents : Contents) (key : List ℕ) (P Q : List ℕ → Type 0) where
  both_held : {X : Type 0} → ((text : List ℕ) → P text → Q text → X) → HoldsSuch (Some contents) key P → HoldsSuch (Some contents) key Q → X
  both_held both (text, there, is) (other, here, means) = both text is (subst Q (some_same other text (sym here ∙ there)) means)

  not_gone : HoldsSuch (Some contents) key P → contents key ≡ None → ⊥
  not_gone (text, there, is) gone = cc

module _ (contents : Contents) (name : List ℕ) where
  abbrev Anything : List ℕ → Type 0
  Anything text = Unit {0}

  one_stored : (l m : Layout) → StoresLayout (Some contents) name l → StoresLayout (Some contents) name m → l ≡ m
  one_stored l m (inl one) (inl other) =
      both_held contents (metadata_key_of name) (IsMetadata l) (IsMetadata m) (λ text is means. ok_same (read_metadata text) l m is.reads means.reads) one other
  one_stored l m (inr (gone, one)) (inr (absent, other)) =
      both_held contents (zarray_key_of name) (IsZarrayOf l) (IsZarrayOf m) (λ text is means. ok_same (zarray_layout text) l m is.reads means.reads) one other
  one_stored l m (inl one) (inr (absent, other)) = absurd (not_gone contents (metadata_key_of name) (IsMetadata l) Anything one absent)
  one_stored l m (inr (gone, one)) (inl other) = absurd (not_gone contents (metadata_key_of name) (IsMetadata m) Anything other gone)

  not_refused : (l : Layout) (code : ℕ) → StoresLayout (Some contents) name l → StoresRefused (Some contents) name code → ⊥
  not_refused l code (inl one) (inl bad) =
      both_held contents (metadata_key_of name) (IsMetadata l) (λ text. IsRefusedText text code)
      (λ text is says. ok_or_err (read_metadata text) (layout_view l) says.0 is.reads says.1) one bad
  not_refused l code (inr (gone, one)) (inr (absent, bad)) =
      both_held contents (zarray_key_of name) (IsZarrayOf l) (λ text. IsRefusedZarray text code)
      (λ text is says. ok_or_err (zarray_layout text) (layout_view l) says.0 is.reads says.1) one bad
  not_refused l code (inl one) (inr (absent, bad)) = absurd (not_gone contents (metadata_key_of name) (IsMetadata l) Anything one absent)
  not_refused l code (inr (gone, one)) (inl bad) = absurd (not_gone contents (metadata_key_of name) (λ text. IsRefusedText text code) Anything bad gone)

  not_missing : (l : Layout) → StoresLayout (Some contents) name l → HasNoMetadata (Some contents) name → ⊥
  not_missing l (inl one) none = not_gone contents (metadata_key_of name) (IsMetadata l) Anything one none.0
  not_missing l (inr (gone, one)) none = not_gone contents (zarray_key_of name) (IsZarrayOf l) Anything one none.1

-- ---- inputs of the same names, whose layouts are held, are the same

head_same : (a b : List ℕ) (xs ys : List (List ℕ)) → a ∷ xs ≡ b ∷ ys → a ≡ b
head_same a b xs ys e = cc

rest_same : (a b : List ℕ) (xs ys : List (List ℕ)) → a ∷ xs ≡ b ∷ ys → xs ≡ ys
rest_same a b xs ys e = cc

module _ (entry : Shown) (contents : Contents) (told : entry.held ≡ Some contents) where
  abbrev HeldAt : InputInfo → Type 0
  HeldAt i = StoresLayout (Some contents) i.name i.layout

  -- what an input is in a held state
  abbrev IsCalmly : InputInfo → Type 0
  IsCalmly i = AreCalmAt entry i.name

  one_input : (a b : InputInfo) → a.name ≡ b.name → HeldAt a → IsCalmly a → IsReadAt entry b → a ≡ b
  one_input a b named holds calm read =
      let here : AreCalmAt entry b.name = subst (λ (n : List ℕ). AreCalmAt entry n) named calm in
      let there : StoresLayout (Some contents) b.name b.layout = subst (λ (h : Option Contents). StoresLayout h b.name b.layout) told (read.held here) in
      let mine : StoresLayout (Some contents) b.name a.layout = subst (λ (n : List ℕ). StoresLayout (Some contents) n a.layout) named holds in
      let same : a.layout ≡ b.layout = one_stored contents b.name a.layout b.layout mine there in
      ap (λ (n : List ℕ). record { name = n; layout = a.layout }) named ∙ ap (λ (l : Layout). record { name = b.name; layout = l }) same

  same_inputs : (xs ys : List InputInfo) → names_of xs ≡ names_of ys → All HeldAt xs → All IsCalmly xs → All (IsReadAt entry) ys → xs ≡ ys
  same_inputs [] [] names holds calm read = refl
  same_inputs [] (b ∷ ys) names holds calm read = cc
  same_inputs (a ∷ xs) [] names holds calm read = cc
  same_inputs (a ∷ xs) (b ∷ ys) names holds calm read =
      let first : a ≡ b = one_input a b (head_same a.name b.name (names_of xs) (names_of ys) names) (All-head HeldAt a xs holds) (All-head IsCalmly a xs calm) (All-head (IsReadAt entry) b ys read) in
      let rest : xs ≡ ys = same_inputs xs ys (rest_same a.name b.name (names_of xs) (names_of ys) names) (All-tail HeldAt a xs holds) (All-tail IsCalmly a xs calm) (All-tail (IsReadAt entry) b ys read) in
      ap (λ (i : InputInfo). i ∷ xs) first ∙ ap (λ (is : List InputInfo). b ∷ is) rest

  -- an input that is named has what all inputs have
  named_input : (xs front : List InputInfo) (name : List ℕ) (behind : List (List ℕ)) → names_of xs ≡ names_of front ++ name ∷ behind → All HeldAt xs → All IsCalmly xs
      → (i : InputInfo) × (i.name ≡ name) × HeldAt i × IsCalmly i
  named_input [] [] name behind names holds calm = cc
  named_input [] (f ∷ front) name behind names holds calm = cc
  named_input (a ∷ xs) [] name behind names holds calm = (a, head_same a.name name (names_of xs) behind names, All-head HeldAt a xs holds, All-head IsCalmly a xs calm)
  named_input (a ∷ xs) (f ∷ front) name behind names holds calm =
      named_input xs front name behind (rest_same a.name f.name (names_of xs) (names_of front ++ name ∷ behind) names) (All-tail HeldAt a xs holds) (All-tail IsCalmly a xs calm)

  never_missing : (xs : List InputInfo) (names : List (List ℕ)) (name : List ℕ) → names_of xs ≡ names → All HeldAt xs → All IsCalmly xs → IsTurn names entry name
      → HasNoMetadata entry.held name → ⊥
  never_missing xs names name same holds calm turn none =
      let (i, named, here, still) = named_input xs turn.before name turn.behind (same ∙ turn.place) holds calm in
      let absent : HasNoMetadata (Some contents) name = subst (λ (h : Option Contents). HasNoMetadata h name) told none in
      not_missing contents name i.layout (subst (λ (n : List ℕ). StoresLayout (Some contents) n i.layout) named here) absent

  never_refused : (xs : List InputInfo) (names : List (List ℕ)) (name : List ℕ) (code : ℕ) → names_of xs ≡ names → All HeldAt xs → All IsCalmly xs → IsTurn names entry name
      → (AreCalmAt entry name → StoresRefused entry.held name code) → ⊥
  never_refused xs names name code same holds calm turn refused =
      let (i, named, here, still) = named_input xs turn.before name turn.behind (same ∙ turn.place) holds calm in
      let bad : StoresRefused (Some contents) name code =
      subst (λ (h : Option Contents). StoresRefused h name code) told (refused (subst (λ (n : List ℕ). AreCalmAt entry n) named still)) in
      not_refused contents name i.layout code (subst (λ (n : List ℕ). StoresLayout (Some contents) n i.layout) named here) bad

-- inputs that are held are the ones that are read
pub inputs_read : (entry : Shown) (contents : Contents) (inputs read : List InputInfo) → entry.held ≡ Some contents → names_of inputs ≡ names_of read
    → All (λ i. StoresLayout entry.held i.name i.layout) inputs → All (λ i. AreCalmAt entry i.name) inputs → All (IsReadAt entry) read → inputs ≡ read
inputs_read entry contents inputs read told names held calm were =
    same_inputs entry contents told inputs read names
    (subst (λ (h : Option Contents). All (λ (i : InputInfo). StoresLayout h i.name i.layout) inputs) told held) calm were

-- ---- completeness

said_twice : (r : Result Expression ReadFault) (a b : Expression) → r ≡ Ok a → r ≡ Ok b → a ≡ b
said_twice r a b one other = cc

said_or_not : (r : Result Expression ReadFault) (e : Expression) (f : ReadFault) → r ≡ Ok e → r ≡ Err f → ⊥
said_or_not r e f ok err = cc

typed_or_not : (r : Result (List NodeInfo) TypeFault) (ts : List NodeInfo) (f : TypeFault) → r ≡ Ok ts → r ≡ Err f → ⊥
typed_or_not r ts f ok err = cc

not_risen : (tries before after : ℕ) → StoodStill before after → Rose (tries + 1) before after → ⊥
not_risen tries before after still rose = omega (arith, still.0, still.1, rose)

pub only_memory : (retries : ℕ) (text : List ℕ) (entry now : Shown) (fault : JobFault) → IsTypable entry text → StoodStill entry.faults now.faults
    → IsJobFault (retries + 1) text entry now fault → fault ≡ NoMemory
only_memory retries text entry now fault typable still h = at_fault fault h
  where
    held : All (HeldAt entry typable.contents typable.told) typable.inputs
    held = subst (λ (h : Option Contents). All (λ (i : InputInfo). StoresLayout h i.name i.layout) typable.inputs) typable.told typable.held

    names : names_of typable.inputs ≡ names_said text
    names = typable.names ∙ sym (said_names text typable.expr typable.said)

    never_typed : (code node : ℕ) → IsIllTyped entry text code node → ⊥
    never_typed code node ill =
        let expr : typable.expr ≡ ill.expr = said_twice (expression_of text) typable.expr ill.expr typable.said ill.said in
        let inputs : typable.inputs ≡ ill.inputs =
        inputs_read entry typable.contents typable.inputs ill.inputs typable.told (typable.names ∙ ap names_in expr ∙ sym ill.names) typable.held typable.calm ill.read in
        let same : typed typable.inputs typable.expr ≡ typed ill.inputs ill.expr = ap (λ (is : List InputInfo). typed is typable.expr) inputs ∙ ap (typed ill.inputs) expr in
        typed_or_not (typed ill.inputs ill.expr) typable.types (record { code = code; node = node; place = ill.place }) (sym same ∙ typable.accepted) ill.fault

    at_fault : (fault : JobFault) → IsJobFault (retries + 1) text entry now fault → fault ≡ NoMemory
    at_fault (Unread code node) h = absurd (said_or_not (expression_of text) typable.expr _ typable.said h)
    at_fault (DepotFailed key) (name, is, turn, rose) = absurd (not_risen retries entry.faults now.faults still rose)
    at_fault (NoArray name) h = absurd (never_missing entry typable.contents typable.told typable.inputs (names_said text) name names held typable.calm h.0 h.1)
    at_fault (BadMeta name code) h = absurd (never_refused entry typable.contents typable.told typable.inputs (names_said text) name code names held typable.calm h.0 h.1.entry)
    at_fault (Untyped code node) h = absurd (never_typed code node h)
    at_fault NoMemory h = refl
