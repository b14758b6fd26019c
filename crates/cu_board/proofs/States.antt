-- What the board keeps, after a claim and after a report.
use Rattle.std.proofs.Common.{◌≡◌, ℕ, Bool, List, [], Some, Result, Err, refl, sym, ap, ◌∙◌, subst, ⊎_elim, arith}
use Rattle.std.specs.Prelude.{IsTrue}
use Rattle.cu_store.specs.Yard.{Known, IsOfOneYard, IsJoined, uncounted, Served, YardLaws}
use Rattle.cu_store.specs.declared.faults.TaskFault.{TaskFault}
use Rattle.cu_history.specs.declared.entry.Entry.{Entry}
use Rattle.cu_history.specs.declared.entry.EventKind.TheVariants as kind
use Rattle.cu_op.specs.PlanView.{PlanView}
use Rattle.cu_table.specs.declared.claim.Claim.{Claim}
use Rattle.cu_table.specs.declared.claim.Claim.TheVariants as claim
use Rattle.cu_table.specs.Machine.{Machine, opening}
use Rattle.cu_table.specs.Step.{Settings, Run}
use Rattle.cu_table.specs.Table.{TableView, IsClaim, end_of, report_kind, is_late}
use Rattle.cu_board.specs.Board.{SeesTask, SeesDone, IsCauseOf, halted_fault, IsLegal, IsOfFirstYard, IsBoardState, Reports, OnRun, OnHalted, MayReport, TakesIn}
use Rattle.cu_board.proofs.Tables.{no_fault, MakesDone, DoneLaw, claim_settings, claim_ended, claim_done, report_fault, report_done}
use Rattle.cu_board.proofs.Passes.{or_right, cause_same, takes_yard, takes_seen, takes_task, takes_calls, may_cause}

-- what a pass has seen of the tasks that are done, after a claim
pub sees_claimed : (n : ℕ) (t : TableView) (r : Claim) (u : TableView) (k : Known) → IsClaim t n r u → DoneLaw t u → SeesDone t.settings.plan t.state k → SeesDone u.settings.plan u.state k
sees_claimed n t r u k claims law sees =
    subst (λ (s : Settings). SeesDone s.plan u.state k) (sym (claim_settings n t r u claims).0) (λ op task is d. sees op task is (claim_done n t r u claims law op task is d))

pub sees_more : (p : PlanView) (m : Machine) (k l : Known) → ((key : List ℕ) → IsTrue (k.seen key) → IsTrue (l.seen key)) → SeesDone p m k → SeesDone p m l
sees_more p m k l more sees op task is d c among = more _ (sees op task is d c among)

-- a pass that took in another has seen what that one has
pub joined_seen : (k caller m l : Known) → IsJoined caller m l → m ≡ uncounted k → (key : List ℕ) → IsTrue (k.seen key) → IsTrue (l.seen key)
joined_seen k caller m l j is key t = subst IsTrue (sym (j.seen key)) (or_right (caller.seen key) (m.seen key) (subst (λ (x : Known). IsTrue (x.seen key)) (sym is) t))

-- the cause of a halt that is answered
pub halted_cause : (n : ℕ) (t : TableView) (r : Claim) (u : TableView) (k l : Known) → ((f : TaskFault) → halted_fault t.state.ended ≡ Some f → IsCauseOf t.settings.plan k f)
    → IsClaim t n r u → IsOfOneYard k l → OnHalted r (IsCauseOf u.settings.plan l)
halted_cause n t (claim.Halted f) u k l cause claims yard =
    subst (λ (x : TableView). IsCauseOf x.settings.plan l f) (sym claims.0) (cause_same t.settings.plan k l f yard (cause f (ap halted_fault claims.1)))
halted_cause n t (claim.Run op task copy) u k l cause claims yard = tt
halted_cause n t claim.Idle u k l cause claims yard = tt
halted_cause n t claim.Finished u k l cause claims yard = tt
halted_cause n t (claim.Broken op task) u k l cause claims yard = tt

-- a fact where a task is to be run
pub on_run : {P : Type 0} (r : Claim) → P → OnRun r P
on_run (claim.Run op task copy) p = p
on_run claim.Idle p = tt
on_run claim.Finished p = tt
on_run (claim.Broken op task) p = tt
on_run (claim.Halted x) p = tt

pub not_run : (P : Type 0) (r : Claim) → ((op task copy : ℕ) → r ≡ claim.Run op task copy → ⊥) → OnRun r P
not_run P (claim.Run op task copy) never = absurd (never op task copy refl)
not_run P claim.Idle never = tt
not_run P claim.Finished never = tt
not_run P (claim.Broken op task) never = tt
not_run P (claim.Halted x) never = tt

-- a yard's own passes are of the yard of each of them
pub yard_of : {Y P : Type 0} (serves : Y → Served) (knows : P → Known) (owns : Y → P → Type 0) (together : P → P → Type 0) → YardLaws serves knows owns together
    → (yard : Y) (first p : P) → owns yard first → owns yard p → IsOfFirstYard knows owns first p
yard_of serves knows owns together laws yard first p a b = λ y of. laws.own y first p of (laws.one_yard yard first p a b)

module _ {Y P : Type 0} (knows : P → Known) (owns : Y → P → Type 0) where
  pub claim_keeps : (made : TableView) (first : P) (n : ℕ) (t : TableView) (p : P) (r : Claim) (u : TableView) (q : P) → IsBoardState knows owns made first t p
      → IsClaim t n r u → DoneLaw t u → IsLegal u → knows q ≡ knows p → IsOfFirstYard knows owns first q → IsBoardState knows owns made first u q
  claim_keeps made first n t p r u q state claims law legal same yard =
      let (settings, done) = claim_settings n t r u claims in
      record {
        same = (settings ∙ state.same.0, done ∙ state.same.1);
        legal = legal;
        yard = yard;
        seen = subst (SeesDone u.settings.plan u.state) (sym same) (sees_claimed n t r u (knows p) claims law state.seen);
        calls = let f = state.calls in let s = ap (λ (k : Known). k.calls) same in omega (arith, f, s);
        cause = λ f is. subst (λ (x : Settings × Known). IsCauseOf x.0.plan x.1 f) (λ i. (sym settings i, sym same i))
            (state.cause f (ap halted_fault (sym (claim_ended n t r u claims)) ∙ is));
      }

  report_sees : (b : Bool) (n op task : ℕ) (t : TableView) (p : P) (r : Result (Unit {0}) TaskFault) (u : TableView) (q : P) (caller : Known) → SeesDone t.settings.plan t.state (knows p)
      → MakesDone t u (end_of (report_kind b r) n op task) → MayReport t.settings.plan op task r caller → TakesIn r caller (knows p) (knows q) → SeesDone t.settings.plan u.state (knows q)
  report_sees b n op task t p r u q caller sees made may takes o k is d =
      ⊎_elim (λ was. λ c among. takes_seen r caller (knows p) (knows q) _ takes (sees o k is was c among))
      (λ (now : (report_kind b r ≡ kind.Done) × (op ≡ o) × (task ≡ k)).
      subst (λ (x : ℕ × ℕ). SeesTask t.settings.plan x.0 x.1 (knows q)) (λ i. (now.1 i, now.2 i))
      (takes_task t.settings.plan op task r caller (knows p) (knows q) (report_done b r now.0) may takes))
      (made o k is d)

  pub report_keeps : (made : TableView) (first : P) (n op task : ℕ) (t : TableView) (p : P) (r : Result (Unit {0}) TaskFault) (u : TableView) (q : P) (caller : Known)
      → IsBoardState knows owns made first t p → Reports t n op task r u → DoneLaw t u → IsLegal u → MayReport t.settings.plan op task r caller → IsOfOneYard (knows p) caller
      → TakesIn r caller (knows p) (knows q) → IsOfFirstYard knows owns first q → IsBoardState knows owns made first u q
  report_keeps made first n op task t p r u q caller state (g, kept) law legal may one takes yard =
      let b = is_late t.settings.plan t.state op task in
      let of = takes_yard r caller (knows p) (knows q) takes in
      record {
        same = (g.settings ∙ state.same.0, g.done ∙ state.same.1);
        legal = legal;
        yard = yard;
        seen = subst (λ (s : Settings). SeesDone s.plan u.state (knows q)) (sym g.settings)
            (report_sees b n op task t p r u q caller state.seen (law (end_of (report_kind b r) n op task) g) may takes);
        calls = let f = state.calls in let s = takes_calls r caller (knows p) (knows q) takes in omega (arith, f, s);
        cause = λ f is. subst (λ (s : Settings). IsCauseOf s.plan (knows q) f) (sym g.settings) (cause_same t.settings.plan (knows p) (knows q) f of (⊎_elim
            (λ (was : halted_fault t.state.ended ≡ Some f). state.cause f was)
            (λ (now : r ≡ Err f). cause_same t.settings.plan caller (knows p) f (turned (knows p) caller one)
            (may_cause t.settings.plan op task f caller (subst (λ (x : Result (Unit {0}) TaskFault). MayReport t.settings.plan op task x caller) now may)))
            (report_fault b n op task r t u (g, kept) f is)));
      }
    where
      turned : (k l : Known) → IsOfOneYard k l → IsOfOneYard l k
      turned k l y = record { promise = sym y.promise; entries = sym y.entries; lacks = sym y.lacks }

  pub opens : (t : TableView) (p : P) → IsLegal t → t.history ≡ [] → SeesDone t.settings.plan t.state (knows p) → IsBoardState knows owns t p t p
  opens t p legal empty seen =
      let begun : t.state ≡ opening t.done = subst (λ (h : List Entry). Run t.settings (opening t.done) h t.state) empty legal.1 in
      record {
        same = (refl, refl);
        legal = legal;
        yard = λ y o. o;
        seen = seen;
        calls = omega arith;
        cause = λ f is. absurd (no_fault f (sym (ap (λ (m : Machine). halted_fault m.ended) begun) ∙ is));
      }
