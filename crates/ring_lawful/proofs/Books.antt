-- A property of logs that beginnings inherit and own entries keep holds of every book, so of every log and of the chosen sequence, in each world of each run.
use Rattle.std.proofs.Common.{◌≡◌, ℕ, ◌⊎◌, [], ◌∷◌, ◌++◌, ◌∙◌, List, None, Option, Some, ap, arith, false, inl, inr, length, refl, subst, suc, sym, take, true, zero}
use Rattle.std.proofs.lemmas.List.Elements.{Contains-append_right}
use Rattle.std.specs.List.{Contains}
use Rattle.ring_types.specs.declared.entries.Entry.{Entry}
use Rattle.ring_types.specs.Logs.{term_at}
use Rattle.ring_types.specs.Rings.{IsRing, Layout, runs_engine}
use Rattle.ring_model.specs.declared.effects.Action.{Action}
use Rattle.ring_model.specs.declared.effects.Action.TheVariants as action
use Rattle.ring_model.specs.declared.messages.Body.{Body}
use Rattle.ring_model.specs.declared.messages.Body.TheVariants as body
use Rattle.ring_model.specs.declared.messages.Input.{Input}
use Rattle.ring_model.specs.declared.messages.Input.TheVariants as input
use Rattle.ring_model.specs.declared.messages.Message.{Message}
use Rattle.ring_model.specs.declared.nodes.Durable.{Durable}
use Rattle.ring_model.specs.declared.nodes.Soft.{Soft}
use Rattle.ring_types.specs.declared.values.Change.{Change}
use Rattle.ring_model.specs.Actions.{all_done, done}
use Rattle.ring_model.specs.Dispatch.{is_foreign_body, step}
use Rattle.ring_model.specs.Runs.{Election, IsRun, IsRunFrom, Move, acting, world, world_from}
use Rattle.ring_model.specs.Worlds.{ComeUp, GoDown, Handle, Rest, Task, WorldState, first_world, world_step}
use Rattle.ring_model.specs.Writes.{write_entry, write_refusal}
use Rattle.ring_model.proofs.Invariant.{History, IsBookedLog, IsHistory, IsNode, IsRunning, IsSealed, IsSent, Nothing_yet, Sealed_at}
use Rattle.ring_model.proofs.Lists.{none_contained}
use Rattle.ring_model.proofs.Moves.{Adds, Applies, Cuts, Engine, Extends, Guarded, Leads, Raises, Votes, guarded_keeps}
use Rattle.ring_model.proofs.Paths.{Ends, Goes_on, Path, guarded_books, path_cut, path_keeps}
use Rattle.ring_model.proofs.Turns.{IsWorld}
use Rattle.ring_model.proofs.Dispatch.{IsGiven, names_other, step_row}
use Rattle.ring_model.proofs.Carried.{OnWay}
use Rattle.ring_model.proofs.Events.{event_over}
use Rattle.ring_model.proofs.FirstWorld.{first_history, first_holds}
use Rattle.ring_lawful.proofs.Along.{Allowed}
use Rattle.ring_lawful.proofs.Carry.{IsFit, event_fits, first_fits}
use Rattle.ring_lawful.proofs.EngineSteps.{EngineRuns}
use Rattle.ring_lawful.proofs.Growing.{AppendIsLed, Foreign, InputIsLed, KeptByPlain, MayGrow}
use Rattle.ring_lawful.proofs.GrowingDispatch.{step_logs}
use Rattle.ring_lawful.proofs.Parts.{runs_from}

-- the property holds of the book of each led term
abbrev pub BooksHold : (List Entry → Type 0) → History → Type 0
BooksHold P h = (e : Election) → Contains h.elections e → P (h.book e.term)

-- what is asked of a property of logs
pub record IsKept (ring : Layout) (P : List Entry → Type 0) : Type 0 where
  pub none : P []
  pub begins : (n : ℕ) (l : List Entry) → P l → P (take n l)
  pub plain : KeptByPlain P
  pub writes : (id : ℕ) (d : Durable) (s : Soft) (changes : List Change) → write_refusal ring id d s changes ≡ None
      → (runs_engine ring id ≡ true → EngineRuns d s) → P d.log → P (d.log ++ write_entry ring id d changes ∷ [])

take_all : (l : List Entry) → take (length l) l ≡ l
take_all [] = refl
take_all (e ∷ l) = ap (λ (r : List Entry). e ∷ r) (take_all l)

-- more elections allow no less
one_more : (h g : History) (id : ℕ) (P : List Entry → Type 0) (d : Durable) (a : Action) → ((e : Election) → Contains h.elections e → Contains g.elections e)
    → MayGrow h id P d a → MayGrow g id P d a
one_more h g id P d (action.Append es) more (inl f) = inl (f.0, more f.0 f.1, f.2, f.3)
one_more h g id P d (action.Append es) more (inr keeps) = inr keeps
one_more h g id P d (action.SetTerm t) more x = tt
one_more h g id P d (action.Vote v floor) more x = tt
one_more h g id P d (action.Truncate p) more x = tt
one_more h g id P d (action.Prepare p) more x = tt
one_more h g id P d (action.Commit p) more x = tt
one_more h g id P d (action.RollBackAfter p) more x = tt
one_more h g id P d (action.DropPairs opids) more x = tt

all_more : (h g : History) (id : ℕ) (P : List Entry → Type 0) (d : Durable) (steps : List Action)
    → ((e : Election) → Contains h.elections e → Contains g.elections e) → Allowed (MayGrow h id P) d steps → Allowed (MayGrow g id P) d steps
all_more h g id P d [] more x = tt
all_more h g id P d (a ∷ steps) more x = (one_more h g id P d a more x.0, all_more h g id P (done d a) steps more x.1)

allowed_cut : (G : Durable → Action → Type 0) (d : Durable) (steps : List Action) (n : ℕ) → Allowed G d steps → Allowed G d (take n steps)
allowed_cut G d steps zero x = tt
allowed_cut G d [] (suc n) x = tt
allowed_cut G d (a ∷ steps) (suc n) x = (x.0, allowed_cut G (done d a) steps n x.1)

module _ (ring : Layout) (P : List Entry → Type 0) (kept : IsKept ring P) where
  -- a log is a beginning of a book
  pub log_holds : (h : History) (t : ℕ) (l : List Entry) → BooksHold P h → IsBookedLog ring h t l → P l
  log_holds h t [] b x = kept.none
  log_holds h t (e ∷ l) b x =
      let y = x.entry (length (e ∷ l)) (omega arith) (omega arith) in
      let p : P (h.book (term_at (e ∷ l) (length (e ∷ l)))) = subst (λ (u : ℕ). P (h.book u)) y.of_term (b y.election y.led) in
      subst P (sym y.in_book.same ∙ take_all (e ∷ l)) (kept.begins (length (e ∷ l)) (h.book (term_at (e ∷ l) (length (e ∷ l)))) p)

  -- ---- one action
  own_holds : (h g : History) (id : ℕ) (d : Durable) (a : Action) (e : Election) (x : Entry) → a ≡ action.Append (x ∷ []) → IsHistory ring g
      → (f : (e : Election) → Contains h.elections e → Contains g.elections e)
      → Contains g.elections e → e.node ≡ id → e.term ≡ d.term → MayGrow h id P d a → P d.log → P (done d a).log
  own_holds h g id d a e x is k more in_e by of_term may p = subst (λ (b : Action). P (done d b).log) (sym is) (go (subst (MayGrow h id P d) is may))
    where
      go : Foreign h id d.term ⊎ (P d.log → P (d.log ++ x ∷ [])) → P (d.log ++ x ∷ [])
      go (inr keeps) = keeps p
      go (inl f) = absurd (f.3 (let same : f.0 ≡ e = k.one_leader f.0 e (more f.0 f.1) in_e (f.2 ∙ sym of_term) in ap (λ (w : Election). w.node) same ∙ by))

  new_books : (h g : History) (id : ℕ) (d : Durable) (a : Action) → Guarded ring id h d a g → BooksHold P h → P (done d a).log → BooksHold P g
  new_books h g id d a move b p e in_e =
      elim (guarded_books ring id h g d a move e in_e) [ inl old ↦ subst P (sym old.1) (b e old.0) | inr new ↦ subst P (sym new) p ]

  guarded_holds : (h g : History) (id : ℕ) (d : Durable) (a : Action) → IsHistory ring h → IsNode ring h id d → Guarded ring id h d a g → MayGrow h id P d a
      → BooksHold P h → BooksHold P g
  guarded_holds h g id d a k n (Leads e x is may same) m b =
      let y = guarded_keeps ring id h g d a k n (Leads e x is may same) in
      let here : Contains g.elections e =
      subst (λ (w : History). Contains w.elections e) (sym same) (Contains-append_right h.elections (e ∷ []) e (zero, omega arith, refl)) in
      new_books h g id d a (Leads e x is may same) b
      (own_holds h g id d a e x is y.history y.grows.elections here may.by may.of_term m (log_holds h d.term d.log b n.log))
  guarded_holds h g id d a k n (Adds e x is may same) m b =
      let y = guarded_keeps ring id h g d a k n (Adds e x is may same) in
      new_books h g id d a (Adds e x is may same) b
      (own_holds h g id d a e x is y.history y.grows.elections (y.grows.elections e may.led) may.by may.of_term m (log_holds h d.term d.log b n.log))
  guarded_holds h g id d a k n (Raises t is up low same) m b = subst (BooksHold P) (sym same) b
  guarded_holds h g id d a k n (Votes c floor is may same) m b = subst (BooksHold P) (sym same) b
  guarded_holds h g id d a k n (Cuts p is may same) m b = subst (BooksHold P) (sym same) b
  guarded_holds h g id d a k n (Extends es is may same) m b = subst (BooksHold P) (sym same) b
  guarded_holds h g id d a k n (Applies p is s may same) m b = subst (BooksHold P) (sym same) b
  guarded_holds h g id d a k n (Engine s same) m b = subst (BooksHold P) (sym same) b

  path_holds : (h g : History) (id : ℕ) (d : Durable) (steps : List Action) → IsHistory ring h → IsNode ring h id d → Path ring id h d steps g
      → Allowed (MayGrow h id P) d steps → BooksHold P h → BooksHold P g
  path_holds h g id d [] k n Ends a b = b
  path_holds h g id d (s ∷ rest) k n (Goes_on {g = m} move path) a b =
      let y = guarded_keeps ring id h m d s k n move in
      path_holds m g id (done d s) rest y.history y.node path (all_more h m id P (done d s) rest y.grows.elections a.1)
      (guarded_holds h m id d s k n move a.0 b)

  -- ---- a step, however far it went
  input_led : (h : History) (id : ℕ) (i : Input) → IsHistory ring h → IsGiven h.messages id i → InputIsLed ring h id i
  input_led h id (input.Deliver m) k given = λ own. go m.body refl own
    where
      go : (b : Body) → m.body ≡ b → is_foreign_body ring id m.from b ≡ false → AppendIsLed h id b
      go (body.Append sent) is own =
          let x = subst (λ (b : Body). IsSent ring h m.from m.to b) is (k.sent m given.0) in
          let s = x.0 in
          (s.election, s.led, s.of_term, λ same. names_other ring id m.from sent own (sym s.by ∙ same))
      go (body.RequestVote asked) is own = tt
      go (body.VoteReply reply) is own = tt
      go (body.AppendReply answer) is own = tt
      go (body.ProxyAppend sent) is own = tt
      go (body.MockStart sent) is own = tt
      go (body.MockRequest sent) is own = tt
      go (body.MockReply sent) is own = tt
      go (body.MockResult sent) is own = tt
      go (body.TimeoutNow term) is own = tt
      go (body.ClientWrite changes) is own = tt
      go body.ClientRotate is own = tt
      go (body.ClientTransfer target) is own = tt
      go body.ClientCancel is own = tt
      go (body.ClientReply what) is own = tt
  input_led h id input.Elect k given = tt
  input_led h id input.Beat k given = tt
  input_led h id (input.Write client changes) k given = tt
  input_led h id (input.Rotate client) k given = tt
  input_led h id (input.Transfer client target) k given = tt
  input_led h id (input.Cancel client) k given = tt

  way_holds : (h : History) (id : ℕ) (d : Durable) (s : Soft) (i : Input) (n : ℕ) → IsHistory ring h → IsNode ring h id d → IsRunning ring h id d s
      → IsGiven h.messages id i → (runs_engine ring id ≡ true → EngineRuns d s)
      → BooksHold P h → P (all_done d (take n (step ring id d s i).plan.actions)).log
  way_holds h id d s i n k node r given runs b =
      let st = step ring id d s i in
      let row = step_row ring h id d s i k node r given in
      let c = path_cut ring id h row.acted d st.plan.actions n row.path in
      let a = step_logs ring h id P kept.plain d s i (λ changes is p. kept.writes id d s changes is runs p) (input_led h id i k given) in
      let y = path_keeps ring id h c.0 d (take n st.plan.actions) k node c.1 in
      let z = path_holds h c.0 id d (take n st.plan.actions) k node c.1 (allowed_cut (MayGrow h id P) d st.plan.actions n a) b in
      log_holds c.0 (all_done d (take n st.plan.actions)).term (all_done d (take n st.plan.actions)).log z y.node.log

  -- ---- events and runs
  on_way_holds : (w : WorldState) (h : History) (acted : Option (ℕ × Task)) (l : List Entry) → IsWorld ring w h → IsFit ring w → BooksHold P h
      → OnWay ring w acted l → P l
  on_way_holds w h None l k x b y = absurd y
  on_way_holds w h (Some (id, Handle i)) l k x b y =
      subst P (sym y.3.1)
      (way_holds h id (w.nodes id).durable y.0 i y.3.0 k.history (k.nodes id) (k.running id y.0 y.1) (subst (λ (ms : List Message). IsGiven ms id i) (sym k.messages) y.2) (λ runs. runs_from ring id (w.nodes id).durable y.0 (x.running id y.0 y.1).0 runs) b)
  on_way_holds w h (Some (id, GoDown)) l k x b y = subst P (sym y) (log_holds h (w.nodes id).durable.term (w.nodes id).durable.log b (k.nodes id).log)
  on_way_holds w h (Some (id, ComeUp)) l k x b y = subst P (sym y) (log_holds h (w.nodes id).durable.term (w.nodes id).durable.log b (k.nodes id).log)
  on_way_holds w h (Some (id, Rest)) l k x b y = subst P (sym y) (log_holds h (w.nodes id).durable.term (w.nodes id).durable.log b (k.nodes id).log)

  -- a history of the world whose books have the property
  pub record Booked (w : WorldState) : Type 0 where
    pub history : History
    pub world : IsWorld ring w history
    pub books : BooksHold P history

  run_books : (w : WorldState) (h : History) (run : List Move) → IsRunFrom ring w run → IsWorld ring w h → IsFit ring w → BooksHold P h
      → Booked (world_from ring w run)
  run_books w h [] is k x b = record { history = h; world = k; books = b }
  run_books w h (m ∷ run) is k x b =
      let c = event_over ring w h m k in
      let books : BooksHold P c.joined.after = λ e in_e. elim (c.books e in_e) [
        | inl old ↦ subst P (sym old.1) (b e old.0)
        | inr new ↦ on_way_holds w h (acting w m.event.what) (c.joined.after.book e.term) k x b new
      ] in
      run_books (world_step ring w m.event m.completion) c.joined.after run is.2 c.joined.world (event_fits ring w m is.0 x) books

  pub booked : (run : List Move) → IsRing ring → IsRun ring run → Booked (world ring run)
  unfolding world
  booked run valid is = run_books first_world first_history run is (first_holds ring valid) (first_fits ring) (λ e in_e. absurd (none_contained e in_e))

  sealed_holds : (h : History) (u : ℕ) (l : List Entry) → BooksHold P h → IsSealed ring h u (length l) l → P l
  sealed_holds h u [] b x = kept.none
  sealed_holds h u (e ∷ l) b (Nothing_yet z) = absurd (omega (arith, z))
  sealed_holds h u (e ∷ l) b (Sealed_at s p low le m y) =
      let q : P (h.book s) = subst (λ (t : ℕ). P (h.book t)) m.of_term (b m.election m.led) in
      subst P (sym y.same ∙ take_all (e ∷ l)) (kept.begins (length (e ∷ l)) (h.book s) q)

  -- the chosen sequence has the property
  pub chosen_holds : (run : List Move) → IsRing ring → IsRun ring run → P (world ring run).chosen
  chosen_holds run valid is =
      let x = booked run valid is in
      let c = x.world.history.chosen in
      subst P x.world.chosen (sealed_holds x.history c.0 x.history.chosen x.books c.1)

  -- and so has each node's log
  pub logs_hold : (run : List Move) → IsRing ring → IsRun ring run → (id : ℕ) → P ((world ring run).nodes id).durable.log
  logs_hold run valid is id =
      let x = booked run valid is in
      log_holds x.history ((world ring run).nodes id).durable.term ((world ring run).nodes id).durable.log x.books (x.world.nodes id).log
