-- The Append rule by its cases: each test of the rule is one of the code, and past the first four the plan rests on the log and the counts alone.
use Rattle.std.proofs.Common.{◌≡◌, ℕ, ◌+◌, ◌≤◌, ◌==◌, ◌&&◌, ◌||◌, Bool, true, false, nat_lt, if◌then◌else◌, List, [], ◌∷◌, ◌++◌, length, Option, Some, None, Result, Ok, Err, refl, sym, ap, ap₂, ◌∙◌, subst, arith}
use Rattle.std.specs.Prelude.{IfSome, IfOk}
use Rattle.ring_model.specs.declared.effects.Step.{Step}
use Rattle.ring_model.specs.declared.effects.Tear.{Tear}
use Rattle.edge_traits.specs.Views.{Sight}
use Rattle.ring_model.specs.declared.faults.CoreFault.{CoreFault}
use Rattle.ring_model.specs.declared.faults.CoreFault.TheVariants as fault
use Rattle.commit_pipeline.specs.Faults.{CoreFails}
use Rattle.replicate_core.specs.declared.appends.Matched.{Matched}
use Rattle.std.proofs.lemmas.Bool.Decides.{nat_tests}
use Rattle.ring_types.specs.declared.limits.TheConstants.{LAST_FILE}
use Rattle.ring_types.specs.declared.entries.Entry.{Entry}
use Rattle.ring_types.specs.declared.entries.Pair.{Pair}
use Rattle.ring_types.specs.Rings.{Layout}
use Rattle.ring_types.specs.Logs.{term_at, rotates}
use Rattle.ring_model.specs.declared.nodes.Durable.{Durable}
use Rattle.ring_model.specs.declared.nodes.Soft.{Soft}
use Rattle.ring_model.specs.declared.nodes.Role.{Role}
use Rattle.ring_model.specs.declared.nodes.Role.TheVariants.{Follower, Candidate, Leader}
use Rattle.ring_model.specs.declared.effects.Action.{Action}
use Rattle.ring_model.specs.declared.effects.Action.TheVariants as action
use Rattle.ring_model.specs.declared.effects.Say.{Say}
use Rattle.ring_model.specs.declared.effects.Plan.{Plan}
use Rattle.ring_model.specs.declared.messages.Append.{Append}
use Rattle.ring_model.specs.Actions.{all_done, done}
use Rattle.ring_model.specs.Nodes.{is_leader}
use Rattle.ring_model.specs.Steps.{follow_actions, idle, stepped, demoted, unknowns}
use Rattle.ring_model.specs.Replication.{on_append, append_tear, outgrows, leads_it, tear_in, first_tear, terms_of, match_append, follow_append, reply}
use Rattle.commit_pipeline.specs.Heres.{IsNode, durable_of}
use Rattle.commit_pipeline.specs.declared.heres.Here.{Here}
use Rattle.replicate_core.specs.Appends.{AppendAnswers, reply_plan, part_of, taken_of, plan_of, commit_of, new_commit, first_of, says_of, soft_of, steps_down, is_candidate}

-- ---- the engine's actions rest on log, applied count and pairs alone
record Alike (d e : Durable) : Type 0 where
  log : d.log ≡ e.log
  applied : d.applied ≡ e.applied
  prepared : d.prepared ≡ e.prepared

alike-done : (d e : Durable) (a : Action) → Alike d e → Alike (done d a) (done e a)
alike-done d e (action.SetTerm t) h = record { log = h.log; applied = h.applied; prepared = h.prepared }
alike-done d e (action.Vote v f) h = record { log = h.log; applied = h.applied; prepared = h.prepared }
alike-done d e (action.Append xs) h = record { log = ap (λ (l : List Entry). l ++ xs) h.log; applied = h.applied; prepared = h.prepared }
alike-done d e (action.Truncate p) h = let l = h.log in record { log = cc; applied = h.applied; prepared = h.prepared }
alike-done d e (action.Prepare p) h = record { log = h.log; applied = h.applied; prepared = ap (λ (ps : List Pair). ps ++ p ∷ []) h.prepared }
alike-done d e (action.Commit p) h = let l = h.log in let q = h.prepared in record { log = h.log; applied = refl; prepared = cc }
alike-done d e (action.RollBackAfter p) h = let q = h.prepared in record { log = h.log; applied = h.applied; prepared = cc }
alike-done d e (action.DropPairs os) h = let q = h.prepared in record { log = h.log; applied = h.applied; prepared = cc }

alike-all : (d e : Durable) (actions : List Action) → Alike d e → Alike (all_done d actions) (all_done e actions)
alike-all d e [] h = h
alike-all d e (a ∷ actions) h = alike-all (done d a) (done e a) actions (alike-done d e a h)

follow-alike : (ring : Layout) (me : ℕ) (d e : Durable) (c : ℕ) → Alike d e → follow_actions ring me d c ≡ follow_actions ring me e c
follow-alike ring me d e c h = let l = h.log in let a = h.applied in let p = h.prepared in cc

-- ---- matching, from whatever durable and soft part
abbrev ended : Layout → ℕ → Durable → Soft → Append → List Action → List Say → Soft → Step
ended ring me d s sent first says soft =
    record { plan = plan_of ring me d.log d.applied d.prepared s.commit first says sent; soft = record soft { commit = commit_of d.log s.commit sent } }

abbrev matched : Layout → ℕ → Durable → Soft → List Action → List Say → Append → Type 0
matched ring me d s first says sent =
    match_append ring me d s first says sent ≡ ended ring me d s sent first says s

match-is : (ring : Layout) (me : ℕ) (d : Durable) (s : Soft) (first : List Action) (says : List Say) (sent : Append)
    → Alike (all_done d first) (part_of d.log d.applied d.prepared) → matched ring me d s first says sent
match-is ring me d s first says sent alike = by (nat_lt (length d.log) sent.prev.position) (term_at d.log sent.prev.position == sent.prev.term) refl refl
  where
    by : (a b : Bool) → nat_lt (length d.log) sent.prev.position ≡ a → (term_at d.log sent.prev.position == sent.prev.term) ≡ b
        → matched ring me d s first says sent
    by true b h k = simp h
    by false true h k =
        let taken = taken_of ring me d.log sent in
        let c = new_commit s.commit sent in
        let part : Durable = part_of d.log d.applied d.prepared in
        let same : follow_actions ring me (all_done (all_done d first) taken) c ≡ follow_actions ring me (all_done part taken) c =
        follow-alike ring me (all_done (all_done d first) taken) (all_done part taken) c (alike-all (all_done d first) part taken alike) in
        simp (h, k, same)
    by false false h k = simp (h, k)

-- ---- past the first four cases
abbrev settled : Layout → ℕ → Durable → Soft → Append → Type 0
settled ring me d s sent =
    follow_append ring me d s sent ≡ ended ring me d s sent (first_of d.term sent) (says_of d.term s sent) (soft_of d.term s sent)

same_part : (d : Durable) (t : ℕ) → Alike (record d { term = t }) (part_of d.log d.applied d.prepared)
same_part d t = record { log = refl; applied = refl; prepared = refl }

abbrev by_role : Layout → ℕ → Durable → Soft → Append → Role → Step
by_role ring me d s sent Follower = match_append ring me d s [] [] sent
by_role ring me d s sent Candidate = match_append ring me d (demoted s) [] (unknowns s) sent
by_role ring me d s sent Leader = idle s

role_is : (ring : Layout) (me : ℕ) (d : Durable) (s : Soft) (sent : Append) (r : Role)
    → elim r [ Follower ↦ match_append ring me d s [] [] sent | Candidate ↦ match_append ring me d (demoted s) [] (unknowns s) sent | Leader ↦ idle s ]
    ≡ by_role ring me d s sent r
role_is ring me d s sent Follower = refl
role_is ring me d s sent Candidate = refl
role_is ring me d s sent Leader = refl

not_greater : (ring : Layout) (me : ℕ) (d : Durable) (s : Soft) (sent : Append) → nat_lt d.term sent.term ≡ false
    → follow_append ring me d s sent ≡ by_role ring me d s sent s.role
not_greater ring me d s sent h = simp h (role_is ring me d s sent s.role)

regained : (ring : Layout) (me : ℕ) (d : Durable) (s : Soft) (sent : Append) (first : List Action) (says : List Say) (soft : Soft)
    → first_of d.term sent ≡ first → says_of d.term s sent ≡ says → soft_of d.term s sent ≡ soft
    → ended ring me d s sent first says soft ≡ ended ring me d s sent (first_of d.term sent) (says_of d.term s sent) (soft_of d.term s sent)
regained ring me d s sent first says soft a b e =
    ap (λ (x : List Action). ended ring me d s sent x says soft) (sym a)
    ∙ (ap (λ (x : List Say). ended ring me d s sent (first_of d.term sent) x soft) (sym b)
    ∙ ap (ended ring me d s sent (first_of d.term sent) (says_of d.term s sent)) (sym e))

follow-is : (ring : Layout) (me : ℕ) (d : Durable) (s : Soft) (sent : Append) → nat_lt sent.term d.term ≡ false → leads_it d s sent ≡ false
    → settled ring me d s sent
follow-is ring me d s sent not_less not_led = by (nat_lt d.term sent.term) s.role refl refl
  where
    by : (b : Bool) (r : Role) → nat_lt d.term sent.term ≡ b → s.role ≡ r → settled ring me d s sent
    by true r h k = let is = match-is ring me d (demoted s) (action.SetTerm sent.term ∷ []) (unknowns s) sent (same_part d sent.term) in simp h is
    by false Follower h k =
        let down : steps_down d.term s sent ≡ false = ap₂ (λ (a b : Bool). a || b) h (ap is_candidate k) in
        not_greater ring me d s sent h ∙ (ap (by_role ring me d s sent) k ∙ (match-is ring me d s [] [] sent (same_part d d.term)
        ∙ regained ring me d s sent [] [] s (ap (λ (b : Bool). if b then action.SetTerm sent.term ∷ [] else []) h)
        (ap (λ (b : Bool). if b then unknowns s else []) down) (ap (λ (b : Bool). if b then demoted s else s) down)))
    by false Candidate h k =
        let down : steps_down d.term s sent ≡ true = ap₂ (λ (a b : Bool). a || b) h (ap is_candidate k) in
        not_greater ring me d s sent h ∙ (ap (by_role ring me d s sent) k ∙ (match-is ring me d (demoted s) [] (unknowns s) sent (same_part d d.term)
        ∙ regained ring me d s sent [] (unknowns s) (demoted s) (ap (λ (b : Bool). if b then action.SetTerm sent.term ∷ [] else []) h)
        (ap (λ (b : Bool). if b then unknowns s else []) down) (ap (λ (b : Bool). if b then demoted s else s) down)))
    by false Leader h k =
        let equal : (sent.term == d.term) ≡ true = grind (arith, nat_tests) in
        absurd (grind (arith, nat_tests))

on_append-idle : (ring : Layout) (me : ℕ) (d : Durable) (s : Soft) (sent : Append) → outgrows d sent ≡ true → on_append ring me d s sent ≡ idle s
unfolding on_append
on_append-idle ring me d s sent h = simp h

on_append-old : (ring : Layout) (me : ℕ) (d : Durable) (s : Soft) (sent : Append) → outgrows d sent ≡ false → nat_lt sent.term d.term ≡ true
    → on_append ring me d s sent ≡ stepped [] (reply me sent.leader d.term false 0 ∷ []) [] s
unfolding on_append
on_append-old ring me d s sent h k = simp (h, k)

on_append-led : (ring : Layout) (me : ℕ) (d : Durable) (s : Soft) (sent : Append) → outgrows d sent ≡ false → nat_lt sent.term d.term ≡ false
    → leads_it d s sent ≡ true
    → on_append ring me d s sent ≡ idle s
unfolding on_append
on_append-led ring me d s sent h k l = simp (h, k, l)

on_append-follows : (ring : Layout) (me : ℕ) (d : Durable) (s : Soft) (sent : Append) → outgrows d sent ≡ false → nat_lt sent.term d.term ≡ false
    → leads_it d s sent ≡ false → tear_in d s sent ≡ None
    → on_append ring me d s sent ≡ follow_append ring me d s sent
unfolding on_append
on_append-follows ring me d s sent h k l t = simp (h, k, l, t)

untorn : (d : Durable) (s : Soft) (sent : Append) → (outgrows d sent || nat_lt sent.term d.term || leads_it d s sent) ≡ true → append_tear d s sent ≡ None
untorn d s sent h = simp h

untorn-follows : (d : Durable) (s : Soft) (sent : Append) → tear_in d s sent ≡ None → append_tear d s sent ≡ None
untorn-follows d s sent t = by (outgrows d sent || nat_lt sent.term d.term || leads_it d s sent) refl
  where
    by : (b : Bool) → (outgrows d sent || nat_lt sent.term d.term || leads_it d s sent) ≡ b → append_tear d s sent ≡ None
    by true h = simp h
    by false h = simp (h, t)

-- ---- with a log that may be told
grown : {V : Type 0} (here : Here V) (s : Soft) (log : List Entry) (sent : Append) → IsNode here s log
    → outgrows (durable_of here log) sent ≡ nat_lt LAST_FILE (here.file + rotates sent.entries)
grown here s log sent node = ap (λ n. nat_lt LAST_FILE (n + rotates sent.entries)) (sym node.file_is)

abbrev step_of : Plan → Soft → Step
step_of plan s = record { plan = plan; soft = s }

pub stays_idle : {V : Type 0} (told : Option (List Entry)) (here : Here V) (s : Soft) (sent : Append) (plan : Plan) → IfSome told (IsNode here s)
    → nat_lt LAST_FILE (here.file + rotates sent.entries) ≡ true
    → plan ≡ record { actions = []; messages = []; says = [] }
    → IfSome told (λ log. AppendAnswers here.ring.now here.me (durable_of here log) s sent s (Ok plan))
stays_idle None here s sent plan node h is = tt
stays_idle (Some log) here s sent plan node h is =
    let d = durable_of here log in
    let out : outgrows d sent ≡ true = grown here s log sent node ∙ h in
    (untorn d s sent (simp out), on_append-idle here.ring.now here.me d s sent out ∙ ap (λ (p : Plan). step_of p s) (sym is))

pub answers_old : {V : Type 0} (told : Option (List Entry)) (here : Here V) (s : Soft) (sent : Append) (result : Result Plan CoreFault)
    → IfSome told (IsNode here s) → nat_lt LAST_FILE (here.file + rotates sent.entries) ≡ false → nat_lt sent.term here.term ≡ true
    → IfOk result (λ plan. plan ≡ reply_plan [] (reply here.me sent.leader here.term false 0) []) → CoreFails 0 0 result
    → IfSome told (λ log. AppendAnswers here.ring.now here.me (durable_of here log) s sent s result)
answers_old None here s sent result node h k is fails = tt
answers_old (Some log) here s sent (Ok plan) node h k is fails =
    let d = durable_of here log in
    let out : outgrows d sent ≡ false = grown here s log sent node ∙ h in
    (untorn d s sent (simp (out, k)), on_append-old here.ring.now here.me d s sent out k ∙ ap (λ (p : Plan). step_of p s) (sym is))
answers_old (Some log) here s sent (Err fault.Disk) node h k is fails = tt
answers_old (Some log) here s sent (Err (fault.Torn a b e)) node h k is fails = absurd fails
answers_old (Some log) here s sent (Err fault.Memory) node h k is fails = tt

pub leads_on : {V : Type 0} (told : Option (List Entry)) (here : Here V) (s : Soft) (sent : Append) (plan : Plan) → IfSome told (IsNode here s)
    → nat_lt LAST_FILE (here.file + rotates sent.entries) ≡ false → nat_lt sent.term here.term ≡ false
    → (is_leader s.role && sent.term == here.term) ≡ true → plan ≡ record { actions = []; messages = []; says = [] }
    → IfSome told (λ log. AppendAnswers here.ring.now here.me (durable_of here log) s sent s (Ok plan))
leads_on None here s sent plan node h k l is = tt
leads_on (Some log) here s sent plan node h k l is =
    let d = durable_of here log in
    let out : outgrows d sent ≡ false = grown here s log sent node ∙ h in
    (untorn d s sent (simp (out, k, l)), on_append-led here.ring.now here.me d s sent out k l ∙ ap (λ (p : Plan). step_of p s) (sym is))

abbrev pub made_of : Layout → ℕ → List Entry → ℕ → List Pair → ℕ → List Action → List Say → Append → Matched
made_of ring me log applied pairs commit first says sent = record { plan = plan_of ring me log applied pairs commit first says sent; commit = commit_of log commit sent }

pub settles : {V : Type 0} (told : Option (List Entry)) (here : Here V) (s new : Soft) (sent : Append) (m : Matched) (pairs : List Pair)
    (first : List Action) (says : List Say) → IfSome told (IsNode here s)
    → nat_lt LAST_FILE (here.file + rotates sent.entries) ≡ false → nat_lt sent.term here.term ≡ false
    → (is_leader s.role && sent.term == here.term) ≡ false
    → IfSome told (λ log. None ≡ first_tear log s.commit sent.prev.position (sent.prev.term ∷ terms_of sent.entries))
    → IfSome told (λ log. m ≡ made_of here.ring.now here.me log here.applied pairs s.commit first says sent)
    → pairs ≡ here.prepared.now → first ≡ first_of here.term sent → says ≡ says_of here.term s sent
    → new ≡ record (soft_of here.term s sent) { commit = m.commit }
    → IfSome told (λ log. AppendAnswers here.ring.now here.me (durable_of here log) s sent new (Ok m.plan))
settles None here s new sent m pairs first says node h k l t made pairs_is first_is says_is soft = tt
settles (Some log) here s new sent m pairs first says node h k l t made pairs_is first_is says_is soft =
    let d = durable_of here log in
    let out : outgrows d sent ≡ false = grown here s log sent node ∙ h in
    let none : tear_in d s sent ≡ None = sym t in
    let step = on_append-follows here.ring.now here.me d s sent out k l none ∙ follow-is here.ring.now here.me d s sent k l in
    let risen : m.commit ≡ commit_of log s.commit sent = ap (λ (x : Matched). x.commit) made in
    let plan1 : m.plan ≡ plan_of here.ring.now here.me log here.applied pairs s.commit first says sent = ap (λ (x : Matched). x.plan) made in
    let P : List Pair → List Action → List Say → Plan = λ ps fs ss. plan_of here.ring.now here.me log here.applied ps s.commit fs ss sent in
    let plan2 : m.plan ≡ P here.prepared.now (first_of here.term sent) (says_of here.term s sent) =
    plan1 ∙ (ap (λ ps. P ps first says) pairs_is ∙ (ap (λ fs. P here.prepared.now fs says) first_is ∙ ap (P here.prepared.now (first_of here.term sent)) says_is)) in
    let soft2 : record (soft_of here.term s sent) { commit = commit_of log s.commit sent } ≡ new =
    ap (λ (n : ℕ). record (soft_of here.term s sent) { commit = n }) (sym risen) ∙ sym soft in
    let soft3 : Soft = record (soft_of here.term s sent) { commit = commit_of log s.commit sent } in
    (untorn-follows d s sent none, step ∙ (ap (λ (p : Plan). step_of p soft3) (sym plan2) ∙ ap (step_of m.plan) soft2))

-- ---- facts at the last call
pub is_not_less : (a b : ℕ) → b ≤ a → nat_lt a b ≡ false
is_not_less a b h = grind (arith, nat_tests)

pub no_tear_in : (told : Option (List Entry)) (torn : Option Tear) (commit : ℕ) (sent : Append) (entries : List Entry) → torn ≡ None
    → entries ≡ sent.entries
    → IfSome told (λ log. torn ≡ first_tear log commit sent.prev.position (sent.prev.term ∷ terms_of entries))
    → IfSome told (λ log. None ≡ first_tear log commit sent.prev.position (sent.prev.term ∷ terms_of sent.entries))
no_tear_in None torn commit sent entries none is h = tt
no_tear_in (Some log) torn commit sent entries none is h =
    sym none ∙ (h ∙ ap (λ (es : List Entry). first_tear log commit sent.prev.position (sent.prev.term ∷ terms_of es)) is)

pub made_since : (b a : Sight) (ring : Layout) (me applied : ℕ) (pairs : List Pair) (commit : ℕ) (first : List Action) (says : List Say) (sent : Append)
    (m : Matched) → b ≡ a
    → IfSome b.log (λ log. m ≡ made_of ring me log applied pairs commit first says sent)
    → IfSome a.log (λ log. m ≡ made_of ring me log applied pairs commit first says sent)
made_since b a ring me applied pairs commit first says sent m same h =
    subst (λ (s : Sight). IfSome s.log (λ log. m ≡ made_of ring me log applied pairs commit first says sent)) same h
