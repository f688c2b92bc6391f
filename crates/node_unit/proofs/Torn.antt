-- a rule that is never torn; and the Append that is
use Rattle.std.proofs.Common.{◌≡◌, ℕ, Bool, true, false, List, [], ◌∷◌, nat_lt, Option, Some, None, Result, Ok, Err, if◌then◌else◌, ◌||◌, refl}
use Rattle.std.specs.Prelude.{IfOk, IfSome, OnErr}
use Rattle.ring_types.specs.declared.entries.Entry.{Entry}
use Rattle.ring_types.specs.Rings.{Layout}
use Rattle.commit_pipeline.specs.Faults.{CoreFails}
use Rattle.commit_pipeline.specs.Heres.{durable_of}
use Rattle.commit_pipeline.specs.declared.heres.Here.{Here}
use Rattle.ring_model.specs.Steps.{idle, stepped}
use Rattle.ring_model.specs.Replication.{append_tear, on_append, outgrows, leads_it, tear_in, follow_append, reply}
use Rattle.ring_model.specs.declared.effects.Plan.{Plan}
use Rattle.ring_model.specs.declared.effects.Step.{Step}
use Rattle.ring_model.specs.declared.effects.Tear.{Tear}
use Rattle.ring_model.specs.declared.faults.CoreFault.{CoreFault}
use Rattle.ring_model.specs.declared.faults.CoreFault.TheVariants as fault
use Rattle.ring_model.specs.declared.messages.Append.{Append}
use Rattle.ring_model.specs.declared.nodes.Durable.{Durable}
use Rattle.ring_model.specs.declared.nodes.Soft.{Soft}
use Rattle.replicate_core.specs.Appends.{AppendAnswers, AppendFails}
use Rattle.node_unit.specs.Plans.{StepFails, TornRests, TornStays}

pub fails : (before now : ℕ) (r : Result Plan CoreFault) → CoreFails before now r → StepFails before now r
fails before now (Ok plan) h = tt
fails before now (Err fault.Disk) h = h
fails before now (Err (fault.Torn position kept sent)) h = tt
fails before now (Err fault.Memory) h = tt

pub append_fails : (before now : ℕ) (r : Result Plan CoreFault) → AppendFails before now r → StepFails before now r
append_fails before now (Ok plan) h = tt
append_fails before now (Err fault.Disk) h = h
append_fails before now (Err (fault.Torn position kept sent)) h = tt
append_fails before now (Err fault.Memory) h = tt

pub not_torn : (told : Option (List Entry)) (before now : ℕ) (r : Result Plan CoreFault) (st : List Entry → Step) (s : Soft) → CoreFails before now r → IfSome told (λ log. TornRests (st log) s r)
not_torn None before now r st s h = tt
not_torn (Some log) before now (Ok plan) st s h = tt
not_torn (Some log) before now (Err fault.Disk) st s h = tt
not_torn (Some log) before now (Err (fault.Torn position kept sent)) st s h = absurd h
not_torn (Some log) before now (Err fault.Memory) st s h = tt

pub rests_always : (before now : ℕ) (r : Result Plan CoreFault) (st : Step) (s : Soft) → CoreFails before now r → TornRests st s r
rests_always before now (Ok plan) st s h = tt
rests_always before now (Err fault.Disk) st s h = tt
rests_always before now (Err (fault.Torn position kept sent)) st s h = absurd h
rests_always before now (Err fault.Memory) st s h = tt

pub stays_always : (before now : ℕ) (r : Result Plan CoreFault) (old new : Soft) → CoreFails before now r → TornStays old new r
stays_always before now (Ok plan) old new h = tt
stays_always before now (Err fault.Disk) old new h = tt
stays_always before now (Err (fault.Torn position kept sent)) old new h = absurd h
stays_always before now (Err fault.Memory) old new h = tt

pub torn_stays : (r : Result Plan CoreFault) (old new : Soft) → OnErr r (new ≡ old) → TornStays old new r
torn_stays (Ok plan) old new h = tt
torn_stays (Err fault.Disk) old new h = tt
torn_stays (Err (fault.Torn position kept sent)) old new h = h
torn_stays (Err fault.Memory) old new h = tt

at_tear : (ring : Layout) (me : ℕ) (d : Durable) (s : Soft) (sent : Append) (t : Tear) (o : Option Tear) → o ≡ Some t
    → (elim o [ Some u ↦ idle s | None ↦ follow_append ring me d s sent ]) ≡ idle s
at_tear ring me d s sent t None is = absurd cc
at_tear ring me d s sent t (Some u) is = refl

cases : (ring : Layout) (me : ℕ) (d : Durable) (s : Soft) (sent : Append) (t : Tear) (first second third : Bool) (told : Step) (o : Option Tear)
    → (if first || second || third then None else o) ≡ Some t
    → (if first then idle s else (if second then told else (if third then idle s else elim o [ Some u ↦ idle s | None ↦ follow_append ring me d s sent ]))) ≡ idle s
cases ring me d s sent t true second third told o is = refl
cases ring me d s sent t false true third told o is = absurd cc
cases ring me d s sent t false false true told o is = refl
cases ring me d s sent t false false false told o is = at_tear ring me d s sent t o is

idle_by : (ring : Layout) (me : ℕ) (d : Durable) (s : Soft) (sent : Append) (t : Tear) → append_tear d s sent ≡ Some t → on_append ring me d s sent ≡ idle s
unfolding on_append
idle_by ring me d s sent t is =
    cases ring me d s sent t (outgrows d sent) (nat_lt sent.term d.term) (leads_it d s sent) (stepped [] (reply me sent.leader d.term false 0 ∷ []) [] s) (tear_in d s sent) is

-- ---- an Append
rests : (ring : Layout) (me : ℕ) (d : Durable) (s new : Soft) (sent : Append) (r : Result Plan CoreFault) → AppendAnswers ring me d s sent new r → TornRests (on_append ring me d s sent) s r
rests ring me d s new sent (Ok plan) h = tt
rests ring me d s new sent (Err fault.Disk) h = tt
rests ring me d s new sent (Err (fault.Torn position kept_term sent_term)) h = idle_by ring me d s sent (record { position = position; kept_term = kept_term; sent_term = sent_term }) h
rests ring me d s new sent (Err fault.Memory) h = tt

answers : (ring : Layout) (me : ℕ) (d : Durable) (s new : Soft) (sent : Append) (r : Result Plan CoreFault) → AppendAnswers ring me d s sent new r
    → IfOk r (λ (it : Plan). on_append ring me d s sent ≡ record { plan = it; soft = new })
answers ring me d s new sent (Ok plan) (a, b) = b
answers ring me d s new sent (Err fault.Disk) h = tt
answers ring me d s new sent (Err (fault.Torn position kept_term sent_term)) h = tt
answers ring me d s new sent (Err fault.Memory) h = tt

pub append_rests : {V : Type 0} (told : Option (List Entry)) (here : Here V) (s new : Soft) (sent : Append) (r : Result Plan CoreFault)
    → IfSome told (λ log. AppendAnswers here.ring.now here.me (durable_of here log) s sent new r)
    → IfSome told (λ log. TornRests (on_append here.ring.now here.me (durable_of here log) s sent) s r)
append_rests None here s new sent r h = tt
append_rests (Some log) here s new sent r h = rests here.ring.now here.me (durable_of here log) s new sent r h

pub append_answers : {V : Type 0} (told : Option (List Entry)) (here : Here V) (s new : Soft) (sent : Append) (r : Result Plan CoreFault)
    → IfSome told (λ log. AppendAnswers here.ring.now here.me (durable_of here log) s sent new r)
    → IfSome told (λ log. IfOk r (λ it. on_append here.ring.now here.me (durable_of here log) s sent ≡ record { plan = it; soft = new }))
append_answers None here s new sent r h = tt
append_answers (Some log) here s new sent r h = answers here.ring.now here.me (durable_of here log) s new sent r h
