-- One step of the order of work after another: what is known of the whole is known of each step.
use Rattle.std.proofs.Common.{◌≡◌, ℕ, Bool, true, false, List, Result, Ok, Err, refl, sym, ap, subst}
use Rattle.std.specs.List.{list_any}
use Rattle.edge_traits.specs.declared.shelves.FetchError.{FetchError}
use Rattle.edge_traits.specs.declared.shelves.FetchError.TheVariants as fetch
use Rattle.ring_types.specs.Rings.{Layout}
use Rattle.ring_model.specs.declared.worlds.Event.{Event}
use Rattle.ring_file.specs.declared.faults.RingError.{RingError}
use Rattle.schedule_text.specs.declared.faults.ScheduleError.{ScheduleError}
use Rattle.schedule_text.specs.declared.faults.ScheduleError.TheVariants as bad
use Rattle.myraft_run.specs.declared.stops.Stop.{Stop}
use Rattle.myraft_run.specs.declared.stops.Stop.TheVariants as stop
use Rattle.myraft_run.specs.declared.stops.File.{File}
use Rattle.myraft_run.specs.Inputs.{◌>>=◌, Gives, GivesOne, built_events, events_or_line, got, has_suffix, ring_or_fault}

pub bind-ok : {A B : Type 0} (r : Result A Stop) (f : A → Result B Stop) (y : B) → (r >>= f) ≡ Ok y → (x : A) × (r ≡ Ok x) × (f x ≡ Ok y)
bind-ok (Ok x) f y h = (x, refl, h)
bind-ok (Err e) f y h = absurd cc

-- such as is wanted is given
pub gives-one : {A : Type 0} (Wanted : Result A Stop → Type 0) (r : Result A Stop) → Wanted r → GivesOne Wanted r
gives-one Wanted (Ok x) h = h
gives-one Wanted (Err stop.Unbuilt) h = h
gives-one Wanted (Err (stop.NoFile f)) h = h
gives-one Wanted (Err (stop.TooLarge f)) h = h
gives-one Wanted (Err (stop.ReadFault f)) h = h
gives-one Wanted (Err (stop.BadRing e)) h = h
gives-one Wanted (Err (stop.BadLine n)) h = h
gives-one Wanted (Err stop.WriteFault) h = h
gives-one Wanted (Err stop.Memory) h = tt

-- what is given is such, or memory ran out
pub gives-or : {A : Type 0} (Wanted Also : Result A Stop → Type 0) (r : Result A Stop) → ((x : Result A Stop) → Wanted x → Also x) → GivesOne Wanted r → GivesOne Also r
gives-or Wanted Also (Ok x) more h = more (Ok x) h
gives-or Wanted Also (Err stop.Unbuilt) more h = more (Err stop.Unbuilt) h
gives-or Wanted Also (Err (stop.NoFile f)) more h = more (Err (stop.NoFile f)) h
gives-or Wanted Also (Err (stop.TooLarge f)) more h = more (Err (stop.TooLarge f)) h
gives-or Wanted Also (Err (stop.ReadFault f)) more h = more (Err (stop.ReadFault f)) h
gives-or Wanted Also (Err (stop.BadRing e)) more h = more (Err (stop.BadRing e)) h
gives-or Wanted Also (Err (stop.BadLine n)) more h = more (Err (stop.BadLine n)) h
gives-or Wanted Also (Err stop.WriteFault) more h = more (Err stop.WriteFault) h
gives-or Wanted Also (Err stop.Memory) more h = tt

-- a stop is one, whatever was to be made
pub gives-err : {A B : Type 0} (Wanted : Result A Stop → Type 0) (Also : Result B Stop → Type 0) (e : Stop) → ((s : Stop) → Wanted (Err s) → Also (Err s)) → GivesOne Wanted (Err e) → GivesOne Also (Err e)
gives-err Wanted Also stop.Unbuilt more h = more stop.Unbuilt h
gives-err Wanted Also (stop.NoFile f) more h = more (stop.NoFile f) h
gives-err Wanted Also (stop.TooLarge f) more h = more (stop.TooLarge f) h
gives-err Wanted Also (stop.ReadFault f) more h = more (stop.ReadFault f) h
gives-err Wanted Also (stop.BadRing e) more h = more (stop.BadRing e) h
gives-err Wanted Also (stop.BadLine n) more h = more (stop.BadLine n) h
gives-err Wanted Also stop.WriteFault more h = more stop.WriteFault h
gives-err Wanted Also stop.Memory more h = tt

pub gives-same : {A : Type 0} (r : Result A Stop) → Gives r r
gives-same {A} r = gives-one (λ x. r ≡ x) r refl

-- a step that stops, stops what follows it
pub gives-stopped : {A B : Type 0} (r : Result A Stop) (f : A → Result B Stop) (e : Stop) → Gives r (Err e) → Gives (r >>= f) (Err e)
gives-stopped r f stop.Unbuilt h = ap (λ x. x >>= f) h
gives-stopped r f (stop.NoFile o) h = ap (λ x. x >>= f) h
gives-stopped r f (stop.TooLarge o) h = ap (λ x. x >>= f) h
gives-stopped r f (stop.ReadFault o) h = ap (λ x. x >>= f) h
gives-stopped r f (stop.BadRing o) h = ap (λ x. x >>= f) h
gives-stopped r f (stop.BadLine o) h = ap (λ x. x >>= f) h
gives-stopped r f stop.WriteFault h = ap (λ x. x >>= f) h
gives-stopped r f stop.Memory h = tt

-- a step that goes on leaves what follows it
pub gives-next : {A B : Type 0} (r : Result A Stop) (f : A → Result B Stop) (x : A) (result : Result B Stop) → r ≡ Ok x → Gives (f x) result → Gives (r >>= f) result
gives-next {A} {B} r f x result e h =
    let P : Result A Stop → Type 0 = λ s. Gives (s >>= f) result in
    subst P (sym e) h

pub got-ok : (f : File) (a : Result (List ℕ) FetchError) (bytes : List ℕ) → got f a ≡ Ok bytes → a ≡ Ok bytes
got-ok f (Ok b) bytes h = cc
got-ok f (Err fetch.Absent) bytes h = absurd cc
got-ok f (Err fetch.TooLarge) bytes h = absurd cc
got-ok f (Err fetch.Failed) bytes h = absurd cc
got-ok f (Err fetch.Memory) bytes h = absurd cc

pub ring-ok : (r : Result Layout RingError) (ring : Layout) → ring_or_fault r ≡ Ok ring → r ≡ Ok ring
ring-ok (Ok l) ring h = cc
ring-ok (Err e) ring h = absurd cc

pub events-ok : (r : Result (List Event) ScheduleError) (events : List Event) → events_or_line r ≡ Ok events → r ≡ Ok events
events-ok (Ok l) events h = cc
events-ok (Err (bad.BadLine line why)) events h = absurd cc
events-ok (Err bad.Memory) events h = absurd cc

built-by : (b : Bool) (events taken : List Event) → list_any has_suffix events ≡ b → built_events events ≡ Ok taken → (list_any has_suffix events ≡ false) × (taken ≡ events)
built-by true events taken is h = absurd cc
built-by false events taken is h = (is, cc)

pub built-ok : (events taken : List Event) → built_events events ≡ Ok taken → (list_any has_suffix events ≡ false) × (taken ≡ events)
built-ok events taken h = built-by (list_any has_suffix events) events taken refl h
